-- A run as lines: the lines in front, the first mark, the values of its first tick, then marks and values where a wire changes, and
-- a mark at its end.
use Rattle.std.specs.Prelude.{Bool, true, false, List, [], ◌∷◌, ◌++◌, ℕ, zero, suc, ◌+◌, ◌≤◌, eqb, length}
use Rattle.lists.specs.Lists.{Each}
use Rattle.ticks.specs.Ticks.{last_instant}
use Rattle.feeds.specs.Feeds.{most_feeds}
use Rattle.answers.specs.declared.Who.{Who}
use Rattle.answers.specs.declared.Who.TheVariants.{Job, Feed, Idle}
use Rattle.waveform.specs.declared.Token.{Token}
use Rattle.waveform.specs.declared.Token.TheVariants as token

-- the highest job number
abbrev pub most_number : ℕ
most_number = 4294967295

-- the two wires in a tick that goes to somebody: the job's number and the feed's position, 0 where none runs
abbrev pub job_wire : Who → ℕ
job_wire (Job n) = n
job_wire (Feed p) = 0
job_wire Idle = 0

abbrev pub feed_wire : Who → ℕ
feed_wire (Job n) = 0
feed_wire (Feed p) = p
feed_wire Idle = 0

-- whom a tick may go to
abbrev pub Nameable : Who → Type 0
Nameable (Job n) = (1 ≤ n) × (n ≤ most_number)
Nameable (Feed p) = (1 ≤ p) × (p ≤ most_feeds)
Nameable Idle = Unit {0}

-- the lines of the instant t from which the ticks go to v, by whether the job's and the feed's value stay: none where both do
abbrev pub changed_by : Bool → Bool → ℕ → Who → List Token
changed_by true true t v = []
changed_by true false t v = token.Mark t ∷ token.Feed (feed_wire v) ∷ []
changed_by false true t v = token.Mark t ∷ token.Job (job_wire v) ∷ []
changed_by false false t v = token.Mark t ∷ token.Job (job_wire v) ∷ token.Feed (feed_wire v) ∷ []

-- where the tick before went to w
abbrev pub changed : ℕ → Who → Who → List Token
changed t w v = changed_by (eqb (job_wire v) (job_wire w)) (eqb (feed_wire v) (feed_wire w)) t v

-- from the instant t on, where the tick before went to w; a mark at the end
unfoldable pub changes : ℕ → Who → List Who → List Token
changes t w [] = token.Mark t ∷ []
changes t w (v ∷ vs) = changed t w v ++ changes (suc t) v vs

-- after the first mark, at the instant t: nothing where no step was taken
unfoldable pub body : ℕ → List Who → List Token
body t [] = []
body t (w ∷ ws) = token.Job (job_wire w) ∷ token.Feed (feed_wire w) ∷ changes (suc t) w ws

-- how many lines stand in front of every run; m of them, from the k-th on
abbrev pub head_count : ℕ
head_count = 6

unfoldable pub heads_from : ℕ → ℕ → List Token
heads_from zero k = []
heads_from (suc m) k = token.Head k ∷ heads_from m (suc k)

-- THE LINES OF A RUN from the instant t on, the ticks of which went to these
unfoldable pub told : ℕ → List Who → List Token
told t ws = heads_from head_count 0 ++ (token.Mark t ∷ body t ws)

-- such a run as the clock can go
pub record Run (t : ℕ) (ws : List Who) : Type 0 where
  pub names : Each Nameable ws
  pub within : t + length ws ≤ last_instant
