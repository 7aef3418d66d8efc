-- What a text of lines tells: how far it has come, line after line, and whether it may end there.
use Rattle.std.specs.Prelude.{Bool, true, false, not, cond, ◌&&◌, ◌||◌, List, [], ◌∷◌, ℕ, suc, ◌≤◌, leb, ltb, eqb}
use Rattle.ticks.specs.Ticks.{last_instant}
use Rattle.feeds.specs.Feeds.{most_feeds}
use Rattle.answers.specs.declared.Who.{Who}
use Rattle.answers.specs.declared.Who.TheVariants.{Job, Feed, Idle}
use Rattle.waveform.specs.declared.Token.{Token}
use Rattle.waveform.specs.declared.Token.TheVariants as token
use Rattle.waveform.specs.declared.State.{State}
use Rattle.waveform.specs.declared.State.TheVariants.{Heading, Opened, Jobbed, Going, Marked, Halfway, Dead}
use Rattle.waveform.specs.Runs.{head_count, most_number}

-- never a job and a feed in one tick
abbrev pub alone : ℕ → ℕ → Bool
alone j f = eqb j 0 || eqb f 0

-- who runs by these values
abbrev pub who_by : ℕ → ℕ → Who
who_by j f = cond (eqb j 0) (cond (eqb f 0) Idle (Feed f)) (Job j)

-- a stretch begins at t with these values
abbrev pub ran : ℕ → ℕ → ℕ → State
ran t j f = cond (alone j f && leb f most_feeds) (Going t j f) Dead

-- a line in front after k of them; the first mark; the job's value after it; a later mark
abbrev pub headed : ℕ → ℕ → State
headed k i = cond (eqb i k && ltb k head_count) (Heading (suc k)) Dead

abbrev pub opens : ℕ → ℕ → State
opens k t = cond (eqb k head_count && leb t last_instant) (Opened t) Dead

abbrev pub jobbed : ℕ → ℕ → State
jobbed t j = cond (ltb t last_instant) (Jobbed t j) Dead

abbrev pub goes_to : ℕ → ℕ → ℕ → ℕ → State
goes_to t j f u = cond (ltb t u && leb u last_instant) (Marked u j f) Dead

-- a new value for the job behind a mark, and one for the feed, where it was f
abbrev pub halfway : ℕ → ℕ → ℕ → ℕ → State
halfway t j f i = cond (ltb t last_instant && not (eqb i j)) (Halfway t i f) Dead

abbrev pub after_feed : ℕ → ℕ → ℕ → ℕ → State
after_feed t j f g = cond (not (eqb g f)) (ran t j g) Dead

abbrev pub turned : ℕ → ℕ → ℕ → ℕ → State
turned t j f g = cond (ltb t last_instant) (after_feed t j f g) Dead

-- a mark behind a new value for the job: if a job and a feed ran now, the feed's value has to come first
abbrev pub through : ℕ → ℕ → ℕ → ℕ → State
through t j f u = cond (alone j f) (goes_to t j f u) Dead

-- what each line makes of each state
abbrev pub after_heading : ℕ → Token → State
after_heading k (token.Head i) = headed k i
after_heading k (token.Mark t) = opens k t
after_heading k (token.Job j) = Dead
after_heading k (token.Feed f) = Dead
after_heading k token.Other = Dead

abbrev pub after_opened : ℕ → Token → State
after_opened t (token.Head i) = Dead
after_opened t (token.Mark u) = Dead
after_opened t (token.Job j) = jobbed t j
after_opened t (token.Feed f) = Dead
after_opened t token.Other = Dead

abbrev pub after_jobbed : ℕ → ℕ → Token → State
after_jobbed t j (token.Head i) = Dead
after_jobbed t j (token.Mark u) = Dead
after_jobbed t j (token.Job i) = Dead
after_jobbed t j (token.Feed f) = ran t j f
after_jobbed t j token.Other = Dead

abbrev pub after_going : ℕ → ℕ → ℕ → Token → State
after_going t j f (token.Head i) = Dead
after_going t j f (token.Mark u) = goes_to t j f u
after_going t j f (token.Job i) = Dead
after_going t j f (token.Feed g) = Dead
after_going t j f token.Other = Dead

abbrev pub after_marked : ℕ → ℕ → ℕ → Token → State
after_marked t j f (token.Head i) = Dead
after_marked t j f (token.Mark u) = Dead
after_marked t j f (token.Job i) = halfway t j f i
after_marked t j f (token.Feed g) = turned t j f g
after_marked t j f token.Other = Dead

abbrev pub after_halfway : ℕ → ℕ → ℕ → Token → State
after_halfway t j f (token.Head i) = Dead
after_halfway t j f (token.Mark u) = through t j f u
after_halfway t j f (token.Job i) = Dead
after_halfway t j f (token.Feed g) = after_feed t j f g
after_halfway t j f token.Other = Dead

abbrev pub next : State → Token → State
next (Heading k) x = after_heading k x
next (Opened t) x = after_opened t x
next (Jobbed t j) x = after_jobbed t j x
next (Going t j f) x = after_going t j f x
next (Marked t j f) x = after_marked t j f x
next (Halfway t j f) x = after_halfway t j f x
next Dead x = Dead

-- after all these lines
unfoldable pub come : State → List Token → State
come s [] = s
come s (x ∷ xs) = come (next s x) xs

-- a text may end here: at the first mark, or at a later one
abbrev pub done : State → Bool
done (Heading k) = false
done (Opened t) = true
done (Jobbed t j) = false
done (Going t j f) = false
done (Marked t j f) = true
done (Halfway t j f) = false
done Dead = false

-- a line that can be written: a job's value is a number that a job may have
abbrev pub Writable : Token → Type 0
Writable (token.Head i) = Unit {0}
Writable (token.Mark t) = Unit {0}
Writable (token.Job j) = j ≤ most_number
Writable (token.Feed f) = Unit {0}
Writable token.Other = Unit {0}
