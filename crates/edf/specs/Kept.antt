-- What it means that a yes is kept and that a layer is served, over any calls at all: also over those that end the job or
-- rest the feed.
use Rattle.std.specs.Prelude.{◌≡◌, ◌⊎◌, List, [], ◌∷◌, ◌++◌, ℕ, ◌+◌, ◌≤◌, ◌<◌}
use Rattle.lists.specs.Lists.{Each, Some}
use Rattle.edf.specs.Book.{Feed, Job, Book, job, feed}
use Rattle.edf.specs.Releases.{due}
use Rattle.edf.specs.Runs.{Did, after, named}

-- the job of number n, due at d, is live and owes o
abbrev pub LiveJob : ℕ → ℕ → ℕ → Job → Type 0
LiveJob n d o j = (j.number ≡ n) × (j.due ≡ d) × (j.owes ≡ o)

abbrev pub Live : ℕ → ℕ → ℕ → Book → Type 0
Live n d o b = Some (LiveJob n d o) b.jobs

-- no job of this number is live
unfoldable pub NotLive : ℕ → Book → Type 0
NotLive n b = Each (λ j. j.number ≡ n → ⊥) b.jobs

-- the current piece of the feed at position p is due at d and owes o
abbrev pub AtPiece : ℕ → ℕ → ℕ → ℕ → Feed → Type 0
AtPiece t p d o f = (f.position ≡ p) × (due f.plan t ≡ d) × (f.owes ≡ o)

abbrev pub Current : ℕ → ℕ → ℕ → Book → Type 0
Current p d o b = Some (AtPiece b.clock p d o) b.feeds

-- how the state is read as a book
module _ {C S : Type 0} (book : S → Book) where
  -- after the calls the job is live, its deadline is ahead, and what it owes with the ticks that it was named for is its work
  pub record StillLive (n due work : ℕ) (xs : List (Did C S)) (s : S) : Type 0 where
    pub owes : ℕ
    pub live : Live n due owes (book (after xs s))
    pub ahead : (book (after xs s)).clock < due
    pub counted : owes + named (job n) xs ≡ work

  -- the job was still live until a call named it with nothing still owed: that call handed back a state at or before the
  -- deadline in which the job is out, and up to there, this call included, the job was named for exactly as many ticks as
  -- its work. From there on its number is free for others
  pub record HasLeft (n due work : ℕ) (xs : List (Did C S)) (s : S) : Type 0 where
    pub before : List (Did C S)
    pub at : Did C S
    pub later : List (Did C S)
    pub calls : xs ≡ before ++ (at ∷ later)
    pub until : StillLive n due work before s
    pub names : at.came.who ≡ job n
    pub some : 1 ≤ at.came.ticks
    pub last : at.came.owes ≡ 0
    pub in_time : (book at.came.state).clock ≤ due
    pub out : NotLive n (book at.came.state)
    pub counted : named (job n) (before ++ (at ∷ [])) ≡ work

  -- the job was still live until a call ended it
  pub record WasEnded (Ends : ℕ → Did C S → Type 0) (n due work : ℕ) (xs : List (Did C S)) (s : S) : Type 0 where
    pub before : List (Did C S)
    pub at : Did C S
    pub later : List (Did C S)
    pub calls : xs ≡ before ++ (at ∷ later)
    pub until : StillLive n due work before s
    pub ended : Ends n at

  -- a yes is kept: a promised job is still live, or has left in time with all its work, or was ended
  abbrev pub JobKept : (ℕ → Did C S → Type 0) → ℕ → ℕ → ℕ → List (Did C S) → S → Type 0
  JobKept Ends n due work xs s = StillLive n due work xs s ⊎ (HasLeft n due work xs s ⊎ WasEnded Ends n due work xs s)

  -- after the calls the piece is its feed's current one, its deadline is ahead, and what it owes with the ticks that the feed
  -- was named for is its work
  pub record StillCurrent (p due work : ℕ) (xs : List (Did C S)) (s : S) : Type 0 where
    pub owes : ℕ
    pub current : Current p due owes (book (after xs s))
    pub ahead : (book (after xs s)).clock < due
    pub counted : owes + named (feed p) xs ≡ work

  -- the piece was still current until a call brought the clock to its deadline: up to there, this call included, the feed was
  -- named for exactly as many ticks as the piece's work
  pub record WasServed (p due work : ℕ) (xs : List (Did C S)) (s : S) : Type 0 where
    pub before : List (Did C S)
    pub at : Did C S
    pub later : List (Did C S)
    pub calls : xs ≡ before ++ (at ∷ later)
    pub until : StillCurrent p due work before s
    pub reached : due ≤ (book at.came.state).clock
    pub counted : named (feed p) (before ++ (at ∷ [])) ≡ work

  -- the piece was still current until a call rested its feed
  pub record WasRested (Rests : ℕ → Did C S → Type 0) (p due work : ℕ) (xs : List (Did C S)) (s : S) : Type 0 where
    pub before : List (Did C S)
    pub at : Did C S
    pub later : List (Did C S)
    pub calls : xs ≡ before ++ (at ∷ later)
    pub until : StillCurrent p due work before s
    pub rested : Rests p at

  -- a layer is served: its piece is still current, or got all its work by its deadline, or was rested
  abbrev pub PieceKept : (ℕ → Did C S → Type 0) → ℕ → ℕ → ℕ → List (Did C S) → S → Type 0
  PieceKept Rests p due work xs s = StillCurrent p due work xs s ⊎ (WasServed p due work xs s ⊎ WasRested Rests p due work xs s)
