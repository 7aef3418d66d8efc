-- One tick: the ready work with the earliest deadline gets it; with equal deadlines a job goes before a feed, a lower
-- number before a higher, a lower position before a higher. With nothing ready the tick is idle.
use Rattle.std.specs.Prelude.{◌≡◌, ◌⊎◌, Bool, cond, ◌&&◌, ◌||◌, List, [], ◌∷◌, map, ℕ, suc, pred, ◌-◌, ◌≤◌, ◌<◌, leb, ltb, eqb}
use Rattle.lists.specs.Lists.{Each, Some, keep}
use Rattle.edf.specs.Book.{Feed, Job, Book, Who, job, feed, idle, same, owing}
use Rattle.edf.specs.Releases.{since}
use Rattle.edf.specs.Pieces.{Piece, at_hand}

-- jobs before feeds
abbrev pub kind : Who → ℕ
kind (job n) = 0
kind (feed p) = 1
kind idle = 2

abbrev pub number_of : Who → ℕ
number_of (job n) = n
number_of (feed p) = p
number_of idle = 0

-- the lower comes first; only where both are the same does the rest decide
unfoldable pub first : ℕ → ℕ → Bool → Bool
first a b rest = ltb a b || (eqb a b && rest)

-- p goes before q, or is q
unfoldable pub sooner : Piece → Piece → Bool
sooner p q =
    first p.due q.due
    (first (kind p.who) (kind q.who) (leb (number_of p.who) (number_of q.who)))

-- ready work goes before what owes nothing
unfoldable pub goes_before : Piece → Piece → Bool
goes_before p q = ltb 0 p.owes && (eqb q.owes 0 || sooner p q)

abbrev pub nobody : Piece
nobody = record { who = idle; from = 0; due = 0; owes = 0 }

-- the one of the list that goes before all others
unfoldable pub foremost : List Piece → Piece
foremost [] = nobody
foremost (p ∷ ps) = cond (goes_before p (foremost ps)) p (foremost ps)

-- the work that gets the tick
unfoldable pub runner : Book → Piece
runner b = foremost (at_hand b)

-- what the step's answer says: who ran, and what that piece still owes after the tick, before any release
pub record Ran : Type 0 where
  pub who : Who
  pub owes : ℕ

unfoldable pub ran : Book → Ran
ran b = record { who = (runner b).who; owes = pred (runner b).owes }

-- the tick that is given: one less is owed
abbrev pub serve_job : Who → Job → Job
serve_job g j = record { number = j.number; owes = j.owes - same g (job j.number); due = j.due }

abbrev pub serve_feed : Who → Feed → Feed
serve_feed g f = owing (f.owes - same g (feed f.position)) f

unfoldable pub serve : Who → Book → Book
serve g b =
    record { clock = b.clock; feeds = map (serve_feed g) b.feeds; jobs = map (serve_job g) b.jobs }

-- at the instant x a piece that is released then is ready, and one whose deadline has come gives way
unfoldable pub turned : ℕ → Feed → ℕ
turned x f =
    cond (eqb (since f.plan x) 0) f.plan.work (cond (leb f.plan.lead (since f.plan x)) 0 f.owes)

abbrev pub turn_feed : ℕ → Feed → Feed
turn_feed x f = owing (turned x f) f

-- the clock goes on by one; a job that owes nothing leaves, a late one stays
unfoldable pub turn : Book → Book
turn b =
    record {
      clock = suc b.clock;
      feeds = map (turn_feed (suc b.clock)) b.feeds;
      jobs = keep (λ j. ltb 0 j.owes) b.jobs;
    }

-- the tick goes to g
unfoldable pub step_by : Who → Book → Book
step_by g b = turn (serve g b)

unfoldable pub step : Book → Book
step b = step_by (runner b).who b

-- g is a choice by earliest deadline, whatever the ties: ready work than which nothing ready is due earlier, or nobody
-- where nothing is ready
pub record Foremost (b : Book) (p : Piece) : Type 0 where
  pub ready : 0 < p.owes
  pub earliest : Each (λ q. 0 < q.owes → p.due ≤ q.due) (at_hand b)

unfoldable pub Edf : Book → Who → Type 0
Edf b g = Some (λ p. (p.who ≡ g) × Foremost b p) (at_hand b) ⊎ ((g ≡ idle) × Each (λ q. q.owes ≡ 0) (at_hand b))
