-- The pieces of work of a book: live jobs with what they still owe, current pieces with what they still owe, and all
-- later pieces of every feed, without end.
use Rattle.std.specs.Prelude.{List, ◌++◌, map, ℕ, ◌+◌}
use Rattle.edf.specs.Book.{Feed, Job, Book, Who, job, feed}
use Rattle.edf.specs.Releases.{due, later_from}

-- work of `owes` ticks, wanted in the ticks from `from` up to but not including `due`
pub record Piece : Type 0 where
  pub who : Who
  pub from : ℕ
  pub due : ℕ
  pub owes : ℕ

abbrev pub job_piece : ℕ → Job → Piece
job_piece t j = record { who = job j.number; from = t; due = j.due; owes = j.owes }

abbrev pub current_piece : ℕ → Feed → Piece
current_piece t f = record { who = feed f.position; from = t; due = due f.plan t; owes = f.owes }

abbrev pub later_piece : ℕ → ℕ → Feed → Piece
later_piece t k f =
    record {
      who = feed f.position;
      from = later_from f.plan t k;
      due = later_from f.plan t k + f.plan.lead;
      owes = f.plan.work;
    }

-- what can be worked on now: the live jobs and the current pieces
abbrev pub at_hand : Book → List Piece
at_hand b = map (job_piece b.clock) b.jobs ++ map (current_piece b.clock) b.feeds
