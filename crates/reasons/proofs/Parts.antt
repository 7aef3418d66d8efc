-- What the live jobs, the feeds and the job that is asked for owe makes all that is owed with it.
use mathlib.Core.Path.{◌≡◌}
use mathlib.Core.List.{[], ◌∷◌}
use Prim.Native.Nat.{ℕ, ◌+◌}
use native.Mathlib.Omega.{arith}
use Rattle.lists.specs.Lists.{total}
use Rattle.lists.proofs.Lists.{total_append}
use Rattle.feeds.specs.Feeds.{in_use}
use Rattle.jobs.specs.declared.Job.{Job}
use Rattle.jobs.specs.Jobs.{live}
use Rattle.edf.specs.Book as edf
use Rattle.edf.specs.Pieces.{job_piece}
use Rattle.edf.specs.Owed.{by_then, due_by, owed_by}
use Rattle.edf.specs.Calls.{taking}
use Rattle.edf.proofs.Tick.{owed_by_split}
use Rattle.ledger.specs.declared.Ledger.{Ledger}
use Rattle.ledger.specs.Books.{book_of, book_job}
use Rattle.jobs.specs.Figures.{owes_by}
use Rattle.room.specs.Owed.{feed_owes}
use Rattle.room.proofs.Owed.{owed_by_is}

-- one job more owes what it owes by its deadline
owed_taking : (j : edf.Job) (b : edf.Book) (D : ℕ) → owed_by (taking j b) D ≡ owed_by b D + by_then D j.due j.owes
unfolding taking
owed_taking j b D =
    omega (
      arith,
      owed_by_split (taking j b) D,
      owed_by_split b D,
      total_append (λ k. due_by D (job_piece b.clock k)) b.jobs (j ∷ []),
    )

pub parts_make_owed : (l : Ledger) (j : Job) (D : ℕ)
    → total (owes_by D) (live l.table) + total (feed_owes l.charge l.clock.0 D) (in_use l.feeds) + owes_by D j ≡ owed_by (taking (book_job j) (book_of l)) D
unfolding owes_by by_then
parts_make_owed l j D = omega (arith, owed_by_is l D, owed_taking (book_job j) (book_of l) D)
