-- `jobs::Table::no_mark_twice` meets its contract: the jobs passed so far have their marks set, and no number stands twice among
-- them.
use mathlib.Core.Path.{◌≡◌}
use Prim.Native.Nat.{ℕ, ◌≤◌}
use lib.ListN.{length, take}
use Rattle.lists.specs.Lists.{Each}
use Rattle.jobs.specs.Jobs.{times}
use Rattle.jobs.proofs.Marks.{marks_of, Set}
use Rattle.jobs.proofs.Table.no_mark_twice.Given as goal

abbrev pub invariant-loop-job : goal.invariant-loop-job
invariant-loop-job l =
    (length l.marks ≡ marks_of) × Each (Set l.marks) (take l.job-index l.job-items) × ((n : ℕ) → times n (take l.job-index l.job-items) ≤ 1)
