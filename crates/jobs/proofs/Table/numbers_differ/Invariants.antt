-- `jobs::Table::numbers_differ` meets its contract: no number stands twice exactly if none does among the jobs still to look at.
use mathlib.Core.Path.{◌≡◌}
use lib.ListN.{length}
use Rattle.jobs.specs.Jobs.{live, distinct}
use Rattle.jobs.proofs.Table.numbers_differ.Given as goal

abbrev pub invariant-loop-live : goal.invariant-loop-live
invariant-loop-live l = distinct (live l.fn.self) ≡ distinct l.live

abbrev pub decreases-loop-live : goal.decreases-loop-live
decreases-loop-live l = length l.live
