-- `jobs::Table::figures_agree` meets its contract: the figures all agree exactly if the pass from here on says so.
use mathlib.Core.Path.{◌≡◌}
use Prim.Native.Nat.{◌*◌, ◌≤◌}
use lib.ListN.{drop}
use Rattle.lists.specs.Lists.{every}
use Rattle.jobs.specs.Jobs.{live}
use Rattle.jobs.specs.Figures.{most_owed, figure_agrees}
use Rattle.jobs.proofs.InDeadlineOrder.{chain}
use Rattle.jobs.proofs.Table.figures_agree.Given as goal

abbrev pub invariant-loop-job : goal.invariant-loop-job
invariant-loop-job l =
    (l.sum.0 ≤ l.job-index * most_owed)
    × (every (figure_agrees (live l.fn.self)) (live l.fn.self) ≡ chain l.last l.sum.0 (drop l.job-index l.job-items))
