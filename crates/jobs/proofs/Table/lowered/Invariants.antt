-- `jobs::Table::lowered` meets its contract: the jobs so far show it no more, the others are as they were.
use mathlib.Core.Path.{◌≡◌}
use Rattle.lists.proofs.Places.{changed}
use Rattle.jobs.specs.Figures.{lowered}
use Rattle.jobs.proofs.Table.lowered.Given as goal

abbrev pub invariant-loop-other : goal.invariant-loop-other
invariant-loop-other l = l.other-items ≡ changed (lowered l.job) l.other-index l.initial.other-items
