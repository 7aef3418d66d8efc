-- `jobs::Table::raised` meets its contract: the jobs so far show it too, the others are as they were.
use mathlib.Core.Path.{◌≡◌}
use Rattle.lists.proofs.Places.{changed}
use Rattle.jobs.specs.Figures.{raised}
use Rattle.jobs.proofs.Table.raised.Given as goal

abbrev pub invariant-loop-other : goal.invariant-loop-other
invariant-loop-other l = l.other-items ≡ changed (raised l.job) l.other-index l.initial.other-items
