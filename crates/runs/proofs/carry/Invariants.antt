-- `runs::carry` meets its contract: before each turn so many steps are taken and their lines written, and the others are left.
use Prim.Native.Nat.{◌-◌}
use Rattle.runs.proofs.Carrying.{Going}
use Rattle.runs.proofs.carry.Given as goal

abbrev pub invariant-loop-steps : goal.invariant-loop-steps
invariant-loop-steps l = Going l.initial.out l.most l.initial.desk l.initial.page.cursor l.initial.page.at l.out l.desk l.page.cursor l.page.at l.steps

abbrev pub decreases-loop-steps : goal.decreases-loop-steps
decreases-loop-steps l = l.most - l.steps
