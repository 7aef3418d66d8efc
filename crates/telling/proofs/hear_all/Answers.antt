-- Before the first line the desk is empty.
use Rattle.std.proofs.Common.{arith, sym, subst, refl}
use Rattle.desk.specs.State.{Good}
use Rattle.desk.proofs.Reachable.{empty_is_good}
use Rattle.telling.proofs.hear_all.Goals as goal

pub loop-going-init : goal.loop-going-init
loop-going-init g c = (
  refl,
  omega arith,
  omega arith,
  record { good = subst (λ s. Good s.desk) (sym c.begin.ensures) empty_is_good; filled = omega arith; large = omega arith },
)
