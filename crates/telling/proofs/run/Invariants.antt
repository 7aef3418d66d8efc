-- Each tick leaves fewer of them, and a good desk.
use Rattle.std.proofs.Common.{◌≡◌, length}
use Rattle.telling.specs.Going.{Ran}
use Rattle.telling.proofs.run.Given as goal

abbrev pub invariant-loop-going : goal.invariant-loop-going
invariant-loop-going g l = (length l.out ≡ length l.initial.out) × Ran l.out l.initial.going l.going

abbrev pub decreases-loop-going : goal.decreases-loop-going
decreases-loop-going g l = l.going.session.left
