-- Each call leaves fewer ticks to run.
use Rattle.std.proofs.Common.{◌≡◌, length}
use Rattle.waving.proofs.run.Given as goal

abbrev pub invariant-loop-going : goal.invariant-loop-going
invariant-loop-going g l = (length l.out ≡ length l.initial.out) × (l.going.place ≡ l.initial.going.place)

abbrev pub decreases-loop-going : goal.decreases-loop-going
decreases-loop-going g l = l.going.session.left
