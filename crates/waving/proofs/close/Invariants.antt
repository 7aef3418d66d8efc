-- Each call leaves fewer lines.
use Rattle.std.proofs.Common.{◌≡◌, length}
use Rattle.waving.proofs.Closing.{left}
use Rattle.waving.proofs.close.Given as goal

abbrev pub invariant-loop-cursor : goal.invariant-loop-cursor
invariant-loop-cursor g l = length l.out ≡ length l.initial.out

abbrev pub decreases-loop-cursor : goal.decreases-loop-cursor
decreases-loop-cursor g l = left l.cursor
