-- Each stretch that is told stands further on in the text, so they end, and none is left.
use Rattle.std.proofs.Common.{◌≡◌, ◌-◌, ◌≤◌, length}
use Rattle.showing.proofs.Telling.{Onward}
use Rattle.showing.proofs.tell_stretches.Given as goal

abbrev pub invariant-loop-ran : goal.invariant-loop-ran
invariant-loop-ran g l = (length l.out ≡ length l.initial.out) × (l.at ≤ length l.initial.out) × Onward l.text l.initial.out l.initial.at l.out l.at l.mark

abbrev pub decreases-loop-ran : goal.decreases-loop-ran
decreases-loop-ran g l = length l.text - l.mark.place
