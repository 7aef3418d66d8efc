-- Each line leads further on, so the script ends.
use Rattle.std.proofs.Common.{◌≡◌, ◌≤◌, ◌-◌, length}
use Rattle.waving.specs.Going.{Counted}
use Rattle.waving.proofs.hear_all.Given as goal

abbrev pub invariant-loop-going : goal.invariant-loop-going
invariant-loop-going g l = (length l.out ≡ 4096) × Counted l.going × (l.going.place.from ≤ length l.input)

abbrev pub decreases-loop-going : goal.decreases-loop-going
decreases-loop-going g l = length l.input - l.going.place.from
