-- Each line leads further on, so the rehearsal ends.
use Rattle.std.proofs.Common.{◌≡◌, ◌≤◌, ◌-◌, length}
use Rattle.telling.specs.Going.{Filled}
use Rattle.telling.proofs.hear_all.Given as goal

abbrev pub invariant-loop-going : goal.invariant-loop-going
invariant-loop-going g l =
    (length l.out ≡ 4096)
    × (l.going.place.lines ≤ l.going.place.from)
    × (l.going.place.from ≤ length l.input)
    × Filled l.out l.going.session l.going.at

abbrev pub decreases-loop-going : goal.decreases-loop-going
decreases-loop-going g l = length l.input - l.going.place.from
