-- `room::room_below` meets its contract: by every instant from the one that is reached on there is room.
use mathlib.Core.Path.{ap}
use Prim.Native.Nat.{◌≤◌, ◌<◌}
use native.Mathlib.Omega.{arith}
use Rattle.std.proofs.lemmas.Bool.Decides.{nat_tests}
use Rattle.room.proofs.Walk.{walk_on, walk_done, walk_stops}
use Rattle.room.proofs.room_below.Goals as goal

pub returns-then-gt : goal.returns-then-gt
returns-then-gt c =
    let ahead : c.next-first.result.0 < c.loop-ledger.end.0 = grind (arith, nat_tests) in
    let longer : c.ticks_since.result.0 < c.owed_by-owed.result.0 = grind (arith, nat_tests) in
    let l = c.args.ledger in
    let by = c.previous-by.result.0 in
    let first = ap (λ i. i.0) c.next-first.ensures in
    let before = ap (λ i. i.0) c.previous-by.ensures in
    walk_stops l by c.args.horizon.0 c.requires.0 (omega arith) (omega arith)
    (omega (arith, ap (λ l. l.0) c.owed_by-owed.ensures, ap (λ l. l.0) c.ticks_since.ensures))

pub loop-ledger-preserved : goal.loop-ledger-preserved
loop-ledger-preserved c =
    let ahead : c.next-first.result.0 < c.loop-ledger.end.0 = grind (arith, nat_tests) in
    let enough : c.owed_by-owed.result.0 ≤ c.ticks_since.result.0 = grind (arith, nat_tests) in
    let l = c.args.ledger in
    let by = c.previous-by.result.0 in
    let first = ap (λ i. i.0) c.next-first.ensures in
    let before = ap (λ i. i.0) c.previous-by.ensures in
    let owed = ap (λ l. l.0) c.owed_by-owed.ensures in
    let time = ap (λ l. l.0) c.ticks_since.ensures in
    let onward = ap (λ i. i.0) c.plus-end.ensures in (
      omega arith,
      omega arith,
      walk_on l by c.loop-ledger.end.0 c.plus-end.result.0 c.args.horizon.0 c.loop-ledger.invariant.2 (omega arith) (omega arith) (omega arith),
    )

pub returns : goal.returns
returns c =
    let reached : c.loop-ledger.end.0 ≤ c.next-first.result.0 = grind (arith, nat_tests) in
    walk_done c.args.ledger c.loop-ledger.end.0 c.args.horizon.0 c.loop-ledger.invariant.2 (omega (arith, ap (λ i. i.0) c.next-first.ensures))
