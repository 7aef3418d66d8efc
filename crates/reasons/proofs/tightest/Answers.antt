-- `reasons::tightest` meets its contract: before the instant that is reached there is room, and the best so far is the
-- earliest of the smallest margin.
use mathlib.Core.Path.{ap}
use Prim.Native.Nat.{◌≤◌, ◌<◌}
use native.Mathlib.Omega.{arith}
use Rattle.std.proofs.lemmas.Bool.Decides.{nat_tests}
use Rattle.edf.specs.Book.{Book}
use Rattle.edf.specs.Margin.{Overbooked, InTime}
use Rattle.edf.proofs.Horizon.{owed_by_mono}
use Rattle.ledger.specs.Books.{book_of}
use Rattle.room.specs.Ahead.{horizon_of}
use Rattle.reasons.specs.Reasons.{debt_by}
use Rattle.reasons.proofs.Walk.{in_reach, walked_next, told_first, tighter_before}
use Rattle.reasons.proofs.tightest.Goals as goal

pub returns-then-gt : goal.returns-then-gt
returns-then-gt c =
    let l = c.args.ledger in
    let loop = c.loop-ledger in
    let near : loop.by.0 ≤ (horizon_of l).0 = grind (arith, nat_tests) in
    let short : Overbooked (book_of l) loop.by.0 = grind (arith, nat_tests) in
    rw c.debt_by-next.ensures (told_first l loop.best loop.by c.requires loop.invariant.0 near short)

pub tighter-best-requires : goal.tighter-best-requires
tighter-best-requires c =
    let l = c.args.ledger in
    let loop = c.loop-ledger in
    let near : loop.by.0 ≤ (horizon_of l).0 = grind (arith, nat_tests) in
    let in_time : c.debt_by-next.result.owed.0 ≤ c.ticks_since.result.0 = grind (arith, nat_tests) in
    let here = ap (λ d. d.at.0) c.debt_by-next.ensures in
    let time = ap (λ t. t.0) c.ticks_since.ensures in
    let more = owed_by_mono (book_of l) loop.best.at.0 loop.by.0 loop.invariant.0.begun in
    let far = in_reach l loop.by c.requires near in
    let owed = ap (λ d. d.owed.0) c.debt_by-next.ensures in (
      omega (arith, far.inside, far.near, loop.invariant.0.owed, loop.invariant.0.begun),
      omega (arith, far.inside, far.near, loop.invariant.0.owed, loop.invariant.0.begun),
    )

pub next_due-by-requires : goal.next_due-by-requires
next_due-by-requires c =
    let l = c.args.ledger in
    let sooner : c.loop-ledger.by.0 < c.next-end.result.0 = grind (arith, nat_tests) in
    let near : c.loop-ledger.by.0 ≤ (horizon_of l).0 = grind (arith, nat_tests) in
    (c.requires, in_reach l c.loop-ledger.by c.requires near, sooner)

pub loop-ledger-preserved : goal.loop-ledger-preserved
loop-ledger-preserved c =
    let book : Book = book_of c.args.ledger in
    let loop = c.loop-ledger in
    let sooner : loop.by.0 < c.next-end.result.0 = grind (arith, nat_tests) in
    let in_time : c.debt_by-next.result.owed.0 ≤ c.ticks_since.result.0 = grind (arith, nat_tests) in
    let enough : InTime book loop.by.0 =
    omega (arith, ap (λ l. l.0) c.ticks_since.ensures, ap (λ d. d.owed.0) c.debt_by-next.ensures, loop.invariant.0.after, loop.invariant.0.begun) in
    let until = c.next_due-by.ensures in
    rw (c.tighter-best.ensures, c.debt_by-next.ensures) (
      walked_next book loop.best loop.by _ _ loop.invariant.0 enough until,
      tighter_before loop.best (debt_by book loop.by) _ loop.invariant.1 sooner,
      until.within,
    )
