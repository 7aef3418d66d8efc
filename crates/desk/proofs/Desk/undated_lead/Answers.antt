-- `desk::Desk::undated_lead` meets its contract: the deadline of the rule is after the clock, and not too far to be read.
use mathlib.Core.Path.{◌≡◌, refl, ap, ◌∙◌}
use mathlib.Core.Bool.{Bool, true, false, cond}
use Prim.Native.Nat.{◌+◌, ◌-◌, ◌*◌, ◌≤◌, ◌^◌}
use native.Mathlib.Omega.{arith}
use lib.Dec.{ltb}
use borrow.Author.Rules.{rules}
use Rattle.lists.proofs.Places.{length_mapped}
use Rattle.lists.proofs.Tests.{ltb_elim}
use Rattle.ticks.specs.declared.Instant.{Instant}
use Rattle.ticks.specs.Ticks.{last_instant, ticks, later_of}
use Rattle.edf.specs.Share as edf
use Rattle.edf.specs.Share.{at_share, deadline_at}
use Rattle.shares.specs.Shares.{most_share}
use Rattle.shares.proofs.Shares.{time_bounded}
use Rattle.ledger.specs.State.{Sized, InOrder}
use Rattle.desk.proofs.InOrder.{Beside, in_order_lem, in_order_beside}
use Rattle.desk.proofs.Desk.undated_lead.Goals as goal

-- the later of two instants, here and in the mathematics
later_read : (t u : Instant) → (later_of t u).0 ≡ edf.later_of t.0 u.0
later_read t u = go (ltb t.0 u.0)
  where
    go : (b : Bool) → (cond b u t).0 ≡ cond b u.0 t.0
    go true = refl
    go false = refl

later_within : (t u : Instant) → t.0 ≤ last_instant → u.0 ≤ last_instant → (later_of t u).0 ≤ last_instant
later_within t u h k = ltb_elim (λ b. (cond b u t).0 ≤ last_instant) t.0 u.0 (λ l. k) (λ l. h)

later_first : (t u : Instant) → t.0 ≤ (later_of t u).0
later_first t u = ltb_elim (λ b. t.0 ≤ (cond b u t).0) t.0 u.0 (λ l. omega (arith, l)) (λ l. omega arith)

pub and-requires : goal.and-requires
and-requires c =
    let sized : Sized c.args.self.ledger =
    record { feeds = search (rules, length_mapped); jobs = search (rules, length_mapped) } in
    let order : InOrder c.args.self.ledger =
    in_order_lem _ sized c.requires.0 in
    omega (arith, order.charge, c.requires.2)

pub time_for-time-requires : goal.time_for-time-requires
time_for-time-requires c =
    let sized : Sized c.args.self.ledger =
    record { feeds = search (rules, length_mapped); jobs = search (rules, length_mapped) } in
    let order : InOrder c.args.self.ledger =
    in_order_lem _ sized c.requires.0 in
    let work : c.and.result.0 ≡ c.args.work.0 + c.args.self.ledger.charge.0 =
    ap (λ l. l.0) c.and.ensures in
    (c.requires.1, omega (arith, work, order.charge, c.requires.2))

pub plus-requires : goal.plus-requires
plus-requires c =
    let later : c.max.result ≡ later_of c.args.self.ledger.clock c.args.self.previous = search rules in
    let sized : Sized c.args.self.ledger =
    record { feeds = search (rules, length_mapped); jobs = search (rules, length_mapped) } in
    let order : InOrder c.args.self.ledger =
    in_order_lem _ sized c.requires.0 in
    let beside : Beside c.args.self =
    in_order_beside _ c.requires.0 in
    let work : c.and.result.0 ≡ c.args.work.0 + c.args.self.ledger.charge.0 =
    ap (λ l. l.0) c.and.ensures in
    let time : c.time_for-time.result.0 ≡ at_share c.args.self.share.p c.args.self.share.q (c.args.work.0 + c.args.self.ledger.charge.0) =
    let s = c.args.self.share in
    ap (λ l. l.0) c.time_for-time.ensures ∙ ap (at_share s.p s.q) work in
    let short : c.time_for-time.result.0 ≤ 2 ^ 33 * most_share + most_share =
    let few : c.args.work.0 + c.args.self.ledger.charge.0 ≤ 2 ^ 33 = omega (arith, order.charge, c.requires.2) in
    omega (arith, time, time_bounded c.args.self.share (c.args.work.0 + c.args.self.ledger.charge.0) (2 ^ 33) c.requires.1 few) in
    let s = c.args.self in
    omega (arith, short, ap (λ t. t.0) later, later_within s.ledger.clock s.previous order.clock beside.previous)

pub returns : goal.returns
unfolding deadline_at at_share
returns c =
    let later : c.max.result ≡ later_of c.args.self.ledger.clock c.args.self.previous = search rules in
    let sized : Sized c.args.self.ledger =
    record { feeds = search (rules, length_mapped); jobs = search (rules, length_mapped) } in
    let order : InOrder c.args.self.ledger =
    in_order_lem _ sized c.requires.0 in
    let beside : Beside c.args.self =
    in_order_beside _ c.requires.0 in
    let work : c.and.result.0 ≡ c.args.work.0 + c.args.self.ledger.charge.0 =
    ap (λ l. l.0) c.and.ensures in
    let time : c.time_for-time.result.0 ≡ at_share c.args.self.share.p c.args.self.share.q (c.args.work.0 + c.args.self.ledger.charge.0) =
    let s = c.args.self.share in
    ap (λ l. l.0) c.time_for-time.ensures ∙ ap (at_share s.p s.q) work in
    let short : c.time_for-time.result.0 ≤ 2 ^ 33 * most_share + most_share =
    let few : c.args.work.0 + c.args.self.ledger.charge.0 ≤ 2 ^ 33 = omega (arith, order.charge, c.requires.2) in
    omega (arith, time, time_bounded c.args.self.share (c.args.work.0 + c.args.self.ledger.charge.0) (2 ^ 33) c.requires.1 few) in
    let due : c.plus.result.0 ≡ deadline_at c.args.self.share.p c.args.self.share.q c.args.self.previous.0 c.args.self.ledger.clock.0 (c.args.work.0 + c.args.self.ledger.charge.0) =
    let s = c.args.self in
    ap (λ t. t.0) c.plus.ensures
    ∙ (λ i. (ap (λ t. t.0) later ∙ later_read s.ledger.clock s.previous) i + time i) in
    let s = c.args.self in (
      c.ticks_since.ensures ∙ ap (λ n. ticks (n - s.ledger.clock.0)) due,
      omega (arith, ap (λ l. l.0) c.ticks_since.ensures, ap (λ t. t.0) c.plus.ensures, ap (λ t. t.0) later, short, later_within s.ledger.clock s.previous order.clock beside.previous),
    )
