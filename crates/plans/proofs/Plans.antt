-- The tests of a plan, the facts that they stand for, and the laws of its releases.
use mathlib.Core.Path.{◌≡◌, ap}
use mathlib.Core.Bool.{true}
use Prim.Native.Nat.{ℕ, ◌<◌}
use native.Mathlib.Nat.{mod-lt}
use borrow.Author.Tests.{ltb-true, lt-ltb, eqb-true, eq-eqb}
use Rattle.ticks.specs.Ticks.{most_feed, ticks}
use Rattle.lists.proofs.Tests.{all_of_lem, all_of_made}
use Rattle.ticks.proofs.Tests.{from_one_lem, from_one_made}
use Rattle.plans.specs.declared.Plan.{Plan}
use Rattle.plans.specs.Plans.{no_plan, plan_in, PlanIn, unused_plan, since}

pub plan_in_lem : (p : Plan) → plan_in p ≡ true → PlanIn p
unfolding plan_in
plan_in_lem p h =
    let t = all_of_lem _ h in
    record {
      period = from_one_lem most_feed p.period t.0;
      work = from_one_lem most_feed p.work t.1.0;
      offset = ltb-true _ _ t.1.1.0;
      lead = from_one_lem p.period.0 p.lead t.1.1.1.0;
    }

pub plan_in_made : (p : Plan) → PlanIn p → plan_in p ≡ true
unfolding plan_in
plan_in_made p h =
    all_of_made _ (
      from_one_made most_feed p.period h.period.0 h.period.1,
      (
        from_one_made most_feed p.work h.work.0 h.work.1,
        (lt-ltb _ _ h.offset, (from_one_made p.period.0 p.lead h.lead.0 h.lead.1, tt)),
      ),
    )

pub unused_plan_lem : (p : Plan) → unused_plan p ≡ true → p ≡ no_plan
unfolding unused_plan
unused_plan_lem p h =
    let t = all_of_lem _ h in
    let period = eqb-true p.period.0 0 t.0 in
    let work = eqb-true p.work.0 0 t.1.0 in
    let offset = eqb-true p.offset.0 0 t.1.1.0 in
    let lead = eqb-true p.lead.0 0 t.1.1.1.0 in
    λ i. record { period = ticks (period i); work = ticks (work i); offset = ticks (offset i); lead = ticks (lead i) }

pub unused_plan_made : (p : Plan) → p ≡ no_plan → unused_plan p ≡ true
unfolding unused_plan
unused_plan_made p h =
    all_of_made _ (
      eq-eqb _ _ (ap (λ q. q.period.0) h),
      (
        eq-eqb _ _ (ap (λ q. q.work.0) h),
        (eq-eqb _ _ (ap (λ q. q.offset.0) h), (eq-eqb _ _ (ap (λ q. q.lead.0) h), tt)),
      ),
    )

-- the current piece came less than a period ago
pub since_lt : (p : Plan) (t : ℕ) → PlanIn p → since p t < p.period.0
unfolding since
since_lt p t h = mod-lt _ {m = p.period.0} h.period.0
