-- An opening is sound, at any instant: also in the middle of periods, as pieces from before it do not exist.
use mathlib.Core.Path.{◌≡◌, refl, sym, subst}
use mathlib.Core.Bool.{cond}
use mathlib.Core.List.{List}
use Prim.Native.Nat.{ℕ, ◌+◌, ◌-◌, ◌*◌, ◌/◌, ◌≤◌, ◌<◌}
use native.Mathlib.Nat.{le_refl, mul-le-mul_left, sub-zero}
use native.Mathlib.Omega.{arith}
use Rattle.lists.specs.Lists.{eq, total, Each}
use Rattle.edf.specs.Book.{Plan, Feed, plans}
use Rattle.edf.specs.Releases.{since, due}
use Rattle.edf.specs.Owed.{by_then, later_by, owed_by, Room}
use Rattle.edf.specs.Order.{PlanInOrder, FeedInOrder}
use Rattle.edf.specs.Load.{stretch, Light, opened_feed, opened, Sound}
use Rattle.edf.proofs.Loads.{Opens}
use Rattle.lists.proofs.Lists.{each_imp, each_map, each_of_map, total_le, total_map}
use Rattle.lists.proofs.Tests.{eqb_elim}
use Rattle.edf.proofs.Releases.{since_lt, since_early}
use Rattle.lists.proofs.Numbers.{div_mono}
use Rattle.edf.proofs.Demand.{by_then_le, feed_owes, piece_and_later}
use Rattle.edf.proofs.Tick.{owed_by_split}
use Rattle.edf.proofs.Plans.{opened_keeps_plans}

opened_owes : (t D : ℕ) (f : Feed) → PlanInOrder f.plan → t < D → feed_owes t D (opened_feed t f) ≤ stretch (D - t) f.plan
opened_owes t D f o h =
    eqb_elim (λ b. by_then D (due p t) (cond b p.work 0) + later_by t D p ≤ stretch (D - t) p) (since p t) 0 comes waits
  where
    p : Plan
    p = f.plan

    T : ℕ
    T = p.period

    comes : since p t ≡ 0 → by_then D (t + p.lead - since p t) p.work + p.work * ((D + since p t - (t + p.lead)) / T) ≤ stretch (D - t) p
    comes z =
        let x : ℕ = t + p.lead in
        let n : D + 0 - x ≡ D - x = omega arith in
        rw (z, sub-zero x, n)
        (omega (
          arith,
          piece_and_later D p.work T x (omega arith),
          mul-le-mul_left p.work (div_mono T (D + T - x) (D - t + T - p.lead) (omega arith)),
        ))

    waits : (since p t ≡ 0 → ⊥) → by_then D (due p t) 0 + later_by t D p ≤ stretch (D - t) p
    waits z =
        omega (
          arith,
          by_then_le D (due p t) 0,
          mul-le-mul_left p.work (div_mono T (D + since p t - (t + p.lead)) (D - t + T - p.lead) (omega (arith, since_lt p t o.offset))),
        )

opened_in_order : (t : ℕ) (f : Feed) → PlanInOrder f.plan → FeedInOrder t (opened_feed t f)
opened_in_order t f o =
    record {
      plan = o;
      owes = eqb_elim (λ b. cond b f.plan.work 0 ≤ f.plan.work) (since f.plan t) 0 (λ e. le_refl f.plan.work) (λ e. omega arith);
      early = λ h. eqb_elim (λ b. cond b f.plan.work 0 ≡ 0) (since f.plan t) 0
          (λ e. absurd (omega (arith, since_early f.plan t o.offset h)))
          (λ e. refl);
      over = λ h. eqb_elim (λ b. cond b f.plan.work 0 ≡ 0) (since f.plan t) 0 (λ e. absurd (omega arith)) (λ e. refl);
    }

-- no more is owed than a stretch as long can want
pub opened_owes_little : (t D : ℕ) (fs : List Feed) → Each PlanInOrder (plans fs) → t < D → owed_by (opened t fs) D ≤ total (stretch (D - t)) (plans fs)
unfolding opened
opened_owes_little t D fs o h =
    omega (
      arith,
      owed_by_split (opened t fs) D,
      total_map (feed_owes t D) (opened_feed t) fs,
      total_le (λ f. PlanInOrder f.plan) (λ f. feed_owes t D (opened_feed t f)) (λ f. stretch (D - t) f.plan) (λ f k. opened_owes t D f k h) fs
          (each_of_map PlanInOrder (λ f. f.plan) fs o),
      total_map (stretch (D - t)) (λ f. f.plan) fs,
    )

-- AN OPENING HAS ROOM
pub opening_is_sound : (t : ℕ) (fs : List Feed) → Opens fs → Sound (opened t fs)
unfolding opened Room Light
opening_is_sound t fs o =
    record {
      order = record {
        feeds = each_map (FeedInOrder t) (opened_feed t) fs (each_imp (λ f. PlanInOrder f.plan) (λ f. FeedInOrder t (opened_feed t f)) (opened_in_order t) fs each);
        jobs = tt;
        positions = λ n. omega (arith, total_map (λ f. eq n f.position) (opened_feed t) fs, o.positions n);
        numbers = λ n. omega arith;
      };
      room = λ D h. omega (arith, opened_owes_little t D fs o.each h, o.light (D - t));
      light = subst Light (sym (opened_keeps_plans t fs)) o.light;
    }
  where
    each : Each (λ f. PlanInOrder f.plan) fs
    each = each_of_map PlanInOrder (λ f. f.plan) fs o.each
