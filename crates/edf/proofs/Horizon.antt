-- How far one has to look: what is owed repeats with the round, only grows, and so skips.
use mathlib.Core.Path.{◌≡◌, sym, ◌∙◌, ap}
use Prim.Native.Nat.{ℕ, zero, suc, ◌+◌, ◌-◌, ◌*◌, ◌/◌, ◌≤◌, ◌<◌, ◌∣◌}
use native.Mathlib.Nat.{le_refl, mul-div_cancel', add-mul-div_left, le-mul_of_pos_right}
use native.Mathlib.Decide.{dec_lt}
use native.Mathlib.Omega.{arith}
use Rattle.lists.specs.Lists.{Each}
use Rattle.edf.specs.Book.{Plan, Book, plans}
use Rattle.edf.specs.Releases.{since, next, due}
use Rattle.edf.specs.Pieces.{at_hand}
use Rattle.edf.specs.Owed.{due_by, later_count, later_by, owed_by, Room, RoomBelow}
use Rattle.edf.specs.Order.{PlanInOrder, InOrder}
use Rattle.edf.specs.Load.{horizon}
use Rattle.edf.proofs.Loads.{a_round, Round, Beyond}
use Rattle.lists.proofs.Lists.{each_imp, each_both, each_of_map, total_le_all, total_eq, total_add}
use Rattle.edf.proofs.Releases.{since_lt}
use Rattle.edf.proofs.Demand.{by_then_in, by_then_mono, later_by_mono}
use Rattle.edf.proofs.Tick.{hand_each}
use Rattle.edf.proofs.Sound.{plans_in_order, owed_by_past}

-- WHAT IS OWED ONLY GROWS
pub owed_by_mono : (b : Book) (D E : ℕ) → D ≤ E → owed_by b D ≤ owed_by b E
unfolding owed_by
owed_by_mono b D E h =
    omega (
      arith,
      total_le_all (due_by D) (due_by E) (λ p. by_then_mono D E p.due p.due p.owes p.owes h (le_refl p.due) (le_refl p.owes)) (at_hand b),
      total_le_all (later_by b.clock D) (later_by b.clock E) (λ p. later_by_mono b.clock D E p h) (plans b.feeds),
    )

-- THE JUMP: where there is room by D, there is room by every instant from the clock and what is owed by D on
pub room_jumps : (b : Book) (D E : ℕ) → b.clock + owed_by b D ≤ E → E ≤ D → owed_by b E ≤ E - b.clock
room_jumps b D E h k = omega (arith, owed_by_mono b E D k)

-- beyond the next release, a round more of time brings what the plan wants in a round
later_round : (R t D : ℕ) (p : Plan) → PlanInOrder p → p.period ∣ R → next p t ≤ D → later_by t (D + R) p ≡ later_by t D p + a_round R p
later_round R t D p o d h =
    let n : D + R + since p t - (t + p.lead) ≡ (D + since p t - (t + p.lead)) + p.period * (R / p.period)
    = omega (arith, mul-div_cancel' p.period d, since_lt p t o.offset) in
    let q : later_count t (D + R) p ≡ later_count t D p + R / p.period
    = ap (◌/ p.period) n ∙ add-mul-div_left (D + since p t - (t + p.lead)) (R / p.period) (omega arith) in
    omega (arith, ap (p.work *◌) q)

pub owed_by_round : (b : Book) (R L D : ℕ) → InOrder b → Round R (plans b.feeds) → Beyond b L → L ≤ D
    → owed_by b (D + R) ≤ owed_by b D + R
unfolding owed_by
owed_by_round b R L D o r y h =
    omega (
      arith,
      total_eq (λ p. p.due ≤ L) (due_by (D + R)) (due_by D) (λ p k. by_then_in (D + R) p.due p.owes (omega arith) ∙ sym (by_then_in D p.due p.owes (omega arith))) (at_hand b)
          (hand_each (λ p. p.due ≤ L) b y.jobs due_soon),
      total_eq (λ p. Soon p × (p.period ∣ R)) (later_by t (D + R)) (λ p. later_by t D p + a_round R p) (λ p k. later_round R t D p k.0.0 k.1 (omega (arith, k.0.1))) (plans b.feeds)
          (each_both Soon (λ p. p.period ∣ R) (plans b.feeds) soon r.common),
      total_add (later_by t D) (a_round R) (plans b.feeds),
      r.carried,
    )
  where
    t : ℕ
    t = b.clock

    Soon : Plan → Type 0
    Soon p = PlanInOrder p × (next p t ≤ L)

    soon : Each Soon (plans b.feeds)
    soon = each_both PlanInOrder (λ p. next p t ≤ L) (plans b.feeds) (plans_in_order b o) y.feeds

    due_soon : Each (λ f. due f.plan t ≤ L) b.feeds
    due_soon =
        each_of_map (λ p. due p t ≤ L) (λ f. f.plan) b.feeds
        (each_imp Soon (λ p. due p t ≤ L) (λ p k. omega (arith, k.1, since_lt p t k.0.offset)) (plans b.feeds) soon)

-- THE HORIZON: room by every instant below a round past the last deadline and release is room by all
pub room_within_horizon : (b : Book) (R L : ℕ) → InOrder b → Round R (plans b.feeds) → Beyond b L
    → RoomBelow (horizon R L) b
    → Room b
unfolding Room RoomBelow
room_within_horizon b R L o r y near D h = rounds D D (omega (arith, le-mul_of_pos_right D r.positive, r.positive)) h
  where
    rounds : (k D : ℕ) → D < L + R + k * R → b.clock < D → owed_by b D ≤ D - b.clock
    rounds zero D l h = near D h (omega arith)
    rounds (suc k) D l h = go (dec_lt D (L + R)) (dec_lt b.clock (D - R)) (λ c. rounds k (D - R) (omega arith) c)
      where
        back : L + R ≤ D → owed_by b D ≤ owed_by b (D - R) + R
        back c =
            let e : D - R + R ≡ D = omega arith in
            rw e at (owed_by_round b R L (D - R) o r y (omega arith))

        go : Dec (D < L + R) → Dec (b.clock < D - R) → (b.clock < D - R → owed_by b (D - R) ≤ D - R - b.clock) → owed_by b D ≤ D - b.clock
        go (yes c) e ih = near D h c
        go (no c) (yes e) ih = omega (arith, ih e, back (omega arith))
        go (no c) (no e) ih = omega (arith, back (omega arith), owed_by_past b (D - R) o (omega arith), y.clock)
