-- What one piece and one feed owe by an instant, and how that goes on over a tick.
use mathlib.Core.Path.{◌≡◌, refl, ◌∙◌, ap}
use mathlib.Core.Logic.{inl, inr, ◌↔◌}
use mathlib.Core.Bool.{cond}
use Prim.Native.Nat.{ℕ, suc, ◌+◌, ◌-◌, ◌*◌, ◌/◌, ◌≤◌, ◌<◌}
use native.Mathlib.Nat.{le_refl, mul-le-mul_left, div-eq_of_lt, add-div_right, zero-div, le-div_iff_mul-le, mul-zero, sub-zero}
use native.Mathlib.Omega.{arith}
use lib.Dec.{leb}
use Rattle.edf.specs.Book.{Plan, Feed}
use Rattle.edf.specs.Releases.{since, due, later_from}
use Rattle.edf.specs.Pieces.{current_piece}
use Rattle.edf.specs.Owed.{by_then, due_by, later_count, later_by}
use Rattle.edf.specs.Step.{turned, turn_feed}
use Rattle.edf.specs.Order.{PlanInOrder}
use Rattle.edf.specs.Load.{stretch}
use Rattle.lists.proofs.Numbers.{div_mono}
use Rattle.lists.proofs.Tests.{leb_elim, eqb_elim}
use Rattle.edf.proofs.Releases.{Onward, since_lt, since_suc}

pub by_then_elim : (P : ℕ → Type 0) (D due n : ℕ) → (due ≤ D → P n) → (D < due → P 0) → P (by_then D due n)
unfolding by_then
by_then_elim P D due n y z = leb_elim (λ b. P (cond b n 0)) due D y z

pub by_then_in : (D due n : ℕ) → due ≤ D → by_then D due n ≡ n
by_then_in D due n h = by_then_elim (λ k. k ≡ n) D due n (λ p. refl) (λ p. absurd (omega arith))

pub by_then_out : (D due n : ℕ) → D < due → by_then D due n ≡ 0
by_then_out D due n h = by_then_elim (λ k. k ≡ 0) D due n (λ p. absurd (omega arith)) (λ p. refl)

pub by_then_le : (D due n : ℕ) → by_then D due n ≤ n
by_then_le D due n = by_then_elim (λ k. k ≤ n) D due n (λ p. le_refl n) (λ p. omega arith)

-- something that owes by D is due by D
pub by_then_due : (D due n : ℕ) → 1 ≤ by_then D due n → (due ≤ D) × (1 ≤ n)
by_then_due D due n =
    by_then_elim (λ k. 1 ≤ k → (due ≤ D) × (1 ≤ n)) D due n (λ p h. (p, h)) (λ p h. absurd (omega arith))

-- owing no more and due no sooner, it owes no more by any later instant
pub by_then_mono : (D E d e m n : ℕ) → D ≤ E → e ≤ d → m ≤ n → by_then D d m ≤ by_then E e n
by_then_mono D E d e m n h k l =
    by_then_elim (λ v. v ≤ by_then E e n) D d m
    (λ p. by_then_elim (λ w. m ≤ w) E e n (λ q. l) (λ q. absurd (omega arith)))
    (λ p. omega arith)

-- owing no more, it owes no more by then
pub by_then_less : (D d m n : ℕ) → m ≤ n → by_then D d m ≤ by_then D d n
by_then_less D d m n = by_then_mono D D d d m n (le_refl D) (le_refl d)

-- of the pieces yet to come those are due by D that the count says, no more and no fewer
pub later_count_counts : (t D k : ℕ) (p : Plan) → p.offset < p.period → p.lead ≤ p.period
    → (later_from p t k + p.lead ≤ D) ↔ (k < later_count t D p)
later_count_counts t D k p h short = (λ l. counts.1 (omega (arith, below)), λ l. omega (arith, below, counts.0 l))
  where
    below : since p t < p.period
    below = since_lt p t h

    counts : (suc k ≤ later_count t D p) ↔ (suc k * p.period ≤ D + since p t - (t + p.lead))
    counts = le-div_iff_mul-le (omega arith)

-- more time, more pieces
pub later_by_mono : (t D E : ℕ) (p : Plan) → D ≤ E → later_by t D p ≤ later_by t E p
later_by_mono t D E p h = mul-le-mul_left _ (div_mono p.period _ _ (omega arith))

-- the pieces released after t and due by D fit into the ticks after t
pub later_by_le_stretch : (t D : ℕ) (p : Plan) → PlanInOrder p → later_by t D p ≤ stretch (D - suc t) p
later_by_le_stretch t D p o = mul-le-mul_left p.work (div_mono p.period _ _ (omega (arith, since_lt p t o.offset)))

-- nothing that comes later is due by now
pub later_by_past : (t D : ℕ) (p : Plan) → p.offset < p.period → D ≤ t + p.lead → later_by t D p ≡ 0
later_by_past t D p h k =
    let z : later_count t D p ≡ 0 = div-eq_of_lt (omega (arith, since_lt p t h)) in
    ap (p.work *◌) z ∙ mul-zero p.work

-- what the feed owes by D: its current piece and those to come
abbrev pub feed_owes : ℕ → ℕ → Feed → ℕ
feed_owes t D f = due_by D (current_piece t f) + later_by t D f.plan

-- at x a new piece comes, or the old one is over, or it goes on
pub turned_elim : (P : ℕ → Type 0) (x : ℕ) (f : Feed)
    → (since f.plan x ≡ 0 → P f.plan.work)
    → (1 ≤ since f.plan x → f.plan.lead ≤ since f.plan x → P 0)
    → (1 ≤ since f.plan x → since f.plan x < f.plan.lead → P f.owes)
    → P (turned x f)
unfolding turned
turned_elim P x f comes over goes =
    eqb_elim (λ b. P (cond b f.plan.work (cond (leb f.plan.lead (since f.plan x)) 0 f.owes))) (since f.plan x) 0 comes
    (λ n. leb_elim (λ b. P (cond b 0 f.owes)) f.plan.lead (since f.plan x) (over (omega arith)) (goes (omega arith)))

pub turned_released : (x : ℕ) (f : Feed) → since f.plan x ≡ 0 → turned x f ≡ f.plan.work
turned_released x f h =
    turned_elim (λ n. n ≡ f.plan.work) x f (λ z. refl) (λ p q. absurd (omega arith)) (λ p q. absurd (omega arith))

pub turned_over : (x : ℕ) (f : Feed) → 1 ≤ since f.plan x → f.plan.lead ≤ since f.plan x → turned x f ≡ 0
turned_over x f h k =
    turned_elim (λ n. n ≡ 0) x f (λ z. absurd (omega arith)) (λ p q. refl) (λ p q. absurd (omega arith))

pub turned_kept : (x : ℕ) (f : Feed) → 1 ≤ since f.plan x → since f.plan x < f.plan.lead → turned x f ≡ f.owes
turned_kept x f h k =
    turned_elim (λ n. n ≡ f.owes) x f (λ z. absurd (omega arith)) (λ p q. absurd (omega arith)) (λ p q. refl)

pub turned_le : (x : ℕ) (f : Feed) → 1 ≤ since f.plan x → turned x f ≤ f.owes
turned_le x f h = turned_elim (λ n. n ≤ f.owes) x f (λ z. absurd (omega arith)) (λ p q. omega arith) (λ p q. le_refl f.owes)

-- a piece due at x and those that follow it a period apart
pub piece_and_later : (D w T x : ℕ) → 1 ≤ T → by_then D x w + w * ((D - x) / T) ≡ w * ((D + T - x) / T)
piece_and_later D w T x p = by_then_elim (λ k. k + w * ((D - x) / T) ≡ w * ((D + T - x) / T)) D x w counts not_yet
  where
    counts : x ≤ D → w + w * ((D - x) / T) ≡ w * ((D + T - x) / T)
    counts q =
        let n : D + T - x ≡ (D - x) + T = omega arith in
        let d : (D + T - x) / T ≡ (D - x) / T + 1 = ap (◌/ T) n ∙ add-div_right (D - x) p in
        omega (arith, ap (w *◌) d)

    not_yet : D < x → 0 + w * ((D - x) / T) ≡ w * ((D + T - x) / T)
    not_yet q =
        let n : D - x ≡ 0 = omega arith in
        let y : (D - x) / T ≡ 0 = ap (◌/ T) n ∙ zero-div T in
        let z : (D + T - x) / T ≡ 0 = div-eq_of_lt (omega arith) in
        omega (arith, ap (w *◌) y, ap (w *◌) z, mul-zero w)

-- as the clock goes on by one, a feed owes no more by any instant than it did
pub turn_feed_owes : (t D : ℕ) (f : Feed) → f.plan.offset < f.plan.period → f.plan.lead ≤ f.plan.period
    → feed_owes (suc t) D (turn_feed (suc t) f) ≤ feed_owes t D f
turn_feed_owes t D f h short = go (since_suc p t h)
  where
    p : Plan
    p = f.plan

    T : ℕ
    T = p.period

    -- what the feed would owe g ticks after a release, with n owed
    after : ℕ → ℕ → ℕ
    after g n = by_then D (suc t + p.lead - g) n + p.work * ((D + g - (suc t + p.lead)) / T)

    goes_on : since p (suc t) ≡ since p t + 1 → after (since p (suc t)) (turned (suc t) f) ≤ feed_owes t D f
    goes_on e =
        let d : (D + (since p t + 1) - (suc t + p.lead)) / T ≡ later_count t D p = ap (◌/ T) (omega arith) in
        rw (e)
        (omega (
          arith,
          ap (p.work *◌) d,
          by_then_mono D D (suc t + p.lead - (since p t + 1)) (due p t) (turned (suc t) f) f.owes (le_refl D) (omega arith)
              (turned_le (suc t) f (omega arith)),
        ))

    -- the new piece stands where the first of the later ones stood
    comes : since p t + 1 ≡ T → since p (suc t) ≡ 0 → after (since p (suc t)) (turned (suc t) f) ≤ feed_owes t D f
    comes e z =
        let x : ℕ = suc t + p.lead in
        let d : later_count t D p ≡ (D + T - x) / T = ap (◌/ T) (omega arith) in
        let n : D + 0 - x ≡ D - x = omega arith in
        rw (turned_released (suc t) f z, z, sub-zero x, n)
        (omega (arith, piece_and_later D p.work T x (omega arith), ap (p.work *◌) d))

    go : Onward p t → feed_owes (suc t) D (turn_feed (suc t) f) ≤ feed_owes t D f
    go (inl q) = goes_on q.1
    go (inr q) = comes q.0 q.1
