-- The Total Bandwidth rule: as long as every job came by it, the share stays free, and so the next one fits.
use mathlib.Core.Path.{◌≡◌, refl, sym, ap, subst, ◌∙◌}
use mathlib.Core.Logic.{◌⊎◌, inl, inr}
use mathlib.Core.Bool.{cond}
use mathlib.Core.List.{List, [], ◌∷◌}
use Prim.Native.Nat.{ℕ, suc, ◌+◌, ◌-◌, ◌*◌, ◌/◌, ◌≤◌, ◌<◌, ◌∣◌}
use native.Mathlib.Nat.{mul-le-mul_left, le_of_mul-le-mul_left, mod-lt, div-add-mod', mul-div-le, mul-div_cancel'}
use native.Mathlib.Omega.{arith}
use Rattle.lists.specs.Lists.{total, Each}
use Rattle.lists.proofs.Lists.{each_both, total_le, total_append, total_scale}
use native.Mathlib.Decide.{dec_le}
use Rattle.lists.proofs.Tests.{ltb_elim}
use Rattle.edf.specs.Book.{Plan, Feed, Job, Book, Who, plans}
use Rattle.edf.specs.Pieces.{job_piece}
use Rattle.edf.specs.Owed.{by_then, due_by, owed_by, Room}
use Rattle.edf.specs.Order.{PlanInOrder, InOrder}
use Rattle.edf.specs.Step.{runner, serve, turn, step_by, step, Edf}
use Rattle.edf.specs.Fits.{Fits}
use Rattle.edf.specs.Calls.{taking, ending, resting, Askable}
use Rattle.edf.specs.Reordered.{Reordered}
use Rattle.edf.specs.Load.{stretch, opened, Sound}
use Rattle.edf.specs.Share.{later_of, at_share, deadline_at, LeavesShare, ShareFree}
use Rattle.edf.proofs.Loads.{a_round}
use Rattle.edf.proofs.Demand.{by_then_in, by_then_out}
use Rattle.edf.proofs.Tick.{owed_by_split, tick_owes}
use Rattle.edf.proofs.Runner.{runner_edf}
use Rattle.edf.proofs.Sound.{plans_in_order, step_owes}
use Rattle.edf.proofs.Opening.{opened_owes_little}
use Rattle.edf.proofs.Equality.{fits_iff_room}
use Rattle.edf.proofs.Calls.{taking_in_order, ending_owes, resting_owes}
use Rattle.edf.proofs.Reordered.{reordered_owed}

-- the later of two instants is no earlier than either
later_left : (s t : ℕ) → s ≤ later_of s t
later_left s t = ltb_elim (λ b. s ≤ cond b t s) s t (λ h. omega arith) (λ h. omega arith)

later_right : (s t : ℕ) → t ≤ later_of s t
later_right s t = ltb_elim (λ b. t ≤ cond b t s) s t (λ h. omega arith) (λ h. h)

later_mono : (s t u : ℕ) → s ≤ t → later_of s u ≤ later_of t u
later_mono s t u h = ltb_elim (λ b. cond b u s ≤ later_of t u) s u (λ k. later_right t u) (λ k. omega (arith, later_left t u))

-- at the share a job gets all its work in that time
pub share_is_enough : (p q work : ℕ) → 1 ≤ p → work * q ≤ p * at_share p q work
unfolding at_share
share_is_enough p q work h =
    let n = work * q + (p - 1) in
    omega (arith, div-add-mod' n p, mod-lt n {m = p} h)

-- no deadline of the rule is before the instant of its ask
pub deadline_ahead : (p q previous t work : ℕ) → t ≤ deadline_at p q previous t work
unfolding deadline_at
deadline_ahead p q previous t work = omega (arith, later_left t previous)

-- THE SHARE FREE IS ROOM
pub share_free_is_room : (p q previous : ℕ) (b : Book) → 1 ≤ q → ShareFree p q previous b → Room b
unfolding ShareFree Room
share_free_is_room p q previous b h s D k = le_of_mul-le-mul_left {k = q} (omega (arith, s D k)) h

-- an opening with feeds that leave the share free
pub opening_share_free : (p q t : ℕ) (fs : List Feed) → Each PlanInOrder (plans fs) → LeavesShare p q (plans fs) → ShareFree p q 0 (opened t fs)
unfolding ShareFree LeavesShare opened
opening_share_free p q t fs o l D h =
    omega (
      arith,
      mul-le-mul_left q (opened_owes_little t D fs o h),
      mul-le-mul_left p (less D (later_of t 0) t (later_left t 0)),
      l (D - t),
    )
  where
    less : (D m t : ℕ) → t ≤ m → D - m ≤ D - t
    less D m t h = omega arith

-- less owed leaves it free
module _ (p q previous : ℕ) (b c : Book) (clock : c.clock ≡ b.clock) (less : (D : ℕ) → owed_by c D ≤ owed_by b D) where
  pub less_share_free : ShareFree p q previous b → ShareFree p q previous c
  unfolding ShareFree
  less_share_free s D h =
      subst (λ t. q * owed_by c D + p * (D - later_of t previous) ≤ q * (D - t)) (sym clock)
      (omega (arith, mul-le-mul_left q (less D), s D (omega (arith, clock, h))))

-- AN END AND A REST
pub ending_share_free : (p q previous : ℕ) (b : Book) (n : ℕ) → ShareFree p q previous b → ShareFree p q previous (ending n b)
unfolding ending
ending_share_free p q previous b n = less_share_free p q previous b (ending n b) refl (ending_owes b n)

pub resting_share_free : (p q previous : ℕ) (b : Book) (k : ℕ) → ShareFree p q previous b → ShareFree p q previous (resting k b)
unfolding resting
resting_share_free p q previous b k = less_share_free p q previous b (resting k b) refl (resting_owes b k)

-- A STEP
module _ (p q previous : ℕ) (b : Book) (o : InOrder b) (l : LeavesShare p q (plans b.feeds)) (s : ShareFree p q previous b) where
  ticked : (g : Who) → Edf b g → (D : ℕ) → suc b.clock < D
      → q * owed_by (serve g b) D + p * (D - later_of (suc b.clock) previous) ≤ q * (D - suc b.clock)
  unfolding ShareFree LeavesShare
  ticked g e D h = go (tick_owes b g e (plans_in_order b o) D)
    where
      t : ℕ
      t = b.clock

      on : (D t : ℕ) → suc t < D → D - t ≡ (D - suc t) + 1
      on D t h = omega arith

      later : (D m n : ℕ) → m ≤ n → D - n ≤ D - m
      later D m n h = omega arith

      go : (owed_by (serve g b) D + 1 ≤ owed_by b D) ⊎ (owed_by (serve g b) D ≤ total (stretch (D - suc b.clock)) (plans b.feeds))
          → q * owed_by (serve g b) D + p * (D - later_of (suc b.clock) previous) ≤ q * (D - suc b.clock)
      go (inl k) =
          omega (
            arith,
            mul-le-mul_left q k,
            mul-le-mul_left p (later D (later_of b.clock previous) (later_of (suc b.clock) previous) (later_mono b.clock (suc b.clock) previous (omega arith))),
            s D (omega (arith, h)),
            ap (q *◌) (on D b.clock h),
          )
      go (inr k) =
          omega (
            arith,
            mul-le-mul_left q k,
            mul-le-mul_left p (later D (suc b.clock) (later_of (suc b.clock) previous) (later_left (suc b.clock) previous)),
            l (D - suc b.clock),
          )

  pub step_share_free : ShareFree p q previous (step b)
  unfolding ShareFree step step_by turn serve
  step_share_free D h =
      omega (arith, mul-le-mul_left q (step_owes b (runner b).who o D), ticked (runner b).who (runner_edf b) D h)

-- AN ASK BY THE RULE: the share is free from the new deadline on
module _ (p q previous number work : ℕ) (b : Book) (positive : 1 ≤ p) (s : ShareFree p q previous b) where
  abbrev asked : Job
  asked = record { number = number; owes = work; due = deadline_at p q previous b.clock work }

  owed_asked : (D : ℕ) → owed_by (taking asked b) D ≡ owed_by b D + by_then D (deadline_at p q previous b.clock work) work
  unfolding taking
  owed_asked D =
      omega (
        arith,
        owed_by_split (taking asked b) D,
        owed_by_split b D,
        total_append (λ k. due_by D (job_piece b.clock k)) b.jobs (asked ∷ []),
      )

  pub taking_share_free : ShareFree p q (deadline_at p q previous b.clock work) (taking (record { number = number; owes = work; due = deadline_at p q previous b.clock work }) b)
  unfolding ShareFree taking deadline_at
  taking_share_free D h = go (dec_le (m + a) D)
    where
      m : ℕ
      m = later_of b.clock previous

      a : ℕ
      a = at_share p q work

      later : (D m n : ℕ) → m ≤ n → D - n ≤ D - m
      later D m n k = omega arith

      parts : (D m a : ℕ) → m + a ≤ D → D - m ≡ a + (D - (m + a))
      parts D m a k = omega arith

      go : Dec (m + a ≤ D) → q * owed_by (taking asked b) D + p * (D - later_of b.clock (m + a)) ≤ q * (D - b.clock)
      go (yes k) =
          omega (
            arith,
            ap (q *◌) (owed_asked D ∙ ap (owed_by b D +◌) (by_then_in D (m + a) work k)),
            share_is_enough p q work positive,
            mul-le-mul_left p (later D (m + a) (later_of b.clock (m + a)) (later_right b.clock (m + a))),
            ap (p *◌) (parts D m a k),
            s D h,
          )
      go (no k) =
          let none : D - later_of b.clock (m + a) ≡ 0 = omega (arith, later_right b.clock (m + a), k) in
          omega (arith, ap (q *◌) (owed_asked D ∙ ap (owed_by b D +◌) (by_then_out D (m + a) work (omega (arith, k)))), ap (p *◌) none, s D h)

-- FEEDS THAT LEAVE THE SHARE FREE, by their round: pieces due at their period's end, and beside them the share is at most all
module _ (p q R : ℕ) (ps : List Plan) (positive : 1 ≤ R) (whole : Each (λ x. (1 ≤ x.period) × (x.lead ≡ x.period)) ps) (common : Each (λ x. x.period ∣ R) ps) where
  in_proportion : (L : ℕ) (x : Plan) → ((1 ≤ x.period) × (x.lead ≡ x.period)) × (x.period ∣ R) → stretch L x * R ≤ a_round R x * L
  in_proportion L x h =
      let T = x.period in
      let n : L + T - x.lead ≡ L = omega (arith, h.0.1) in
      let pieces : T * (L / T) ≤ L = mul-div-le L T in
      let r : T * (R / T) ≡ R = mul-div_cancel' T h.1 in
      let each : (L / T) * R ≤ (R / T) * L = omega (arith, mul-le-mul_left (R / T) pieces, ap ((L / T) *◌) (sym r)) in
      omega (arith, mul-le-mul_left x.work each, ap (λ k. x.work * (k / T) * R) n)

  pub round_leaves_share : q * total (a_round R) ps + p * R ≤ q * R → LeavesShare p q ps
  unfolding LeavesShare
  round_leaves_share h L =
      let all = total_le (λ x. ((1 ≤ x.period) × (x.lead ≡ x.period)) × (x.period ∣ R)) (λ x. stretch L x * R) (λ x. a_round R x * L) (in_proportion L) ps
      (each_both (λ x. (1 ≤ x.period) × (x.lead ≡ x.period)) (λ x. x.period ∣ R) ps whole common) in
      let sums : total (stretch L) ps * R ≤ total (a_round R) ps * L = omega (arith, all, total_scale (stretch L) R ps, total_scale (a_round R) L ps) in
      le_of_mul-le-mul_left {k = R} (omega (arith, mul-le-mul_left q sums, mul-le-mul_left L h)) positive

-- the order of the jobs is not seen
pub reordered_share_free : (p q previous : ℕ) (b c : Book) → Reordered b c → ShareFree p q previous b → ShareFree p q previous c
reordered_share_free p q previous b c r = less_share_free p q previous b c (sym r.clock) (λ D. omega (arith, reordered_owed b c r D))

-- A JOB BY THE RULE FITS, as long as the share is free
pub job_by_the_rule_fits : (p q previous : ℕ) (b : Book) (j : Job) → 1 ≤ p → 1 ≤ q → Sound b → Askable b j → j.due ≡ deadline_at p q previous b.clock j.owes
    → ShareFree p q previous b → Fits (taking j b)
unfolding taking
job_by_the_rule_fits p q previous b j h k s a e f =
    (fits_iff_room (taking j b) (taking_in_order b j s.order a) s.light).1
    (share_free_is_room p q (deadline_at p q previous b.clock j.owes) (taking j b) k
    (subst (λ d. ShareFree p q (deadline_at p q previous b.clock j.owes) (taking (record { number = j.number; owes = j.owes; due = d }) b)) (sym e)
    (taking_share_free p q previous j.number j.owes b h f)))
