-- What a customer is told: a 6 comes with a margin below zero that makes, with the three parts, the time until the instant;
-- a yes comes with the smallest margin, which is not below zero.
use mathlib.Core.Path.{◌≡◌, refl, sym, ap, ◌∙◌, subst}
use mathlib.Core.Logic.{inl, inr}
use mathlib.Core.Bool.{Bool, true, false, not, cond}
use mathlib.Core.List.{List, [], ◌∷◌, map}
use Prim.Native.Nat.{ℕ, ◌+◌, ◌-◌, ◌<◌}
use native.Mathlib.Omega.{arith}
use lib.Dec.{eqb}
use lib.IntN.{pos, ◌+ℤ◌, +ℤ_comm, -ℤ-+ℤ_cancel}
use lib.Signed.{◌≤ℤ◌, ◌<ℤ◌}
use borrow.Author.Tests.{not-true, eqb-false}
use Rattle.lists.specs.Lists.{all_of}
use Rattle.lists.proofs.Tests.{both}
use Rattle.ticks.specs.Ticks.{ticks}
use Rattle.jobs.specs.declared.Job.{Job}
use Rattle.edf.specs.Owed.{owed_by, Room}
use Rattle.edf.specs.Calls.{taking}
use Rattle.edf.specs.Margin.{margin, Overbooked, FirstOverbooked, Tightest}
use Rattle.edf.proofs.Signed.{difference_le}
use Rattle.edf.proofs.Margin.{overbooked_below_zero, no_larger_is, smaller_is}
use Rattle.answers.specs.declared.Refusal.{Refusal}
use Rattle.answers.specs.declared.Refusal.TheVariants.{DoesNotFit}
use Rattle.answers.specs.Verdicts.{Verdict}
use Rattle.std.specs.Prelude.{Ok, Err}
use Rattle.answers.specs.Answers.{Line, number_of, answer_of, first_of}
use Rattle.answers.proofs.Answers.{yes_is_not_no}
use Rattle.reasons.proofs.Parts.{parts_make_owed}
use Rattle.desk.specs.declared.Desk.{Desk}
use Rattle.desk.specs.Asking.{ask_lines, requested, with_job}
use Rattle.questions.specs.declared.Because.{Because}
use Rattle.questions.specs.Whys.{told_of, Decided, Explained}

-- a number that none of the lines has is not their answer
not_among : (x : Refusal) (ls : List Line) → all_of (map (λ l. not (eqb (number_of l.refusal) (number_of x))) ls) ≡ true → first_of ls ≡ Err x → ⊥
unfolding first_of all_of
not_among x [] h e = yes_is_not_no x e
not_among x (l ∷ ls) h e =
    let t = both (not (eqb (number_of l.refusal) (number_of x))) (all_of (map (λ m. not (eqb (number_of m.refusal) (number_of x))) ls)) h in
    go l.holds t.0 (not_among x ls t.1) e
  where
    go : (b : Bool) → not (eqb (number_of l.refusal) (number_of x)) ≡ true → (first_of ls ≡ Err x → ⊥) → cond b (Err l.refusal) (first_of ls) ≡ Err x → ⊥
    go true h ih e = eqb-false _ _ (not-true _ h) (ap answer_of e)
    go false h ih e = ih e

-- lines 13 and 1 to 5 are none of them 6
no_line_is_six : (d : Desk) (number work lead : ℕ) → first_of (ask_lines d number (ticks work) (ticks lead)) ≡ Err DoesNotFit → ⊥
unfolding all_of
no_line_is_six d number work lead = not_among DoesNotFit (ask_lines d number (ticks work) (ticks lead)) refl

-- told of the earliest overbooked instant
abbrev pub ShortTold : Desk → Job → Because → Type 0
ShortTold d j w = FirstOverbooked (with_job d j) w.reason.at.0 × (w.reason ≡ told_of d j w.reason.at.0)

-- told of the earliest instant that has the smallest margin
abbrev pub RoomTold : Desk → Job → Because → Type 0
RoomTold d j w = Tightest (with_job d j) w.reason.at.0 × (w.reason.margin ≡ margin (with_job d j) w.reason.at.0)

module _ (d : Desk) (number work lead : ℕ) (w : Because) (x : Explained d number work lead w) where
  abbrev j : Job
  j = requested d number work lead

  pub six_told : w.verdict ≡ Err DoesNotFit → ShortTold d j w
  six_told six = go (first_of (ask_lines d number (ticks work) (ticks lead))) refl
    where
      by : (D : ℕ) → Decided d j w D → ShortTold d j w
      by D (inl p) = subst (ShortTold d j) (sym p.1) (p.0, refl)
      by D (inr p) = absurd (yes_is_not_no DoesNotFit (sym (ap (λ v. v.verdict) p.1) ∙ six))

      go : (v : Verdict) → first_of (ask_lines d number (ticks work) (ticks lead)) ≡ v → ShortTold d j w
      go (Ok tt) e = by (x.told e).at (x.told e).decided
      go (Err y) e = absurd (no_line_is_six d number work lead (e ∙ sym (ap (λ v. v.verdict) (x.stopped y e)) ∙ six))

  pub yes_told : w.verdict ≡ Ok tt → RoomTold d j w
  yes_told fits = go (first_of (ask_lines d number (ticks work) (ticks lead))) refl
    where
      by : (D : ℕ) → Decided d j w D → RoomTold d j w
      by D (inl p) = absurd (yes_is_not_no DoesNotFit (sym fits ∙ ap (λ v. v.verdict) p.1))
      by D (inr p) = subst (RoomTold d j) (sym p.1) (p.0, refl)

      go : (v : Verdict) → first_of (ask_lines d number (ticks work) (ticks lead)) ≡ v → RoomTold d j w
      go (Ok tt) e = by (x.told e).at (x.told e).decided
      go (Err y) e = absurd (yes_is_not_no y (sym fits ∙ ap (λ v. v.verdict) (x.stopped y e)))

  pub a_six_has_a_margin_below_zero : w.verdict ≡ Err DoesNotFit → w.reason.margin <ℤ pos 0
  a_six_has_a_margin_below_zero six =
      let t = six_told six in
      subst (λ r. r.margin <ℤ pos 0) (sym t.1) ((overbooked_below_zero (with_job d j) w.reason.at.0 t.0.after).0 t.0.short)

  pub parts_and_margin_make_the_time : w.verdict ≡ Err DoesNotFit
      → pos (w.reason.jobs.0 + w.reason.feeds.0 + w.reason.job.0) +ℤ w.reason.margin ≡ pos (w.reason.at.0 - d.ledger.clock.0)
  unfolding margin taking
  parts_and_margin_make_the_time six =
      let D = w.reason.at.0 in
      subst (λ r. pos (r.jobs.0 + r.feeds.0 + r.job.0) +ℤ r.margin ≡ pos (D - d.ledger.clock.0)) (sym (six_told six).1)
      (ap (λ n. pos n +ℤ margin (with_job d j) D) (parts_make_owed d.ledger j D)
      ∙ +ℤ_comm (pos (owed_by (with_job d j) D)) (margin (with_job d j) D)
      ∙ -ℤ-+ℤ_cancel (pos (D - d.ledger.clock.0)) (pos (owed_by (with_job d j) D)))

  pub no_earlier_instant_is_overbooked : w.verdict ≡ Err DoesNotFit → (E : ℕ) → d.ledger.clock.0 < E → E < w.reason.at.0 → Overbooked (with_job d j) E → ⊥
  unfolding taking
  no_earlier_instant_is_overbooked six E h l o = omega (arith, (six_told six).0.before E h l, o)

  pub a_yes_has_a_margin_not_below_zero : w.verdict ≡ Ok tt → pos 0 ≤ℤ w.reason.margin
  unfolding margin Room
  a_yes_has_a_margin_not_below_zero fits =
      let t = yes_told fits in
      let D = w.reason.at.0 in
      subst (pos 0 ≤ℤ◌) (sym t.1) ((difference_le 0 0 (D - (with_job d j).clock) (owed_by (with_job d j) D)).0 (omega (arith, t.0.room D t.0.after)))

  pub no_instant_has_a_smaller_margin : w.verdict ≡ Ok tt → (E : ℕ) → d.ledger.clock.0 < E → w.reason.margin ≤ℤ margin (with_job d j) E
  unfolding taking
  no_instant_has_a_smaller_margin fits E h =
      let t = yes_told fits in
      subst (◌≤ℤ margin (with_job d j) E) (sym t.1) ((no_larger_is (with_job d j) w.reason.at.0 E t.0.after h).0 (t.0.least E h))

  pub each_earlier_instant_has_a_larger_margin : w.verdict ≡ Ok tt → (E : ℕ) → d.ledger.clock.0 < E → E < w.reason.at.0 → w.reason.margin <ℤ margin (with_job d j) E
  unfolding taking
  each_earlier_instant_has_a_larger_margin fits E h l =
      let t = yes_told fits in
      subst (◌<ℤ margin (with_job d j) E) (sym t.1) ((smaller_is (with_job d j) w.reason.at.0 E t.0.after h).0 (t.0.first E h l))
