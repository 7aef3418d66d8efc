-- Laws of the next instant at which something is due: up to it what is owed stays as it is.
use mathlib.Core.Path.{◌≡◌, sym, ap, ◌∙◌}
use mathlib.Core.Bool.{cond}
use mathlib.Core.List.{List, [], ◌∷◌}
use Prim.Native.Nat.{ℕ, ◌+◌, ◌-◌, ◌%◌, ◌≤◌, ◌<◌}
use native.Mathlib.Nat.{le_refl, mod-lt}
use native.Mathlib.Omega.{arith}
use Rattle.lists.specs.Lists.{total}
use Rattle.lists.proofs.Tests.{ltb_elim}
use Rattle.ticks.specs.declared.Instant.{Instant}
use Rattle.ticks.specs.Ticks.{earlier_of}
use Rattle.ticks.specs.declared.Length.{Length}
use Rattle.plans.specs.Plans.{since}
use Rattle.feeds.specs.declared.Feed.{Feed}
use Rattle.feeds.specs.Feeds.{FeedIn}
use Rattle.jobs.specs.declared.Job.{Job}
use Rattle.jobs.proofs.Figures.{owes_by_in, owes_by_out}
use Rattle.jobs.specs.Figures.{owes_by}
use Rattle.room.specs.Owed.{feed_owes}
use Rattle.room.proofs.Owed.{feed_still_before, feed_still_from}
use Rattle.reasons.specs.Until.{Until}

-- what stays as it is up to one instant stays so up to the earlier of it and another
pub until_cut : (owed : ℕ → ℕ) (by : ℕ) (x till : Instant) → by < x.0 → by < till.0 → ((E : ℕ) → by ≤ E → E < x.0 → owed E ≡ owed by)
    → Until owed by till.0 (earlier_of x till).0
until_cut owed by x till h k s =
    ltb_elim (λ b. Until owed by till.0 (cond b till x).0) till.0 x.0
    (λ l. record { after = k; within = le_refl till.0; still = λ E p q. s E p (omega arith) })
    (λ l. record { after = h; within = l; still = s })

-- two debts that stay as they are, together
pub until_both : (f g owed : ℕ → ℕ) (by till m r : ℕ) → ((D : ℕ) → f D + g D ≡ owed D) → Until f by till m → Until g by m r → Until owed by till r
until_both f g owed by till m r e u v =
    record {
      after = v.after;
      within = omega (arith, u.within, v.within);
      still = λ E h k. omega (arith, e E, e by, u.still E h (omega (arith, v.within)), v.still E h k);
    }

-- a job past its deadline owes what it owes
pub job_still_past : (j : Job) (by : ℕ) → j.deadline.0 ≤ by → (E : ℕ) → by ≤ E → owes_by E j ≡ owes_by by j
job_still_past j by h E k = owes_by_in E j (omega arith) ∙ sym (owes_by_in by j h)

-- and nothing before it
pub job_still_before : (j : Job) (by : ℕ) → (E : ℕ) → by ≤ E → E < j.deadline.0 → owes_by E j ≡ owes_by by j
job_still_before j by E k h =
    owes_by_out E j h ∙ sym (owes_by_out by j (omega arith))

-- so up to the earlier of its deadline and another instant it owes what it owes
pub job_until_due : (j : Job) (by : ℕ) (till : Instant) → by < j.deadline.0 → by < till.0 → Until (λ D. owes_by D j) by till.0 (earlier_of j.deadline till).0
job_until_due j by till h k = until_cut (λ D. owes_by D j) by j.deadline till h k (job_still_before j by)

-- and past it from then on
pub job_until_end : (j : Job) (by till : ℕ) → j.deadline.0 ≤ by → by < till → Until (λ D. owes_by D j) by till till
job_until_end j by till h k = record { after = k; within = le_refl till; still = λ E p q. job_still_past j by h E p }

-- before its current piece is due a feed owes what it owes up to that deadline
pub feed_until_first : (c : Length) (t by : ℕ) (f : Feed) (x till : Instant)
    → by + since f.plan t < t + f.plan.lead.0 → x.0 + since f.plan t ≡ t + f.plan.lead.0 → by < till.0
    → Until (λ D. feed_owes c t D f) by till.0 (earlier_of x till).0
feed_until_first c t by f x till early first k =
    until_cut (λ D. feed_owes c t D f) by x till (omega arith) k (λ E h l. feed_still_before c t by f E h (omega arith))

-- from then on up to the end of the period that has begun
pub feed_until_next : (c : Length) (t by : ℕ) (f : Feed) (x till : Instant) → FeedIn f
    → t + f.plan.lead.0 ≤ by + since f.plan t
    → x.0 ≡ by + (f.plan.period.0 - (by + since f.plan t - (t + f.plan.lead.0)) % f.plan.period.0) → by < till.0
    → Until (λ D. feed_owes c t D f) by till.0 (earlier_of x till).0
feed_until_next c t by f x till fits come next k =
    let gone = by + since f.plan t - (t + f.plan.lead.0) in
    until_cut (λ D. feed_owes c t D f) by x till (omega (arith, mod-lt gone fits.period.0)) k
    (λ E h l. feed_still_from c t by f fits come E h (omega arith))

module _ {A : Type 0} (f : ℕ → A → ℕ) (by : ℕ) (xs : List A) where
  -- up to `next` what xs owe stays as it is, but for those that are left to look at
  abbrev pub StillBut : ℕ → List A → Type 0
  StillBut next left =
      (E : ℕ) → by ≤ E → E < next → total (f E) xs + total (f by) left ≡ total (f by) xs + total (f E) left

  pub still_first : (next : ℕ) → StillBut next xs
  still_first next E h k = omega arith

  pub still_next : (next r : ℕ) (left : List A) (x : A) (rest : List A) → left ≡ x ∷ rest → StillBut next left → Until (λ D. f D x) by next r → StillBut r rest
  still_next next r left x rest e s u E h k =
      omega (
        arith,
        s E h (omega (arith, u.within)),
        u.still E h k,
        ap (total (f E)) e,
        ap (total (f by)) e,
      )

  pub still_last : (next till : ℕ) (left : List A) → left ≡ [] → StillBut next left → by < next → next ≤ till → Until (λ D. total (f D) xs) by till next
  still_last next till left e s h k =
      record {
        after = h;
        within = k;
        still = λ E p q. omega (arith, s E p q, ap (total (f E)) e, ap (total (f by)) e);
      }
