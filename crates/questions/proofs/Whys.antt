-- What is told of a request is one, and agrees with what an ask answers.
use mathlib.Core.Path.{◌≡◌, refl, sym, ap, ◌∙◌}
use mathlib.Core.Logic.{inl, inr}
use mathlib.Core.Bool.{false, false≢true}
use Prim.Native.Nat.{ℕ, ◌-◌, ◌≤◌, ◌<◌}
use native.Mathlib.Omega.{arith}
use Rattle.ticks.specs.Ticks.{ticks}
use Rattle.jobs.specs.declared.Job.{Job}
use Rattle.jobs.specs.Jobs.{table_of, live}
use Rattle.jobs.specs.Figures.{figured}
use Rattle.jobs.specs.Sorted.{insert}
use Rattle.edf.specs.Reordered.{Reordered}
use Rattle.edf.proofs.Reordered.{reordered_sym, reordered_fits, reordered_overbooked, reordered_tightest}
use Rattle.edf.specs.Fits.{Fits}
use Rattle.edf.specs.Owed.{owed_by}
use Rattle.edf.specs.Calls.{taking}
use Rattle.edf.specs.Margin.{FirstOverbooked, Tightest, Telling}
use Rattle.edf.proofs.Margin.{overbooked_no_room, overbooked_once, tightest_once, not_both}
use Rattle.ledger.specs.declared.Ledger.{Ledger}
use Rattle.ledger.specs.State.{Sized, moved}
use Rattle.ledger.specs.Books.{book_of}
use Rattle.reasons.specs.Reasons.{no_reason}
use Rattle.reasons.proofs.Fits.{overbooked_is_refused, tightest_is_taken}
use Rattle.answers.specs.declared.Refusal.{Refusal}
use Rattle.answers.specs.Verdicts.{Verdict}
use Rattle.std.specs.Prelude.{Ok, Err}
use Rattle.answers.specs.Answers.{first_of, is_yes}
use Rattle.answers.proofs.Answers.{yes_is_not_no}
use Rattle.desk.specs.declared.Desk.{Desk}
use Rattle.desk.specs.declared.Answer.{Answer}
use Rattle.desk.specs.Asking.{ask_lines, requested, with_job, Admissible, Judged, Asked}
use Rattle.desk.proofs.Asking.{admissible, taken_in_order, taken_book}
use Rattle.questions.specs.declared.Because.{Because}
use Rattle.questions.specs.Whys.{short_by, room_by, Decided, Told, Explained}

module _ (d : Desk) (number work lead : ℕ) where
  -- a request that a line stops is told that refusal
  pub stopped_explained : (x : Refusal) → first_of (ask_lines d number (ticks work) (ticks lead)) ≡ Err x
      → Explained d number work lead (record { verdict = Err x; reason = no_reason })
  stopped_explained x e =
      record {
        stopped = λ y f. λ i. record { verdict = (sym e ∙ f) i; reason = no_reason };
        told = λ f. absurd (yes_is_not_no x (sym f ∙ e));
      }

  -- the same told by the answer
  pub not_yes_explained : (v : Verdict) → v ≡ first_of (ask_lines d number (ticks work) (ticks lead)) → is_yes v ≡ false
      → Explained d number work lead (record { verdict = v; reason = no_reason })
  not_yes_explained (Ok tt) e n = absurd (false≢true (sym n))
  not_yes_explained (Err x) e n = stopped_explained x (sym e)

  -- one that none stops is told what decides it
  pub told_explained : (w : Because) → first_of (ask_lines d number (ticks work) (ticks lead)) ≡ Ok tt
      → Told d (requested d number work lead) w → Explained d number work lead w
  told_explained w e t = record { stopped = λ y f. absurd (yes_is_not_no y (sym e ∙ f)); told = λ f. t }

module _ (d : Desk) (j : Job) (D : ℕ) (t : Telling (with_job d j) D) where
  -- the instant is after the clock
  pub told_after : d.ledger.clock.0 < D
  unfolding taking
  told_after = go t
    where
      go : Telling (with_job d j) D → d.ledger.clock.0 < D
      go (inl p) = p.after
      go (inr p) = p.after

  -- more is owed by then than there is time
  pub short_told : (w : Because) → D - d.ledger.clock.0 < owed_by (with_job d j) D → w ≡ short_by d j D → Told d j w
  unfolding taking
  short_told w s e = go t
    where
      go : Telling (with_job d j) D → Told d j w
      go (inl p) = record { at = D; decided = inl (p, e) }
      go (inr p) = absurd (overbooked_no_room (with_job d j) D p.after (omega (arith, s, p.after)) p.room)

  -- there is time for it
  pub room_told : (w : Because) → owed_by (with_job d j) D ≤ D - d.ledger.clock.0 → w ≡ room_by d j D → Told d j w
  unfolding taking
  room_told w s e = go t
    where
      go : Telling (with_job d j) D → Told d j w
      go (inl p) = absurd (omega (arith, p.short, p.after, s))
      go (inr p) = record { at = D; decided = inr (p, e) }

-- TWO REASONS THAT THE CONTRACT ALLOWS ARE THE SAME
told_once : (d : Desk) (j : Job) (v w : Because) → Told d j v → Told d j w → v ≡ w
told_once d j v w a b = go a.decided b.decided
  where
    go : Decided d j v a.at → Decided d j w b.at → v ≡ w
    go (inl p) (inl q) = p.1 ∙ ap (short_by d j) (overbooked_once (with_job d j) a.at b.at p.0 q.0) ∙ sym q.1
    go (inl p) (inr q) = absurd (not_both (with_job d j) a.at b.at p.0 q.0)
    go (inr p) (inl q) = absurd (not_both (with_job d j) b.at a.at q.0 p.0)
    go (inr p) (inr q) = p.1 ∙ ap (room_by d j) (tightest_once (with_job d j) a.at b.at p.0 q.0) ∙ sym q.1

pub explained_once : (d : Desk) (number work lead : ℕ) (v w : Because) → Explained d number work lead v → Explained d number work lead w → v ≡ w
explained_once d number work lead v w a b = go (first_of (ask_lines d number (ticks work) (ticks lead))) refl
  where
    go : (u : Verdict) → first_of (ask_lines d number (ticks work) (ticks lead)) ≡ u → v ≡ w
    go (Ok tt) e = told_once d (requested d number work lead) v w (a.told e) (b.told e)
    go (Err x) e = a.stopped x e ∙ sym (b.stopped x e)

-- the instant that decides the book with the job says whether it fits
module _ (d : Desk) (j : Job) (a : Admissible d j) where
  abbrev all : Ledger
  all = moved d.ledger d.ledger.clock d.ledger.feeds (table_of (figured (insert j (live d.ledger.table))))

  same : Reordered (with_job d j) (book_of all)
  same = taken_book d j a all.table refl

  short_does_not_fit : (D : ℕ) → FirstOverbooked (with_job d j) D → Fits (with_job d j) → ⊥
  short_does_not_fit D p f = overbooked_is_refused all D (taken_in_order d j a all.table refl) (reordered_overbooked _ _ same D p) (reordered_fits _ _ same f)

  room_fits : (D : ℕ) → Tightest (with_job d j) D → Fits (with_job d j)
  room_fits D p = reordered_fits _ _ (reordered_sym _ _ same) (tightest_is_taken all D (taken_in_order d j a all.table refl) (reordered_tightest _ _ same D p))

-- WHAT IS TOLD IS WHAT AN ASK ANSWERS
pub why_agrees_with_ask : (d : Desk) (number work lead : ℕ) (w : Because) (r : Answer) → Sized d.ledger → Explained d number work lead w → Asked d number work lead r
    → w.verdict ≡ r.verdict
unfolding Judged
why_agrees_with_ask d number work lead w r s a b = go (first_of (ask_lines d number (ticks work) (ticks lead))) refl
  where
    j : Job
    j = requested d number work lead

    judge : Admissible d j → (D : ℕ) → Decided d j w D → Judged d j r → w.verdict ≡ r.verdict
    judge m D (inl p) (inl f) = absurd (short_does_not_fit d j m D p.0 f.0)
    judge m D (inl p) (inr f) = ap (λ x. x.verdict) p.1 ∙ ap (λ x. x.verdict) (sym f.1)
    judge m D (inr p) (inl f) = ap (λ x. x.verdict) p.1 ∙ ap (λ x. x.verdict) (sym f.1)
    judge m D (inr p) (inr f) = absurd (f.0 (room_fits d j m D p.0))

    go : (v : Verdict) → first_of (ask_lines d number (ticks work) (ticks lead)) ≡ v → w.verdict ≡ r.verdict
    go (Ok tt) e = judge (admissible d number work lead s e) (a.told e).at (a.told e).decided (b.judged e)
    go (Err x) e = ap (λ x. x.verdict) (a.stopped x e) ∙ ap (λ x. x.verdict) (sym (b.stopped x e))
