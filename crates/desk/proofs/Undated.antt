-- An ask with no date: stopped by line 13, 1 or 19, or an ordinary ask whose yes is remembered.
use mathlib.Core.Path.{◌≡◌, refl, sym, ap, ◌∙◌}
use mathlib.Core.Bool.{true, false, false≢true}
use mathlib.Core.List.{[]}
use Prim.Native.Nat.{ℕ, ◌+◌}
use native.Mathlib.Omega.{arith}
use borrow.Author.Tests.{not-false}
use Rattle.ticks.specs.declared.Instant.{Instant}
use Rattle.ticks.specs.Ticks.{instant}
use Rattle.shares.specs.Shares.{is_share}
use Rattle.edf.proofs.Share.{deadline_ahead}
use Rattle.answers.specs.declared.Refusal.{Refusal}
use Rattle.answers.specs.Verdicts.{Verdict}
use Rattle.std.specs.Prelude.{Ok, Err}
use Rattle.answers.specs.Answers.{first_of, is_yes, on_yes}
use Rattle.answers.proofs.Answers.{yes_first, yes_is_not_no, on_no}
use Rattle.desk.specs.declared.Desk.{Desk}
use Rattle.desk.specs.declared.Answer.{Answer}
use Rattle.desk.specs.State.{since}
use Rattle.desk.specs.Opening.{share_line}
use Rattle.desk.specs.Calls.{disorder}
use Rattle.desk.specs.Asking.{number_line, Asked}
use Rattle.desk.specs.Undated.{undated_lines, undated_deadline, undated_lead, remembering, AskedUndated}
use Rattle.desk.proofs.Asking.{asked_once}

-- the lead brings the clock to the deadline
pub undated_due : (d : Desk) (work : ℕ) → d.ledger.clock.0 + undated_lead d work ≡ undated_deadline d work
undated_due d work =
    omega (arith, deadline_ahead d.share.p d.share.q d.previous.0 d.ledger.clock.0 (work + d.ledger.charge.0))

-- a refusal is not remembered
pub refused_forgets : (t : Instant) (a : Answer) → is_yes a.verdict ≡ false → a ≡ remembering t a
refused_forgets t a n = λ i. record { desk = sym (on_no a.verdict (since t a.desk) a.desk n) i; verdict = a.verdict }

module _ (d : Desk) (number work : ℕ) where
  stopped : (x : Refusal) → first_of (undated_lines d number) ≡ Err x → AskedUndated d number work (record { desk = d; verdict = Err x })
  stopped x e =
      record {
        stopped = λ y f. λ i. record { desk = d; verdict = (sym e ∙ f) i };
        asked = λ f. absurd (yes_is_not_no x (sym f ∙ e));
      }

  -- an ask that line 13, 1 or 19 stops
  pub undated_stopped : (v : Verdict) → v ≡ first_of (undated_lines d number) → is_yes v ≡ false → AskedUndated d number work (record { desk = d; verdict = v })
  undated_stopped (Ok tt) e n = absurd (false≢true (sym n))
  undated_stopped (Err x) e n = stopped x (sym e)

  -- where none of them does, it is an ordinary ask
  pub undated_asked : (a : Answer) → first_of (undated_lines d number) ≡ Ok tt → Asked d number work (undated_lead d work) a
      → AskedUndated d number work (remembering (instant (undated_deadline d work)) a)
  undated_asked a e k = record { stopped = λ x f. absurd (yes_is_not_no x (sym e ∙ f)); asked = λ f. (a, k, refl) }

  -- an ask that no line of these stops finds a share
  pub undated_shared : first_of (undated_lines d number) ≡ Ok tt → is_share d.share ≡ true
  undated_shared e = not-false _ (yes_first (share_line d.share) [] (yes_first (number_line number) _ (yes_first (disorder d) _ e).1).1).0

  -- a yes: the ordinary ask said it, and it is remembered
  pub undated_yes : (r : Answer) → AskedUndated d number work r → r.verdict ≡ Ok tt
      → (a : Answer) × Asked d number work (undated_lead d work) a × (a.verdict ≡ Ok tt) × (r.desk ≡ since (instant (undated_deadline d work)) a.desk) × (is_share d.share ≡ true)
  undated_yes r k y = go (first_of (undated_lines d number)) refl
    where
      t : Instant
      t = instant (undated_deadline d work)

      go : (v : Verdict) → first_of (undated_lines d number) ≡ v
          → (a : Answer) × Asked d number work (undated_lead d work) a × (a.verdict ≡ Ok tt) × (r.desk ≡ since (instant (undated_deadline d work)) a.desk) × (is_share d.share ≡ true)
      go (Ok tt) e =
          let (a, b, c) = k.asked e in
          let said : a.verdict ≡ (Ok tt) = sym (ap (λ q. q.verdict) c) ∙ y in
          (a, b, said, ap (λ q. q.desk) c ∙ ap (λ v. on_yes v (since (instant (undated_deadline d work)) a.desk) a.desk) said, undated_shared e)
      go (Err x) e = absurd (yes_is_not_no x (sym y ∙ ap (λ q. q.verdict) (k.stopped x e)))

-- TWO OUTCOMES THAT THE CONTRACT ALLOWS ARE THE SAME
pub asked_undated_once : (d : Desk) (number work : ℕ) (q r : Answer) → AskedUndated d number work q → AskedUndated d number work r → q ≡ r
asked_undated_once d number work q r a b = go (first_of (undated_lines d number)) refl
  where
    go : (v : Verdict) → first_of (undated_lines d number) ≡ v → q ≡ r
    go (Ok tt) e =
        let (x, i, f) = a.asked e in
        let (y, j, g) = b.asked e in
        f ∙ ap (remembering (instant (undated_deadline d work))) (asked_once d number work (undated_lead d work) x y i j) ∙ sym g
    go (Err x) e = a.stopped x e ∙ sym (b.stopped x e)
