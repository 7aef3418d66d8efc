-- Every call on a good desk hands back a good desk; one that says yes is its call of the mathematics.
use mathlib.Core.Path.{◌≡◌, refl, sym, ap, ◌∙◌, subst}
use mathlib.Core.Logic.{inl, inr}
use mathlib.Core.Bool.{true}
use mathlib.Core.List.{List, []}
use Prim.Native.Nat.{ℕ}
use native.Mathlib.Omega.{arith}
use borrow.Author.Tests.{not-false, ltb-true}
use Rattle.ticks.specs.Ticks.{ticks, instant}
use Rattle.feeds.specs.Lines.{feeds_in}
use Rattle.feeds.proofs.Lent.{nothing_yet}
use Rattle.edf.specs.Book.{Book}
use Rattle.edf.specs.Step.{step}
use Rattle.edf.specs.Fits.{Fits}
use Rattle.edf.specs.Calls.{ending, resting}
use Rattle.edf.specs.Load.{Sound}
use Rattle.edf.proofs.Sound.{step_is_sound}
use Rattle.edf.proofs.Calls.{taking_is_sound, ending_is_sound, resting_is_sound}
use Rattle.answers.specs.declared.Refusal.{Refusal}
use Rattle.answers.specs.Verdicts.{Verdict}
use Rattle.std.specs.Prelude.{Ok, Err}
use Rattle.answers.specs.Answers.{first_of, on_yes}
use Rattle.answers.proofs.Answers.{yes_first, yes_is_not_no}
use Rattle.serving.specs.Tick.{last_line}
use Rattle.jobs.specs.declared.Job.{Job}
use Rattle.ledger.specs.Books.{book_job, Held, InTableOrder}
use Rattle.edf.specs.Reordered.{Reordered}
use Rattle.ledger.proofs.Books.{book_of_rewritten, book_of_rewritten_own, book_in_table_order}
use Rattle.desk.specs.declared.Desk.{Desk}
use Rattle.desk.specs.declared.Answer.{Answer}
use Rattle.desk.specs.State.{empty, book, rewritten, sharing, since, Good}
use Rattle.desk.specs.Opening.{open_lines, shared_lines, opened_desk, opened_of, opened_shared_of}
use Rattle.desk.specs.Calls.{disorder, step_lines, step_of, end_lines, end_of, rest_lines, rest_of}
use Rattle.desk.specs.Asking.{ask_lines, requested, with_job, Admissible, Judged, Asked}
use Rattle.desk.specs.Undated.{undated_lines, undated_deadline, undated_lead, AskedUndated}
use Rattle.shares.specs.declared.Share.{Share}
use Rattle.shares.specs.Shares.{share, share_in}
use Rattle.shares.proofs.Shares.{share_in_lem}
use Rattle.desk.proofs.InOrder.{in_order_made}
use Rattle.desk.proofs.Opening.{opening_passes, shared_passes}
use Rattle.desk.proofs.Asking.{admissible, said_yes}
use Rattle.desk.proofs.Undated.{undated_due, undated_yes}
use Rattle.desk.proofs.Reachable.{
  good_rewritten,
  good_order,
  good_beside,
  good_held,
  held_step,
  held_ending,
  held_resting,
  admissible_askable,
  held_taking,
  opened_is_good,
  empty_is_good,
  step_in_table_order,
  ending_in_table_order,
  resting_in_table_order,
}

-- what is handed back by an answer is good on a yes and on a refusal
either : (v : Verdict) (new old : Desk) → Good old → (v ≡ Ok tt → Good new) → Good (on_yes v new old)
either (Ok tt) new old g h = h refl
either (Err x) new old g h = g

-- AN OPENING; a refused one hands back the empty state
pub opening_is_good : (xs : List ℕ) (start charge : ℕ) → Good (opened_of xs start charge).desk
unfolding opened_of
opening_is_good xs start charge =
    either (first_of (open_lines xs start charge)) (opened_desk (feeds_in xs) (ticks charge) (instant start)) empty empty_is_good
    (λ e.
    let t = opening_passes xs start charge e in
    opened_is_good (feeds_in xs) (ticks charge) (instant start) t.0 (nothing_yet xs) t.1 t.2)

-- a desk that has a share stays good
sharing_is_good : (d : Desk) (s : Share) → share_in s ≡ true → Good d → Good (sharing s d)
sharing_is_good d s h g =
    let k = good_beside d g in
    record { sized = g.sized; order = in_order_made (sharing s d) (record { share = h; previous = k.previous }) (good_order d g); sound = g.sound }

-- THE OPENING THAT CARRIES A SHARE
pub shared_opening_is_good : (xs : List ℕ) (start charge p q : ℕ) → Good (opened_shared_of xs start charge p q).desk
unfolding opened_shared_of
shared_opening_is_good xs start charge p q =
    either (first_of (shared_lines xs start charge p q)) (sharing (share p q) (opened_desk (feeds_in xs) (ticks charge) (instant start))) empty empty_is_good
    (λ e.
    let t = shared_passes xs start charge p q e in
    sharing_is_good (opened_desk (feeds_in xs) (ticks charge) (instant start)) (share p q) (share_in_lem (share p q) t.0)
    (opened_is_good (feeds_in xs) (ticks charge) (instant start) t.1 (nothing_yet xs) t.2 t.3))

module _ (d : Desk) (g : Good d) where
  -- a sound book that the state can hold, written into it
  written : (b : Book) → Sound b → Held d.ledger b → Good (rewritten d b)
  written b s h = let k = good_beside d g in good_rewritten d.ledger b (good_order d g) h (rewritten d b) refl (record { share = k.share; previous = k.previous }) s

  -- the desk that a yes hands back is read as the book that was written into it
  read : (b : Book) (v : Verdict) → Held d.ledger b → InTableOrder b → v ≡ Ok tt → book (on_yes v (rewritten d b) d) ≡ b
  read b v h o e = ap (λ w. book (on_yes w (rewritten d b) d)) e ∙ book_of_rewritten_own d.ledger b h.feeds o

  stands : InTableOrder (book d)
  stands = book_in_table_order d.ledger (good_order d g)

  -- A STEP
  stepped : Sound (step (book d))
  stepped = step_is_sound (book d) g.sound

  step_held : first_of (step_lines d) ≡ Ok tt → Held d.ledger (step (book d))
  step_held e =
      let last = yes_first (last_line d.ledger) [] (yes_first (disorder d) _ e).1 in
      held_step d.ledger (book d) (good_held d g) stepped (ltb-true _ _ (not-false _ last.0))

  pub step_is_good : Good (step_of d).desk
  unfolding step_of
  step_is_good = either (first_of (step_lines d)) (rewritten d (step (book d))) d g (λ e. written (step (book d)) stepped (step_held e))

  pub step_book : first_of (step_lines d) ≡ Ok tt → book (step_of d).desk ≡ step (book d)
  unfolding step_of
  step_book e = read (step (book d)) (first_of (step_lines d)) (step_held e) (step_in_table_order (book d) stands) e

  -- AN END
  ended : (n : ℕ) → Sound (ending n (book d))
  ended n = ending_is_sound (book d) n g.sound

  end_held : (n : ℕ) → Held d.ledger (ending n (book d))
  end_held n = held_ending d.ledger (book d) (good_held d g) n (ended n)

  pub end_is_good : (n : ℕ) → Good (end_of d n).desk
  unfolding end_of
  end_is_good n = either (first_of (end_lines d n)) (rewritten d (ending n (book d))) d g (λ e. written (ending n (book d)) (ended n) (end_held n))

  pub end_book : (n : ℕ) → first_of (end_lines d n) ≡ Ok tt → book (end_of d n).desk ≡ ending n (book d)
  unfolding end_of
  end_book n e = read (ending n (book d)) (first_of (end_lines d n)) (end_held n) (ending_in_table_order (book d) n stands) e

  -- A REST
  rested : (p : ℕ) → Sound (resting p (book d))
  rested p = resting_is_sound (book d) p g.sound

  rest_held : (p : ℕ) → Held d.ledger (resting p (book d))
  rest_held p = held_resting d.ledger (book d) (good_held d g) p (rested p)

  pub rest_is_good : (p : ℕ) → Good (rest_of d p).desk
  unfolding rest_of
  rest_is_good p = either (first_of (rest_lines d p)) (rewritten d (resting p (book d))) d g (λ e. written (resting p (book d)) (rested p) (rest_held p))

  pub rest_book : (p : ℕ) → first_of (rest_lines d p) ≡ Ok tt → book (rest_of d p).desk ≡ resting p (book d)
  unfolding rest_of
  rest_book p e = read (resting p (book d)) (first_of (rest_lines d p)) (rest_held p) (resting_in_table_order (book d) p stands) e

  -- AN ASK
  taken : (j : Job) → Admissible d j → Fits (with_job d j) → Sound (with_job d j)
  taken j a f = taking_is_sound (book d) (book_job j) g.sound (admissible_askable d j a) f

  take_held : (j : Job) → Admissible d j → Fits (with_job d j) → Held d.ledger (with_job d j)
  take_held j a f = held_taking d j (good_held d g) (taken j a f) a

  judged_is_good : (j : Job) (r : Answer) → Admissible d j → Judged d j r → Good r.desk
  unfolding Judged
  judged_is_good j r a (inl y) = subst (λ x. Good x.desk) (sym y.1) (written (with_job d j) (taken j a y.0) (take_held j a y.0))
  judged_is_good j r a (inr n) = subst (λ x. Good x.desk) (sym n.1) g

  judged_book : (j : Job) (r : Answer) → Admissible d j → Judged d j r → r.verdict ≡ Ok tt → Reordered (with_job d j) (book r.desk)
  unfolding Judged
  judged_book j r a (inl y) e = subst (λ x. Reordered (with_job d j) (book x.desk)) (sym y.1) (book_of_rewritten d.ledger (with_job d j) (take_held j a y.0).feeds)
  judged_book j r a (inr n) e = absurd (yes_is_not_no _ (sym e ∙ ap (λ x. x.verdict) n.1))

module _ (d : Desk) (g : Good d) (number work lead : ℕ) (r : Answer) (a : Asked d number work lead r) where
  pub ask_is_good : Good r.desk
  ask_is_good = go (first_of (ask_lines d number (ticks work) (ticks lead))) refl
    where
      go : (v : Verdict) → first_of (ask_lines d number (ticks work) (ticks lead)) ≡ v → Good r.desk
      go (Ok tt) e = judged_is_good d g (requested d number work lead) r (admissible d number work lead g.sized e) (a.judged e)
      go (Err x) e = subst (λ k. Good k.desk) (sym (a.stopped x e)) g

  pub ask_book : r.verdict ≡ Ok tt → Reordered (with_job d (requested d number work lead)) (book r.desk)
  ask_book y =
      let e = said_yes d number work lead r a y in
      judged_book d g (requested d number work lead) r (admissible d number work lead g.sized e) (a.judged e) y

-- a refused one hands back the state as it was, on any desk
judged_refused : (d : Desk) (j : Job) (r : Answer) (x : Refusal) → Judged d j r → r.verdict ≡ Err x → r.desk ≡ d
unfolding Judged
judged_refused d j r x (inl y) e = absurd (yes_is_not_no x (sym (ap (λ a. a.verdict) y.1) ∙ e))
judged_refused d j r x (inr n) e = ap (λ a. a.desk) n.1

pub ask_refused : (d : Desk) (number work lead : ℕ) (r : Answer) → Asked d number work lead r → (x : Refusal) → r.verdict ≡ Err x → r.desk ≡ d
ask_refused d number work lead r a x n = go (first_of (ask_lines d number (ticks work) (ticks lead))) refl
  where
    go : (v : Verdict) → first_of (ask_lines d number (ticks work) (ticks lead)) ≡ v → r.desk ≡ d
    go (Ok tt) e = judged_refused d (requested d number work lead) r x (a.judged e) n
    go (Err y) e = ap (λ k. k.desk) (a.stopped y e)

-- AN ASK WITH NO DATE
module _ (d : Desk) (number work : ℕ) (r : Answer) (a : AskedUndated d number work r) where
  pub undated_refused : (x : Refusal) → r.verdict ≡ Err x → r.desk ≡ d
  undated_refused x n = go (first_of (undated_lines d number)) refl
    where
      go : (v : Verdict) → first_of (undated_lines d number) ≡ v → r.desk ≡ d
      go (Ok tt) e =
          let (b, k, f) = a.asked e in
          let no : b.verdict ≡ Err x = sym (ap (λ q. q.verdict) f) ∙ n in
          ap (λ q. q.desk) f
          ∙ ap (λ v. on_yes v (since (instant (undated_deadline d work)) b.desk) b.desk) no
          ∙ ask_refused d number work (undated_lead d work) b k x no
      go (Err y) e = ap (λ q. q.desk) (a.stopped y e)

  module _ (g : Good d) where
    abbrev lead : ℕ
    lead = undated_lead d work

    pub undated_is_good : Good r.desk
    undated_is_good = go r.verdict refl
      where
        go : (v : Verdict) → r.verdict ≡ v → Good r.desk
        go (Ok tt) y =
            let (b, k, said, same, s) = undated_yes d number work r a y in
            let p = admissible d number work lead g.sized (said_yes d number work lead b k said) in
            let h = ask_is_good d g number work lead b k in
            let beside = good_beside b.desk h in
            subst Good (sym same)
            (record {
              sized = h.sized;
              order = in_order_made (since (instant (undated_deadline d work)) b.desk)
                  (record { share = beside.share; previous = omega (arith, undated_due d work, p.job.within) })
                  (good_order b.desk h);
              sound = h.sound;
            })
        go (Err x) n = subst Good (sym (undated_refused x n)) g

    pub undated_book : r.verdict ≡ Ok tt → Reordered (with_job d (requested d number work (undated_lead d work))) (book r.desk)
    undated_book y =
        let (b, k, said, same, s) = undated_yes d number work r a y in
        subst (λ e. Reordered (with_job d (requested d number work lead)) (book e)) (sym same) (ask_book d g number work lead b k said)
