-- Nobody finishes later for less load.
use mathlib.Core.Path.{◌≡◌, refl, sym, ap, ◌∙◌, subst}
use mathlib.Core.Bool.{not}
use mathlib.Core.List.{[]}
use Prim.Native.Nat.{ℕ, zero, suc, pred, ◌+◌, ◌≤◌, ◌<◌}
use native.Mathlib.Nat.{le_refl}
use native.Mathlib.Omega.{arith}
use borrow.Author.Tests.{not-false, ltb-true, lt-ltb}
use Rattle.lists.specs.Lists.{Each}
use Rattle.lists.proofs.Lists.{each_imp, each_map}
use Rattle.ticks.specs.Ticks.{last_instant, ticks}
use Rattle.jobs.specs.Jobs.{live}
use Rattle.answers.specs.declared.Who.{Who}
use Rattle.answers.specs.declared.Who.TheVariants.{Idle}
use Rattle.answers.specs.Verdicts.{Verdict}
use Rattle.std.specs.Prelude.{Ok, Err}
use Rattle.answers.specs.Answers.{first_of, on_yes}
use Rattle.answers.proofs.Answers.{goes_on_lem, no_line, yes_first, yes_is_not_no}
use Rattle.serving.specs.Tick.{last_line}
use Rattle.edf.specs.Pieces.{Piece}
use Rattle.edf.specs.Step.{runner, ran, step}
use Rattle.edf.specs.Steps.{steps}
use Rattle.edf.specs.Calls.{ending, resting}
use Rattle.edf.specs.Load.{Less}
use Rattle.edf.specs.Finish as edf
use Rattle.edf.specs.Finish.{LessAlike}
use Rattle.edf.proofs.Service.{step_clock}
use Rattle.edf.proofs.Moves.{steps_clock}
use Rattle.edf.proofs.Wanted as wanted
use Rattle.edf.proofs.FinishOnce.{finishes_once}
use Rattle.edf.proofs.Finish as finish
use Rattle.edf.proofs.Delays.{ending_delays_nobody, resting_delays_nobody}
use Rattle.ledger.specs.Books.{book_job, who_of, who_is}
use Rattle.ledger.proofs.Books.{who_back, who_again}
use Rattle.desk.specs.declared.Desk.{Desk}
use Rattle.desk.specs.State.{book, rewritten, Good}
use Rattle.desk.specs.Calls.{disorder, step_lines, step_of, end_lines, end_of, rest_lines, rest_of}
use Rattle.desk.proofs.Good.{step_is_good, step_book, end_is_good, end_book, rest_is_good, rest_book}
use Rattle.promises.specs.Finish.{stepped, Finishes, FinishesWithin, KeepsDeadline, KeepsDeadlines, FinishesNoLater, NobodyFinishesLater}
use Rattle.promises.specs.Finish.{NobodyOfOneListFinishesLater, EverybodyFinishes, EverybodyFinishesOnce, AnEndDelaysNobody, ARestDelaysNobody}
use Rattle.promises.proofs.Load.{reached_is_good, same_feeds_same_plans, one_list_same_plans, less_load_is_less}

abbrev now : Desk → ℕ
now d = d.ledger.clock.0

-- on a good desk a step is taken exactly if the clock can go on
step_taken : (d : Desk) → Good d → now d < last_instant → first_of (step_lines d) ≡ Ok tt
step_taken d g h = goes_on_lem (disorder d) _ (Ok tt) (ap not g.order) (goes_on_lem (last_line d.ledger) [] (Ok tt) (ap not (lt-ltb _ _ h)) no_line)

taken_before_last : (d : Desk) → first_of (step_lines d) ≡ Ok tt → now d < last_instant
taken_before_last d e = ltb-true _ _ (not-false _ (yes_first (last_line d.ledger) [] (yes_first (disorder d) _ e).1).0)

stepped_is_good : (k : ℕ) (d : Desk) → Good d → Good (stepped k d)
unfolding stepped
stepped_is_good zero d g = g
stepped_is_good (suc k) d g = stepped_is_good k (step_of d).desk (step_is_good d g)

step_moves : (d : Desk) → Good d → now d < last_instant → now (step_of d).desk ≡ suc (now d)
step_moves d g h = ap (λ b. b.clock) (step_book d g (step_taken d g h)) ∙ step_clock (book d)

-- as far as the clock goes, steps on the desk are those of the mathematics
stepped_book : (k : ℕ) (d : Desk) → Good d → now d + k ≤ last_instant → book (stepped k d) ≡ steps k (book d)
unfolding stepped steps
stepped_book zero d g h = refl
stepped_book (suc k) d g h =
    let h' : now d < last_instant = omega arith in
    stepped_book k (step_of d).desk (step_is_good d g) (omega (arith, step_moves d g h')) ∙ ap (steps k) (step_book d g (step_taken d g h'))

-- a step that is taken after k steps shows that the clock could go on all the way
goes_so_far : (k : ℕ) (d : Desk) → Good d → first_of (step_lines (stepped k d)) ≡ Ok tt → now d + k < last_instant
unfolding stepped step_of
goes_so_far zero d g e = omega (arith, taken_before_last d e)
goes_so_far (suc k) d g e = go (first_of (step_lines d)) refl (goes_so_far k (step_of d).desk (step_is_good d g) e)
  where
    go : (v : Verdict) → first_of (step_lines d) ≡ v → now (step_of d).desk + k < last_instant → now d + suc k < last_instant
    go (Ok tt) y ih = omega (arith, step_moves d g (taken_before_last d y))
    go (Err x) n ih =
        let here : now (step_of d).desk ≡ now d = ap (λ v. now (on_yes v (rewritten d (step (book d))) d)) n in
        absurd (yes_is_not_no x (sym (step_taken d g (omega arith)) ∙ n))

-- FINISHING ON A DESK is finishing in its book, as far as the clock goes
module _ (w : Who) (D k : ℕ) (d : Desk) (g : Good d) where
  abbrev r : Piece
  r = runner (book (stepped k d))

  read_finishes : Finishes w D k d → (now d + k < last_instant) × edf.Finishes (who_of w) D k (book d)
  unfolding step_of ran
  read_finishes f =
      let far : now d + k < last_instant = goes_so_far k d g f.taken in
      let same : r ≡ runner (steps k (book d)) = ap runner (stepped_book k d g (omega arith)) in
      let named : who_is r.who ≡ w = sym (ap (λ v. on_yes v (who_is r.who) Idle) f.taken) ∙ f.named in
      let left : pred r.owes ≡ 0 = ap (λ l. l.0) (sym (ap (λ v. on_yes v (ticks (pred r.owes)) (ticks 0)) f.taken) ∙ f.last) in
      let one : r.owes ≡ 1 = omega (arith, f.busy) in
      let work : edf.WorkOf (who_of w) D r = record { who = sym (who_back r.who) ∙ ap who_of named; due = f.due } in
      (far, record { work = subst (edf.WorkOf (who_of w) D) same work; last = ap (λ p. p.owes) (sym same) ∙ one })

  made_finishes : now d + k < last_instant → edf.Finishes (who_of w) D k (book d) → Finishes w D k d
  unfolding step_of ran
  made_finishes far f =
      let read : book (stepped k d) ≡ steps k (book d) = stepped_book k d g (omega arith) in
      let same : r ≡ runner (steps k (book d)) = ap runner read in
      let taken = step_taken (stepped k d) (stepped_is_good k d g) (omega (arith, ap (λ b. b.clock) read, steps_clock k (book d))) in
      record {
        taken = taken;
        named = ap (λ v. on_yes v (who_is r.who) Idle) taken ∙ ap (λ p. who_is p.who) same ∙ ap who_is f.work.who ∙ who_again w;
        last = ap (λ v. on_yes v (ticks (pred r.owes)) (ticks 0)) taken ∙ ap (λ p. ticks (pred p.owes)) same ∙ ap (λ n. ticks (pred n)) f.last;
        busy = omega (arith, ap (λ p. p.owes) same, f.last);
        due = ap (λ p. p.due) same ∙ f.work.due;
      }

-- so many steps at most, told of the book, are so many on the desk
made_within : (w : Who) (D k : ℕ) (d : Desk) → Good d → now d + k < last_instant → edf.FinishesWithin (who_of w) D k (book d) → FinishesWithin w D k d
unfolding FinishesWithin edf.FinishesWithin
made_within w D k d g far (i, h, f) = (i, h, made_finishes w D i d g (omega arith) f)

-- no later in the book of another desk of this instant, no later on that desk
no_later_lem : (d e : Desk) → Good d → Good e → now e ≡ now d → (w : Who) (D k : ℕ)
    → (edf.Finishes (who_of w) D k (book d) → edf.FinishesWithin (who_of w) D k (book e)) → Finishes w D k d → FinishesWithin w D k e
no_later_lem d e gd ge clock w D k h f = let (far, x) = read_finishes w D k d gd f in made_within w D k e ge (omega arith) (h x)

-- less load with the deadlines kept, read as books
less_load_is_less_alike : (c d : Desk) → Less (book c) (book d) → KeepsDeadlines c d → LessAlike (book c) (book d)
unfolding KeepsDeadlines
less_load_is_less_alike c d l h =
    record {
      less = l;
      due = each_map (λ j. Each (λ k. j.number ≡ k.number → j.due ≡ k.due) (book d).jobs) book_job (live c.ledger.table)
          (each_imp (λ j. Each (KeepsDeadline j) (live d.ledger.table)) (λ j. Each (λ k. j.number ≡ k.number → j.deadline.0 ≡ k.due) (book d).jobs)
          (λ j ks. each_map (λ k. j.number ≡ k.number → j.deadline.0 ≡ k.due) book_job (live d.ledger.table)
          (each_imp (KeepsDeadline j) (λ k. j.number ≡ k.number → j.deadline.0 ≡ k.deadline.0) (λ k e n. ap (λ t. t.0) (e n)) (live d.ledger.table) ks))
          (live c.ledger.table)
          h);
    }

module _ (c d : Desk) (gc : Good c) (gd : Good d) (less : LessAlike (book c) (book d)) where
  finishes_no_later : FinishesNoLater c d
  finishes_no_later =
      record {
        no_later = λ w D k t. no_later_lem d c gd gc less.less.clock w D k (finish.nobody_finishes_later (book c) (book d) gc.sound gd.sound less (who_of w) D k t);
        on_both = λ w D t h. let (k, early, f, e) = finish.finishes_on_both (book c) (book d) gc.sound gd.sound less (who_of w) D t in
            (k, early, made_finishes w D k d gd (omega arith) f, made_within w D k c gc (omega (arith, less.less.clock)) e);
      }

pub nobody_finishes_later : NobodyFinishesLater
unfolding NobodyFinishesLater
nobody_finishes_later xs ys c d hc hd same l h =
    finishes_no_later c d (reached_is_good xs c hc) (reached_is_good ys d hd)
    (less_load_is_less_alike c d (less_load_is_less c d (same_feeds_same_plans c d same l.charge) l) h)

pub nobody_of_one_list_finishes_later : NobodyOfOneListFinishesLater
unfolding NobodyOfOneListFinishesLater
nobody_of_one_list_finishes_later xs c d hc hd l h =
    finishes_no_later c d (reached_is_good xs c hc) (reached_is_good xs d hd)
    (less_load_is_less_alike c d (less_load_is_less c d (one_list_same_plans xs c d hc hd l) l) h)

pub everybody_finishes : EverybodyFinishes
unfolding EverybodyFinishes
everybody_finishes xs d hd w D t h =
    let g = reached_is_good xs d hd in
    let (k, early, f) = wanted.everybody_finishes (book d) (who_of w) D g.sound t in
    (k, early, made_finishes w D k d g (omega arith) f)

pub everybody_finishes_once : EverybodyFinishesOnce
unfolding EverybodyFinishesOnce
everybody_finishes_once xs d hd w D i k e f =
    let g = reached_is_good xs d hd in
    finishes_once i k (book d) (who_of w) D g.sound (read_finishes w D i d g e).1 (read_finishes w D k d g f).1

pub an_end_delays_nobody : AnEndDelaysNobody
unfolding AnEndDelaysNobody FinishesWithin end_of ending
an_end_delays_nobody xs d hd n w D k other f = go (first_of (end_lines d n)) refl
  where
    g : Good d
    g = reached_is_good xs d hd

    go : (v : Verdict) → first_of (end_lines d n) ≡ v → FinishesWithin w D k (end_of d n).desk
    go (Ok tt) y =
        let read = end_book d g n y in
        no_later_lem d (end_of d n).desk g (end_is_good d g n) (ap (λ b. b.clock) read) w D k
        (λ e. subst (edf.FinishesWithin (who_of w) D k) (sym read) (ending_delays_nobody (book d) n g.sound (who_of w) D k (λ j. other (sym (who_again w) ∙ ap who_is j)) e))
        f
    go (Err x) y = subst (FinishesWithin w D k) (sym (ap (λ v. on_yes v (rewritten d (ending n (book d))) d) y)) (k, le_refl k, f)

pub a_rest_delays_nobody : ARestDelaysNobody
unfolding ARestDelaysNobody FinishesWithin rest_of resting
a_rest_delays_nobody xs d hd p w D k other f = go (first_of (rest_lines d p)) refl
  where
    g : Good d
    g = reached_is_good xs d hd

    go : (v : Verdict) → first_of (rest_lines d p) ≡ v → FinishesWithin w D k (rest_of d p).desk
    go (Ok tt) y =
        let read = rest_book d g p y in
        no_later_lem d (rest_of d p).desk g (rest_is_good d g p) (ap (λ b. b.clock) read) w D k
        (λ e. subst (edf.FinishesWithin (who_of w) D k) (sym read) (resting_delays_nobody (book d) p g.sound (who_of w) D k other e))
        f
    go (Err x) y = subst (FinishesWithin w D k) (sym (ap (λ v. on_yes v (rewritten d (resting p (book d))) d) y)) (k, le_refl k, f)
