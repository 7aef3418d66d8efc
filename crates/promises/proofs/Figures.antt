-- The figures are the sums done afresh: every state that is handed back is written from a book, and so are its figures.
use mathlib.Core.Path.{◌≡◌, refl, sym, ap, subst, ◌∙◌}
use mathlib.Core.Logic.{inl, inr}
use mathlib.Core.Bool.{Bool, true, false, not}
use mathlib.Core.List.{List, ◌∷◌, ◌++◌, map}
use Prim.Native.Nat.{ℕ, ◌*◌}
use lib.ListN.{length, drop}
use borrow.Author.Tests.{not-false}
use Rattle.ticks.specs.Ticks.{ticks}
use Rattle.mesh.specs.Bands.{work_of}
use Rattle.mesh.specs.Meshes.{triangles_of, mesh_lines}
use Rattle.jobs.specs.declared.Job.{Job}
use Rattle.jobs.specs.Jobs.{numbers_a_job, live}
use Rattle.jobs.specs.Figures.{Figured, figured}
use Rattle.jobs.specs.Sorted.{sorted}
use Rattle.jobs.proofs.Sorted.{sorted_own}
use Rattle.jobs.proofs.Figures.{figured_stores, figured_own}
use Rattle.jobs.proofs.Places.{live_of}
use Rattle.listing.specs.Words.{words}
use Rattle.answers.specs.declared.Refusal.TheVariants.{DoesNotFit}
use Rattle.answers.specs.Verdicts.{Verdict}
use Rattle.std.specs.Prelude.{Ok, Err}
use Rattle.answers.specs.Answers.{first_of, on_yes}
use Rattle.answers.proofs.Answers.{stops, yes_first, yes_is_not_no, told_verdict}
use Rattle.edf.specs.Book.{Book}
use Rattle.edf.specs.Step as edf
use Rattle.edf.specs.Calls.{ending, resting}
use Rattle.edf.proofs.Runs.{run_is_good}
use Rattle.ledger.specs.State.{Sized}
use Rattle.ledger.specs.Books.{job_of}
use Rattle.desk.specs.declared.Desk.{Desk}
use Rattle.desk.specs.declared.Answer.{Answer}
use Rattle.desk.specs.State.{book, rewritten, in_order}
use Rattle.desk.specs.Calls.{disorder, step_lines, step_of, end_lines, end_of, rest_lines, rest_of, list_lines, counted_of, listed_of}
use Rattle.desk.specs.Asking.{ask_lines, requested, with_job, Judged, Asked}
use Rattle.desk.specs.Undated.{AskedUndated, undated_lead}
use Rattle.desk.proofs.InOrder.{in_order_lem}
use Rattle.desk.proofs.Undated.{undated_yes}
use Rattle.questions.specs.Meshes.{AskedMesh}
use Rattle.promises.specs.Runs.{opened}
use Rattle.promises.specs.Figures.{TrueFigures, EveryFigureIsTheSum, TakenCallsKeepFigures, AWrongFigureGets13, TheListShowsTheSums}
use Rattle.promises.proofs.System.{desks}
use Rattle.promises.proofs.Openings.{opening_good}

-- a state in order has true figures
ordered_true : (d : Desk) → Sized d.ledger → in_order d ≡ true → TrueFigures d
ordered_true d s e = (in_order_lem d s e).jobs.figures

pub every_figure_is_the_sum : EveryFigureIsTheSum
unfolding EveryFigureIsTheSum
every_figure_is_the_sum o cs m =
    let g = run_is_good desks cs (opened o) (opening_good o) m in
    ordered_true _ g.sized g.order

-- a state that a book was written into has true figures, whatever the book
written_true : (d : Desk) (b : Book) → TrueFigures (rewritten d b)
written_true d b = subst Figured (sym (live_of (figured (sorted (map job_of b.jobs))))) (figured_stores (sorted (map job_of b.jobs)))

-- where nothing is refused
either_true : (v : Verdict) (d : Desk) (b : Book) → v ≡ Ok tt → TrueFigures (on_yes v (rewritten d b) d)
either_true (Ok tt) d b e = written_true d b
either_true (Err x) d b e = absurd (yes_is_not_no x (sym e))

judged_true : (d : Desk) (j : Job) (r : Answer) → Judged d j r → r.verdict ≡ Ok tt → TrueFigures r.desk
unfolding Judged
judged_true d j r (inl k) y = subst (λ a. TrueFigures a.desk) (sym k.1) (written_true d (with_job d j))
judged_true d j r (inr k) y = absurd (yes_is_not_no DoesNotFit (sym y ∙ ap (λ a. a.verdict) k.1))

ask_true : (d : Desk) (number work lead : ℕ) (r : Answer) → Asked d number work lead r → r.verdict ≡ Ok tt → TrueFigures r.desk
ask_true d number work lead r a y = go (first_of (ask_lines d number (ticks work) (ticks lead))) refl
  where
    go : (v : Verdict) → first_of (ask_lines d number (ticks work) (ticks lead)) ≡ v → TrueFigures r.desk
    go (Ok tt) e = judged_true d (requested d number work lead) r (a.judged e) y
    go (Err x) e = absurd (yes_is_not_no x (sym y ∙ ap (λ q. q.verdict) (a.stopped x e)))

mesh_true : (d : Desk) (s : List ℕ) (size number lead : ℕ) (r : Answer) → AskedMesh d s size number lead r → r.verdict ≡ Ok tt → TrueFigures r.desk
mesh_true d s size number lead r a y = go (first_of (disorder d ∷ mesh_lines s size)) refl
  where
    go : (v : Verdict) → first_of (disorder d ∷ mesh_lines s size) ≡ v → TrueFigures r.desk
    go (Ok tt) e = ask_true d number (work_of (triangles_of s)) lead r (a.asked e) y
    go (Err x) e = absurd (yes_is_not_no x (sym y ∙ ap (λ q. q.verdict) (a.stopped x e)))

undated_true : (d : Desk) (number work : ℕ) (r : Answer) → AskedUndated d number work r → r.verdict ≡ Ok tt → TrueFigures r.desk
undated_true d number work r a y =
    let (b, k, said, same, s) = undated_yes d number work r a y in
    subst TrueFigures (sym same) (ask_true d number work (undated_lead d work) b k said)

pub taken_calls_keep_figures : TakenCallsKeepFigures
unfolding step_of end_of rest_of
taken_calls_keep_figures =
    record {
      ask = ask_true;
      mesh = mesh_true;
      undated = undated_true;
      step = λ d e. either_true (first_of (step_lines d)) d (edf.step (book d)) e;
      end = λ d n e. either_true (first_of (end_lines d n)) d (ending n (book d)) e;
      rest = λ d p e. either_true (first_of (rest_lines d p)) d (resting p (book d)) e;
    }

pub a_wrong_figure_gets_13 : AWrongFigureGets13
unfolding AWrongFigureGets13
a_wrong_figure_gets_13 d s wrong ls = stops (disorder d) ls (ap not (go (in_order d) refl))
  where
    go : (b : Bool) → in_order d ≡ b → in_order d ≡ false
    go true e = absurd (wrong (ordered_true d s e))
    go false e = e

pub the_list_shows_the_sums : TheListShowsTheSums
unfolding TheListShowsTheSums counted_of listed_of
the_list_shows_the_sums d buffer s e =
    let js = live d.ledger.table in
    let says = sym (told_verdict (first_of (list_lines d (length buffer))) (length js)) ∙ e in
    let fine = not-false (in_order d) (yes_first (disorder d) _ says).0 in
    let o = (in_order_lem d s fine).jobs in
    ap (λ v. on_yes v (words js ++ drop (numbers_a_job * d.ledger.table.count) buffer) buffer) says
    ∙ ap (λ l. words l ++ drop (numbers_a_job * d.ledger.table.count) buffer) (sym (ap figured (sorted_own js o.order) ∙ figured_own js o.figures))
