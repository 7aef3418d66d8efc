-- Demand 2: a request is taken exactly if it fits, fits is room, and each step goes by the step rule.
use mathlib.Core.Path.{◌≡◌, refl, sym, ap, ◌∙◌, subst}
use mathlib.Core.Logic.{◌⊎◌, inl, inr}
use mathlib.Core.List.{List, ◌∷◌, map}
use Prim.Native.Nat.{ℕ, suc, ◌≤◌}
use native.Mathlib.Omega.{arith}
use borrow.Author.Tests.{not-false}
use Rattle.lists.specs.Lists.{Each, Pairs}
use Rattle.lists.proofs.Lists.{each, each_imp}
use Rattle.lists.proofs.Pairs.{pairs_of_map}
use Rattle.ticks.specs.Ticks.{ticks, instant}
use Rattle.mesh.specs.Bands.{work_of}
use Rattle.mesh.specs.Meshes.{triangles_of, mesh_lines}
use Rattle.jobs.specs.declared.Job.{Job}
use Rattle.answers.specs.declared.Who.TheVariants.{Idle}
use Rattle.answers.specs.declared.Refusal.TheVariants.{DoesNotFit}
use Rattle.answers.specs.Verdicts.{Verdict}
use Rattle.std.specs.Prelude.{Ok, Err}
use Rattle.answers.specs.Answers.{first_of, on_yes}
use Rattle.answers.proofs.Answers.{yes_first, yes_is_not_no}
use Rattle.edf.specs.Book.{Feed, Book}
use Rattle.edf.specs.Pieces.{at_hand}
use Rattle.edf.specs.Step.{runner, ran, serve, turn_feed, turn, step_by, step}
use Rattle.edf.specs.Chosen.{Chosen, NothingReady, GoesBefore}
use Rattle.edf.specs.Load.{Light}
use Rattle.edf.specs.Calls.{taking}
use Rattle.edf.proofs.Plans.{taking_keeps_plans, step_keeps_plans, step_keeps_positions}
use Rattle.edf.proofs.Demand.{turned_released, turned_over, turned_kept}
use Rattle.edf.proofs.Chosen.{runner_is_chosen, sooner_is, tick_changes_jobs, tick_changes_feeds}
use Rattle.edf.proofs.Calls.{taking_in_order}
use Rattle.edf.proofs.Equality.{fits_iff_room}
use Rattle.ledger.specs.State.{Sized, InOrder}
use Rattle.ledger.specs.Books.{book_job, who_is}
use Rattle.ledger.proofs.Books.{book_of_rewritten, book_of_rewritten_own, book_in_table_order}
use Rattle.edf.specs.Reordered.{Reordered}
use Rattle.ledger.proofs.InOrder.{state_in_order, state_light}
use Rattle.desk.specs.declared.Desk.{Desk}
use Rattle.desk.specs.declared.Answer.{Answer}
use Rattle.desk.specs.State.{book, since, rewritten}
use Rattle.desk.specs.Calls.{disorder, step_lines, step_of, runner_of}
use Rattle.desk.specs.Asking.{requested, with_job, Judged}
use Rattle.desk.specs.Undated.{undated_deadline, undated_lead}
use Rattle.desk.proofs.InOrder.{in_order_lem}
use Rattle.desk.proofs.Asking.{admissible, asked_once}
use Rattle.desk.proofs.Undated.{asked_undated_once}
use Rattle.desk.proofs.Reachable.{admissible_askable, step_in_table_order}
use Rattle.questions.specs.Meshes.{AskedMesh}
use Rattle.promises.specs.Exact.{TakenIfItFits, desk_with, TakenExactlyIfItFits, AMeshIsTakenExactlyIfItFits, AnUndatedIsTakenExactlyIfItFits, FitsIsRoom, OneAnswer}
use Rattle.promises.specs.Exact.{NamesTheFirst, served, FeedTurned, StepRule, EveryStepByTheRule, TheLabelIsTheRunners}

-- the desk with the job written into it is read as the book with the job
with_job_read : (d : Desk) (j : Job) → Reordered (with_job d j) (book (rewritten d (with_job d j)))
unfolding taking
with_job_read d j = book_of_rewritten d.ledger (with_job d j) (record { positions = refl; plans = refl })

by_fits : (d : Desk) (j : Job) (r : Answer) → Judged d j r → TakenIfItFits d j (desk_with d j) r
unfolding Judged
by_fits d j r (inl y) =
    let said : r.verdict ≡ (Ok tt) = ap (λ a. a.verdict) y.1 in
    let kept : r.desk ≡ rewritten d (with_job d j) = ap (λ a. a.desk) y.1 in
    record {
      yes = (λ e. y.0, λ f. said);
      no = (λ e. absurd (yes_is_not_no DoesNotFit (sym said ∙ e)), λ n. absurd (n y.0));
      has = λ e. subst (λ x. Reordered (with_job d j) (book x)) (sym kept) (with_job_read d j);
      desk = λ e. kept;
    }
by_fits d j r (inr n) =
    let said : r.verdict ≡ Err DoesNotFit = ap (λ a. a.verdict) n.1 in
    let never : r.verdict ≡ Ok tt → ⊥ = λ e. yes_is_not_no DoesNotFit (sym e ∙ said) in
    record {
      yes = (λ e. absurd (never e), λ f. absurd (n.0 f));
      no = (λ e. n.0, λ f. said);
      has = λ e. absurd (never e);
      desk = λ e. absurd (never e);
    }

pub taken_exactly_if_it_fits : TakenExactlyIfItFits
unfolding TakenExactlyIfItFits
taken_exactly_if_it_fits d number work lead r a e = by_fits d (requested d number work lead) r (a.judged e)

pub a_mesh_is_taken_exactly_if_it_fits : AMeshIsTakenExactlyIfItFits
unfolding AMeshIsTakenExactlyIfItFits
a_mesh_is_taken_exactly_if_it_fits d s size number lead r a m e = by_fits d (requested d number (work_of (triangles_of s)) lead) r ((a.asked m).judged e)

pub an_undated_is_taken_exactly_if_it_fits : AnUndatedIsTakenExactlyIfItFits
unfolding AnUndatedIsTakenExactlyIfItFits
an_undated_is_taken_exactly_if_it_fits d number work r a u e =
    let (b, k, same) = a.asked u in
    let j = requested d number work (undated_lead d work) in
    let t = instant (undated_deadline d work) in
    let taken = by_fits d j b (k.judged e) in
    let alike : r.verdict ≡ b.verdict = ap (λ q. q.verdict) same in
    let kept : b.verdict ≡ Ok tt → r.desk ≡ since t (desk_with d j) = λ y. ap (λ q. q.desk) same ∙ ap (λ v. on_yes v (since t b.desk) b.desk) y ∙ ap (since t) (taken.desk y) in
    record {
      yes = (λ y. taken.yes.0 (sym alike ∙ y), λ f. alike ∙ taken.yes.1 f);
      no = (λ n. taken.no.0 (sym alike ∙ n), λ f. alike ∙ taken.no.1 f);
      has = λ y. subst (λ x. Reordered (with_job d j) (book x)) (sym (kept (sym alike ∙ y))) (with_job_read d j);
      desk = λ y. kept (sym alike ∙ y);
    }

pub fits_is_room : FitsIsRoom
unfolding FitsIsRoom
fits_is_room d number work lead s e =
    let j = requested d number work lead in
    let a = admissible d number work lead s e in
    let o = in_order_lem d s a.order in
    fits_iff_room (with_job d j) (taking_in_order (book d) (book_job j) (state_in_order d.ledger o) (admissible_askable d j a))
    (subst Light (sym (taking_keeps_plans (book_job j) (book d))) (state_light d.ledger o))

mesh_once : (d : Desk) (s : List ℕ) (size number lead : ℕ) (q r : Answer) → AskedMesh d s size number lead q → AskedMesh d s size number lead r → q ≡ r
mesh_once d s size number lead q r a b = go (first_of (disorder d ∷ mesh_lines s size)) refl
  where
    go : (v : Verdict) → first_of (disorder d ∷ mesh_lines s size) ≡ v → q ≡ r
    go (Ok tt) e = asked_once d number (work_of (triangles_of s)) lead q r (a.asked e) (b.asked e)
    go (Err x) e = a.stopped x e ∙ sym (b.stopped x e)

pub one_answer : OneAnswer
one_answer = record { ask = asked_once; mesh = mesh_once; undated = asked_undated_once }

-- all that is ready goes after the one that is named
ties : (b : Book) → Chosen b (runner b) ⊎ NothingReady b (runner b) → Each (λ q. 1 ≤ q.owes → GoesBefore (runner b) q) (at_hand b)
ties b (inl c) = each_imp _ _ (λ q k r. (sooner_is (runner b) q).0 (k r)) (at_hand b) c.first
ties b (inr n) = each_imp _ _ (λ q z r. absurd (omega arith)) (at_hand b) n.done

turns : (x : ℕ) (fs : List Feed) → Pairs (FeedTurned x) (map (turn_feed x) fs) fs
turns x fs =
    pairs_of_map (FeedTurned x) (turn_feed x) fs
    (each _ (λ f. record { position = refl; plan = refl; released = turned_released x f; over = turned_over x f; going = turned_kept x f }) fs)

-- a desk that lines 13 and 3 let pass
module _ (d : Desk) (s : Sized d.ledger) (e : first_of (step_lines d) ≡ Ok tt) where
  pub steps_in_order : InOrder d.ledger
  steps_in_order = in_order_lem d s (not-false _ (yes_first (disorder d) _ e).0)

  -- what it hands back, and how that is read
  pub step_hands_back : (step_of d).desk ≡ rewritten d (step (book d))
  unfolding step_of
  step_hands_back = ap (λ v. on_yes v (rewritten d (step (book d))) d) e

  pub step_read : book (step_of d).desk ≡ step (book d)
  step_read =
      ap book step_hands_back
      ∙ book_of_rewritten_own d.ledger (step (book d)) (record { positions = step_keeps_positions (book d); plans = step_keeps_plans (book d) })
      (step_in_table_order (book d) (book_in_table_order d.ledger steps_in_order))

  turned_served : book (step_of d).desk ≡ turn (served d)
  unfolding step step_by
  turned_served = step_read

  by_the_rule : StepRule d
  unfolding step_of turn serve ran NamesTheFirst
  by_the_rule =
      let o = state_in_order d.ledger steps_in_order in
      record {
        yes = e;
        first = runner_is_chosen (book d);
        ties = ties (book d) (runner_is_chosen (book d));
        named = ap (λ v. on_yes v (who_is (ran (book d)).who) Idle) e;
        owes = ap (λ v. on_yes v (ticks (ran (book d)).owes) (ticks 0)) e;
        jobs = tick_changes_jobs (book d) o;
        feeds = tick_changes_feeds (book d) o;
        clock = ap (λ b. b.clock) turned_served;
        leaving = ap (λ b. b.jobs) turned_served;
        released = subst (λ fs. Pairs (FeedTurned (suc d.ledger.clock.0)) fs (served d).feeds) (sym (ap (λ b. b.feeds) turned_served)) (turns (suc d.ledger.clock.0) (served d).feeds);
        after = turned_served;
      }

pub every_step_by_the_rule : EveryStepByTheRule
unfolding EveryStepByTheRule
every_step_by_the_rule = by_the_rule

pub the_label_is_the_runner's : TheLabelIsTheRunners
unfolding TheLabelIsTheRunners runner_of step_of ran
the_label_is_the_runner's d = refl
