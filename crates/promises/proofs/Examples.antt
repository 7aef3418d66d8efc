-- The table of the bench examples holds: a test computed over all its rows, and one law that turns it into the statement.
use mathlib.Core.Path.{◌≡◌, refl, sym, ap, subst, ◌∙◌}
use mathlib.Core.Logic.{inl, inr}
use mathlib.Core.Bool.{Bool, true, false, not, ◌&&◌}
use mathlib.Core.List.{List, [], ◌∷◌, ◌++◌}
use Prim.Native.Nat.{ℕ, zero, suc, ◌-◌, ◌≤◌, ◌<◌}
use native.Mathlib.Omega.{arith}
use native.Mathlib.Decide.{dec_lt, ℕ_discrete}
use lib.Dec.{leb, eqb}
use borrow.Author.Tests.{eqb-true}
use Rattle.lists.specs.Lists.{eq, every, all_of, Each}
use Rattle.lists.proofs.Tests.{false_not_true, leb_elim, both}
use Rattle.lists.proofs.Places.{each_of_every}
use Rattle.ticks.specs.Ticks.{ticks, instant}
use Rattle.plans.specs.Plans as plans
use Rattle.feeds.specs.Feeds.{unused_feed}
use Rattle.feeds.specs.Round.{first_from, round_of, carries}
use Rattle.feeds.specs.Lines.{feeds_pass, feeds_in}
use Rattle.feeds.specs.Pieces.{piece_in}
use Rattle.jobs.specs.declared.Job.{Job}
use Rattle.jobs.specs.Jobs.{table_of, live, lacks, distinct, unused_job, table_in}
use Rattle.jobs.specs.Figures.{figured}
use Rattle.jobs.specs.Sorted.{before, rising, insert, sorted}
use Rattle.edf.proofs.Reordered.{reordered_sym, reordered_fits}
use Rattle.edf.specs.Book.{Book}
use Rattle.edf.specs.Releases as edf
use Rattle.edf.specs.Owed.{by_then, owed_by, RoomBelow}
use Rattle.edf.specs.Order.{InOrder}
use Rattle.edf.specs.Calls.{taking, resting}
use Rattle.edf.specs.Load.{opened}
use Rattle.edf.proofs.Sound.{owed_by_past}
use Rattle.answers.specs.declared.Refusal.TheVariants.{DoesNotFit}
use Rattle.answers.specs.Verdicts.{Verdict}
use Rattle.std.specs.Prelude.{Ok, Err}
use Rattle.answers.specs.Answers.{Line, line, first_of, passes, on_yes, answer_of}
use Rattle.answers.proofs.Answers.{goes_on_lem, stops_before, goes_past}
use Rattle.ledger.specs.declared.Ledger.{Ledger}
use Rattle.ledger.specs.State.{in_order, moved}
use Rattle.ledger.specs.Books.{book_of}
use Rattle.ledger.proofs.InOrder.{state_in_order}
use Rattle.room.specs.Ahead.{latest_of, last_due, horizon_of}
use Rattle.room.specs.Walk.{RoomSays, FitsSays}
use Rattle.room.proofs.Walk.{fits_says}
use Rattle.desk.specs.declared.Desk.{Desk}
use Rattle.desk.specs.declared.Answer.{Answer}
use Rattle.desk.specs.State.{rewritten, Good}
use Rattle.edf.specs.Share.{deadline_at, at_share}
use Rattle.edf.specs.Step.{step, step_by, serve, turn, turned, runner, foremost, first, sooner, goes_before}
use Rattle.edf.specs.Book.{same}
use Rattle.jobs.specs.Figures.{owes_by}
use Rattle.jobs.specs.Jobs.{job_in}
use Rattle.edf.specs.Calls.{ending}
use Rattle.desk.specs.Opening.{share_line, opened_of, opened_shared_of}
use Rattle.desk.specs.Undated.{undated_lines, undated_deadline, undated_lead, remembering, AskedUndated}
use Rattle.desk.specs.State as desk
use Rattle.desk.specs.Calls.{disorder, step_of, end_of, rest_of}
use Rattle.desk.specs.Asking.{number_line, request_lines, place_lines, requested, with_job, Admissible, Judged, Asked}
use Rattle.desk.proofs.Asking.{admissible, taken_in_order, taken_book}
use Rattle.desk.proofs.Good.{step_is_good, end_is_good, rest_is_good, ask_is_good, undated_is_good}
use Rattle.promises.specs.Runs.{Opening, answer_to}
use Rattle.promises.specs.Examples.{Said, asks, undated, steps, ends, rests, Row, Then, answer_of_step, Goes, Holds, table, undated_table}
use Rattle.promises.proofs.Openings.{opening_good}

-- by every instant below H there is time for what is owed; no instant is looked at below one that fails
unfoldable enough : ℕ → Book → Bool
enough zero b = true
enough (suc D) b = let before = enough D b in leb (owed_by b D) (D - b.clock) && before

enough_says : (H : ℕ) (b : Book) → InOrder b → RoomSays (enough H b) H b
unfolding enough RoomBelow
enough_says zero b o = record { yes = λ e D c l. absurd (omega arith); no = λ e f. absurd (false_not_true (sym e)) }
enough_says (suc H) b o = go (enough_says H b o)
  where
    -- there is time by the last instant, and by those before it
    last : owed_by b H ≤ H - b.clock → (D : ℕ) → (D < H → owed_by b D ≤ D - b.clock) → D < suc H → Dec (D ≡ H) → owed_by b D ≤ D - b.clock
    last h D before l (yes e) = subst (λ n. owed_by b n ≤ n - b.clock) (sym e) h
    last h D before l (no e) = before (omega arith)

    -- by the last instant there is not
    late : H - b.clock < owed_by b H → ((D : ℕ) → b.clock < D → D < suc H → owed_by b D ≤ D - b.clock) → Dec (b.clock < H) → ⊥
    late h f (yes c) = omega (arith, f H c (omega arith))
    late h f (no c) = omega (arith, owed_by_past b H o (omega arith))

    go : RoomSays (enough H b) H b → RoomSays (leb (owed_by b H) (H - b.clock) && enough H b) (suc H) b
    go ih =
        leb_elim (λ t. RoomSays (t && enough H b) (suc H) b) (owed_by b H) (H - b.clock)
        (λ h. record { yes = λ e D c l. last h D (λ k. ih.yes e D c k) l (ℕ_discrete D H); no = λ e f. ih.no e (λ D c l. f D c (omega arith)) })
        (λ h. record { yes = λ e. absurd (false_not_true e); no = λ e f. late h f (dec_lt b.clock H) })

-- an ask, as it can be computed on a good desk: the contract tells line 6 by fits itself
module _ (d : Desk) (number work lead : ℕ) where
  abbrev job : Job
  job = requested d number work lead

  -- the state with the job that is asked for
  abbrev more : Ledger
  more = moved d.ledger d.ledger.clock d.ledger.feeds (table_of (figured (insert job (live d.ledger.table))))

  -- up to the horizon there is time for what is owed
  abbrev fitting : Bool
  fitting = enough (horizon_of more).0 (book_of more)

  -- lines 1 to 5
  abbrev lines : List Line
  lines = request_lines d.ledger.clock number (ticks work) (ticks lead) ++ place_lines d.ledger.table number

  -- line 6
  abbrev sixth : Bool → List Line
  sixth fits = line (not fits) DoesNotFit ∷ []

  abbrev answering : Verdict → Answer
  answering v = record { desk = on_yes v (rewritten d (with_job d job)) d; verdict = v }

  unfoldable asking : Answer
  asking = answering (first_of (lines ++ sixth fitting))

  -- which is what fits means
  fitting_says : Admissible d job → FitsSays fitting (with_job d job)
  fitting_says a =
      let o = taken_in_order d job a _ refl in
      let same = taken_book d job a _ refl in
      let said = fits_says more fitting o (enough_says _ _ (state_in_order more o)) in
      record { yes = λ e. reordered_fits _ _ (reordered_sym _ _ same) (said.yes e); no = λ e f. said.no e (reordered_fits _ _ same f) }

  judged_is : (fits : Bool) (r : Answer) → FitsSays fits (with_job d job) → Judged d job r → r ≡ answering (first_of (sixth fits))
  unfolding Judged first_of
  judged_is true r s (inl y) = y.1
  judged_is true r s (inr n) = absurd (n.0 (s.yes refl))
  judged_is false r s (inl y) = absurd (s.no refl y.0)
  judged_is false r s (inr n) = n.1

  -- THE ANSWER THAT THE CONTRACT ALLOWS IS THE COMPUTED ONE
  asked_is : (r : Answer) → Good d → Asked d number work lead r → r ≡ asking
  unfolding asking
  asked_is r g a = go (first_of lines) refl
    where
      in_order : (v : Verdict) → first_of lines ≡ v → first_of (disorder d ∷ lines) ≡ v
      in_order v e = goes_on_lem (disorder d) lines v (ap not g.order) e

      go : (v : Verdict) → first_of lines ≡ v → r ≡ answering (first_of (lines ++ sixth fitting))
      go (Ok tt) e =
          let h = in_order (Ok tt) e in
          judged_is fitting r (fitting_says (admissible d number work lead g.sized h)) (a.judged h)
          ∙ sym (ap answering (goes_past lines (sixth fitting) e))
      go (Err x) e = a.stopped x (in_order (Err x) e) ∙ sym (ap answering (stops_before lines (sixth fitting) x e))

-- an ask with no date, as it can be computed: line 1 or 19, then the ask with the lead of the rule
abbrev stopped_or : Verdict → Desk → Answer → Answer
stopped_or (Ok tt) d a = a
stopped_or (Err x) d a = record { desk = d; verdict = Err x }

module _ (d : Desk) (number work : ℕ) where
  abbrev own : List Line
  own = number_line number ∷ share_line d.share ∷ []

  unfoldable asking_undated : Answer
  asking_undated = stopped_or (first_of own) d (remembering (instant (undated_deadline d work)) (asking d number work (undated_lead d work)))

  undated_is : (r : Answer) → Good d → AskedUndated d number work r → r ≡ asking_undated
  unfolding asking_undated
  undated_is r g a = go (first_of own) refl
    where
      past : (v : Verdict) → first_of own ≡ v → first_of (undated_lines d number) ≡ v
      past v e = goes_on_lem (disorder d) own v (ap not g.order) e

      go : (v : Verdict) → first_of own ≡ v → r ≡ stopped_or (first_of own) d (remembering (instant (undated_deadline d work)) (asking d number work (undated_lead d work)))
      go (Ok tt) e =
          let (b, k, same) = a.asked (past (Ok tt) e) in
          same ∙ ap (remembering (instant (undated_deadline d work))) (asked_is d number work (undated_lead d work) b g k)
          ∙ sym (ap (λ v. stopped_or v d (remembering (instant (undated_deadline d work)) (asking d number work (undated_lead d work)))) e)
      go (Err x) e = a.stopped x (past (Err x) e) ∙ sym (ap (λ v. stopped_or v d (remembering (instant (undated_deadline d work)) (asking d number work (undated_lead d work)))) e)

-- the answer is this number, and what comes next passes on the state that is handed back
unfoldable then : ℕ → (Desk → Bool) → Answer → Bool
then answer next r = eqb (answer_of r.verdict) answer && next r.desk

then_says : (answer : ℕ) (next : Desk → Bool) (Next : Desk → Type 0) (r : Answer) → then answer next r ≡ true
    → (next r.desk ≡ true → Next r.desk) → Then answer Next r
unfolding then
then_says answer next Next r e h = let t = both (eqb (answer_of r.verdict) answer) _ e in (eqb-true _ _ t.0, h t.1)

-- THE TEST of calls
unfoldable pass : List Said → Desk → Bool
pass [] d = true
pass (asks number work lead answer ∷ cs) d = then answer (pass cs) (asking d number work lead)
pass (undated number work answer ∷ cs) d = then answer (pass cs) (asking_undated d number work)
pass (steps answer ∷ cs) d = then answer (pass cs) (answer_of_step (step_of d))
pass (ends number answer ∷ cs) d = then answer (pass cs) (end_of d number)
pass (rests position answer ∷ cs) d = then answer (pass cs) (rest_of d position)

pass_goes : (cs : List Said) (d : Desk) → Good d → pass cs d ≡ true → Goes cs d
unfolding pass Goes
pass_goes [] d g e = tt
pass_goes (asks number work lead answer ∷ cs) d g e = λ r a.
    then_says answer (pass cs) (Goes cs) r (ap (then answer (pass cs)) (asked_is d number work lead r g a) ∙ e)
    (pass_goes cs r.desk (ask_is_good d g number work lead r a))
pass_goes (undated number work answer ∷ cs) d g e = λ r a.
    then_says answer (pass cs) (Goes cs) r (ap (then answer (pass cs)) (undated_is d number work r g a) ∙ e)
    (pass_goes cs r.desk (undated_is_good d number work r a g))
pass_goes (steps answer ∷ cs) d g e = then_says answer (pass cs) (Goes cs) (answer_of_step (step_of d)) e (pass_goes cs (step_of d).desk (step_is_good d g))
pass_goes (ends number answer ∷ cs) d g e = then_says answer (pass cs) (Goes cs) (end_of d number) e (pass_goes cs (end_of d number).desk (end_is_good d g number))
pass_goes (rests position answer ∷ cs) d g e =
    then_says answer (pass cs) (Goes cs) (rest_of d position) e (pass_goes cs (rest_of d position).desk (rest_is_good d g position))

-- the opening of a row
abbrev opening : Row → Opening
opening r = record { feeds = r.feeds; start = r.start; charge = r.charge; carried = r.carried }

-- THE TEST of a row
unfoldable tested : Row → Bool
tested r = then r.opens (pass r.calls) (answer_to (opening r))

-- THE ONE LAW: a row that passes the test holds
tested_holds : (r : Row) → tested r ≡ true → Holds r
unfolding tested Holds
tested_holds r e =
    let o = answer_to (opening r) in
    then_says r.opens (pass r.calls) (Goes r.calls) o e (pass_goes r.calls o.desk (opening_good (opening r)))

-- THE TABLE HOLDS: every row passes, computed from the definitions alone
pub the_table_holds : Each Holds table
unfolding every tested opened_of feeds_in first_of all_of plans.plan_in round_of first_from carries then pass asking opened edf.since
    in_order feeds_pass passes unused_feed plans.unused_plan piece_in table_in lacks distinct unused_job
    enough before rising insert sorted horizon_of last_due latest_of plans.next plans.since owed_by by_then taking resting rest_of desk.in_order
the_table_holds = each_of_every tested Holds tested_holds table refl

pub the_undated_table_holds : Each Holds undated_table
unfolding every tested opened_of opened_shared_of feeds_in first_of all_of plans.plan_in round_of first_from carries then pass asking asking_undated deadline_at at_share opened edf.since
    in_order desk.in_order feeds_pass passes unused_feed plans.unused_plan piece_in table_in job_in lacks distinct unused_job
    enough before rising insert sorted horizon_of last_due latest_of plans.next plans.since owed_by by_then owes_by taking ending
    step_of end_of step step_by serve turn turned runner foremost first sooner goes_before same eq
the_undated_table_holds = each_of_every tested Holds tested_holds undated_table refl
