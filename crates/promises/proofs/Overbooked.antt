-- A state in order that is overbooked all the same takes nothing; what its steps make late stays, or gives way.
use mathlib.Core.Path.{◌≡◌, refl, sym, ap, subst, ◌∙◌}
use mathlib.Core.Logic.{inl, inr}
use mathlib.Core.Bool.{Bool, true, false}
use Prim.Native.Nat.{ℕ}
use native.Mathlib.Omega.{arith}
use Rattle.lists.specs.Lists.{Some}
use Rattle.lists.proofs.Lists.{some_imp}
use Rattle.ticks.specs.Ticks.{ticks, instant}
use Rattle.mesh.specs.Bands.{work_of}
use Rattle.mesh.specs.Meshes.{triangles_of}
use Rattle.jobs.specs.declared.Job.{Job}
use Rattle.answers.specs.declared.Refusal.TheVariants.{DoesNotFit}
use Rattle.std.specs.Prelude.{Ok, Err}
use Rattle.answers.specs.Answers.{first_of}
use Rattle.edf.specs.Fits.{Fits}
use Rattle.edf.specs.Step.{step}
use Rattle.edf.specs.Order as edf
use Rattle.edf.specs.Kept.{Live, Current}
use Rattle.edf.proofs.Plans.{kin}
use Rattle.edf.proofs.Late.{late_job_stays, late_piece_gives_way, late_piece_is_over}
use Rattle.edf.proofs.Overbooked.{overbooked_fits_nothing}
use Rattle.ledger.specs.State.{Sized}
use Rattle.ledger.specs.Books.{book_job}
use Rattle.ledger.proofs.InOrder.{state_in_order, state_light, state_held}
use Rattle.desk.proofs.InOrder.{in_order_lem}
use Rattle.desk.specs.declared.Desk.{Desk}
use Rattle.desk.specs.declared.Answer.{Answer}
use Rattle.desk.specs.State.{book, in_order}
use Rattle.desk.specs.Calls.{step_lines, step_of}
use Rattle.desk.specs.Asking.{ask_lines, requested, with_job, Judged, Asked}
use Rattle.desk.specs.Undated.{undated_deadline, undated_lead, remembering}
use Rattle.desk.proofs.Asking.{admissible}
use Rattle.desk.proofs.Reachable.{admissible_askable, rewritten_sized, step_few}
use Rattle.promises.specs.Overbooked.{GetsSix, OverbookedTakesNothing, ALateJobStays, OwesNothing, ALatePieceGivesWay}
use Rattle.promises.proofs.Exact.{steps_in_order, step_hands_back, step_read}

judged_no : (d : Desk) (j : Job) (r : Answer) → (Fits (with_job d j) → ⊥) → Judged d j r → r ≡ record { desk = d; verdict = Err DoesNotFit }
unfolding Judged
judged_no d j r n (inl y) = absurd (n y.0)
judged_no d j r n (inr k) = k.1

ask_gets_six : (d : Desk) → Sized d.ledger → (Fits (book d) → ⊥) → (number work lead : ℕ) (r : Answer) → first_of (ask_lines d number (ticks work) (ticks lead)) ≡ Ok tt
    → Asked d number work lead r → GetsSix d r
ask_gets_six d s n number work lead r e a =
    let j = requested d number work lead in
    let x = admissible d number work lead s e in
    let o = in_order_lem d s x.order in
    judged_no d j r
    (overbooked_fits_nothing (book d) (book_job j) (state_in_order d.ledger o) (state_light d.ledger o) n (admissible_askable d j x))
    (a.judged e)

pub overbooked_takes_nothing : OverbookedTakesNothing
overbooked_takes_nothing =
    record {
      ask = ask_gets_six;
      mesh = λ d s n bytes size number lead r u e a. ask_gets_six d s n number (work_of (triangles_of bytes)) lead r e (a.asked u);
      undated = λ d s n number work r u e a.
          let (b, k, same) = a.asked u in
          same ∙ ap (remembering (instant (undated_deadline d work))) (ask_gets_six d s n number work (undated_lead d work) b e k);
    }

-- a state that is read as a book out of order is out of order
out_of_order : (d : Desk) → Sized d.ledger → (edf.InOrder (book d) → ⊥) → in_order d ≡ false
out_of_order d s n = go (in_order d) refl
  where
    go : (b : Bool) → in_order d ≡ b → b ≡ false
    go true e = absurd (n (state_in_order d.ledger (in_order_lem d s e)))
    go false e = refl

-- a step hands back a state of as many places
step_sized : (d : Desk) → Sized d.ledger → first_of (step_lines d) ≡ Ok tt → Sized (step_of d).desk.ledger
step_sized d s e =
    let o = steps_in_order d s e in
    subst (λ c. Sized c.ledger) (sym (step_hands_back d s e))
    (rewritten_sized d.ledger (step (book d)) o (omega (arith, step_few (book d), (state_held d.ledger o).few)))

pub a_late_job_stays : ALateJobStays
unfolding ALateJobStays
a_late_job_stays d s e n due owes l late h =
    let t = late_job_stays (book d) n due owes (state_in_order d.ledger (steps_in_order d s e)) l h late in
    let read = sym (step_read d s e) in (
      subst (Live n due _) read t.0,
      out_of_order (step_of d).desk (step_sized d s e) (subst (λ b. edf.InOrder b → ⊥) read t.1),
    )

pub a_late_piece_gives_way : ALatePieceGivesWay
unfolding ALatePieceGivesWay
a_late_piece_gives_way d s e f m =
    let here = some_imp (λ g. g ≡ f) _ (λ g. kin g f) (book d).feeds m in
    let read = sym (step_read d s e) in
    record {
      over = λ h k. subst (λ b. Some (OwesNothing f) b.feeds) read (late_piece_is_over (book d) f.position f.plan here h k);
      next = λ z. subst (Current f.position _ f.plan.work) read (late_piece_gives_way (book d) f.position f.plan here z);
    }
