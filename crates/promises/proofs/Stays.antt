-- Err call changes the charge, nor the share; and what is remembered changes with a yes to an ask with no date alone.
use mathlib.Core.Path.{◌≡◌, refl, sym, ap, subst, ◌∙◌}
use mathlib.Core.Logic.{inl, inr}
use mathlib.Core.List.{List, [], ◌∷◌}
use Prim.Native.Nat.{ℕ}
use Rattle.ticks.specs.declared.Instant.{Instant}
use Rattle.ticks.specs.Ticks.{ticks, instant}
use Rattle.mesh.specs.Bands.{work_of}
use Rattle.mesh.specs.Meshes.{triangles_of, mesh_lines}
use Rattle.jobs.specs.declared.Job.{Job}
use Rattle.answers.specs.Verdicts.{Verdict}
use Rattle.std.specs.Prelude.{Ok, Err}
use Rattle.answers.specs.Answers.{first_of, on_yes}
use Rattle.edf.specs.Book.{Book}
use Rattle.edf.specs.Step as edf
use Rattle.edf.specs.Runs.{Did, after, Allowed}
use Rattle.edf.specs.Calls.{ending, resting}
use Rattle.desk.specs.declared.Desk.{Desk}
use Rattle.desk.specs.declared.Answer.{Answer}
use Rattle.desk.specs.State.{book, rewritten, since}
use Rattle.desk.specs.Calls.{disorder, step_lines, step_of, end_lines, end_of, rest_lines, rest_of}
use Rattle.desk.specs.Asking.{ask_lines, requested, with_job, Judged, Asked}
use Rattle.desk.specs.Undated.{undated_lines, undated_deadline, undated_lead, AskedUndated}
use Rattle.desk.proofs.Undated.{undated_yes}
use Rattle.desk.proofs.Good.{undated_refused}
use Rattle.questions.specs.Meshes.{AskedMesh}
use Rattle.promises.specs.Runs.{Call, Calls, ask, ask_mesh, ask_undated, step, end, rest, look, allows, Made, opened}
use Rattle.promises.specs.Kept.{TheChargeStays}
use Rattle.promises.specs.Undated.{TheShareStays, TakesUndated, TheLastIsRemembered}
use Rattle.promises.proofs.Openings.{opening_yes, either_opening}

-- whatever is read of a desk that a book written into it leaves as it was
module _ {A : Type 0} (f : Desk → A) (written : (d : Desk) (b : Book) → f (rewritten d b) ≡ f d) where
  -- whichever is handed back, a book written into the desk or the desk as it was
  either : (v : Verdict) (d : Desk) (b : Book) → f (on_yes v (rewritten d b) d) ≡ f d
  either (Ok tt) d b = written d b
  either (Err x) d b = refl

  judged_keeps : (d : Desk) (j : Job) (r : Answer) → Judged d j r → f r.desk ≡ f d
  unfolding Judged
  judged_keeps d j r (inl k) = ap (λ a. f a.desk) k.1 ∙ written d (with_job d j)
  judged_keeps d j r (inr k) = ap (λ a. f a.desk) k.1

  ask_keeps : (d : Desk) (number work lead : ℕ) (r : Answer) → Asked d number work lead r → f r.desk ≡ f d
  ask_keeps d number work lead r a = go (first_of (ask_lines d number (ticks work) (ticks lead))) refl
    where
      go : (v : Verdict) → first_of (ask_lines d number (ticks work) (ticks lead)) ≡ v → f r.desk ≡ f d
      go (Ok tt) e = judged_keeps d (requested d number work lead) r (a.judged e)
      go (Err x) e = ap (λ q. f q.desk) (a.stopped x e)

  mesh_keeps : (d : Desk) (s : List ℕ) (size number lead : ℕ) (r : Answer) → AskedMesh d s size number lead r → f r.desk ≡ f d
  mesh_keeps d s size number lead r a = go (first_of (disorder d ∷ mesh_lines s size)) refl
    where
      go : (v : Verdict) → first_of (disorder d ∷ mesh_lines s size) ≡ v → f r.desk ≡ f d
      go (Ok tt) e = ask_keeps d number (work_of (triangles_of s)) lead r (a.asked e)
      go (Err x) e = ap (λ q. f q.desk) (a.stopped x e)

  -- one call, if it is so of an ask with no date
  call_keeps_if : (x : Did Call Desk) (d : Desk) → allows x.call d x.came
      → ((number work : ℕ) (r : Answer) → x.call ≡ ask_undated number work r → AskedUndated d number work r → f r.desk ≡ f d)
      → f x.came.state ≡ f d
  unfolding allows step_of end_of rest_of
  call_keeps_if x d a undated = go x.call refl a
    where
      go : (c : Call) → x.call ≡ c → allows c d x.came → f x.came.state ≡ f d
      go (ask number work lead r) c a = ap (λ k. f k.state) a.1 ∙ ask_keeps d number work lead r a.0
      go (ask_mesh s size number lead r) c a = ap (λ k. f k.state) a.1 ∙ mesh_keeps d s size number lead r a.0
      go (ask_undated number work r) c a = ap (λ k. f k.state) a.1 ∙ undated number work r c a.0
      go (step r) c a = ap (λ k. f k.state) a.1 ∙ ap (λ q. f q.desk) a.0 ∙ either (first_of (step_lines d)) d (edf.step (book d))
      go (end n r) c a = ap (λ k. f k.state) a.1 ∙ ap (λ q. f q.desk) a.0 ∙ either (first_of (end_lines d n)) d (ending n (book d))
      go (rest p r) c a = ap (λ k. f k.state) a.1 ∙ ap (λ q. f q.desk) a.0 ∙ either (first_of (rest_lines d p)) d (resting p (book d))
      go look c a = ap (λ k. f k.state) a

-- and a deadline that is remembered too
module _ {A : Type 0} (f : Desk → A) (written : (d : Desk) (b : Book) → f (rewritten d b) ≡ f d) (remembered : (t : Instant) (d : Desk) → f (since t d) ≡ f d) where
  last_or_not : (v : Verdict) (t : Instant) (d : Desk) → f (on_yes v (since t d) d) ≡ f d
  last_or_not (Ok tt) t d = remembered t d
  last_or_not (Err x) t d = refl

  undated_keeps : (d : Desk) (number work : ℕ) (r : Answer) → AskedUndated d number work r → f r.desk ≡ f d
  undated_keeps d number work r a = go (first_of (undated_lines d number)) refl
    where
      go : (v : Verdict) → first_of (undated_lines d number) ≡ v → f r.desk ≡ f d
      go (Ok tt) e =
          let (b, k, same) = a.asked e in
          ap (λ q. f q.desk) same ∙ last_or_not b.verdict (instant (undated_deadline d work)) b.desk ∙ ask_keeps f written d number work (undated_lead d work) b k
      go (Err x) e = ap (λ q. f q.desk) (a.stopped x e)

  -- one call
  call_keeps : (x : Did Call Desk) (d : Desk) → allows x.call d x.came → f x.came.state ≡ f d
  call_keeps x d a = call_keeps_if f written x d a (λ number work r c h. undated_keeps d number work r h)

  -- any calls
  calls_keep : (cs : Calls) (d : Desk) → Made cs d → f (after cs d) ≡ f d
  unfolding after Allowed
  calls_keep [] d m = refl
  calls_keep (x ∷ cs) d m = calls_keep cs x.came.state m.1 ∙ call_keeps x d m.0

pub call_keeps_charge : (x : Did Call Desk) (d : Desk) → allows x.call d x.came → x.came.state.ledger.charge ≡ d.ledger.charge
call_keeps_charge = call_keeps (λ d. d.ledger.charge) (λ d b. refl) (λ t d. refl)

pub calls_keep_charge : (cs : Calls) (d : Desk) → Made cs d → (after cs d).ledger.charge ≡ d.ledger.charge
calls_keep_charge = calls_keep (λ d. d.ledger.charge) (λ d b. refl) (λ t d. refl)

pub call_keeps_share : (x : Did Call Desk) (d : Desk) → allows x.call d x.came → x.came.state.share ≡ d.share
call_keeps_share = call_keeps (λ d. d.share) (λ d b. refl) (λ t d. refl)

pub calls_keep_share : (cs : Calls) (d : Desk) → Made cs d → (after cs d).share ≡ d.share
calls_keep_share = calls_keep (λ d. d.share) (λ d b. refl) (λ t d. refl)

-- a yes to an ask with no date is remembered by its deadline
pub undated_remembered : (d : Desk) (number work : ℕ) (r : Answer) → AskedUndated d number work r → r.verdict ≡ Ok tt → r.desk.previous.0 ≡ undated_deadline d work
undated_remembered d number work r a y = let (b, k, said, same, s) = undated_yes d number work r a y in ap (λ e. e.previous.0) same

-- and no other call changes what is remembered
pub others_keep : (x : Did Call Desk) (d : Desk) → allows x.call d x.came → (TakesUndated x.call → ⊥) → x.came.state.previous ≡ d.previous
others_keep x d a n = call_keeps_if (λ e. e.previous) (λ e b. refl) x d a undated
  where
    undated : (number work : ℕ) (r : Answer) → x.call ≡ ask_undated number work r → AskedUndated d number work r → r.desk.previous ≡ d.previous
    undated number work r c h = go r.verdict refl
      where
        go : (v : Verdict) → r.verdict ≡ v → r.desk.previous ≡ d.previous
        go (Ok tt) y = absurd (n (subst TakesUndated (sym c) y))
        go (Err z) m = ap (λ e. e.previous) (undated_refused d number work r h z m)

pub the_last_is_remembered : TheLastIsRemembered
the_last_is_remembered =
    record {
      opening = λ o. either_opening (λ d. d.previous.0) 0 o refl refl;
      undated = undated_remembered;
      others = others_keep;
    }

pub the_charge_stays : TheChargeStays
unfolding TheChargeStays
the_charge_stays o cs m = (ap (λ l. l.0) (calls_keep_charge cs (opened o) m), λ y. ap (λ d. d.ledger.charge.0) (opening_yes o y))

pub the_share_stays : TheShareStays
unfolding TheShareStays
the_share_stays o cs m = (calls_keep_share cs (opened o) m, λ y. ap (λ d. d.share) (opening_yes o y))
