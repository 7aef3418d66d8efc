-- Demand 3 is kept.
use mathlib.Core.Path.{◌≡◌, refl, sym, ap, ◌∙◌, subst}
use mathlib.Core.Logic.{◌⊎◌, inl, inr}
use mathlib.Core.List.{List, [], ◌∷◌, ◌++◌}
use Prim.Native.Nat.{ℕ, ◌+◌, ◌≤◌}
use native.Mathlib.Omega.{arith}
use Rattle.ticks.specs.Ticks.{ticks}
use Rattle.feeds.specs.Lines.{feeds_in}
use Rattle.mesh.specs.Bands.{work_of}
use Rattle.mesh.specs.Meshes.{triangles_of, mesh_lines}
use Rattle.answers.specs.Verdicts.{Verdict}
use Rattle.std.specs.Prelude.{Ok, Err}
use Rattle.answers.specs.Answers.{first_of}
use Rattle.answers.proofs.Answers.{yes_is_not_no}
use Rattle.edf.specs.Book.{job}
use Rattle.edf.specs.Runs.{Did, after, Allowed, named}
use Rattle.edf.specs.Kept as edf
use Rattle.edf.proofs.Runs.{allowed_append, run_is_good}
use Rattle.edf.specs.Reordered.{Reordered}
use Rattle.edf.proofs.Reordered.{reordered_live}
use Rattle.edf.proofs.Kept.{job_is_kept}
use Rattle.edf.proofs.Promises as edf_promises
use Rattle.edf.proofs.Service.{Has}
use Rattle.ledger.specs.Books.{book_feeds, book_job}
use Rattle.desk.specs.declared.Desk.{Desk}
use Rattle.desk.specs.declared.Answer.{Answer}
use Rattle.desk.specs.State.{book, Good}
use Rattle.desk.specs.Calls.{disorder}
use Rattle.desk.specs.Asking.{requested, with_job, Asked}
use Rattle.desk.specs.Undated.{undated_lead}
use Rattle.questions.specs.Meshes.{AskedMesh}
use Rattle.desk.proofs.Undated.{undated_due}
use Rattle.desk.proofs.Good.{ask_is_good, ask_book, undated_is_good, undated_book}
use Rattle.promises.specs.Runs.{Call, Calls, Made, allows, Opening, opened, charge_of, asked, asked_mesh, asked_undated}
use Rattle.promises.specs.Kept.{EveryStateIsInOrder, EveryYesIsKept, EveryMeshYesIsKept, EveryUndatedYesIsKept, DoneByItsDeadline, EveryPieceIsKept, EveryOpenedPieceIsKept}
use Rattle.promises.specs.Kept.{ServedByItsDeadline, EveryReportIsRight, EveryMeshReportIsRight, EveryUndatedReportIsRight, EveryPieceReportIsRight, EveryOpenedPieceReportIsRight, JobKept, Over}
use Rattle.promises.proofs.System.{desks}
use Rattle.promises.proofs.Openings.{opening_good, opening_book}
use Rattle.promises.proofs.Stays.{calls_keep_charge}

pub every_state_is_in_order : EveryStateIsInOrder
unfolding EveryStateIsInOrder
every_state_is_in_order o cs m =
    let g = run_is_good desks cs (opened o) (opening_good o) m in
    (g.order, g.sound)

-- either the first, as told of it, or the second
report : {A B X : Type 0} → A ⊎ B → (A → X) → X ⊎ B
report (inl k) f = inl (f k)
report (inr k) f = inr k

-- what is told of a job by the step x, or that it was over before
abbrev Told : ℕ → ℕ → Calls → Did Call Desk → Desk → ℕ → Type 0
Told number due since_then x d work =
    (x.came.owes + named (job number) (since_then ++ (x ∷ [])) ≡ work) ⊎ Over number due work since_then d

-- what an ask that was made and answered yes leaves: a good desk with the job live
module _ (d : Desk) (number work lead : ℕ) (e : Desk) (g : Good e) (has : Reordered (with_job d (requested d number work lead)) (book e)) where
  -- its charged work
  abbrev owed : ℕ
  owed = work + d.ledger.charge.0

  asked_live : edf.Live number (d.ledger.clock.0 + lead) owed (book e)
  asked_live = reordered_live _ _ has number (d.ledger.clock.0 + lead) owed (edf_promises.taken_is_live (book d) (book_job (requested d number work lead)))

  asked_kept : (later : Calls) → Made later e → JobKept number (d.ledger.clock.0 + lead) (work + d.ledger.charge.0) later e
  asked_kept later m = job_is_kept desks later e number (d.ledger.clock.0 + lead) owed g m asked_live

  -- what an answer tells of the job, or it was over before
  asked_reported : (since_then : Calls) (x : Did Call Desk) (later : Calls) → Made (since_then ++ (x ∷ later)) e
      → x.came.who ≡ job number → 1 ≤ x.came.ticks → Told number (d.ledger.clock.0 + lead) since_then x e (work + d.ledger.charge.0)
  asked_reported since_then x later m w h =
      let right = edf_promises.a_job's_report_is_right desks e g since_then x later m number (d.ledger.clock.0 + lead) owed in
      report (asked_kept since_then (allowed_append allows since_then (x ∷ later) e m).0) (λ k. right k w h)

-- calls put together again
made_of : (before : Calls) (x : Did Call Desk) (later : Calls) (d : Desk) → Made before d → allows x.call (after before d) x.came → Made later x.came.state → Made (before ++ (x ∷ later)) d
unfolding after Allowed
made_of [] x later d m a l = (a, l)
made_of (b ∷ before) x later d m a l = (m.0, made_of before x later b.came.state m.1 a l)

-- an ask with a mesh that is answered yes is an ordinary ask with the work of its band
mesh_yes_is_asked : (d : Desk) (s : List ℕ) (size number lead : ℕ) (r : Answer) → AskedMesh d s size number lead r → r.verdict ≡ Ok tt
    → Asked d number (work_of (triangles_of s)) lead r
mesh_yes_is_asked d s size number lead r a y = go (first_of (disorder d ∷ mesh_lines s size)) refl
  where
    go : (v : Verdict) → first_of (disorder d ∷ mesh_lines s size) ≡ v → Asked d number (work_of (triangles_of s)) lead r
    go (Ok tt) e = a.asked e
    go (Err x) e = absurd (yes_is_not_no x (sym y ∙ ap (λ k. k.verdict) (a.stopped x e)))

-- calls before an ask, the ask, and the calls after it
module _ (o : Opening) (before : Calls) (x : Did Call Desk) (later : Calls) (m : Made (before ++ (x ∷ later)) (opened o)) where
  parts : Made before (opened o) × Made (x ∷ later) (after before (opened o))
  parts = allowed_append allows before (x ∷ later) (opened o) m

  good_before : Good (after before (opened o))
  good_before = run_is_good desks before (opened o) (opening_good o) parts.0

  charge_before : (after before (opened o)).ledger.charge.0 ≡ charge_of o
  charge_before = ap (λ l. l.0) (calls_keep_charge before (opened o) parts.0)

pub every_yes_is_kept : EveryYesIsKept
unfolding EveryYesIsKept Allowed allows
every_yes_is_kept o before number work lead r later m y =
    let p = parts o before (asked number work lead r) later m in
    let d = after before (opened o) in
    let x = asked number work lead r in
    let g = good_before o before x later m in
    subst (λ c. JobKept number (d.ledger.clock.0 + lead) (work + c) later r.desk) (charge_before o before x later m)
    (asked_kept d number work lead r.desk (ask_is_good d g number work lead r p.1.0.0) (ask_book d g number work lead r p.1.0.0 y) later p.1.1)

pub every_mesh_yes_is_kept : EveryMeshYesIsKept
unfolding EveryMeshYesIsKept Allowed allows
every_mesh_yes_is_kept o before s size number lead r later m y =
    let p = parts o before (asked_mesh s size number lead r) later m in
    let d = after before (opened o) in
    let x = asked_mesh s size number lead r in
    let g = good_before o before x later m in
    let work = work_of (triangles_of s) in
    let a = mesh_yes_is_asked d s size number lead r p.1.0.0 y in
    subst (λ c. JobKept number (d.ledger.clock.0 + lead) (work + c) later r.desk) (charge_before o before x later m)
    (asked_kept d number work lead r.desk (ask_is_good d g number work lead r a) (ask_book d g number work lead r a y) later p.1.1)

pub every_undated_yes_is_kept : EveryUndatedYesIsKept
unfolding EveryUndatedYesIsKept Allowed allows
every_undated_yes_is_kept o before number work r later m y =
    let x = asked_undated number work r in
    let p = parts o before x later m in
    let d = after before (opened o) in
    let g = good_before o before x later m in
    let a = p.1.0.0 in
    subst (λ t. JobKept number t (work + charge_of o) later r.desk) (undated_due d work)
    (subst (λ c. JobKept number (d.ledger.clock.0 + undated_lead d work) (work + c) later r.desk) (charge_before o before x later m)
    (asked_kept d number work (undated_lead d work) r.desk (undated_is_good d number work r a g) (undated_book d number work r a g y) later p.1.1))

pub done_by_its_deadline : DoneByItsDeadline
unfolding DoneByItsDeadline
done_by_its_deadline n due work cs d (inl k) h = absurd (omega (arith, k.ahead))
done_by_its_deadline n due work cs d (inr k) h = k

pub every_piece_is_kept : EveryPieceIsKept
unfolding EveryPieceIsKept
every_piece_is_kept o y f lent before x later m t z =
    let has = subst (Has f) (sym (opening_book o y)) (edf_promises.opening_has o.start (book_feeds (ticks o.charge) 1 (feeds_in o.feeds)) f lent) in
    edf_promises.a_released_piece_is_kept desks (opened o) (opening_good o) before x later f has m t z

pub every_opened_piece_is_kept : EveryOpenedPieceIsKept
unfolding EveryOpenedPieceIsKept
every_opened_piece_is_kept o y f lent z later m =
    edf_promises.an_opened_piece_is_kept desks (opened o) (opening_good o) o.start (book_feeds (ticks o.charge) 1 (feeds_in o.feeds)) f lent (opening_book o y) z later m

pub every_report_is_right : EveryReportIsRight
unfolding EveryReportIsRight Allowed allows
every_report_is_right o before number work lead r since_then x later m y w h =
    let d = after before (opened o) in
    let a = asked number work lead r in
    let p = parts o before a (since_then ++ (x ∷ later)) m in
    let g = good_before o before a (since_then ++ (x ∷ later)) m in
    subst (λ c. Told number (d.ledger.clock.0 + lead) since_then x r.desk (work + c)) (charge_before o before a (since_then ++ (x ∷ later)) m)
    (asked_reported d number work lead r.desk (ask_is_good d g number work lead r p.1.0.0) (ask_book d g number work lead r p.1.0.0 y) since_then x later p.1.1 w h)

pub every_mesh_report_is_right : EveryMeshReportIsRight
unfolding EveryMeshReportIsRight Allowed allows
every_mesh_report_is_right o before s size number lead r since_then x later m y w h =
    let d = after before (opened o) in
    let a = asked_mesh s size number lead r in
    let p = parts o before a (since_then ++ (x ∷ later)) m in
    let g = good_before o before a (since_then ++ (x ∷ later)) m in
    let work = work_of (triangles_of s) in
    let k = mesh_yes_is_asked d s size number lead r p.1.0.0 y in
    subst (λ c. Told number (d.ledger.clock.0 + lead) since_then x r.desk (work + c)) (charge_before o before a (since_then ++ (x ∷ later)) m)
    (asked_reported d number work lead r.desk (ask_is_good d g number work lead r k) (ask_book d g number work lead r k y) since_then x later p.1.1 w h)

pub every_undated_report_is_right : EveryUndatedReportIsRight
unfolding EveryUndatedReportIsRight Allowed allows
every_undated_report_is_right o before number work r since_then x later m y w h =
    let d = after before (opened o) in
    let k = asked_undated number work r in
    let p = parts o before k (since_then ++ (x ∷ later)) m in
    let g = good_before o before k (since_then ++ (x ∷ later)) m in
    let a = p.1.0.0 in
    subst (λ t. Told number t since_then x r.desk (work + charge_of o)) (undated_due d work)
    (subst (λ c. Told number (d.ledger.clock.0 + undated_lead d work) since_then x r.desk (work + c)) (charge_before o before k (since_then ++ (x ∷ later)) m)
    (asked_reported d number work (undated_lead d work) r.desk (undated_is_good d number work r a g) (undated_book d number work r a g y) since_then x later p.1.1 w h))

pub served_by_its_deadline : ServedByItsDeadline
unfolding ServedByItsDeadline
served_by_its_deadline p due work cs d (inl k) h = absurd (omega (arith, k.ahead))
served_by_its_deadline p due work cs d (inr k) h = k

pub every_piece_report_is_right : EveryPieceReportIsRight
unfolding EveryPieceReportIsRight EveryPieceIsKept Allowed
every_piece_report_is_right o y f lent before released since_then x later m t z w h =
    let p = parts o before released (since_then ++ (x ∷ later)) m in
    let g = good_before o before released (since_then ++ (x ∷ later)) m in
    let good = (desks.follows released (after before (opened o)) g p.1.0).0 in
    let q = allowed_append allows since_then (x ∷ later) released.came.state p.1.1 in
    let n = f.position in
    let due = released.came.state.ledger.clock.0 + f.plan.lead in
    let right = edf_promises.a_piece's_report_is_right desks released.came.state good since_then x later p.1.1 n due f.plan.work in
    let kept = every_piece_is_kept o y f lent before released since_then (made_of before released since_then (opened o) p.0 p.1.0 q.0) t z in
    report kept (λ k. right k w h)

pub every_opened_piece_report_is_right : EveryOpenedPieceReportIsRight
unfolding EveryOpenedPieceReportIsRight EveryOpenedPieceIsKept
every_opened_piece_report_is_right o y f lent z since_then x later m w h =
    let d = opened o in
    let right = edf_promises.a_piece's_report_is_right desks d (opening_good o) since_then x later m f.position (o.start + f.plan.lead) f.plan.work in
    report (every_opened_piece_is_kept o y f lent z since_then (allowed_append allows since_then (x ∷ later) d m).0) (λ k. right k w h)
