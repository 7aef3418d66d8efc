-- The order of the table is not seen: the desk's book and the one in order of arrival are the same but for the order of the jobs,
-- after every call.
use mathlib.Core.Path.{◌≡◌, refl, sym, ap, subst, ◌∙◌}
use mathlib.Core.List.{List, [], ◌∷◌}
use Prim.Native.Nat.{ℕ}
use Rattle.mesh.specs.Bands.{work_of}
use Rattle.mesh.specs.Meshes.{triangles_of, mesh_lines}
use Rattle.answers.specs.Verdicts.{Verdict}
use Rattle.std.specs.Prelude.{Ok, Err}
use Rattle.answers.specs.Answers.{first_of, on_yes}
use Rattle.edf.specs.Book.{Book}
use Rattle.shares.specs.declared.Share.{Share}
use Rattle.edf.specs.Order.{InOrder as BookInOrder}
use Rattle.edf.specs.Step as edf
use Rattle.edf.specs.Calls.{taking, ending, resting}
use Rattle.edf.specs.Reordered.{Reordered}
use Rattle.edf.specs.Runs.{Did, after, Allowed}
use Rattle.edf.proofs.Reordered.{reordered_refl, reordered_trans, reordered_step, reordered_ending, reordered_resting}
use Rattle.desk.specs.declared.Desk.{Desk}
use Rattle.desk.specs.declared.Answer.{Answer}
use Rattle.desk.specs.State.{book, rewritten, Good}
use Rattle.desk.specs.Calls.{disorder, step_lines, step_of, end_lines, end_of, rest_lines, rest_of}
use Rattle.desk.specs.Asking.{Asked}
use Rattle.desk.specs.Undated.{undated_lead, AskedUndated}
use Rattle.desk.proofs.Good.{step_book, end_book, rest_book, ask_book, ask_refused, undated_book, undated_refused}
use Rattle.questions.specs.Meshes.{AskedMesh}
use Rattle.promises.specs.Runs.{Call, Calls, ask, ask_mesh, ask_undated, step, end, rest, look, allows, Made, opened, charge_of, share_of}
use Rattle.promises.specs.Undated.{TakesUndated}
use Rattle.promises.specs.Arrival.{Arrived, job_asked, ruled, lead_of, book_after, previous_after, in_order_of_arrival, AnswersAs, AnswersAsInOrderOfArrival}
use Rattle.promises.proofs.System as system
use Rattle.promises.proofs.Openings.{opening_good, either_opening}
use Rattle.promises.proofs.Stays.{call_keeps_charge, call_keeps_share, undated_remembered, others_keep}
use Rattle.promises.proofs.Unseen.{ordered, taken_same, ruled_same, lead_same, answers_as}

-- one call
module _ (c : ℕ) (b : Book) (x : Did Call Desk) (d : Desk) (g : Good d) (r : Reordered b (book d)) (q : d.ledger.charge.0 ≡ c) where
  abbrev Then : Book → Type 0
  Then e = Reordered e (book x.came.state)

  -- a call that is refused
  kept : x.came.state ≡ d → Then b
  kept e = subst (λ k. Reordered b (book k)) (sym e) r

  ask_arrives : (number work lead : ℕ) (a : Answer) → Asked d number work lead a → x.came.state ≡ a.desk
      → Then (on_yes a.verdict (taking (job_asked c b number work lead) b) b)
  ask_arrives number work lead a h e = go a.verdict refl
    where
      go : (v : Verdict) → a.verdict ≡ v → Reordered (on_yes v (taking (job_asked c b number work lead) b) b) (book x.came.state)
      go (Ok tt) y =
          subst (λ k. Reordered (taking (job_asked c b number work lead) b) (book k)) (sym e)
          (reordered_trans _ _ _ (taken_same c b d g r q number work lead) (ask_book d g number work lead a h y))
      go (Err z) n = kept (e ∙ ask_refused d number work lead a h z n)

  mesh_arrives : (s : List ℕ) (size number lead : ℕ) (a : Answer) → AskedMesh d s size number lead a → x.came.state ≡ a.desk
      → Then (on_yes a.verdict (taking (job_asked c b number (work_of (triangles_of s)) lead) b) b)
  mesh_arrives s size number lead a h e = go (first_of (disorder d ∷ mesh_lines s size)) refl
    where
      go : (v : Verdict) → first_of (disorder d ∷ mesh_lines s size) ≡ v
          → Reordered (on_yes a.verdict (taking (job_asked c b number (work_of (triangles_of s)) lead) b) b) (book x.came.state)
      go (Ok tt) y = ask_arrives number (work_of (triangles_of s)) lead a (h.asked y) e
      go (Err z) n =
          let same = h.stopped z n in
          subst (λ v. Reordered (on_yes v (taking (job_asked c b number (work_of (triangles_of s)) lead) b) b) (book x.came.state)) (sym (ap (λ k. k.verdict) same))
          (kept (e ∙ ap (λ k. k.desk) same))

  undated_arrives : (s : Share) (previous number work : ℕ) → d.share ≡ s → d.previous.0 ≡ previous → (a : Answer) → AskedUndated d number work a → x.came.state ≡ a.desk
      → Then (on_yes a.verdict (taking (job_asked c b number work (lead_of c s (record { book = b; previous = previous }) work)) b) b)
  undated_arrives s previous number work u w a h e = go a.verdict refl
    where
      go : (v : Verdict) → a.verdict ≡ v
          → Reordered (on_yes v (taking (job_asked c b number work (lead_of c s (record { book = b; previous = previous }) work)) b) b) (book x.came.state)
      go (Ok tt) y =
          subst (λ l. Reordered (taking (job_asked c b number work l) b) (book x.came.state)) (lead_same c b d g r q s u previous w work)
          (subst (λ k. Reordered (taking (job_asked c b number work (undated_lead d work)) b) (book k)) (sym e)
          (reordered_trans _ _ _ (taken_same c b d g r q number work (undated_lead d work)) (undated_book d number work a h g y)))
      go (Err z) n = kept (e ∙ undated_refused d number work a h z n)

  -- a call whose state is a book written into the desk
  written : (v : Verdict) (new : Book) (then : Book) → x.came.state ≡ on_yes v (rewritten d new) d
      → (v ≡ Ok tt → Reordered then (book (on_yes v (rewritten d new) d))) → Then (on_yes v then b)
  written (Ok tt) new then e h = subst (λ k. Reordered then (book k)) (sym e) (h refl)
  written (Err z) new then e h = kept e

  inner : BookInOrder b
  inner = ordered c b d g r q

  call_arrives : (s : Share) (previous : ℕ) → d.share ≡ s → d.previous.0 ≡ previous → allows x.call d x.came
      → Then (book_after c s x.call (record { book = b; previous = previous }))
  unfolding allows book_after step_of end_of rest_of
  call_arrives s previous u w a = go x.call a
    where
      go : (k : Call) → allows k d x.came → Then (book_after c s k (record { book = b; previous = previous }))
      go (ask number work lead r') h = ask_arrives number work lead r' h.0 (ap (λ k. k.state) h.1)
      go (ask_mesh bytes size number lead r') h = mesh_arrives bytes size number lead r' h.0 (ap (λ k. k.state) h.1)
      go (ask_undated number work r') h = undated_arrives s previous number work u w r' h.0 (ap (λ k. k.state) h.1)
      go (step r') h =
          subst (λ v. Then (on_yes v (edf.step b) b)) (sym (ap (λ k. k.verdict) h.0))
          (written (first_of (step_lines d)) (edf.step (book d)) (edf.step b) (ap (λ k. k.state) h.1 ∙ ap (λ k. k.desk) h.0)
          (λ y. subst (Reordered (edf.step b)) (sym (step_book d g y)) (reordered_step b (book d) r inner)))
      go (end n r') h =
          subst (λ v. Then (on_yes v (ending n b) b)) (sym (ap (λ k. k.verdict) h.0))
          (written (first_of (end_lines d n)) (ending n (book d)) (ending n b) (ap (λ k. k.state) h.1 ∙ ap (λ k. k.desk) h.0)
          (λ y. subst (Reordered (ending n b)) (sym (end_book d g n y)) (reordered_ending b (book d) r n)))
      go (rest p r') h =
          subst (λ v. Then (on_yes v (resting p b) b)) (sym (ap (λ k. k.verdict) h.0))
          (written (first_of (rest_lines d p)) (resting p (book d)) (resting p b) (ap (λ k. k.state) h.1 ∙ ap (λ k. k.desk) h.0)
          (λ y. subst (Reordered (resting p b)) (sym (rest_book d g p y)) (reordered_resting b (book d) r p)))
      go look h = kept (ap (λ k. k.state) h)

  -- the deadline that is remembered
  call_remembers : (s : Share) (previous : ℕ) → d.share ≡ s → d.previous.0 ≡ previous → allows x.call d x.came
      → x.came.state.previous.0 ≡ previous_after c s x.call (record { book = b; previous = previous })
  unfolding allows previous_after
  call_remembers s previous u w a = go x.call refl a
    where
      others : (k : Call) → x.call ≡ k → (TakesUndated k → ⊥) → allows k d x.came → x.came.state.previous.0 ≡ previous
      others k e n h = ap (λ t. t.0) (others_keep x d a (subst (λ y. TakesUndated y → ⊥) (sym e) n)) ∙ w

      undated : (number work : ℕ) (r' : Answer) → x.call ≡ ask_undated number work r' → AskedUndated d number work r' → x.came.state ≡ r'.desk → (v : Verdict) → r'.verdict ≡ v
          → x.came.state.previous.0 ≡ on_yes v (ruled c s (record { book = b; previous = previous }) work) previous
      undated number work r' e h k (Ok tt) y = ap (λ t. t.previous.0) k ∙ undated_remembered d number work r' h y ∙ ruled_same c b d g r q s u previous w work
      undated number work r' e h k (Err z) n = ap (λ t. t.previous.0) (k ∙ undated_refused d number work r' h z n) ∙ w

      go : (k : Call) → x.call ≡ k → allows k d x.came → x.came.state.previous.0 ≡ previous_after c s k (record { book = b; previous = previous })
      go (ask number work lead r') e h = others (ask number work lead r') e (λ n. n) h
      go (ask_mesh bytes size number lead r') e h = others (ask_mesh bytes size number lead r') e (λ n. n) h
      go (ask_undated number work r') e h = undated number work r' e h.0 (ap (λ t. t.state) h.1) r'.verdict refl
      go (step r') e h = others (step r') e (λ n. n) h
      go (end n r') e h = others (end n r') e (λ n. n) h
      go (rest p r') e h = others (rest p r') e (λ n. n) h
      go look e h = others look e (λ n. n) h

-- any calls
runs_arrive : (c : ℕ) (s : Share) (cs : Calls) (b : Book) (previous : ℕ) (d : Desk) → Good d → d.ledger.charge.0 ≡ c → d.share ≡ s → d.previous.0 ≡ previous
    → Made cs d → Reordered b (book d) → AnswersAs c s (in_order_of_arrival c s cs (record { book = b; previous = previous })) (after cs d)
unfolding after Allowed in_order_of_arrival
runs_arrive c s [] b previous d g q u w m r = answers_as c b d g r q s previous u w
runs_arrive c s (x ∷ cs) b previous d g q u w m r =
    let k : Arrived = record { book = b; previous = previous } in
    runs_arrive c s cs (book_after c s x.call k) (previous_after c s x.call k) x.came.state (system.follows x d g m.0).0 (ap (λ l. l.0) (call_keeps_charge x d m.0) ∙ q)
    (call_keeps_share x d m.0 ∙ u)
    (call_remembers c b x d g r q s previous u w m.0)
    m.1
    (call_arrives c b x d g r q s previous u w m.0)

pub answers_as_in_order_of_arrival : AnswersAsInOrderOfArrival
unfolding AnswersAsInOrderOfArrival
answers_as_in_order_of_arrival o cs m =
    runs_arrive (charge_of o) (share_of o) cs (book (opened o)) 0 (opened o) (opening_good o) refl refl (either_opening (λ d. d.previous.0) 0 o refl refl) m (reordered_refl (book (opened o)))
