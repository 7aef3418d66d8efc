-- Each call on a desk is a move of the mathematics: the one place where a call is told from the others.
use mathlib.Core.Path.{◌≡◌, refl, sym, ap, ◌∙◌, subst}
use mathlib.Core.Logic.{inl, inr}
use mathlib.Core.List.{List, ◌∷◌}
use Prim.Native.Nat.{ℕ}
use Rattle.lists.specs.Lists.{bit}
use Rattle.ticks.specs.Ticks.{ticks}
use Rattle.mesh.specs.Bands.{work_of}
use Rattle.mesh.specs.Meshes.{triangles_of, mesh_lines}
use Rattle.jobs.specs.declared.Job.{Job}
use Rattle.answers.specs.declared.Who.TheVariants.{Idle}
use Rattle.answers.specs.declared.Refusal.TheVariants.{DoesNotFit}
use Rattle.answers.specs.Verdicts.{Verdict}
use Rattle.std.specs.Prelude.{Ok, Err}
use Rattle.answers.specs.Answers.{first_of, is_yes, on_yes}
use Rattle.answers.proofs.Answers.{yes_is_not_no}
use Rattle.edf.specs.Fits.{Fits}
use Rattle.edf.specs.Step as edf
use Rattle.edf.specs.Runs.{Did}
use Rattle.edf.specs.Calls as calls
use Rattle.edf.specs.Reordered.{Reordered}
use Rattle.edf.proofs.Runs.{Makes, makes_nothing, takes_a_job, steps_once, ends_a_job, rests_a_feed, System}
use Rattle.ledger.specs.Books.{book_job, who_of, who_is}
use Rattle.ledger.proofs.Books.{who_back}
use Rattle.desk.specs.declared.Desk.{Desk}
use Rattle.desk.specs.declared.Answer.{Answer}
use Rattle.desk.specs.State.{book, rewritten, Good}
use Rattle.desk.specs.Calls.{disorder, step_lines, step_of, end_lines, end_of, rest_lines, rest_of}
use Rattle.desk.specs.Asking.{requested, with_job, Judged, Asked}
use Rattle.desk.specs.Undated.{undated_lead, AskedUndated}
use Rattle.desk.proofs.Asking.{admissible, said_yes}
use Rattle.desk.proofs.Reachable.{admissible_askable}
use Rattle.desk.proofs.Undated.{undated_yes}
use Rattle.desk.proofs.Good.{step_is_good, step_book, end_is_good, end_book, rest_is_good, rest_book, ask_is_good, ask_book, ask_refused}
use Rattle.desk.proofs.Good.{undated_is_good, undated_book, undated_refused}
use Rattle.questions.specs.Meshes.{AskedMesh}
use Rattle.promises.specs.Runs.{Call, ask, ask_mesh, ask_undated, step, end, rest, look, quiet, told, allows, Ends, Rests}

-- a job that is taken fits
pub judged_fits : (d : Desk) (j : Job) (r : Answer) → Judged d j r → r.verdict ≡ Ok tt → Fits (with_job d j)
unfolding Judged
judged_fits d j r (inl k) y = k.0
judged_fits d j r (inr k) y = absurd (yes_is_not_no DoesNotFit (sym y ∙ ap (λ a. a.verdict) k.1))

module _ (x : Did Call Desk) (d : Desk) (g : Good d) where
  abbrev Followed : Type 0
  Followed = Good x.came.state × Makes book Ends Rests x d

  -- a call that hands back the desk as it was and names nobody
  unchanged : x.came.state ≡ d → x.came.ticks ≡ 0 → Followed
  unchanged e t = (subst Good (sym e) g, makes_nothing book Ends Rests x d (ap book e) t)

  -- an ask: taken, or refused
  ask_followed : (number work lead : ℕ) (r : Answer) → Asked d number work lead r → x.came ≡ quiet r.desk → Followed
  ask_followed number work lead r a e = go r.verdict refl
    where
      state : x.came.state ≡ r.desk
      state = ap (λ c. c.state) e

      go : (v : Verdict) → r.verdict ≡ v → Followed
      go (Ok tt) y =
          let p = said_yes d number work lead r a y in
          let j = requested d number work lead in (
            subst Good (sym state) (ask_is_good d g number work lead r a),
            takes_a_job book Ends Rests x d (book_job j) (admissible_askable d j (admissible d number work lead g.sized p)) (judged_fits d j r (a.judged p) y)
                (subst (λ c. Reordered (with_job d j) (book c)) (sym state) (ask_book d g number work lead r a y))
                (ap (λ c. c.ticks) e),
          )
      go (Err z) n = unchanged (state ∙ ask_refused d number work lead r a z n) (ap (λ c. c.ticks) e)

  -- an ask with a mesh: an ordinary ask, or refused by a line of its own
  mesh_followed : (s : List ℕ) (size number lead : ℕ) (r : Answer) → AskedMesh d s size number lead r → x.came ≡ quiet r.desk → Followed
  mesh_followed s size number lead r a e = go (first_of (disorder d ∷ mesh_lines s size)) refl
    where
      go : (v : Verdict) → first_of (disorder d ∷ mesh_lines s size) ≡ v → Followed
      go (Ok tt) y = ask_followed number (work_of (triangles_of s)) lead r (a.asked y) e
      go (Err z) n = unchanged (ap (λ c. c.state) e ∙ ap (λ k. k.desk) (a.stopped z n)) (ap (λ c. c.ticks) e)

  -- an ask with no date: taken by an ordinary ask with the lead of the rule, or refused
  undated_followed : (number work : ℕ) (r : Answer) → AskedUndated d number work r → x.came ≡ quiet r.desk → Followed
  undated_followed number work r a e = go r.verdict refl
    where
      state : x.came.state ≡ r.desk
      state = ap (λ c. c.state) e

      go : (v : Verdict) → r.verdict ≡ v → Followed
      go (Ok tt) y =
          let (b, k, said, same, s) = undated_yes d number work r a y in
          let lead = undated_lead d work in
          let p = said_yes d number work lead b k said in
          let j = requested d number work lead in (
            subst Good (sym state) (undated_is_good d number work r a g),
            takes_a_job book Ends Rests x d (book_job j) (admissible_askable d j (admissible d number work lead g.sized p)) (judged_fits d j b (k.judged p) said)
                (subst (λ c. Reordered (with_job d j) (book c)) (sym state) (undated_book d number work r a g y))
                (ap (λ c. c.ticks) e),
          )
      go (Err z) n = unchanged (state ∙ undated_refused d number work r a z n) (ap (λ c. c.ticks) e)

  -- a step: taken, or refused
  step_followed : x.came ≡ told (step_of d) → Followed
  unfolding step_of
  step_followed e = go (first_of (step_lines d)) refl
    where
      go : (v : Verdict) → first_of (step_lines d) ≡ v → Followed
      go (Ok tt) y = (
        subst Good (sym (ap (λ c. c.state) e)) (step_is_good d g),
        steps_once book Ends Rests x d (ap (λ c. book c.state) e ∙ step_book d g y) (ap (λ c. c.ticks) e ∙ ap (λ v. bit (is_yes v)) y)
            (ap (λ c. c.who) e ∙ ap (λ v. who_of (on_yes v (who_is (edf.ran (book d)).who) Idle)) y ∙ who_back (edf.ran (book d)).who)
            (ap (λ c. c.owes) e ∙ ap (λ v. (on_yes v (ticks (edf.ran (book d)).owes) (ticks 0)).0) y),
      )
      go (Err z) n =
          unchanged (ap (λ c. c.state) e ∙ ap (λ v. on_yes v (rewritten d (edf.step (book d))) d) n)
          (ap (λ c. c.ticks) e ∙ ap (λ v. bit (is_yes v)) n)

  -- an end: of a live job, or refused
  end_followed : (n : ℕ) (r : Answer) → x.call ≡ end n r → r ≡ end_of d n → x.came ≡ quiet r.desk → Followed
  unfolding end_of Ends
  end_followed n r c a e = go (first_of (end_lines d n)) refl
    where
      state : x.came.state ≡ (end_of d n).desk
      state = ap (λ k. k.state) e ∙ ap (λ k. k.desk) a

      go : (v : Verdict) → first_of (end_lines d n) ≡ v → Followed
      go (Ok tt) y = (
        subst Good (sym state) (end_is_good d g n),
        ends_a_job book Ends Rests x d n (ap book state ∙ end_book d g n y) (ap (λ k. k.ticks) e) (r, c, ap (λ k. k.verdict) a ∙ y),
      )
      go (Err z) m = unchanged (state ∙ ap (λ v. on_yes v (rewritten d (calls.ending n (book d))) d) m) (ap (λ k. k.ticks) e)

  -- a rest: of a piece that owes something, or refused
  rest_followed : (p : ℕ) (r : Answer) → x.call ≡ rest p r → r ≡ rest_of d p → x.came ≡ quiet r.desk → Followed
  unfolding rest_of Rests
  rest_followed p r c a e = go (first_of (rest_lines d p)) refl
    where
      state : x.came.state ≡ (rest_of d p).desk
      state = ap (λ k. k.state) e ∙ ap (λ k. k.desk) a

      go : (v : Verdict) → first_of (rest_lines d p) ≡ v → Followed
      go (Ok tt) y = (
        subst Good (sym state) (rest_is_good d g p),
        rests_a_feed book Ends Rests x d p (ap book state ∙ rest_book d g p y) (ap (λ k. k.ticks) e) (r, c, ap (λ k. k.verdict) a ∙ y),
      )
      go (Err z) m = unchanged (state ∙ ap (λ v. on_yes v (rewritten d (calls.resting p (book d))) d) m) (ap (λ k. k.ticks) e)

-- THE ONE PLACE: which call it is
pub follows : (x : Did Call Desk) (d : Desk) → Good d → allows x.call d x.came → Good x.came.state × Makes book Ends Rests x d
unfolding allows
follows x d g a = go x.call refl a
  where
    go : (c : Call) → x.call ≡ c → allows c d x.came → Good x.came.state × Makes book Ends Rests x d
    go (ask number work lead r) c a = ask_followed x d g number work lead r a.0 a.1
    go (ask_mesh s size number lead r) c a = mesh_followed x d g s size number lead r a.0 a.1
    go (ask_undated number work r) c a = undated_followed x d g number work r a.0 a.1
    go (step r) c a = step_followed x d g (a.1 ∙ ap told a.0)
    go (end n r) c a = end_followed x d g n r c a.0 a.1
    go (rest p r) c a = rest_followed x d g p r c a.0 a.1
    go look c a = unchanged x d g (ap (λ k. k.state) a) (ap (λ k. k.ticks) a)

-- DESKS, with the calls on them, are a system that the mathematics can follow
abbrev pub desks : System Call Desk
desks =
    record {
      book = book;
      Good = Good;
      allows = allows;
      Ends = Ends;
      Rests = Rests;
      sound = λ d g. g.sound;
      follows = follows;
    }
