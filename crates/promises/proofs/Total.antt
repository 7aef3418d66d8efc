-- Demand 1: the refusal is the one listed, and a refused call hands back the state that it was given.
use mathlib.Core.Path.{◌≡◌, refl, sym, ap, ◌∙◌}
use mathlib.Core.Logic.{inl, inr, ◌↔◌}
use mathlib.Core.Bool.{Bool, true, false}
use mathlib.Core.List.{List, [], ◌∷◌, ◌++◌}
use Prim.Native.Nat.{ℕ}
use Rattle.lists.specs.Lists.{Each}
use Rattle.ticks.specs.Ticks.{ticks, instant}
use Rattle.mesh.specs.Bands.{work_of}
use Rattle.mesh.specs.Meshes.{triangles_of, mesh_lines}
use Rattle.feeds.specs.Lines.{feeds_in}
use Rattle.jobs.specs.declared.Job.{Job}
use Rattle.answers.specs.declared.Who.TheVariants.{Idle}
use Rattle.answers.specs.declared.Refusal.{Refusal}
use Rattle.answers.specs.declared.Refusal.TheVariants.{DoesNotFit}
use Rattle.answers.specs.Verdicts.{Verdict}
use Rattle.std.specs.Prelude.{Ok, Err}
use Rattle.std.specs.Result.{result_unwrap_or}
use Rattle.answers.specs.Answers.{Line, line, first_of, on_yes, yes_with}
use Rattle.answers.proofs.Answers.{stops, goes_on_lem, no_line, yes_first, yes_is_not_no, told_verdict}
use Rattle.edf.specs.Fits.{Fits}
use Rattle.edf.specs.Step.{ran, step}
use Rattle.ledger.specs.Books.{who_is}
use Rattle.desk.specs.declared.Desk.{Desk}
use Rattle.desk.specs.declared.Answer.{Answer}
use Rattle.shares.specs.Shares.{share}
use Rattle.desk.specs.State.{book, rewritten, sharing, empty}
use Rattle.desk.specs.Opening.{opened_desk, opened_of, opened_shared_of}
use Rattle.desk.specs.Calls.{disorder, step_of, end_of, rest_of, list_lines, counted_of, listed_of}
use Rattle.jobs.specs.Jobs.{live}
use lib.ListN.{length}
use Rattle.desk.specs.Asking.{ask_lines, requested, with_job, Judged, Asked}
use Rattle.desk.specs.Undated.{undated_lines, undated_lead, AskedUndated}
use Rattle.desk.proofs.Good.{ask_refused, undated_refused}
use Rattle.questions.specs.Meshes.{AskedMesh}
use Rattle.promises.specs.Total.{FirstThatHolds, AskRefused, MeshRefused, UndatedRefused, TheRefusalListed, RefusedHandsBack}

-- lines of which none holds, before others
past : (ls ms : List Line) (v : Verdict) → Each (λ l. l.holds ≡ false) ls → first_of ms ≡ v → first_of (ls ++ ms) ≡ v
past [] ms v n e = e
past (l ∷ ls) ms v n e = goes_on_lem l (ls ++ ms) v n.0 (past ls ms v n.1 e)

no_same : (x y : Refusal) → ◌≡◌ {A = Verdict} (Err x) (Err y) → x ≡ y
no_same x y e = cc

-- the first line that holds is the refusal's
first_holds : (ls : List Line) (x : Refusal) → first_of ls ≡ Err x → FirstThatHolds ls x
first_holds [] x e = absurd (yes_is_not_no x (sym no_line ∙ e))
first_holds (l ∷ ls) x e = go l.holds refl (first_holds ls x)
  where
    go : (b : Bool) → l.holds ≡ b → (first_of ls ≡ Err x → FirstThatHolds ls x) → FirstThatHolds (l ∷ ls) x
    go true h ih =
        let same : l.refusal ≡ x = no_same l.refusal x (sym (stops l ls h) ∙ e) in
        record { before = []; later = ls; stands = λ i. record { holds = h i; refusal = same i } ∷ ls; none = tt }
    go false h ih =
        let t = ih (sym (goes_on_lem l ls (first_of ls) h refl) ∙ e) in
        record { before = l ∷ t.before; later = t.later; stands = ap (l ∷◌) t.stands; none = (h, t.none) }

first_is : (ls : List Line) (x : Refusal) → FirstThatHolds ls x → first_of ls ≡ Err x
first_is ls x t =
    ap first_of t.stands ∙ past t.before (line true x ∷ t.later) (Err x) t.none (stops (line true x) t.later refl)

none_holds : (ls : List Line) → first_of ls ≡ Ok tt → Each (λ l. l.holds ≡ false) ls
none_holds [] e = tt
none_holds (l ∷ ls) e = let t = yes_first l ls e in (t.0, none_holds ls t.1)

all_pass : (ls : List Line) → Each (λ l. l.holds ≡ false) ls → first_of ls ≡ Ok tt
all_pass [] n = no_line
all_pass (l ∷ ls) n = goes_on_lem l ls (Ok tt) n.0 (all_pass ls n.1)

-- an ask that no line stops is refused with 6, and only where it does not fit
judged_refusal : (d : Desk) (j : Job) (r : Answer) (x : Refusal) → Judged d j r → r.verdict ≡ Err x → (x ≡ DoesNotFit) × (Fits (with_job d j) → ⊥)
unfolding Judged
judged_refusal d j r x (inl y) e = absurd (yes_is_not_no x (sym (ap (λ a. a.verdict) y.1) ∙ e))
judged_refusal d j r x (inr n) e = (no_same x DoesNotFit (sym e ∙ ap (λ a. a.verdict) n.1), n.0)

judged_six : (d : Desk) (j : Job) (r : Answer) → Judged d j r → (Fits (with_job d j) → ⊥) → r.verdict ≡ Err DoesNotFit
unfolding Judged
judged_six d j r (inl y) f = absurd (f y.0)
judged_six d j r (inr n) f = ap (λ a. a.verdict) n.1

ask_listed : (d : Desk) (number work lead : ℕ) (r : Answer) → Asked d number work lead r
    → (x : Refusal) → (r.verdict ≡ Err x) ↔ AskRefused d number work lead x
ask_listed d number work lead r a x = (λ n. told (first_of (ask_lines d number (ticks work) (ticks lead))) refl n, given)
  where
    told : (v : Verdict) → first_of (ask_lines d number (ticks work) (ticks lead)) ≡ v → r.verdict ≡ Err x → AskRefused d number work lead x
    told (Ok tt) e n = let t = judged_refusal d (requested d number work lead) r x (a.judged e) n in inr (e, t.0, t.1)
    told (Err y) e n = inl (e ∙ sym (ap (λ k. k.verdict) (a.stopped y e)) ∙ n)

    given : AskRefused d number work lead x → r.verdict ≡ Err x
    given (inl e) = ap (λ k. k.verdict) (a.stopped x e)
    given (inr t) = judged_six d (requested d number work lead) r (a.judged t.0) t.2 ∙ ap Err (sym t.1)

mesh_listed : (d : Desk) (s : List ℕ) (size number lead : ℕ) (r : Answer) → AskedMesh d s size number lead r
    → (x : Refusal) → (r.verdict ≡ Err x) ↔ MeshRefused d s size number lead x
mesh_listed d s size number lead r a x = (λ n. told (first_of (disorder d ∷ mesh_lines s size)) refl n, given)
  where
    told : (v : Verdict) → first_of (disorder d ∷ mesh_lines s size) ≡ v → r.verdict ≡ Err x → MeshRefused d s size number lead x
    told (Ok tt) e n = inr (e, (ask_listed d number (work_of (triangles_of s)) lead r (a.asked e) x).0 n)
    told (Err y) e n = inl (e ∙ sym (ap (λ k. k.verdict) (a.stopped y e)) ∙ n)

    given : MeshRefused d s size number lead x → r.verdict ≡ Err x
    given (inl e) = ap (λ k. k.verdict) (a.stopped x e)
    given (inr t) = (ask_listed d number (work_of (triangles_of s)) lead r (a.asked t.0) x).1 t.1

undated_listed : (d : Desk) (number work : ℕ) (r : Answer) → AskedUndated d number work r
    → (x : Refusal) → (r.verdict ≡ Err x) ↔ UndatedRefused d number work x
undated_listed d number work r a x = (λ n. told (first_of (undated_lines d number)) refl n, given)
  where
    told : (v : Verdict) → first_of (undated_lines d number) ≡ v → r.verdict ≡ Err x → UndatedRefused d number work x
    told (Ok tt) e n =
        let (b, k, same) = a.asked e in
        inr (e, (ask_listed d number work (undated_lead d work) b k x).0 (sym (ap (λ q. q.verdict) same) ∙ n))
    told (Err y) e n = inl (e ∙ sym (ap (λ k. k.verdict) (a.stopped y e)) ∙ n)

    given : UndatedRefused d number work x → r.verdict ≡ Err x
    given (inl e) = ap (λ k. k.verdict) (a.stopped x e)
    given (inr t) =
        let (b, k, same) = a.asked t.0 in
        ap (λ q. q.verdict) same ∙ (ask_listed d number work (undated_lead d work) b k x).1 t.1

pub the_refusal_listed : TheRefusalListed
unfolding opened_of opened_shared_of step_of end_of rest_of counted_of
the_refusal_listed =
    record {
      first = λ ls x. (first_holds ls x, first_is ls x);
      passed = λ ls. (none_holds ls, all_pass ls);
      opening = λ xs start charge. refl;
      shared = λ xs start charge p q. refl;
      ask = ask_listed;
      mesh = mesh_listed;
      undated = undated_listed;
      step = λ d. refl;
      end = λ d n. refl;
      rest = λ d p. refl;
      list = λ d size. told_verdict (first_of (list_lines d size)) (length (live d.ledger.table));
    }

-- what is handed back beside a refusal
refused : {A : Type 0} (v : Verdict) (x : Refusal) (new old : A) → v ≡ Err x → on_yes v new old ≡ old
refused v x new old e = ap (λ w. on_yes w new old) e

mesh_refused : (d : Desk) (s : List ℕ) (size number lead : ℕ) (r : Answer) (x : Refusal) → AskedMesh d s size number lead r → r.verdict ≡ Err x → r.desk ≡ d
mesh_refused d s size number lead r x a n = go (first_of (disorder d ∷ mesh_lines s size)) refl
  where
    go : (v : Verdict) → first_of (disorder d ∷ mesh_lines s size) ≡ v → r.desk ≡ d
    go (Ok tt) e = ask_refused d number (work_of (triangles_of s)) lead r (a.asked e) x n
    go (Err y) e = ap (λ k. k.desk) (a.stopped y e)

step_refused : (d : Desk) (x : Refusal) → (step_of d).verdict ≡ Err x → step_of d ≡ record { desk = d; verdict = Err x; who = Idle; owes = ticks 0 }
unfolding step_of
step_refused d x n =
    λ i. record {
      desk = on_yes (n i) (rewritten d (step (book d))) d;
      verdict = n i;
      who = on_yes (n i) (who_is (ran (book d)).who) Idle;
      owes = on_yes (n i) (ticks (ran (book d)).owes) (ticks 0);
    }

pub refused_hands_back : RefusedHandsBack
unfolding opened_of opened_shared_of step_of end_of rest_of counted_of listed_of
refused_hands_back =
    record {
      opening = λ xs start charge x n. refused (opened_of xs start charge).verdict x (opened_desk (feeds_in xs) (ticks charge) (instant start)) empty n;
      shared = λ xs start charge p q x n. refused (opened_shared_of xs start charge p q).verdict x (sharing (share p q) (opened_desk (feeds_in xs) (ticks charge) (instant start))) empty n;
      ask = λ d number work lead r x a. ask_refused d number work lead r a x;
      mesh = mesh_refused;
      undated = λ d number work r x a. undated_refused d number work r a x;
      step = step_refused;
      end = λ d k x n. refused _ x _ d n;
      rest = λ d p x n. refused _ x _ d n;
      list = λ d buffer x n.
          let count = length (live d.ledger.table) in
          let says = sym (told_verdict (first_of (list_lines d (length buffer))) count) ∙ n in
          (refused _ x _ buffer says, ap (λ v. result_unwrap_or (yes_with v count) 0) says);
    }
