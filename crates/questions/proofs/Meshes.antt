-- An ask with a mesh: stopped by line 13 or one of its own, or an ordinary ask with the work of its band.
use mathlib.Core.Path.{◌≡◌, refl, sym, ap, ◌∙◌, subst}
use mathlib.Core.Bool.{Bool, true, false, not}
use mathlib.Core.List.{List, ◌∷◌}
use Prim.Native.Nat.{ℕ}
use Rattle.mesh.specs.Bands.{work_of}
use Rattle.mesh.specs.Meshes.{triangles_of, mesh_lines}
use Rattle.answers.specs.declared.Refusal.{Refusal}
use Rattle.answers.specs.declared.Refusal.TheVariants.{NotInOrder}
use Rattle.answers.specs.Verdicts.{Verdict}
use Rattle.std.specs.Prelude.{Ok, Err}
use Rattle.answers.specs.Answers.{first_of}
use Rattle.answers.proofs.Answers.{stops, goes_on_lem, yes_is_not_no}
use Rattle.desk.specs.declared.Desk.{Desk}
use Rattle.desk.specs.State.{in_order}
use Rattle.desk.specs.declared.Answer.{Answer}
use Rattle.desk.specs.Calls.{disorder}
use Rattle.desk.specs.Asking.{Asked}
use Rattle.desk.proofs.Asking.{asked_once}
use Rattle.questions.specs.Meshes.{AskedMesh}

module _ (d : Desk) (s : List ℕ) (size number lead : ℕ) where
  -- an ask that a line stops
  mesh_stopped : (x : Refusal) → first_of (disorder d ∷ mesh_lines s size) ≡ Err x → AskedMesh d s size number lead (record { desk = d; verdict = Err x })
  mesh_stopped x e =
      record {
        stopped = λ y f. λ i. record { desk = d; verdict = (sym e ∙ f) i };
        asked = λ f. absurd (yes_is_not_no x (sym f ∙ e));
      }

  -- line 13 comes first
  pub mesh_out_of_order : in_order d ≡ false → AskedMesh d s size number lead (record { desk = d; verdict = Err NotInOrder })
  mesh_out_of_order out = mesh_stopped NotInOrder (stops (disorder d) (mesh_lines s size) (ap not out))

  -- then the mesh's own
  pub mesh_refused : (x : Refusal) → in_order d ≡ true → first_of (mesh_lines s size) ≡ Err x → AskedMesh d s size number lead (record { desk = d; verdict = Err x })
  mesh_refused x fine e = mesh_stopped x (goes_on_lem (disorder d) (mesh_lines s size) (Err x) (ap not fine) e)

  -- where none of its own holds, it is an ordinary ask
  pub mesh_asked : (w : ℕ) (r : Answer) → first_of (mesh_lines s size) ≡ Ok tt → w ≡ work_of (triangles_of s) → Asked d number w lead r → AskedMesh d s size number lead r
  mesh_asked w r h e a = record { stopped = out (disorder d).holds refl; asked = λ k. subst (λ v. Asked d number v lead r) e a }
    where
      out : (b : Bool) → (disorder d).holds ≡ b → (x : Refusal) → first_of (disorder d ∷ mesh_lines s size) ≡ Err x → r ≡ record { desk = d; verdict = Err x }
      out true o x k = a.stopped x (stops (disorder d) _ o ∙ sym (stops (disorder d) (mesh_lines s size) o) ∙ k)
      out false o x k = absurd (yes_is_not_no x (sym (goes_on_lem (disorder d) (mesh_lines s size) (Ok tt) o h) ∙ k))

-- TWO OUTCOMES THAT THE CONTRACT ALLOWS ARE THE SAME
pub asked_mesh_once : (d : Desk) (s : List ℕ) (size number lead : ℕ) (q r : Answer) → AskedMesh d s size number lead q → AskedMesh d s size number lead r → q ≡ r
asked_mesh_once d s size number lead q r a b = go (first_of (disorder d ∷ mesh_lines s size)) refl
  where
    go : (v : Verdict) → first_of (disorder d ∷ mesh_lines s size) ≡ v → q ≡ r
    go (Ok tt) e = asked_once d number (work_of (triangles_of s)) lead q r (a.asked e) (b.asked e)
    go (Err x) e = a.stopped x e ∙ sym (b.stopped x e)
