-- What holds of every mesh, and of one that wants a work.
use mathlib.Core.Path.{◌≡◌, refl, ap, ◌∙◌}
use mathlib.Core.Bool.{Bool, true, false, not, cond}
use mathlib.Core.List.{List}
use Prim.Native.Nat.{ℕ, ◌≤◌}
use native.Mathlib.Omega.{arith}
use lib.Dec.{ltb, eqb}
use lib.ListN.{length}
use borrow.Author.Tests.{ltb-false, eqb-true, eqb-false}
use Rattle.ticks.specs.Ticks.{most_job, ticks, job_length}
use Rattle.ticks.proofs.Tests.{from_one_made}
use Rattle.answers.specs.declared.Refusal.{Refusal}
use Rattle.answers.specs.declared.Refusal.TheVariants.{ShortFront, LengthOff, NoTriangles}
use Rattle.std.specs.Prelude.{Ok, Err}
use Rattle.answers.specs.Answers.{first_of, yes_with}
use Rattle.answers.proofs.Answers.{told_no, told_yes}
use Rattle.answers.specs.Verdicts.{Verdict}
use Rattle.mesh.specs.Bands.{work_of}
use Rattle.mesh.specs.Meshes.{front_bytes, triangles_of, file_bytes, mesh_lines, mesh_of}
use Rattle.mesh.proofs.Bands.{work_within}

module _ (s : List ℕ) (size : ℕ) where
  -- a mesh that none of its lines stops wants the work of its count's band
  pub mesh_work : first_of (mesh_lines s size) ≡ Ok tt → mesh_of s size ≡ Ok (work_of (triangles_of s))
  unfolding mesh_of
  mesh_work h = ap (λ v. yes_with v (work_of (triangles_of s))) h

  -- one that is stopped wants nothing
  pub mesh_stopped : (x : Refusal) → first_of (mesh_lines s size) ≡ Err x → mesh_of s size ≡ Err x
  unfolding mesh_of
  mesh_stopped x h = ap (λ v. yes_with v (work_of (triangles_of s))) h

  -- what is wanted is wanted by a mesh that is not stopped
  pub mesh_wants : (w : ℕ) → mesh_of s size ≡ Ok w → (first_of (mesh_lines s size) ≡ Ok tt) × (w ≡ work_of (triangles_of s))
  unfolding mesh_of
  mesh_wants w h = told_yes (first_of (mesh_lines s size)) (work_of (triangles_of s)) w h

  pub mesh_refused : (x : Refusal) → mesh_of s size ≡ Err x → first_of (mesh_lines s size) ≡ Err x
  unfolding mesh_of
  mesh_refused x h = told_no (first_of (mesh_lines s size)) (work_of (triangles_of s)) x h

  -- the work of a mesh that is not stopped is one that a job may have
  pub mesh_work_within : (w : ℕ) → mesh_of s size ≡ Ok w → job_length (ticks w) ≡ true
  mesh_work_within w h =
      let t = work_within (triangles_of s) in
      ap (λ n. job_length (ticks n)) (mesh_wants w h).1 ∙ from_one_made most_job (ticks (work_of (triangles_of s))) t.0 t.1

-- none of the lines holds
pub record Whole (s : List ℕ) (size : ℕ) : Type 0 where
  pub front : front_bytes ≤ length s
  pub agrees : size ≡ file_bytes (triangles_of s)
  pub some : 1 ≤ triangles_of s

pub mesh_whole : (s : List ℕ) (size : ℕ) → first_of (mesh_lines s size) ≡ Ok tt → Whole s size
unfolding first_of
mesh_whole s size = go (ltb (length s) front_bytes) (eqb size (file_bytes n)) (eqb n 0) refl refl refl
  where
    n : ℕ
    n = triangles_of s

    go :
        (a b e : Bool) → ltb (length s) front_bytes ≡ a → eqb size (file_bytes n) ≡ b → eqb n 0 ≡ e →
        ◌≡◌ {A = Verdict} (cond a (Err ShortFront) (cond (not b) (Err LengthOff) (cond e (Err NoTriangles) (Ok tt)))) (Ok tt) → Whole s size
    go true b e p q r h = absurd (let z : ◌≡◌ {A = ℕ} 0 1 = cc in omega arith)
    go false false e p q r h = absurd (let z : ◌≡◌ {A = ℕ} 0 1 = cc in omega arith)
    go false true true p q r h = absurd (let z : ◌≡◌ {A = ℕ} 0 1 = cc in omega arith)
    go false true false p q r h =
        let none = eqb-false n 0 r in
        record { front = ltb-false _ _ p; agrees = eqb-true _ _ q; some = omega arith }
