-- Asking with the mesh file itself: lines 13, 15, 16 and 17 in this order; then the ordinary ask with the work of its band.
use Rattle.std.specs.Prelude.{◌≡◌, List, ◌∷◌, ℕ}
use Rattle.mesh.specs.Bands.{work_of}
use Rattle.mesh.specs.Meshes.{triangles_of, mesh_lines}
use Rattle.answers.specs.declared.Refusal.{Refusal}
use Rattle.std.specs.Prelude.{Ok, Err}
use Rattle.answers.specs.Answers.{first_of}
use Rattle.desk.specs.declared.Desk.{Desk}
use Rattle.desk.specs.declared.Answer.{Answer}
use Rattle.desk.specs.Calls.{disorder}
use Rattle.desk.specs.Asking.{Asked}

-- the answer of an ask with a mesh, and the state that it hands back
pub record AskedMesh (d : Desk) (s : List ℕ) (size number lead : ℕ) (r : Answer) : Type 0 where
  pub stopped : (x : Refusal) → first_of (disorder d ∷ mesh_lines s size) ≡ Err x → r ≡ record { desk = d; verdict = Err x }
  pub asked : first_of (disorder d ∷ mesh_lines s size) ≡ Ok tt → Asked d number (work_of (triangles_of s)) lead r
