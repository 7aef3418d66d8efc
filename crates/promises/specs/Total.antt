-- DEMAND 1. Bad input gets the refusal listed for it; a refused call hands back the state that it was given, a refused opening
-- an empty one, and lent buffers stay as they came. That every call takes anything and comes back is what the checker proves
-- of each function, since no public call requires anything.
use Rattle.std.specs.Prelude.{◌≡◌, ◌⊎◌, ◌↔◌, true, false, List, ◌∷◌, ◌++◌, ℕ, length}
use Rattle.lists.specs.Lists.{Each}
use Rattle.ticks.specs.Ticks.{ticks}
use Rattle.mesh.specs.Bands.{work_of}
use Rattle.mesh.specs.Meshes.{triangles_of, mesh_lines}
use Rattle.answers.specs.declared.Who.TheVariants.{Idle}
use Rattle.answers.specs.declared.Refusal.{Refusal}
use Rattle.answers.specs.declared.Refusal.TheVariants.{DoesNotFit}
use Rattle.std.specs.Prelude.{Ok, Err}
use Rattle.std.specs.Result.{result_unwrap_or}
use Rattle.answers.specs.Answers.{Line, line, first_of, verdict_of}
use Rattle.edf.specs.Fits.{Fits}
use Rattle.desk.specs.declared.Desk.{Desk}
use Rattle.desk.specs.declared.Answer.{Answer}
use Rattle.desk.specs.State.{empty}
use Rattle.desk.specs.Opening.{open_lines, shared_lines, opened_of, opened_shared_of}
use Rattle.desk.specs.Calls.{disorder, step_lines, step_of, end_lines, end_of, rest_lines, rest_of, list_lines, counted_of, listed_of}
use Rattle.desk.specs.Asking.{ask_lines, requested, with_job, Asked}
use Rattle.desk.specs.Undated.{undated_lines, undated_lead, AskedUndated}
use Rattle.questions.specs.Meshes.{AskedMesh}

-- the line of this refusal holds, and none before it
pub record FirstThatHolds (ls : List Line) (x : Refusal) : Type 0 where
  pub before : List Line
  pub later : List Line
  pub stands : ls ≡ before ++ (line true x ∷ later)
  pub none : Each (λ l. l.holds ≡ false) before

-- what an ask is refused with: the first of lines 13 and 1 to 5 that holds; or 6, where none of them holds and the request does
-- not fit
abbrev pub AskRefused : Desk → ℕ → ℕ → ℕ → Refusal → Type 0
AskRefused d number work lead x =
    (first_of (ask_lines d number (ticks work) (ticks lead)) ≡ Err x)
    ⊎ ((first_of (ask_lines d number (ticks work) (ticks lead)) ≡ Ok tt)
    × (x ≡ DoesNotFit)
    × (Fits (with_job d (requested d number work lead)) → ⊥))

-- and an ask with a mesh: the first of its own lines that holds; or, where none of them holds, what the ask is refused with
abbrev pub MeshRefused : Desk → List ℕ → ℕ → ℕ → ℕ → Refusal → Type 0
MeshRefused d s size number lead x =
    (first_of (disorder d ∷ mesh_lines s size) ≡ Err x)
    ⊎ ((first_of (disorder d ∷ mesh_lines s size) ≡ Ok tt) × AskRefused d number (work_of (triangles_of s)) lead x)

-- and an ask with no date: the first of lines 13, 1 and 19 that holds; or, where none of them holds, what the ask with the lead of
-- the rule is refused with
abbrev pub UndatedRefused : Desk → ℕ → ℕ → Refusal → Type 0
UndatedRefused d number work x =
    (first_of (undated_lines d number) ≡ Err x)
    ⊎ ((first_of (undated_lines d number) ≡ Ok tt) × AskRefused d number work (undated_lead d work) x)

-- the refusal is that of the first line of the rules that holds, and no other number is ever given
pub record TheRefusalListed : Type 0 where
  pub first : (ls : List Line) (x : Refusal) → (first_of ls ≡ Err x) ↔ FirstThatHolds ls x
  pub passed : (ls : List Line) → (first_of ls ≡ Ok tt) ↔ Each (λ l. l.holds ≡ false) ls
  pub opening : (xs : List ℕ) (start charge : ℕ) → (opened_of xs start charge).verdict ≡ first_of (open_lines xs start charge)
  pub shared : (xs : List ℕ) (start charge p q : ℕ)
      → (opened_shared_of xs start charge p q).verdict ≡ first_of (shared_lines xs start charge p q)
  pub ask : (d : Desk) (number work lead : ℕ) (r : Answer) → Asked d number work lead r
      → (x : Refusal) → (r.verdict ≡ Err x) ↔ AskRefused d number work lead x
  pub mesh : (d : Desk) (s : List ℕ) (size number lead : ℕ) (r : Answer) → AskedMesh d s size number lead r
      → (x : Refusal) → (r.verdict ≡ Err x) ↔ MeshRefused d s size number lead x
  pub undated : (d : Desk) (number work : ℕ) (r : Answer) → AskedUndated d number work r
      → (x : Refusal) → (r.verdict ≡ Err x) ↔ UndatedRefused d number work x
  pub step : (d : Desk) → (step_of d).verdict ≡ first_of (step_lines d)
  pub end : (d : Desk) (n : ℕ) → (end_of d n).verdict ≡ first_of (end_lines d n)
  pub rest : (d : Desk) (p : ℕ) → (rest_of d p).verdict ≡ first_of (rest_lines d p)
  pub list : (d : Desk) (size : ℕ) → verdict_of (counted_of d size) ≡ first_of (list_lines d size)

-- a refused call hands back the state that it was given
pub record RefusedHandsBack : Type 0 where
  pub opening : (xs : List ℕ) (start charge : ℕ) (x : Refusal) → (opened_of xs start charge).verdict ≡ Err x → (opened_of xs start charge).desk ≡ empty
  pub shared : (xs : List ℕ) (start charge p q : ℕ) (x : Refusal) → (opened_shared_of xs start charge p q).verdict ≡ Err x
      → (opened_shared_of xs start charge p q).desk ≡ empty
  pub ask : (d : Desk) (number work lead : ℕ) (r : Answer) (x : Refusal) → Asked d number work lead r → r.verdict ≡ Err x → r.desk ≡ d
  pub mesh : (d : Desk) (s : List ℕ) (size number lead : ℕ) (r : Answer) (x : Refusal) → AskedMesh d s size number lead r → r.verdict ≡ Err x → r.desk ≡ d
  pub undated : (d : Desk) (number work : ℕ) (r : Answer) (x : Refusal) → AskedUndated d number work r → r.verdict ≡ Err x → r.desk ≡ d
  pub step : (d : Desk) (x : Refusal) → (step_of d).verdict ≡ Err x → step_of d ≡ record { desk = d; verdict = Err x; who = Idle; owes = ticks 0 }
  pub end : (d : Desk) (n : ℕ) (x : Refusal) → (end_of d n).verdict ≡ Err x → (end_of d n).desk ≡ d
  pub rest : (d : Desk) (p : ℕ) (x : Refusal) → (rest_of d p).verdict ≡ Err x → (rest_of d p).desk ≡ d
  pub list : (d : Desk) (buffer : List ℕ) (x : Refusal) → verdict_of (counted_of d (length buffer)) ≡ Err x
      → (listed_of d buffer ≡ buffer) × (result_unwrap_or (counted_of d (length buffer)) 0 ≡ 0)
