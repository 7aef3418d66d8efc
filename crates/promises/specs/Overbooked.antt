-- A STATE IN ORDER THAT IS OVERBOOKED ALL THE SAME, handed in by somebody: it gets 6 from every ask that passes the earlier
-- lines, and its steps follow the step rule (Exact). A job that such a step makes late stays in the table, so the state handed
-- back is out of order; a late piece gives way at its deadline.
use Rattle.std.specs.Prelude.{◌≡◌, false, List, ◌∷◌, ℕ, suc, ◌+◌, ◌-◌, ◌≤◌, ◌<◌}
use Rattle.lists.specs.Lists.{Some}
use Rattle.ticks.specs.Ticks.{ticks}
use Rattle.mesh.specs.Bands.{work_of}
use Rattle.mesh.specs.Meshes.{triangles_of, mesh_lines}
use Rattle.answers.specs.declared.Refusal.TheVariants.{DoesNotFit}
use Rattle.std.specs.Prelude.{Ok, Err}
use Rattle.answers.specs.Answers.{first_of}
use Rattle.edf.specs.Book.{Feed, job, same}
use Rattle.edf.specs.Releases.{since}
use Rattle.edf.specs.Fits.{Fits}
use Rattle.edf.specs.Step.{runner}
use Rattle.edf.specs.Kept.{Live, Current}
use Rattle.ledger.specs.State.{Sized}
use Rattle.desk.specs.declared.Desk.{Desk}
use Rattle.desk.specs.declared.Answer.{Answer}
use Rattle.desk.specs.State.{book, in_order}
use Rattle.desk.specs.Calls.{disorder, step_lines, step_of}
use Rattle.desk.specs.Asking.{ask_lines, Asked}
use Rattle.desk.specs.Undated.{undated_lines, undated_lead, AskedUndated}
use Rattle.questions.specs.Meshes.{AskedMesh}

-- the answer is 6, and the desk is as it was
abbrev pub GetsSix : Desk → Answer → Type 0
GetsSix d r = r ≡ record { desk = d; verdict = Err DoesNotFit }

-- what is promised already does not fit: every ask that passes the lines before 6 gets 6
pub record OverbookedTakesNothing : Type 0 where
  pub ask : (d : Desk) → Sized d.ledger → (Fits (book d) → ⊥)
      → (number work lead : ℕ) (r : Answer) → first_of (ask_lines d number (ticks work) (ticks lead)) ≡ Ok tt
      → Asked d number work lead r → GetsSix d r
  pub mesh : (d : Desk) → Sized d.ledger → (Fits (book d) → ⊥)
      → (s : List ℕ) (size number lead : ℕ) (r : Answer) → first_of (disorder d ∷ mesh_lines s size) ≡ Ok tt
      → first_of (ask_lines d number (ticks (work_of (triangles_of s))) (ticks lead)) ≡ Ok tt
      → AskedMesh d s size number lead r → GetsSix d r
  pub undated : (d : Desk) → Sized d.ledger → (Fits (book d) → ⊥)
      → (number work : ℕ) (r : Answer) → first_of (undated_lines d number) ≡ Ok tt
      → first_of (ask_lines d number (ticks work) (ticks (undated_lead d work))) ≡ Ok tt
      → AskedUndated d number work r → GetsSix d r

-- a live job whose deadline the clock reaches with ticks still owed stays, owing them, and the state is out of order
unfoldable pub ALateJobStays : Type 0
ALateJobStays =
    (d : Desk) → Sized d.ledger → first_of (step_lines d) ≡ Ok tt
    → (n due owes : ℕ) → Live n due owes (book d) → due ≤ suc d.ledger.clock.0 → same (runner (book d)).who (job n) < owes
    → Live n due (owes - same (runner (book d)).who (job n)) (book (step_of d).desk) × (in_order (step_of d).desk ≡ false)

-- the feed at this position, by this plan, has nothing to get
abbrev pub OwesNothing : Feed → Feed → Type 0
OwesNothing f g = ((g.position ≡ f.position) × (g.plan ≡ f.plan)) × (g.owes ≡ 0)

-- what becomes of a feed's piece, whatever it still owed: from its deadline on it owes nothing, and at the next release the new
-- one stands there, owing all its charged work
pub record GivesWay (d : Desk) (f : Feed) : Type 0 where
  pub over : 1 ≤ since f.plan (suc d.ledger.clock.0) → f.plan.lead ≤ since f.plan (suc d.ledger.clock.0)
      → Some (OwesNothing f) (book (step_of d).desk).feeds
  pub next : since f.plan (suc d.ledger.clock.0) ≡ 0
      → Current f.position (suc d.ledger.clock.0 + f.plan.lead) f.plan.work (book (step_of d).desk)

unfoldable pub ALatePieceGivesWay : Type 0
ALatePieceGivesWay =
    (d : Desk) → Sized d.ledger → first_of (step_lines d) ≡ Ok tt → (f : Feed) → Some (λ g. g ≡ f) (book d).feeds → GivesWay d f
