-- THE FIGURE ON THE SCREEN: beside each live job stands what all live jobs due no later still owe together, itself included. It
-- is stored in the job's record and kept by adding and taking away; here it is held against the sum done afresh.
use Rattle.std.specs.Prelude.{◌≡◌, List, ◌∷◌, ◌++◌, ℕ, ◌*◌, length, drop}
use Rattle.jobs.specs.Jobs.{numbers_a_job, live}
use Rattle.jobs.specs.Figures.{Figured, figured}
use Rattle.jobs.specs.Sorted.{sorted}
use Rattle.listing.specs.Words.{words}
use Rattle.answers.specs.declared.Refusal.TheVariants.{NotInOrder}
use Rattle.std.specs.Prelude.{Ok, Err}
use Rattle.answers.specs.Answers.{Line, first_of, verdict_of}
use Rattle.edf.specs.Runs.{after}
use Rattle.ledger.specs.State.{Sized}
use Rattle.desk.specs.declared.Desk.{Desk}
use Rattle.desk.specs.declared.Answer.{Answer}
use Rattle.desk.specs.Calls.{disorder, step_of, end_of, rest_of, counted_of, listed_of}
use Rattle.desk.specs.Asking.{Asked}
use Rattle.desk.specs.Undated.{AskedUndated}
use Rattle.questions.specs.Meshes.{AskedMesh}
use Rattle.promises.specs.Runs.{Calls, Made, Opening, opened}

-- each live job stores the sum done afresh over the live jobs
abbrev pub TrueFigures : Desk → Type 0
TrueFigures d = Figured (live d.ledger.table)

-- after any calls from an opening, refused ones among them
unfoldable pub EveryFigureIsTheSum : Type 0
EveryFigureIsTheSum = (o : Opening) (cs : Calls) → Made cs (opened o) → TrueFigures (after cs (opened o))

-- whatever state is handed in, one that no call made too, a call that is not refused hands back true figures; so does a step of
-- an overbooked state, though it makes a job late
pub record TakenCallsKeepFigures : Type 0 where
  pub ask : (d : Desk) (number work lead : ℕ) (r : Answer) → Asked d number work lead r → r.verdict ≡ Ok tt → TrueFigures r.desk
  pub mesh : (d : Desk) (s : List ℕ) (size number lead : ℕ) (r : Answer) → AskedMesh d s size number lead r → r.verdict ≡ Ok tt → TrueFigures r.desk
  pub undated : (d : Desk) (number work : ℕ) (r : Answer) → AskedUndated d number work r → r.verdict ≡ Ok tt → TrueFigures r.desk
  pub step : (d : Desk) → (step_of d).verdict ≡ Ok tt → TrueFigures (step_of d).desk
  pub end : (d : Desk) (n : ℕ) → (end_of d n).verdict ≡ Ok tt → TrueFigures (end_of d n).desk
  pub rest : (d : Desk) (p : ℕ) → (rest_of d p).verdict ≡ Ok tt → TrueFigures (rest_of d p).desk

-- a state with any figure that is not the sum gets 13, which every call looks at before all else
unfoldable pub AWrongFigureGets13 : Type 0
AWrongFigureGets13 =
    (d : Desk) → Sized d.ledger → (TrueFigures d → ⊥) → (ls : List Line) → first_of (disorder d ∷ ls) ≡ Err NotInOrder

-- the list call writes the live jobs, earliest deadline first and lower number first on equal ones, with the sums done afresh
unfoldable pub TheListShowsTheSums : Type 0
TheListShowsTheSums =
    (d : Desk) (buffer : List ℕ) → Sized d.ledger → verdict_of (counted_of d (length buffer)) ≡ Ok tt
    → listed_of d buffer ≡ words (figured (sorted (live d.ledger.table))) ++ drop (numbers_a_job * d.ledger.table.count) buffer
