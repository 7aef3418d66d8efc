-- Asking for a job: lines 13, 1, 2, 3, 4 and 5 in this order; then the request is taken exactly if it fits.
use Rattle.std.specs.Prelude.{◌≡◌, ◌⊎◌, true, not, ◌&&◌, List, [], ◌∷◌, ◌++◌, ℕ, ◌+◌, ◌<◌, leb}
use Rattle.ticks.specs.declared.Instant.{Instant}
use Rattle.ticks.specs.declared.Length.{Length}
use Rattle.ticks.specs.Ticks.{job_length, within, ticks, plus}
use Rattle.jobs.specs.declared.Job.{Job}
use Rattle.jobs.specs.declared.Table.{Table}
use Rattle.jobs.specs.Jobs.{most_jobs, job, lacks, times, JobIn, live}
use Rattle.edf.specs.Book.{Book}
use Rattle.edf.specs.Fits.{Fits}
use Rattle.edf.specs.Calls.{taking}
use Rattle.ledger.specs.State.{Sized}
use Rattle.ledger.specs.Books.{book_job}
use Rattle.desk.specs.declared.Desk.{Desk}
use Rattle.desk.specs.declared.Answer.{Answer}
use Rattle.answers.specs.declared.Refusal.{Refusal}
use Rattle.answers.specs.declared.Refusal.TheVariants.{NumberZero, Outside, PastLast, NumberLive, Full, DoesNotFit}
use Rattle.std.specs.Prelude.{Result, Ok, Err}
use Rattle.answers.specs.Answers.{Line, line, first_of, yes_with}
use Rattle.desk.specs.Calls.{disorder}
use Rattle.desk.specs.State.{book, rewritten, in_order}

-- the number is 0 (1)
abbrev pub number_line : ℕ → Line
number_line number = line (not (leb 1 number)) NumberZero

-- the lines of the request itself: line 1, the work or the lead is outside its limits (2), the deadline is past the clock's last
-- instant (3)
abbrev pub request_lines : Instant → ℕ → Length → Length → List Line
request_lines clock number work lead =
    number_line number
    ∷ line (not (job_length work && job_length lead)) Outside
    ∷ line (not (within (plus clock lead))) PastLast
    ∷ []

-- those of the place where the job would stand: the number is live (4), as many jobs are live as there are places (5)
abbrev pub place_lines : Table → ℕ → List Line
place_lines t number = line (not (lacks number (live t))) NumberLive ∷ line (leb most_jobs t.count) Full ∷ []

-- lines 13, 1, 2, 3, 4 and 5
abbrev pub ask_lines : Desk → ℕ → Length → Length → List Line
ask_lines d number work lead =
    disorder d ∷ (request_lines d.ledger.clock number work lead ++ place_lines d.ledger.table number)

-- the job that is asked for: it owes its work and the desk's charge
abbrev pub requested : Desk → ℕ → ℕ → ℕ → Job
requested d number work lead = job number (ticks (work + d.ledger.charge.0)) (plus d.ledger.clock (ticks lead))

-- the request as lines 13 and 1 to 5 leave it
unfoldable pub request_of : Desk → ℕ → ℕ → ℕ → Result Job Refusal
request_of d number work lead = yes_with (first_of (ask_lines d number (ticks work) (ticks lead))) (requested d number work lead)

-- the book with the job that is asked for
abbrev pub with_job : Desk → Job → Book
with_job d j = taking (book_job j) (book d)

-- a request that no other line stops
pub record Admissible (d : Desk) (j : Job) : Type 0 where
  pub sized : Sized d.ledger
  pub order : in_order d ≡ true
  pub job : JobIn d.ledger.charge d.ledger.clock j
  pub free : times j.number (live d.ledger.table) ≡ 0
  pub space : d.ledger.table.count < most_jobs

-- line 6, by fits itself: it fits and is taken, or it does not and is refused, the state as it was
unfoldable pub Judged : Desk → Job → Answer → Type 0
Judged d j r =
    (Fits (with_job d j) × (r ≡ record { desk = rewritten d (with_job d j); verdict = Ok tt }))
    ⊎ ((Fits (with_job d j) → ⊥) × (r ≡ record { desk = d; verdict = Err DoesNotFit }))

-- the answer of an ask, and the state that it hands back
pub record Asked (d : Desk) (number work lead : ℕ) (r : Answer) : Type 0 where
  pub stopped : (x : Refusal) → first_of (ask_lines d number (ticks work) (ticks lead)) ≡ Err x
      → r ≡ record { desk = d; verdict = Err x }
  pub judged : first_of (ask_lines d number (ticks work) (ticks lead)) ≡ Ok tt
      → Judged d (requested d number work lead) r
