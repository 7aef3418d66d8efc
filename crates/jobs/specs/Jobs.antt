-- The table of live jobs, and the test of jobs that any state is put to.
use Rattle.std.specs.Prelude.{◌≡◌, Bool, true, not, ◌&&◌, List, [], ◌∷◌, ℕ, ◌+◌, ◌≤◌, ◌<◌, leb, ltb, eqb, length, get_or, take, drop, Option}
use Rattle.std.specs.List.{position_from}
use Rattle.ticks.specs.declared.Instant.{Instant}
use Rattle.ticks.specs.declared.Length.{Length}
use Rattle.ticks.specs.Ticks.{last_instant, most_job, within, job_length, owed_length, ticks_since, ticks, instant}
use Rattle.lists.specs.Lists.{every, Each, total, bit, all_of, filled, keep}
use Rattle.jobs.specs.declared.Job.{Job}
use Rattle.jobs.specs.declared.Table.{Table}
use Rattle.jobs.specs.Figures.{figure_agrees, Figured}
use Rattle.jobs.specs.Sorted.{rising, Sorted}

-- as many live jobs as there are places
abbrev pub most_jobs : ℕ
most_jobs = 64

-- as many numbers as the list call writes of a job
abbrev pub numbers_a_job : ℕ
numbers_a_job = 4

-- a place that no job has
abbrev pub no_job : Job
no_job = record { number = 0; owed = ticks 0; deadline = instant 0; figure = ticks 0 }

-- a job of this number that owes so much by then, before any table gave it its figure
abbrev pub job : ℕ → Length → Instant → Job
job number owed deadline = record { number = number; owed = owed; deadline = deadline; figure = ticks 0 }

-- the live jobs, in the order of the table
abbrev pub live : Table → List Job
live t = take t.count t.jobs

-- these jobs at the front, the other places all zero
abbrev pub table_of : List Job → Table
table_of js = record { count = length js; jobs = filled most_jobs no_job js }

-- jobs at the front of their places, the other places all zero
pub record Tidy (t : Table) : Type 0 where
  pub few : t.count ≤ most_jobs
  pub filled : t ≡ table_of (live t)

-- the first of these jobs that has the number, where the first of them stands at the place k
abbrev pub found_in : ℕ → ℕ → List Job → Option ℕ
found_in n k js = position_from (λ j. eqb j.number n) k js

-- none of these jobs has the number
unfoldable pub lacks : ℕ → List Job → Bool
lacks n js = every (λ j. not (eqb j.number n)) js

-- no number stands twice
unfoldable pub distinct : List Job → Bool
distinct [] = true
distinct (j ∷ js) = lacks j.number js && distinct js

-- how many of these jobs have the number
abbrev pub times : ℕ → List Job → ℕ
times n js = total (λ j. bit (eqb n j.number)) js

-- a live job in order under a charge: not numbered 0, owing what a job may owe, its deadline after the clock, no further
-- ahead than a lead may be, and one that the clock can read
unfoldable pub job_in : Length → Instant → Job → Bool
job_in charge clock j =
    all_of
    (leb 1 j.number
    ∷ owed_length charge j.owed
    ∷ ltb clock.0 j.deadline.0
    ∷ job_length (ticks_since j.deadline clock)
    ∷ within j.deadline
    ∷ [])

-- the same, as facts
pub record JobIn (charge : Length) (clock : Instant) (j : Job) : Type 0 where
  pub number : 1 ≤ j.number
  pub owed : (1 ≤ j.owed.0) × (j.owed.0 ≤ most_job + charge.0)
  pub ahead : clock.0 < j.deadline.0
  pub near : j.deadline.0 ≤ clock.0 + most_job
  pub within : j.deadline.0 ≤ last_instant

-- an unused place is all zero
unfoldable pub unused_job : Job → Bool
unused_job j =
    all_of (eqb j.number 0 ∷ eqb j.owed.0 0 ∷ eqb j.deadline.0 0 ∷ eqb j.figure.0 0 ∷ [])

-- the jobs of a state in order: at most 64; each in order at the clock's instant; no number twice; earliest deadline first, lower
-- number first on equal ones; each figure the sum done afresh; the unused places all zero
unfoldable pub table_in : Length → Instant → Table → Bool
table_in charge clock t =
    all_of
    (leb t.count most_jobs
    ∷ every (job_in charge clock) (live t)
    ∷ distinct (live t)
    ∷ rising (live t)
    ∷ every (figure_agrees (live t)) (live t)
    ∷ every unused_job (drop t.count t.jobs)
    ∷ [])

-- the same, as facts
pub record TableIn (charge : Length) (clock : Instant) (t : Table) : Type 0 where
  pub few : t.count ≤ most_jobs
  pub each : Each (JobIn charge clock) (live t)
  pub once : (n : ℕ) → times n (live t) ≤ 1
  pub order : Sorted (live t)
  pub figures : Figured (live t)
  pub unused : Each (λ j. j ≡ no_job) (drop t.count t.jobs)

-- the same of a list of jobs
pub record JobsIn (charge : Length) (clock : Instant) (js : List Job) : Type 0 where
  pub few : length js ≤ most_jobs
  pub each : Each (JobIn charge clock) js
  pub once : (n : ℕ) → times n js ≤ 1
  pub order : Sorted js
  pub figures : Figured js

-- the jobs with another number
abbrev pub others : ℕ → List Job → List Job
others n js = keep (λ j. not (eqb n j.number)) js

-- the place m is the first of these jobs that has the number
pub record FoundAt (n m : ℕ) (js : List Job) : Type 0 where
  pub inside : m < length js
  pub number : (get_or js m no_job).number ≡ n
  pub first : times n (take m js) ≡ 0
