-- Ticks given to a job.
use Rattle.std.specs.Prelude.{List, map, ℕ, ◌-◌, ◌≤◌, ltb, get_or, set}
use Rattle.lists.specs.Lists.{eq, keep}
use Rattle.ticks.specs.Ticks.{ticks}
use Rattle.jobs.specs.declared.Job.{Job}
use Rattle.jobs.specs.Jobs.{no_job}

-- a live job owes something
abbrev pub Owing : Job → Type 0
Owing j = 1 ≤ j.owed.0

-- the job has so many ticks fewer to get
abbrev pub less_job : ℕ → Job → Job
less_job m j = record { number = j.number; owed = ticks (j.owed.0 - m); deadline = j.deadline; figure = j.figure }

-- the job at a place has so many ticks fewer to get
abbrev pub owing_less : ℕ → ℕ → List Job → List Job
owing_less at m js = set js at (less_job m (get_or js at no_job))

-- the job of number n has one tick less to get
abbrev pub served_job : ℕ → Job → Job
served_job n j = less_job (eq n j.number) j

-- and leaves with its last
abbrev pub served : ℕ → List Job → List Job
served n js = keep (λ j. ltb 0 j.owed.0) (map (served_job n) js)
