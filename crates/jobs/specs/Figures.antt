-- The figure beside each job on the screen: what all live jobs due no later still owe together, itself included.
use Rattle.std.specs.Prelude.{◌≡◌, Bool, cond, List, map, ℕ, ◌+◌, ◌-◌, ◌≤◌, leb, eqb}
use Rattle.lists.specs.Lists.{Each, total}
use Rattle.ticks.specs.Ticks.{most_job, most_charge, ticks}
use Rattle.jobs.specs.declared.Job.{Job}

-- the most that a job may owe: the most work and the highest charge
abbrev pub most_owed : ℕ
most_owed = most_job + most_charge

-- a job owes no more than a job may
abbrev pub Modest : Job → Type 0
Modest j = j.owed.0 ≤ most_owed

-- what a job owes by the instant D: all that it still owes if it is due by then
unfoldable pub owes_by : ℕ → Job → ℕ
owes_by D j = cond (leb j.deadline.0 D) j.owed.0 0

-- what these jobs owe by the instant D together
abbrev pub owed_by : ℕ → List Job → ℕ
owed_by D js = total (owes_by D) js

-- THE FIGURE OF A JOB, DONE AFRESH: what all of these jobs that are due no later still owe together
abbrev pub figure_in : List Job → Job → ℕ
figure_in js j = owed_by j.deadline.0 js

-- each of these jobs stores its figure
abbrev pub Figured : List Job → Type 0
Figured js = Each (λ j. j.figure.0 ≡ figure_in js j) js

-- the test of a stored figure
abbrev pub figure_agrees : List Job → Job → Bool
figure_agrees js j = eqb j.figure.0 (figure_in js j)

-- the same, told of jobs that stand in order and follow one another: due together they show the same, else the first shows what
-- the jobs up to it owe
unfoldable pub agrees_beside : Job → Job → ℕ → Bool
agrees_beside j k sum = cond (eqb j.deadline.0 k.deadline.0) (eqb j.figure.0 k.figure.0) (eqb j.figure.0 sum)

-- a job that stores this figure
abbrev pub showing : ℕ → Job → Job
showing n j = record { number = j.number; owed = j.owed; deadline = j.deadline; figure = ticks n }

-- these jobs, each with its figure done afresh; what they stored before does not matter
abbrev pub figured : List Job → List Job
figured js = map (λ j. showing (figure_in js j) j) js

-- the figure of a job when another job is there too, and when that one is there no more
abbrev pub raised : Job → Job → Job
raised other j = showing (j.figure.0 + owes_by j.deadline.0 other) j

abbrev pub lowered : Job → Job → Job
lowered other j = showing (j.figure.0 - owes_by j.deadline.0 other) j
