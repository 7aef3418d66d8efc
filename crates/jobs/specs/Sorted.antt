-- The order of the table: earliest deadline first, lower number first on equal ones.
use Rattle.std.specs.Prelude.{◌≡◌, Bool, true, cond, ◌&&◌, List, [], ◌∷◌, ℕ, suc, ◌≤◌, ◌<◌, ltb, eqb}
use Rattle.lists.specs.Lists.{Each}
use Rattle.jobs.specs.declared.Job.{Job}

-- one job stands before another: its deadline is earlier, or it is the same and the number lower
unfoldable pub before : Job → Job → Bool
before a b =
    cond (eqb a.deadline.0 b.deadline.0) (ltb a.number b.number) (ltb a.deadline.0 b.deadline.0)

-- each stands before the next
unfoldable pub rising : List Job → Bool
rising [] = true
rising (j ∷ []) = true
rising (j ∷ k ∷ ks) = before j k && rising (k ∷ ks)

-- as facts
pub record Before (a b : Job) : Type 0 where
  pub deadline : a.deadline.0 ≤ b.deadline.0
  pub number : a.deadline.0 ≡ b.deadline.0 → a.number < b.number

-- each job stands before all those after it
abbrev pub Sorted : List Job → Type 0
Sorted [] = Unit {0}
Sorted (j ∷ js) = Each (Before j) js × Sorted js

-- where a job has its place: before the first that it stands before
unfoldable pub place_of : Job → List Job → ℕ
place_of j [] = 0
place_of j (k ∷ ks) = cond (before j k) 0 (suc (place_of j ks))

-- a job put there
unfoldable pub insert : Job → List Job → List Job
insert j [] = j ∷ []
insert j (k ∷ ks) = cond (before j k) (j ∷ k ∷ ks) (k ∷ insert j ks)

-- these jobs in the order of the table
unfoldable pub sorted : List Job → List Job
sorted [] = []
sorted (j ∷ js) = insert j (sorted js)
