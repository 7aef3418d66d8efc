-- The numbers that the list call writes.
use Rattle.std.specs.Prelude.{List, [], ◌∷◌, ◌++◌, ℕ}
use Rattle.jobs.specs.declared.Job.{Job}

-- the numbers of a job: number, owed, deadline, figure
abbrev pub words_of : Job → List ℕ
words_of j = j.number ∷ j.owed.0 ∷ j.deadline.0 ∷ j.figure.0 ∷ []

abbrev pub words : List Job → List ℕ
words [] = []
words (j ∷ js) = words_of j ++ words js
