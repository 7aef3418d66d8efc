-- The definitions on small tables and lists.
use mathlib.Core.Path.{◌≡◌, refl}
use mathlib.Core.List.{List, [], ◌∷◌, ◌++◌}
use Prim.Native.Nat.{ℕ}
use Rattle.ticks.specs.Ticks.{ticks, instant}
use Rattle.jobs.specs.Jobs.{job}
use Rattle.jobs.specs.Figures.{owes_by, figured}
use Rattle.jobs.specs.Sorted.{before, insert, sorted}
use Rattle.answers.specs.declared.Who.TheVariants.{Job, Feed, Idle}
use Rattle.listing.specs.declared.Lent.TheVariants.{Jobs, Feeds}
use Rattle.listing.specs.Words.{words}
use Rattle.listing.specs.Labels.{record_from, label_of, place, nowhere}

-- job 7 is due first and shows itself alone; 2 and 3 are due together, so both show all three
in_order :
    words (figured (sorted (job 3 (ticks 1) (instant 9) ∷ job 7 (ticks 2) (instant 4) ∷ job 2 (ticks 5) (instant 9) ∷ [])))
    ≡ 7 ∷ 2 ∷ 4 ∷ 2 ∷ 2 ∷ 5 ∷ 9 ∷ 8 ∷ 3 ∷ 1 ∷ 9 ∷ 8 ∷ []
unfolding before insert sorted owes_by
in_order = refl

-- eight bytes of a label
text : ℕ → List ℕ
text b = b ∷ b ∷ b ∷ b ∷ b ∷ b ∷ b ∷ b ∷ []

-- job 1, job 258 twice, and the beginning of a record
job_labels : List ℕ
job_labels = 0 ∷ 0 ∷ 0 ∷ 1 ∷ text 65 ++ (0 ∷ 0 ∷ 1 ∷ 2 ∷ text 66 ++ (0 ∷ 0 ∷ 1 ∷ 2 ∷ text 67 ++ (0 ∷ 0 ∷ 0 ∷ 3 ∷ [])))

-- one position, and the beginning of another
feed_labels : List ℕ
feed_labels = text 97 ++ (98 ∷ [])

first_of_two_lem : label_of (Job 258) job_labels feed_labels ≡ place Jobs 16 8
unfolding record_from job_labels text
first_of_two_lem = refl

not_whole : label_of (Job 3) job_labels feed_labels ≡ nowhere
unfolding record_from job_labels text
not_whole = refl

first_position : label_of (Feed 1) job_labels feed_labels ≡ place Feeds 0 8
unfolding feed_labels text
first_position = refl

second_too_short : label_of (Feed 2) job_labels feed_labels ≡ nowhere
unfolding feed_labels text
second_too_short = refl

no_position : label_of (Feed 0) job_labels feed_labels ≡ nowhere
unfolding feed_labels text
no_position = refl

nobody : label_of Idle job_labels feed_labels ≡ nowhere
nobody = refl
