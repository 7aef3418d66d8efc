-- The text of the readings, its stretches taken one after another; and what is told from bookmarks of other kinds.
use mathlib.Core.Path.{◌≡◌, refl}
use mathlib.Core.List.{[], ◌∷◌}
use Rattle.answers.specs.declared.Who.TheVariants.{Job, Feed}
use Rattle.text.specs.Text.{spelt}
use Rattle.text.specs.Numbers.{is_digit, all_digits, counted, is_shaped, number_in}
use Rattle.text.specs.Fields.{parted, same}
use Rattle.waveform.specs.declared.stretches.Told.TheVariants.{Disorder, Wrong, Next, Over}
use Rattle.waveform.specs.Bytes.{head_in, value_of, says}
use Rattle.waveform.specs.Stretches.{stretch}
use Rattle.waveform.specs.Telling.{bookmark, front, tell, next_told, OneByOne}
use Rattle.waveform.proofs.Examples.{with}

pub taken :
    OneByOne (with "#0\nb0 !\nb1 \"\n#1\nb1 !\nb0 \"\n#4\nb0 !\nb10 \"\n#6\n") front
    (stretch 0 1 (Feed 1) ∷ stretch 1 4 (Job 1) ∷ stretch 4 6 (Feed 2) ∷ [])
    (Over (bookmark 171 16 6 0 2))
unfolding parted tell says head_in value_of number_in is_shaped all_digits is_digit counted same
taken = (bookmark 144 10 1 0 1, refl, (bookmark 157 13 4 1 0, refl, (bookmark 171 16 6 0 2, refl, refl)))

-- no step was taken; the place 0 is the front, whatever the rest says; the end again
pub over :
    (next_told (with "#5\n") front ≡ Over (bookmark 131 7 5 0 0))
    × (next_told (with "#5\n") (bookmark 0 0 9 9 9) ≡ Over (bookmark 131 7 5 0 0))
    × (next_told (with "#5\n") (bookmark 131 7 5 0 0) ≡ Over (bookmark 131 7 5 0 0))
unfolding parted tell says head_in value_of number_in is_shaped all_digits is_digit counted same
over = (refl, refl, refl)

-- more lines than bytes, and past the end
pub disordered :
    (next_told (spelt "#1\n") (bookmark 2 3 1 0 0) ≡ Disorder)
    × (next_told (spelt "#1\n") (bookmark 4 1 1 0 0) ≡ Disorder)
disordered = (refl, refl)

-- a bookmark is taken as it stands: behind a mark a new value has to come, at the last instant none can, and text may be missing
pub stopped :
    (next_told (spelt "#1\n#2\n") (bookmark 3 1 1 0 0) ≡ Wrong 2)
    × (next_told (spelt "#1\nb1 !\n#2\n") (bookmark 3 1 1 1 0) ≡ Wrong 2)
    × (next_told (spelt "#1\nb1 !\n#2\n") (bookmark 3 1 1099511627776 0 0) ≡ Wrong 2)
    × (next_told (spelt "#1\nb1 !\n") (bookmark 3 1 1 0 0) ≡ Wrong 3)
    × (next_told (spelt "#1\nb1 !\n#2") (bookmark 3 1 1 0 0) ≡ Wrong 3)
    × (next_told (spelt "#1\nb1 !\n#2\n") (bookmark 3 1 1 0 0) ≡ Next (stretch 1 2 (Job 1)) (bookmark 11 3 2 1 0))
    × (next_told [] front ≡ Wrong 1)
unfolding parted tell says head_in value_of number_in is_shaped all_digits is_digit counted same
stopped = (refl, refl, refl, refl, refl, refl, refl)
