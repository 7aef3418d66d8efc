-- The stretches of a text, told one at a time: what is told from a bookmark on, and what it is to take them one after another.
use Rattle.std.specs.Prelude.{◌≡◌, Bool, cond, ◌&&◌, List, [], ◌∷◌, ℕ, suc, ◌+◌, leb, eqb, length, drop}
use Rattle.text.specs.Fields.{lines_of}
use Rattle.waveform.specs.declared.Token.{Token}
use Rattle.waveform.specs.declared.State.{State}
use Rattle.waveform.specs.declared.State.TheVariants.{Heading, Opened, Jobbed, Going, Marked, Halfway, Dead}
use Rattle.waveform.specs.declared.stretches.Bookmark.{Bookmark}
use Rattle.waveform.specs.declared.stretches.Stretch.{Stretch}
use Rattle.waveform.specs.declared.stretches.Told.{Told}
use Rattle.waveform.specs.declared.stretches.Told.TheVariants.{Disorder, Wrong, Next, Over}
use Rattle.waveform.specs.Reading.{who_by, next, done}
use Rattle.waveform.specs.Bytes.{says}
use Rattle.waveform.specs.Stretches.{stretch, ended_by}
use Rattle.waveform.specs.Texts.{is_dead, is_nothing, end_in}

abbrev pub bookmark : ℕ → ℕ → ℕ → ℕ → ℕ → Bookmark
bookmark p k t j f = record { place = p; lines = k; at = t; job = j; feed = f }

-- where every reading begins
abbrev pub front : Bookmark
front = bookmark 0 0 0 0 0

-- it stands in a text of such a length: no more lines than bytes are before it, and no more bytes than there are
abbrev pub in_order : ℕ → Bookmark → Bool
in_order n b = leb b.lines b.place && leb b.place n

-- how far the text has come there: the place 0 is the front, and every other is behind a mark
abbrev pub stands_at : Bookmark → State
stands_at b = cond (eqb b.place 0) (Heading 0) (Marked b.at b.job b.feed)

-- the values of the two wires before the mark that was read last; none is known behind the first
abbrev pub job_in : State → ℕ
job_in (Heading k) = 0
job_in (Opened t) = 0
job_in (Jobbed t j) = 0
job_in (Going t j f) = 0
job_in (Marked t j f) = j
job_in (Halfway t j f) = 0
job_in Dead = 0

abbrev pub feed_in : State → ℕ
feed_in (Heading k) = 0
feed_in (Opened t) = 0
feed_in (Jobbed t j) = 0
feed_in (Going t j f) = 0
feed_in (Marked t j f) = f
feed_in (Halfway t j f) = 0
feed_in Dead = 0

-- behind that mark, at a place and after so many lines
abbrev pub behind : State → ℕ → ℕ → Bookmark
behind s p k = bookmark p k (end_in s) (job_in s) (feed_in s)

-- where nothing is left to read
abbrev pub end_told : State → ℕ → ℕ → Told
end_told s p k = cond (done s) (Over (behind s p k)) (Wrong (suc k))

-- the stretch that a line ended, or what is told after it
abbrev pub or_on : List Stretch → Bookmark → Told → Told
or_on [] b on = on
or_on (x ∷ xs) b on = Next x b

-- what a line tells that ends before a place: that no text goes on so, by the number of the line; the stretch that it ends; or what is
-- told after it
abbrev pub line_told : State → Token → ℕ → ℕ → Told → Told
line_told s x p k on = cond (is_dead (next s x)) (Wrong k) (or_on (ended_by s x) (behind (next s x) p k) on)

-- the parts of the text that are left, from a place on and after so many lines: the last is what follows the last newline
unfoldable pub tell : State → ℕ → ℕ → List (List ℕ) → Told
tell s p k [] = Wrong (suc k)
tell s p k (l ∷ []) = cond (is_nothing l) (end_told s p k) (Wrong (suc k))
tell s p k (l ∷ m ∷ ls) =
    let place = p + suc (length l) in
    line_told s (says l) place (suc k) (tell (next s (says l)) place (suc k) (m ∷ ls))

-- WHAT IS TOLD OF A TEXT FROM A BOOKMARK ON
abbrev pub next_told : List ℕ → Bookmark → Told
next_told s b = cond (in_order (length s) b) (tell (stands_at b) b.place b.lines (lines_of (drop b.place s))) Disorder

-- TAKEN ONE AFTER ANOTHER from a bookmark on, the stretches are these, and then something else is told
abbrev pub OneByOne : List ℕ → Bookmark → List Stretch → Told → Type 0
OneByOne s b [] last = next_told s b ≡ last
OneByOne s b (x ∷ xs) last = (c : Bookmark) × (next_told s b ≡ Next x c) × OneByOne s c xs last

-- THE SAME BY THE STATES, as it is computed: since when the stretch goes that a mark can end
abbrev pub since_in : State → ℕ
since_in (Heading k) = 0
since_in (Opened t) = 0
since_in (Jobbed t j) = 0
since_in (Going t j f) = t
since_in (Marked t j f) = 0
since_in (Halfway t j f) = t
since_in Dead = 0

-- the stretch that ended at a bookmark's mark
abbrev pub ending_at : Bookmark → ℕ → Stretch
ending_at b from = stretch from b.at (who_by b.job b.feed)
