-- The text of the readings, computed; and what is made of texts that are not of a run.
use mathlib.Core.Path.{◌≡◌, refl}
use mathlib.Core.List.{List, [], ◌∷◌, ◌++◌, map}
use Prim.Native.Nat.{ℕ}
use Prim.Native.String.{String}
use Rattle.answers.specs.declared.Who.{Who}
use Rattle.answers.specs.declared.Who.TheVariants.{Job, Feed, Idle}
use Rattle.text.specs.Text.{spelt}
use Rattle.text.specs.Numbers.{is_digit, all_digits, counted, is_shaped, number_in, numeral_in, numeral}
use Rattle.text.specs.Fields.{parted, lines_of, same}
use Rattle.waveform.specs.declared.State.TheVariants.{Heading}
use Rattle.waveform.specs.Runs.{changes, body, heads_from, told}
use Rattle.waveform.specs.Bytes.{head_in, value_of, says}
use Rattle.waveform.specs.Texts.{as_text, text_of, reading, judge, judged, Outcome, Well, Wrong}

-- the lines in front of every run
abbrev pub front : String
front = "$timescale 1 ms $end\n$scope module desk $end\n$var wire 32 ! job $end\n$var wire 5 \" feed $end\n$upscope $end\n$enddefinitions $end\n"

-- a text with these lines behind them
abbrev pub with : String → List ℕ
with s = spelt front ++ spelt s

-- feeds (4,1,0) and (6,2,0) at 0, job 1 of 3 by 6, six ticks: feed 1, job 1 three times, feed 2 twice
abbrev names : List Who
names = Feed 1 ∷ Job 1 ∷ Job 1 ∷ Job 1 ∷ Feed 2 ∷ Feed 2 ∷ []

pub the_text :
    (text_of 0 names ≡ with "#0\nb0 !\nb1 \"\n#1\nb1 !\nb0 \"\n#4\nb0 !\nb10 \"\n#6\n")
    -- no steps: the first mark is start and end
    × (text_of 1099511627776 [] ≡ with "#1099511627776\n")
    -- idle, then the highest job number and the last position
    × (text_of 7 (Idle ∷ Idle ∷ Job 4294967295 ∷ Feed 16 ∷ Idle ∷ []) ≡ with "#7\nb0 !\nb0 \"\n#9\nb11111111111111111111111111111111 !\n#10\nb0 !\nb10000 \"\n#11\nb0 \"\n#12\n")
unfolding as_text told heads_from body changes numeral numeral_in
the_text = (refl, refl, refl)

-- texts that end well, with their start, their end and how many stretches they have
pub good :
    (judged (with "#0\nb0 !\nb1 \"\n#1\nb1 !\nb0 \"\n#4\nb0 !\nb10 \"\n#6\n") ≡ Well 0 6 3)
    × (judged (with "#5\n") ≡ Well 5 5 0)
    -- cut right at a mark, a text ends there
    × (judged (with "#0\nb0 !\nb1 \"\n#1\n") ≡ Well 0 1 1)
unfolding parted judge says head_in value_of number_in is_shaped all_digits is_digit counted same
good = (refl, refl, refl)

-- and those that do not, with the line; the lines in front are read
abbrev behind : String → Outcome
behind s = judge (reading (Heading 6) 6 0 0) (lines_of (spelt s))

-- cut after a line where more has to come; the last line without its newline; carriage returns, a blank line, a tab, two spaces,
-- capitals, x, leading zeros
abbrev pub wrong_forms : List (String × ℕ)
wrong_forms =
    ("", 7)
    ∷ ("#0\nb0 !\n", 9)
    ∷ ("#0\nb0 !\nb1 \"\n", 10)
    ∷ ("#0", 7)
    ∷ ("#0\nb0 !\nb1 \"\n#1", 10)
    ∷ ("#0\r\n", 7)
    ∷ ("\n#0\n", 7)
    ∷ ("#0\nb0\t!\n", 8)
    ∷ ("#0\nb0  !\n", 8)
    ∷ ("#0\nB0 !\n", 8)
    ∷ ("#0\nbx !\n", 8)
    ∷ ("#00\n", 7)
    ∷ ("#0\nb00 !\n", 8)
    ∷ []

-- a first mark past the clock's last instant; a later mark not above the one before, or past it; a value at it; the first mark
-- followed by a mark; a mark without a value that is not the last
abbrev pub wrong_marks : List (String × ℕ)
wrong_marks =
    ("#1099511627777\n", 7)
    ∷ ("#3\nb0 !\nb1 \"\n#3\n", 10)
    ∷ ("#3\nb0 !\nb1 \"\n#2\n", 10)
    ∷ ("#3\nb0 !\nb1 \"\n#1099511627777\n", 10)
    ∷ ("#1099511627776\nb0 !\n", 8)
    ∷ ("#0\n#1\n", 8)
    ∷ ("#0\nb0 !\nb1 \"\n#1\n#2\n", 11)
    ∷ []

-- a value equal to the wire's; a feed above 16; both wires not 0, where it becomes certain; the feed before the job, at the first
-- mark and later
abbrev pub wrong_values : List (String × ℕ)
wrong_values =
    ("#0\nb0 !\nb1 \"\n#1\nb0 !\n", 11)
    ∷ ("#0\nb0 !\nb1 \"\n#1\nb1 \"\n", 11)
    ∷ ("#0\nb0 !\nb10001 \"\n", 9)
    ∷ ("#0\nb1 !\nb1 \"\n", 9)
    ∷ ("#0\nb0 !\nb1 \"\n#1\nb1 !\n#2\n", 12)
    ∷ ("#0\nb1 !\nb0 \"\n#1\nb1 \"\n", 11)
    ∷ ("#0\nb1 \"\nb0 !\n", 8)
    ∷ ("#0\nb0 !\nb1 \"\n#1\nb0 \"\nb1 !\n", 12)
    ∷ []

pub wrong_lines :
    (map (λ t. behind t.0) wrong_forms ≡ map (λ t. Wrong t.1) wrong_forms)
    × (map (λ t. behind t.0) wrong_marks ≡ map (λ t. Wrong t.1) wrong_marks)
    × (map (λ t. behind t.0) wrong_values ≡ map (λ t. Wrong t.1) wrong_values)
unfolding parted judge says head_in value_of number_in is_shaped all_digits is_digit counted same
wrong_lines = (refl, refl, refl)

-- another header is wrong where it differs
pub wrong_headers :
    (judged (spelt "$timescale 1 ms $end") ≡ Wrong 1)
    × (judged (spelt "$timescale 1 us $end\n") ≡ Wrong 1)
    × (judged (spelt "$timescale 1 ms $end\n$scope module box $end\n") ≡ Wrong 2)
    × (judged [] ≡ Wrong 1)
unfolding parted judge says head_in value_of number_in is_shaped all_digits is_digit counted same
wrong_headers = (refl, refl, refl, refl)
