-- Lines and what they say, computed.
use mathlib.Core.Path.{◌≡◌, refl}
use mathlib.Core.List.{List, [], ◌∷◌, map}
use Prim.Native.String.{String}
use lib.ListN.{replicate}
use Rattle.words.specs.declared.Line.{Line}
use Rattle.text.specs.Text.{spelt}
use Rattle.text.specs.Numbers.{is_digit, all_digits, counted, is_shaped, number_in}
use Rattle.words.specs.Small.{small_of}
use Rattle.text.specs.Fields.{same, parted}
use Rattle.words.specs.Lines.{word_in, one_of, three_of, four_of, go_of, said_of, meaning_of, line_of}

-- each word with its numbers, and the largest of them
pub good :
    (line_of (spelt "feed 4 1 0 3") ≡ Line.Feed 4 1 0 3)
    × (line_of (spelt "go 0 0") ≡ Line.Go 0 0)
    × (line_of (spelt "ask 1 3 6") ≡ Line.Ask 1 3 6)
    × (line_of (spelt "end 1") ≡ Line.End 1)
    × (line_of (spelt "rest 16") ≡ Line.Rest 16)
    × (line_of (spelt "run 12") ≡ Line.Run 12)
    × (line_of (spelt "go 9999999999999 4294967295") ≡ Line.Go 9999999999999 4294967295)
    × (line_of (spelt "feed 4294967295 0 4294967295 1") ≡ Line.Feed 4294967295 0 4294967295 1)
    × (line_of (spelt "run 4096") ≡ Line.Run 4096)
unfolding line_of meaning_of said_of three_of four_of go_of one_of word_in parted same small_of number_in is_shaped counted all_digits is_digit
good = (refl, refl, refl, refl, refl, refl, refl, refl, refl)

-- nothing, no such word, another letter
abbrev pub no_words : List String
no_words = "" ∷ " " ∷ "stop" ∷ "stop 1" ∷ "Go 0 0" ∷ "goo 0 0" ∷ "g 0 0" ∷ []

-- too few numbers, and too many
abbrev pub other_counts : List String
other_counts = "feed" ∷ "feed 4" ∷ "feed 4 1" ∷ "feed 4 1 0" ∷ "feed 4 1 0 4 0" ∷ "go" ∷ "go 0" ∷ "go 0 0 0" ∷ "ask 1 3" ∷ "ask 1 3 6 1" ∷ "end" ∷ "end 1 2" ∷ "rest" ∷ "run 1 1" ∷ []

-- two spaces, one in front, one at the end
abbrev pub other_spaces : List String
other_spaces = "go  0 0" ∷ "go 0  0" ∷ " go 0 0" ∷ "go 0 0 " ∷ "feed 4  1 0 4" ∷ "feed 4 1 0 4 " ∷ "feed 4 1 0 " ∷ "feed  4 1 0" ∷ "ask 1 3 " ∷ []

-- no number, a leading zero, 14 digits, one more than may be
abbrev pub other_numbers : List String
other_numbers = "go x 0" ∷ "go 0 x" ∷ "go -1 0" ∷ "go 1a 0" ∷ "go 00 0" ∷ "go 01 0" ∷ "go 0 01" ∷ "feed 4 01 0 4" ∷ "go 10000000000000 0" ∷ "go 0 4294967296" ∷ "end 4294967296" ∷ "rest 4294967296" ∷ "ask 1 4294967296 6" ∷ "feed 4 1 4294967296 4" ∷ "feed 4 1 0 4294967296" ∷ "feed x 1 0 4" ∷ "run 4097" ∷ "run 4294967296" ∷ []

pub bad :
    (map (λ t. line_of (spelt t)) no_words ≡ replicate 7 Line.Bad)
    × (map (λ t. line_of (spelt t)) other_counts ≡ replicate 14 Line.Bad)
    × (map (λ t. line_of (spelt t)) other_spaces ≡ replicate 9 Line.Bad)
    × (map (λ t. line_of (spelt t)) other_numbers ≡ replicate 18 Line.Bad)
unfolding line_of meaning_of said_of three_of four_of go_of one_of word_in parted same small_of number_in is_shaped counted all_digits is_digit
bad = (refl, refl, refl, refl)
