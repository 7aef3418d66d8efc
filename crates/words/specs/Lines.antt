-- What a line of the rehearsal says, over its bytes without the newline.
use Rattle.std.specs.Prelude.{cond, List, [], ◌∷◌, ℕ, leb, Option, Some, None}
use Prim.Native.String.{String}
use Rattle.words.specs.declared.Word.{Word}
use Rattle.words.specs.declared.Line.{Line}
use Rattle.text.specs.Text.{spelt}
use Rattle.text.specs.Numbers.{number_of}
use Rattle.words.specs.Small.{small_of}
use Rattle.text.specs.Fields.{same, fields_of}

-- a run has at most so many ticks
abbrev pub most_run : ℕ
most_run = 4096

-- the words that begin a line
abbrev pub words : List (String × Word)
words =
    ("feed", Word.Feed)
    ∷ ("go", Word.Go)
    ∷ ("ask", Word.Ask)
    ∷ ("end", Word.End)
    ∷ ("rest", Word.Rest)
    ∷ ("run", Word.Run)
    ∷ []

-- the first of these words that the field spells
unfoldable pub word_in : List (String × Word) → List ℕ → Word
word_in [] f = Word.Other
word_in (w ∷ ws) f = cond (same f (spelt w.0)) w.1 (word_in ws f)

abbrev pub word_of : List ℕ → Word
word_of f = word_in words f

-- the number, where there is one field and it is a number
unfoldable pub one_of : List (List ℕ) → Option ℕ
one_of [] = None
one_of (f ∷ []) = number_of f
one_of (f ∷ g ∷ fs) = None

abbrev pub all_three : Option ℕ → Option ℕ → Option ℕ → Option (ℕ × ℕ × ℕ)
all_three (Some a) (Some b) (Some c) = Some (a, b, c)
all_three (Some a) (Some b) None = None
all_three (Some a) None c = None
all_three None b c = None

-- the three numbers, where there are three fields and each is a number
unfoldable pub three_of : List (List ℕ) → Option (ℕ × ℕ × ℕ)
three_of [] = None
three_of (f ∷ []) = None
three_of (f ∷ g ∷ fs) = all_three (small_of (number_of f)) (small_of (number_of g)) (small_of (one_of fs))

-- one number more in front of three
abbrev pub and_three : Option ℕ → Option (ℕ × ℕ × ℕ) → Option (ℕ × ℕ × ℕ × ℕ)
and_three (Some a) (Some (b, c, d)) = Some (a, b, c, d)
and_three (Some a) None = None
and_three None t = None

-- the four numbers, where there are four fields and each is a number
unfoldable pub four_of : List (List ℕ) → Option (ℕ × ℕ × ℕ × ℕ)
four_of [] = None
four_of (f ∷ fs) = and_three (small_of (number_of f)) (three_of fs)

abbrev pub run_of : ℕ → Line
run_of n = cond (leb n most_run) (Line.Run n) Line.Bad

-- an opening by its instant and its charge, bad without either
abbrev pub going : Option ℕ → Option ℕ → Line
going (Some start) (Some charge) = Line.Go start charge
going (Some start) None = Line.Bad
going None c = Line.Bad

-- what two fields say of an opening
unfoldable pub go_of : List (List ℕ) → Line
go_of [] = Line.Bad
go_of (f ∷ fs) = going (number_of f) (small_of (one_of fs))

-- a line of one number, bad without it
abbrev pub with_one : (ℕ → Line) → Option ℕ → Line
with_one f (Some n) = f n
with_one f None = Line.Bad

abbrev pub with_four : (ℕ → ℕ → ℕ → ℕ → Line) → Option (ℕ × ℕ × ℕ × ℕ) → Line
with_four f (Some (a, b, c, d)) = f a b c d
with_four f None = Line.Bad

abbrev pub with_three : (ℕ → ℕ → ℕ → Line) → Option (ℕ × ℕ × ℕ) → Line
with_three f (Some (a, b, c)) = f a b c
with_three f None = Line.Bad

-- what a word says with the fields after it
unfoldable pub said_of : Word → List (List ℕ) → Line
said_of Word.Feed fs = with_four Line.Feed (four_of fs)
said_of Word.Go fs = go_of fs
said_of Word.Ask fs = with_three Line.Ask (three_of fs)
said_of Word.End fs = with_one Line.End (small_of (one_of fs))
said_of Word.Rest fs = with_one Line.Rest (small_of (one_of fs))
said_of Word.Run fs = with_one run_of (small_of (one_of fs))
said_of Word.Other fs = Line.Bad

-- what the fields of a line say
unfoldable pub meaning_of : List (List ℕ) → Line
meaning_of [] = Line.Bad
meaning_of (f ∷ fs) = said_of (word_of f) fs

-- what a line says
unfoldable pub line_of : List ℕ → Line
line_of s = meaning_of (fields_of s)
