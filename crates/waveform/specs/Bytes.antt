-- The lines as bytes, without their newlines: how each is written, and what a line of any bytes says.
use Rattle.std.specs.Prelude.{cond, ◌&&◌, List, [], ◌∷◌, ◌++◌, ℕ, suc, ◌-◌, ◌<◌, ◌^◌, leb, eqb, length, get_or, take, Option, Some, None}
use Rattle.text.specs.Text.{spelt}
use Rattle.text.specs.Numbers.{number_of, bits_of, digits, bits}
use Rattle.text.specs.Fields.{space, same}
use Rattle.waveform.specs.declared.Token.{Token}
use Rattle.waveform.specs.declared.Token.TheVariants as token

-- what begins a mark and a value, and the names of the wire for jobs and of the one for feeds
abbrev pub hash : ℕ
hash = 35

abbrev pub bee : ℕ
bee = 98

abbrev pub bang : ℕ
bang = 33

abbrev pub quote : ℕ
quote = 34

-- THE LINES IN FRONT
abbrev pub head_lines : List (List ℕ)
head_lines =
    spelt "$timescale 1 ms $end"
    ∷ spelt "$scope module desk $end"
    ∷ spelt "$var wire 32 ! job $end"
    ∷ spelt "$var wire 5 \" feed $end"
    ∷ spelt "$upscope $end"
    ∷ spelt "$enddefinitions $end"
    ∷ []

-- a value of a wire
abbrev pub value_line : ℕ → ℕ → List ℕ
value_line wire n = bee ∷ (bits n ++ (space ∷ wire ∷ []))

-- a mark
abbrev pub mark_line : ℕ → List ℕ
mark_line t = hash ∷ digits t

-- HOW EACH LINE IS WRITTEN
abbrev pub written : Token → List ℕ
written (token.Head k) = get_or head_lines k []
written (token.Mark t) = mark_line t
written (token.Job n) = value_line bang n
written (token.Feed n) = value_line quote n
written token.Other = []

-- which of these lines it is, the first of which is the k-th
unfoldable pub head_in : List (List ℕ) → ℕ → List ℕ → Token
head_in [] k s = token.Other
head_in (l ∷ ls) k s = cond (same s l) (token.Head k) (head_in ls (suc k) s)

-- a mark by what follows its first byte
abbrev pub mark_by : Option ℕ → Token
mark_by (Some t) = token.Mark t
mark_by None = token.Other

-- a number of 32 bits, if it is one
abbrev pub Narrow : Option ℕ → Type 0
Narrow (Some n) = n < 2 ^ 32
Narrow None = Unit {0}

-- a value by its wire and its digits
abbrev pub value_by : ℕ → Option ℕ → Token
value_by wire (Some n) = cond (eqb wire bang) (token.Job n) (cond (eqb wire quote) (token.Feed n) token.Other)
value_by wire None = token.Other

-- a value by what follows its first byte: digits, a space and the wire
unfoldable pub value_of : List ℕ → Token
value_of s =
    cond (leb 2 (length s) && eqb (get_or s (length s - 2) 0) space)
    (value_by (get_or s (length s - 1) 0) (bits_of (take (length s - 2) s)))
    token.Other

-- WHAT A LINE SAYS
unfoldable pub says : List ℕ → Token
says [] = token.Other
says (b ∷ s) = cond (eqb b hash) (mark_by (number_of s)) (cond (eqb b bee) (value_of s) (head_in head_lines 0 (b ∷ s)))
