-- Lines and fields, over bytes.
use Rattle.std.specs.Prelude.{Bool, cond, List, [], ◌∷◌, ℕ, suc, eqb, drop, Option, Some, None}
use Rattle.std.specs.Str.{bytes_eq}

abbrev pub space : ℕ
space = 32

abbrev pub newline : ℕ
newline = 10

-- the same bytes
unfoldable pub same : List ℕ → List ℕ → Bool
same = bytes_eq

-- the first place that holds the byte, if any does, where the list begins at the place i
unfoldable pub found_in : ℕ → ℕ → List ℕ → Option ℕ
found_in byte i [] = None
found_in byte i (b ∷ s) = cond (eqb b byte) (Some i) (found_in byte (suc i) s)

-- the first place from `from` on that holds a newline
abbrev pub line_end : List ℕ → ℕ → Option ℕ
line_end s from = found_in newline from (drop from s)

-- a byte more at the front of the first part
abbrev pub grown : ℕ → List (List ℕ) → List (List ℕ)
grown b [] = (b ∷ []) ∷ []
grown b (f ∷ fs) = (b ∷ f) ∷ fs

-- what stands between the places of a byte, nothing at all between two that are neighbours
unfoldable pub parted : ℕ → List ℕ → List (List ℕ)
parted byte [] = [] ∷ []
parted byte (b ∷ s) = cond (eqb b byte) ([] ∷ parted byte s) (grown b (parted byte s))

-- the fields of a line stand between its spaces
abbrev pub fields_of : List ℕ → List (List ℕ)
fields_of = parted space

-- the whole lines of a text stand before its newlines; what follows the last is the last part, and no whole line
abbrev pub lines_of : List ℕ → List (List ℕ)
lines_of = parted newline
