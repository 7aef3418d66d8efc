-- Text as bytes.
use Prim.Native.String.{String}
use Prim.Native.Char.{code}
use Rattle.std.specs.Prelude.{List, [], ◌∷◌, ℕ}

-- the bytes of a text in ASCII
abbrev pub spelt : String → List ℕ
spelt String.[] = []
spelt (String.◌∷◌ c s) = code c ∷ spelt s
