-- Fronts of files and what they come to, computed as one table.
use mathlib.Core.Path.{◌≡◌, refl}
use mathlib.Core.List.{List, [], ◌∷◌, ◌++◌, map}
use Prim.Native.Nat.{ℕ, ◌/◌, ◌%◌, ◌^◌, ◌<◌}
use native.Mathlib.Nat.{mod-eq_of_lt}
use native.Mathlib.Omega.{arith}
use lib.ListN.{replicate, take}
use Rattle.answers.specs.declared.Refusal.{Refusal}
use Rattle.answers.specs.declared.Refusal.TheVariants.{ShortFront, LengthOff, NoTriangles}
use Rattle.std.specs.Prelude.{Result, Ok, Err}
use Rattle.answers.specs.Answers.{first_of}
use Rattle.mesh.specs.Bands.{work_in}
use Rattle.mesh.specs.Meshes.{triangles_of, mesh_of}

-- the front of a file with so many triangles, behind a header of spaces
unfoldable pub front : ℕ → List ℕ
front n = replicate 80 32 ++ (n % 256 ∷ n / 256 % 256 ∷ n / 65536 % 256 ∷ n / 16777216 % 256 ∷ [])

-- what is lent, the file's length, and what the rules say
pub record Example : Type 0 where
  pub lent : List ℕ
  pub size : ℕ
  pub said : Result ℕ Refusal

abbrev pub case : List ℕ → ℕ → Result ℕ Refusal → Example
case s n m = record { lent = s; size = n; said = m }

-- each band's first and last count, and the largest
abbrev pub worked : List Example
worked =
    case (front 1) 134 (Ok 4)
    ∷ case (front 9999) 500034 (Ok 4)
    ∷ case (front 10000) 500084 (Ok 16)
    ∷ case (front 99999) 5000034 (Ok 16)
    ∷ case (front 100000) 5000084 (Ok 120)
    ∷ case (front 999999) 50000034 (Ok 120)
    ∷ case (front 1000000) 50000084 (Ok 900)
    ∷ case (front 9999999) 500000034 (Ok 900)
    ∷ case (front 10000000) 500000084 (Ok 8000)
    ∷ case (front 99999999) 5000000034 (Ok 8000)
    ∷ case (front 100000000) 5000000084 (Ok 65536)
    ∷ case (front 4294967295) 214748364834 (Ok 65536)
    ∷ []

-- a byte too few is lent, whatever else is wrong; a length that is off, with triangles or without; no triangles; more is lent
abbrev pub others : List Example
others =
    case [] 0 (Err ShortFront)
    ∷ case (take 83 (front 1)) 134 (Err ShortFront)
    ∷ case (take 83 (front 0)) 85 (Err ShortFront)
    ∷ case (front 1) 133 (Err LengthOff)
    ∷ case (front 1) 135 (Err LengthOff)
    ∷ case (front 2) 134 (Err LengthOff)
    ∷ case (front 0) 85 (Err LengthOff)
    ∷ case (front 16777216) 134 (Err LengthOff)
    ∷ case (front 4294967295) 18446744073709551615 (Err LengthOff)
    ∷ case (front 0) 84 (Err NoTriangles)
    ∷ case (front 1 ++ replicate 50 7) 134 (Ok 4)
    ∷ []

pub as_the_rules_say : map (λ e. mesh_of e.lent e.size) (worked ++ others) ≡ map (λ e. e.said) (worked ++ others)
unfolding mesh_of first_of work_in front
as_the_rules_say = refl

-- a count that is written in a front is read there
pub front_reads : (n : ℕ) → n < 2 ^ 32 → triangles_of (front n) ≡ n
unfolding front
front_reads n h =
    let top : n / 16777216 % 256 ≡ n / 16777216 = mod-eq_of_lt (omega arith) in
    omega (arith, top)
