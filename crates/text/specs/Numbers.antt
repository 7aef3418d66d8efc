-- Numbers in a base from 2 to 10, over bytes: what a field counts, and how a number is written. Decimal numbers, and binary ones.
use Rattle.std.specs.Prelude.{Bool, true, false, not, cond, ◌&&◌, ◌||◌, List, [], ◌∷◌, ◌++◌, ℕ, zero, suc, ◌+◌, ◌-◌, ◌*◌, ◌/◌, ◌%◌, ◌≤◌, leb, ltb, eqb, length, get_or, Option, Some, None}

-- the digit 0; the others follow it
abbrev pub nought : ℕ
nought = 48

-- a decimal number has at most so many digits, and a binary one
abbrev pub most_digits : ℕ
most_digits = 13

abbrev pub most_bits : ℕ
most_bits = 32

-- a base whose digits are among the ten
pub record Base (base : ℕ) : Type 0 where
  pub two : 2 ≤ base
  pub ten : base ≤ 10

unfoldable pub is_digit : ℕ → ℕ → Bool
is_digit base b = leb nought b && ltb b (nought + base)

-- every byte is a digit
unfoldable pub all_digits : ℕ → List ℕ → Bool
all_digits base [] = true
all_digits base (b ∷ s) = is_digit base b && all_digits base s

-- what the digits count, with n before them
unfoldable pub counted : ℕ → ℕ → List ℕ → ℕ
counted base n [] = n
counted base n (b ∷ s) = counted base (n * base + (b - nought)) s

-- from 1 byte to the most, and the first is no 0 where more follow
unfoldable pub is_shaped : ℕ → List ℕ → Bool
is_shaped most s = leb 1 (length s) && (leb (length s) most && (eqb (length s) 1 || not (eqb (get_or s 0 0) nought)))

-- a field as a number, if it is one
unfoldable pub number_in : ℕ → ℕ → List ℕ → Option ℕ
number_in base most s = cond (is_shaped most s && all_digits base s) (Some (counted base 0 s)) None

abbrev pub number_of : List ℕ → Option ℕ
number_of = number_in 10 most_digits

abbrev pub bits_of : List ℕ → Option ℕ
bits_of = number_in 2 most_bits

-- the digits of n, where there is room for k
unfoldable pub numeral_in : ℕ → ℕ → ℕ → List ℕ
numeral_in base zero n = []
numeral_in base (suc k) n =
    elim (ltb n base) [ true ↦ (nought + n) ∷ [] | false ↦ numeral_in base k (n / base) ++ ((nought + n % base) ∷ []) ]

-- n in the base: the digits of n / base, where n has more than one digit, and then its last
unfoldable pub numeral : ℕ → ℕ → List ℕ
numeral base n = numeral_in base (suc n) n

abbrev pub digits : ℕ → List ℕ
digits = numeral 10

abbrev pub bits : ℕ → List ℕ
bits = numeral 2
