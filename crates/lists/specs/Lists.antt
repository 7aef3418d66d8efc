-- Sums, tests and statements over a list.
use Rattle.std.specs.Prelude.{◌≡◌, ◌⊎◌, Bool, true, false, cond, ◌&&◌, List, [], ◌∷◌, ◌++◌, ℕ, ◌+◌, ◌-◌, eqb, length, replicate}

-- a test as a number: 1 where it holds
abbrev pub bit : Bool → ℕ
bit true = 1
bit false = 0

-- 1 where the two numbers are the same, 0 otherwise
unfoldable pub eq : ℕ → ℕ → ℕ
eq m n = bit (eqb m n)

-- all of these hold
unfoldable pub all_of : List Bool → Bool
all_of [] = true
all_of (b ∷ bs) = b && all_of bs

module _ {A : Type 0} where
  -- every element passes the test
  unfoldable pub every : (A → Bool) → List A → Bool
  every p [] = true
  every p (x ∷ xs) = p x && every p xs

  -- f added up over the list
  abbrev pub total : (A → ℕ) → List A → ℕ
  total f [] = 0
  total f (x ∷ xs) = f x + total f xs

  -- P holds of each element
  abbrev pub Each : (A → Type 0) → List A → Type 0
  Each P [] = Unit {0}
  Each P (x ∷ xs) = P x × Each P xs

  -- P holds of some element
  abbrev pub Some : (A → Type 0) → List A → Type 0
  Some P [] = ⊥
  Some P (x ∷ xs) = P x ⊎ Some P xs

  -- the elements that pass the test, in their order
  abbrev pub keep : (A → Bool) → List A → List A
  keep p [] = []
  keep p (x ∷ xs) = cond (p x) (x ∷ keep p xs) (keep p xs)

  -- the list at the front of an array of n places, the rest of which is unused
  abbrev pub filled : ℕ → A → List A → List A
  filled n none xs = xs ++ replicate (n - length xs) none

  -- the same elements in whatever order: all that can be counted of the one list comes to the same in the other
  abbrev pub SameElements : List A → List A → Type 0
  SameElements xs ys = (f : A → ℕ) → total f xs ≡ total f ys

  -- the two lists are as long as each other, and R holds of each two that stand at the same place
  abbrev pub Pairs : (A → A → Type 0) → List A → List A → Type 0
  Pairs R [] [] = Unit {0}
  Pairs R [] (y ∷ ys) = ⊥
  Pairs R (x ∷ xs) [] = ⊥
  Pairs R (x ∷ xs) (y ∷ ys) = R x y × Pairs R xs ys
