-- Laws of two lists that are as long as each other, element by element.
use mathlib.Core.Path.{◌≡◌, refl, ap₂}
use mathlib.Core.Logic.{inl, inr}
use mathlib.Core.List.{List, [], ◌∷◌, map}
use Prim.Native.Nat.{ℕ, ◌≤◌}
use native.Mathlib.Nat.{le_refl}
use native.Mathlib.Omega.{arith}
use Rattle.lists.specs.Lists.{total, Each, Some, Pairs}

module _ {A : Type 0} (R : A → A → Type 0) where
  pub pairs_imp : (S : A → A → Type 0) → ((x y : A) → R x y → S x y) → (xs ys : List A) → Pairs R xs ys → Pairs S xs ys
  pairs_imp S h [] [] ps = tt
  pairs_imp S h [] (y ∷ ys) ps = ps
  pairs_imp S h (x ∷ xs) [] ps = ps
  pairs_imp S h (x ∷ xs) (y ∷ ys) ps = (h x y ps.0, pairs_imp S h xs ys ps.1)

  pub pairs_map : (g h : A → A) (xs ys : List A) → Pairs (λ x y. R (g x) (h y)) xs ys → Pairs R (map g xs) (map h ys)
  pairs_map g h [] [] ps = tt
  pairs_map g h [] (y ∷ ys) ps = ps
  pairs_map g h (x ∷ xs) [] ps = ps
  pairs_map g h (x ∷ xs) (y ∷ ys) ps = (ps.0, pairs_map g h xs ys ps.1)

  pub pairs_total : (f g : A → ℕ) → ((x y : A) → R x y → f x ≤ g y) → (xs ys : List A) → Pairs R xs ys → total f xs ≤ total g ys
  pairs_total f g h [] [] ps = le_refl 0
  pairs_total f g h [] (y ∷ ys) ps = absurd ps
  pairs_total f g h (x ∷ xs) [] ps = absurd ps
  pairs_total f g h (x ∷ xs) (y ∷ ys) ps = omega (arith, h x y ps.0, pairs_total f g h xs ys ps.1)

  -- what is the same of each pair is the same of the lists
  pub pairs_same : {B : Type 0} (f : A → B) → ((x y : A) → R x y → f x ≡ f y) → (xs ys : List A) → Pairs R xs ys → map f xs ≡ map f ys
  pairs_same f h [] [] ps = refl
  pairs_same f h [] (y ∷ ys) ps = absurd ps
  pairs_same f h (x ∷ xs) [] ps = absurd ps
  pairs_same f h (x ∷ xs) (y ∷ ys) ps = ap₂ ◌∷◌ (h x y ps.0) (pairs_same f h xs ys ps.1)

  -- what one of the first list has, its fellow in the second has
  pub pairs_some : (P Q : A → Type 0) → ((x y : A) → R x y → P x → Q y) → (xs ys : List A) → Pairs R xs ys → Some P xs → Some Q ys
  pairs_some P Q h [] [] ps s = absurd s
  pairs_some P Q h [] (y ∷ ys) ps s = absurd s
  pairs_some P Q h (x ∷ xs) [] ps s = absurd ps
  pairs_some P Q h (x ∷ xs) (y ∷ ys) ps (inl p) = inl (h x y ps.0 p)
  pairs_some P Q h (x ∷ xs) (y ∷ ys) ps (inr s) = inr (pairs_some P Q h xs ys ps.1 s)

  pub pairs_refl : ((x : A) → R x x) → (xs : List A) → Pairs R xs xs
  pairs_refl r [] = tt
  pairs_refl r (x ∷ xs) = (r x, pairs_refl r xs)

  -- what becomes of each element, and it
  pub pairs_of_map : (h : A → A) (xs : List A) → Each (λ x. R (h x) x) xs → Pairs R (map h xs) xs
  pairs_of_map h [] rs = tt
  pairs_of_map h (x ∷ xs) rs = (rs.0, pairs_of_map h xs rs.1)
