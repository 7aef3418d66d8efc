-- Laws of a list whose elements are changed, one of them or each, and of one element taken out.
use mathlib.Core.Path.{◌≡◌, refl, ap, ap₂, ◌∙◌}
use mathlib.Core.List.{List, [], ◌∷◌, ◌++◌, map}
use Prim.Native.Nat.{ℕ, zero, suc, ◌+◌, ◌*◌, ◌≤◌, ◌<◌}
use native.Mathlib.Omega.{arith}
use lib.ListN.{length, get_or, take, drop, set, take-append-drop}
use lib.Seq.{take-set-le, drop-set-lt}
use Rattle.lists.specs.Lists.{Each, total}
use Rattle.lists.proofs.Lists.{total_append}

module _ {A : Type 0} where
  -- the list but the element at a place
  abbrev pub out : ℕ → List A → List A
  out at xs = take at xs ++ drop (at + 1) xs

  -- the element that is out may have been changed before
  pub out_set : (at : ℕ) (x : A) (xs : List A) → out at (set xs at x) ≡ out at xs
  out_set at x xs = ap₂ ◌++◌ (take-set-le at xs at x (omega arith)) (drop-set-lt (at + 1) xs at x (omega arith))

  -- one taken out and the others add up to all
  pub total_out : (f : A → ℕ) (at : ℕ) (d : A) (xs : List A) → at < length xs → total f (out at xs) + f (get_or xs at d) ≡ total f xs
  total_out f at d [] h = absurd (omega arith)
  total_out f zero d (x ∷ xs) h = omega arith
  total_out f (suc at) d (x ∷ xs) h =
      let e : suc at + 1 ≡ suc (at + 1) = omega arith in
      rw e (omega (arith, total_out f at d xs (omega arith)))

  -- one changed: what it counted before goes, what it counts now comes
  pub total_set : (f : A → ℕ) (at : ℕ) (d x : A) (xs : List A) → at < length xs → total f (set xs at x) + f (get_or xs at d) ≡ total f xs + f x
  total_set f at d x [] h = absurd (omega arith)
  total_set f zero d x (y ∷ ys) h = omega arith
  total_set f (suc at) d x (y ∷ ys) h = omega (arith, total_set f at d x ys (omega arith))

  -- one more at a place: what it counts comes to the rest
  pub total_put : (f : A → ℕ) (at : ℕ) (x : A) (xs : List A) → total f (take at xs ++ (x ∷ drop at xs)) ≡ total f xs + f x
  total_put f at x xs =
      omega (arith, total_append f (take at xs) (x ∷ drop at xs), total_append f (take at xs) (drop at xs), ap (total f) (take-append-drop at xs))

  -- each counts no more than a bound
  pub total_bound : (f : A → ℕ) (m : ℕ) (xs : List A) → Each (λ x. f x ≤ m) xs → total f xs ≤ length xs * m
  total_bound f m [] h = omega arith
  total_bound f m (x ∷ xs) h = omega (arith, h.0, total_bound f m xs h.1)

module _ {A B : Type 0} where
  -- changes that agree on each element
  pub map_same : (f g : A → B) (xs : List A) → Each (λ x. f x ≡ g x) xs → map f xs ≡ map g xs
  map_same f g [] h = refl
  map_same f g (x ∷ xs) h = λ i. h.0 i ∷ map_same f g xs h.1 i

  pub map-append : (f : A → B) (xs ys : List A) → map f (xs ++ ys) ≡ map f xs ++ map f ys
  map-append f [] ys = refl
  map-append f (x ∷ xs) ys = ap (f x ∷◌) (map-append f xs ys)

  pub map_drop : (f : A → B) (n : ℕ) (xs : List A) → map f (drop n xs) ≡ drop n (map f xs)
  map_drop f zero xs = refl
  map_drop f (suc n) [] = refl
  map_drop f (suc n) (x ∷ xs) = map_drop f n xs

  pub map_take : (f : A → B) (n : ℕ) (xs : List A) → map f (take n xs) ≡ take n (map f xs)
  map_take f zero xs = refl
  map_take f (suc n) [] = refl
  map_take f (suc n) (x ∷ xs) = ap (f x ∷◌) (map_take f n xs)

  pub map_out : (f : A → B) (at : ℕ) (xs : List A) → map f (out at xs) ≡ out at (map f xs)
  map_out f at xs = map-append f (take at xs) (drop (at + 1) xs) ∙ ap₂ ◌++◌ (map_take f at xs) (map_drop f (at + 1) xs)

  pub map_set : (f : A → B) (at : ℕ) (x : A) (xs : List A) → map f (set xs at x) ≡ set (map f xs) at (f x)
  map_set f at x [] = refl
  map_set f zero x (y ∷ ys) = refl
  map_set f (suc at) x (y ∷ ys) = ap (f y ∷◌) (map_set f at x ys)

  -- the element at a place
  pub get_or_mapped : (f : A → B) (at : ℕ) (d : A) (e : B) (xs : List A) → at < length xs → get_or (map f xs) at e ≡ f (get_or xs at d)
  get_or_mapped f at d e [] h = absurd (omega arith)
  get_or_mapped f zero d e (x ∷ xs) h = refl
  get_or_mapped f (suc at) d e (x ∷ xs) h = get_or_mapped f at d e xs (omega arith)
