-- Laws of lists that have the same elements in another order.
use mathlib.Core.Path.{◌≡◌, refl, sym, subst, ◌∙◌}
use mathlib.Core.Bool.{Bool, true, false, cond}
use mathlib.Core.List.{List, [], ◌∷◌, ◌++◌, map}
use Prim.Native.Nat.{ℕ, ◌+◌, ◌≤◌}
use native.Mathlib.Omega.{arith}
use lib.ListN.{length}
use Rattle.lists.specs.Lists.{total, Each, Some, keep, SameElements}
use Rattle.lists.proofs.Lists.{each_imp, each_self, each_at, some_imp, some_pick, some_of_total, some_le_total, total_append, total_map}

module _ {A : Type 0} where
  pub same_refl : (xs : List A) → SameElements xs xs
  same_refl xs f = refl

  pub same_sym : (xs ys : List A) → SameElements xs ys → SameElements ys xs
  same_sym xs ys e f = sym (e f)

  pub same_trans : (xs ys zs : List A) → SameElements xs ys → SameElements ys zs → SameElements xs zs
  same_trans xs ys zs e g f = e f ∙ g f

  pub same_append : (xs ys zs : List A) → SameElements xs ys → SameElements (xs ++ zs) (ys ++ zs)
  same_append xs ys zs e f = omega (arith, e f, total_append f xs zs, total_append f ys zs)

  length_total : (xs : List A) → total (λ x. 1) xs ≡ length xs
  length_total [] = refl
  length_total (x ∷ xs) = omega (arith, length_total xs)

  pub same_length : (xs ys : List A) → SameElements xs ys → length xs ≡ length ys
  same_length xs ys e = sym (length_total xs) ∙ e (λ x. 1) ∙ length_total ys

  -- what is kept counts where the test passes
  total_kept : (f : A → ℕ) (t : A → Bool) (xs : List A) → total f (keep t xs) ≡ total (λ x. cond (t x) (f x) 0) xs
  total_kept f t [] = refl
  total_kept f t (x ∷ xs) = go (t x) (total_kept f t xs)
    where
      go : (b : Bool) → total f (keep t xs) ≡ total (λ y. cond (t y) (f y) 0) xs
          → total f (cond b (x ∷ keep t xs) (keep t xs)) ≡ cond b (f x) 0 + total (λ y. cond (t y) (f y) 0) xs
      go true ih = omega arith
      go false ih = omega arith

  pub same_keep : (t : A → Bool) (xs ys : List A) → SameElements xs ys → SameElements (keep t xs) (keep t ys)
  same_keep t xs ys e f = total_kept f t xs ∙ e (λ x. cond (t x) (f x) 0) ∙ sym (total_kept f t ys)

module _ {A B : Type 0} where
  pub same_map : (h : A → B) (xs ys : List A) → SameElements xs ys → SameElements (map h xs) (map h ys)
  same_map h xs ys e f = total_map f h xs ∙ e (λ x. f (h x)) ∙ sym (total_map f h ys)

-- where elements can be told apart, what holds of some or of each in the one list does so in the other
module _ {A : Type 0} (is : A → A → ℕ) (own : (x : A) → 1 ≤ is x x) (sound : (x y : A) → 1 ≤ is x y → y ≡ x) where
  pub some_same : (P : A → Type 0) (xs ys : List A) → SameElements xs ys → Some P xs → Some P ys
  some_same P xs ys e s = go (some_pick P xs s)
    where
      go : (x : A) × P x × Some (λ y. y ≡ x) xs → Some P ys
      go (x, p, m) =
          some_imp (λ y. 1 ≤ is x y) P (λ y h. subst P (sym (sound x y h)) p) ys
          (some_of_total (is x) ys
          (omega (arith, e (is x), some_le_total (is x) 1 xs (some_imp (λ y. y ≡ x) (λ y. 1 ≤ is x y) (λ y q. subst (λ z. 1 ≤ is x z) (sym q) (own x)) xs m))))

  pub each_same : (P : A → Type 0) (xs ys : List A) → SameElements xs ys → Each P xs → Each P ys
  each_same P xs ys e ps =
      each_imp (λ y. Some (λ z. z ≡ y) ys) P (λ y m. each_at P y xs ps (some_same (λ z. z ≡ y) ys xs (same_sym xs ys e) m)) ys (each_self ys)
