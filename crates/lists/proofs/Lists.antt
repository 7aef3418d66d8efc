-- Laws of sums and statements over a list.
use mathlib.Core.Path.{◌≡◌, refl, sym, ◌∙◌, ap, subst}
use mathlib.Core.Logic.{◌⊎◌, inl, inr}
use mathlib.Core.Bool.{Bool, true, false, cond}
use mathlib.Core.List.{List, [], ◌∷◌, ◌++◌, map}
use Prim.Native.Nat.{ℕ, zero, suc, ◌+◌, ◌*◌, ◌≤◌}
use native.Mathlib.Nat.{le_refl, zero-mul}
use native.Mathlib.Omega.{arith}
use lib.ListN.{length}
use Rattle.lists.proofs.Tests.{false_not_true}
use Rattle.lists.specs.Lists.{total, Each, Some, keep}

module _ {A : Type 0} where
  pub each : (P : A → Type 0) → ((x : A) → P x) → (xs : List A) → Each P xs
  each P h [] = tt
  each P h (x ∷ xs) = (h x, each P h xs)

  pub each_imp : (P Q : A → Type 0) → ((x : A) → P x → Q x) → (xs : List A) → Each P xs → Each Q xs
  each_imp P Q h [] ps = tt
  each_imp P Q h (x ∷ xs) ps = (h x ps.0, each_imp P Q h xs ps.1)

  pub each_both : (P Q : A → Type 0) (xs : List A) → Each P xs → Each Q xs → Each (λ x. P x × Q x) xs
  each_both P Q [] ps qs = tt
  each_both P Q (x ∷ xs) ps qs = ((ps.0, qs.0), each_both P Q xs ps.1 qs.1)

  pub each_append : (P : A → Type 0) (xs ys : List A) → Each P xs → Each P ys → Each P (xs ++ ys)
  each_append P [] ys ps qs = qs
  each_append P (x ∷ xs) ys ps qs = (ps.0, each_append P xs ys ps.1 qs)

  pub each_left : (P : A → Type 0) (xs ys : List A) → Each P (xs ++ ys) → Each P xs
  each_left P [] ys ps = tt
  each_left P (x ∷ xs) ys ps = (ps.0, each_left P xs ys ps.1)

  pub each_right : (P : A → Type 0) (xs ys : List A) → Each P (xs ++ ys) → Each P ys
  each_right P [] ys ps = ps
  each_right P (x ∷ xs) ys ps = each_right P xs ys ps.1

  -- for every k of each is of each for every k
  pub each_for : {K : Type 0} (P : K → A → Type 0) (xs : List A) → ((k : K) → Each (P k) xs) → Each (λ x. (k : K) → P k x) xs
  each_for P [] h = tt
  each_for P (x ∷ xs) h = (λ k. (h k).0, each_for P xs (λ k. (h k).1))

  -- of what is kept it is enough to know P where the test passes
  pub each_keep : (P : A → Type 0) (t : A → Bool) (xs : List A) → Each (λ x. t x ≡ true → P x) xs → Each P (keep t xs)
  each_keep P t [] ps = tt
  each_keep P t (x ∷ xs) ps = go (t x) refl (each_keep P t xs ps.1)
    where
      go : (b : Bool) → t x ≡ b → Each P (keep t xs) → Each P (cond b (x ∷ keep t xs) (keep t xs))
      go true e ih = (ps.0 e, ih)
      go false e ih = ih

  pub some_imp : (P Q : A → Type 0) → ((x : A) → P x → Q x) → (xs : List A) → Some P xs → Some Q xs
  some_imp P Q h [] s = s
  some_imp P Q h (x ∷ xs) (inl p) = inl (h x p)
  some_imp P Q h (x ∷ xs) (inr s) = inr (some_imp P Q h xs s)

  pub some_both : (P Q : A → Type 0) (xs : List A) → Some P xs → Each Q xs → Some (λ x. P x × Q x) xs
  some_both P Q [] s qs = s
  some_both P Q (x ∷ xs) (inl p) qs = inl (p, qs.0)
  some_both P Q (x ∷ xs) (inr s) qs = inr (some_both P Q xs s qs.1)

  pub some_get : (P : A → Type 0) (C : Type 0) → ((x : A) → P x → C) → (xs : List A) → Some P xs → C
  some_get P C h [] s = absurd s
  some_get P C h (x ∷ xs) (inl p) = h x p
  some_get P C h (x ∷ xs) (inr s) = some_get P C h xs s

  pub some_left : (P : A → Type 0) (xs ys : List A) → Some P xs → Some P (xs ++ ys)
  some_left P [] ys s = absurd s
  some_left P (x ∷ xs) ys (inl p) = inl p
  some_left P (x ∷ xs) ys (inr s) = inr (some_left P xs ys s)

  pub some_right : (P : A → Type 0) (xs ys : List A) → Some P ys → Some P (xs ++ ys)
  some_right P [] ys s = s
  some_right P (x ∷ xs) ys s = inr (some_right P xs ys s)

  pub some_append : (P : A → Type 0) (xs ys : List A) → Some P (xs ++ ys) → Some P xs ⊎ Some P ys
  some_append P [] ys s = inr s
  some_append P (x ∷ xs) ys (inl p) = inl (inl p)
  some_append P (x ∷ xs) ys (inr s) = go (some_append P xs ys s)
    where
      go : Some P xs ⊎ Some P ys → Some P (x ∷ xs) ⊎ Some P ys
      go (inl r) = inl (inr r)
      go (inr r) = inr r

  -- what passes the test is kept
  pub some_keep : (P : A → Type 0) (t : A → Bool) (xs : List A) → Some (λ x. P x × (t x ≡ true)) xs → Some P (keep t xs)
  some_keep P t [] s = s
  some_keep P t (x ∷ xs) s = go (t x) refl s (λ r. some_keep P t xs r)
    where
      go : (b : Bool)
          → t x ≡ b
          → Some (λ y. P y × (t y ≡ true)) (x ∷ xs)
          → (Some (λ y. P y × (t y ≡ true)) xs → Some P (keep t xs))
          → Some P (cond b (x ∷ keep t xs) (keep t xs))
      go true e (inl p) ih = inl p.0
      go true e (inr r) ih = inr (ih r)
      go false e (inl p) ih = absurd (false_not_true (sym e ∙ p.1))
      go false e (inr r) ih = ih r

  -- what is kept was there and passes the test
  pub some_of_keep : (P : A → Type 0) (t : A → Bool) (xs : List A) → Some P (keep t xs) → Some (λ x. P x × (t x ≡ true)) xs
  some_of_keep P t [] s = s
  some_of_keep P t (x ∷ xs) s = go (t x) refl s (λ r. some_of_keep P t xs r)
    where
      go : (b : Bool)
          → t x ≡ b
          → Some P (cond b (x ∷ keep t xs) (keep t xs))
          → (Some P (keep t xs) → Some (λ y. P y × (t y ≡ true)) xs)
          → Some (λ y. P y × (t y ≡ true)) (x ∷ xs)
      go true e (inl p) ih = inl (p, e)
      go true e (inr r) ih = inr (ih r)
      go false e r ih = inr (ih r)

  -- each element is an element
  pub each_self : (xs : List A) → Each (λ x. Some (λ y. y ≡ x) xs) xs
  each_self [] = tt
  each_self (x ∷ xs) =
      (inl refl, each_imp (λ y. Some (λ z. z ≡ y) xs) (λ y. Some (λ z. z ≡ y) (x ∷ xs)) (λ y s. inr s) xs (each_self xs))

  -- the element that has P
  pub some_pick : (P : A → Type 0) (xs : List A) → Some P xs → (x : A) × P x × Some (λ y. y ≡ x) xs
  some_pick P [] s = absurd s
  some_pick P (x ∷ xs) (inl p) = (x, p, inl refl)
  some_pick P (x ∷ xs) (inr s) = let (y, p, r) = some_pick P xs s in (y, p, inr r)

  -- an element at hand, for a statement over each
  pub each_at : (P : A → Type 0) (x : A) (xs : List A) → Each P xs → Some (λ y. y ≡ x) xs → P x
  each_at P x [] ps s = absurd s
  each_at P x (y ∷ ys) ps (inl e) = subst P e ps.0
  each_at P x (y ∷ ys) ps (inr s) = each_at P x ys ps.1 s

  -- either some element has P, or each has Q, where each element has the one or the other
  pub some_or_each : (P Q : A → Type 0) → ((x : A) → P x ⊎ Q x) → (xs : List A) → Some P xs ⊎ Each Q xs
  some_or_each P Q d [] = inr tt
  some_or_each P Q d (x ∷ xs) = go (d x) (some_or_each P Q d xs)
    where
      go : P x ⊎ Q x → Some P xs ⊎ Each Q xs → Some P (x ∷ xs) ⊎ Each Q (x ∷ xs)
      go (inl p) r = inl (inl p)
      go (inr q) (inl s) = inl (inr s)
      go (inr q) (inr qs) = inr (q, qs)

  pub total_mono : (f g : A → ℕ) (xs : List A) → Each (λ x. f x ≤ g x) xs → total f xs ≤ total g xs
  total_mono f g [] h = le_refl 0
  total_mono f g (x ∷ xs) h = omega (arith, h.0, total_mono f g xs h.1)

  -- the same where every element of the list has P
  pub total_le : (P : A → Type 0) (f g : A → ℕ) → ((x : A) → P x → f x ≤ g x) → (xs : List A) → Each P xs → total f xs ≤ total g xs
  total_le P f g h xs ps = total_mono f g xs (each_imp P (λ x. f x ≤ g x) h xs ps)

  -- and where it holds of every element there is
  pub total_le_all : (f g : A → ℕ) → ((x : A) → f x ≤ g x) → (xs : List A) → total f xs ≤ total g xs
  total_le_all f g h xs = total_mono f g xs (each (λ x. f x ≤ g x) h xs)

  pub total_same : (f g : A → ℕ) (xs : List A) → Each (λ x. f x ≡ g x) xs → total f xs ≡ total g xs
  total_same f g [] h = refl
  total_same f g (x ∷ xs) h = omega (arith, h.0, total_same f g xs h.1)

  pub total_eq : (P : A → Type 0) (f g : A → ℕ) → ((x : A) → P x → f x ≡ g x) → (xs : List A) → Each P xs → total f xs ≡ total g xs
  total_eq P f g h xs ps = total_same f g xs (each_imp P (λ x. f x ≡ g x) h xs ps)

  pub total_none : (xs : List A) → total (λ x. 0) xs ≡ 0
  total_none [] = refl
  total_none (x ∷ xs) = omega (arith, total_none xs)

  pub total_zero : (f : A → ℕ) (xs : List A) → Each (λ x. f x ≡ 0) xs → total f xs ≡ 0
  total_zero f [] h = refl
  total_zero f (x ∷ xs) h = omega (arith, h.0, total_zero f xs h.1)

  pub each_of_total_zero : (f : A → ℕ) (xs : List A) → total f xs ≡ 0 → Each (λ x. f x ≡ 0) xs
  each_of_total_zero f [] h = tt
  each_of_total_zero f (x ∷ xs) h = (omega arith, each_of_total_zero f xs (omega arith))

  -- one element is at most the sum
  pub some_le_total : (f : A → ℕ) (n : ℕ) (xs : List A) → Some (λ x. n ≤ f x) xs → n ≤ total f xs
  some_le_total f n [] s = absurd s
  some_le_total f n (x ∷ xs) (inl p) = omega arith
  some_le_total f n (x ∷ xs) (inr s) = omega (arith, some_le_total f n xs s)

  -- where the weights add up to at most one, two elements of weight are the same one
  pub some_once : (w : A → ℕ) (P Q : A → Type 0) → ((x : A) → P x → 1 ≤ w x) → ((x : A) → Q x → 1 ≤ w x) → (xs : List A)
      → total w xs ≤ 1 → Some P xs → Some Q xs → Some (λ x. P x × Q x) xs
  some_once w P Q hp hq [] o s r = s
  some_once w P Q hp hq (x ∷ xs) o (inl p) (inl q) = inl (p, q)
  some_once w P Q hp hq (x ∷ xs) o (inl p) (inr r) =
      absurd (omega (arith, hp x p, some_le_total w 1 xs (some_imp Q (λ y. 1 ≤ w y) hq xs r)))
  some_once w P Q hp hq (x ∷ xs) o (inr s) (inl q) =
      absurd (omega (arith, hq x q, some_le_total w 1 xs (some_imp P (λ y. 1 ≤ w y) hp xs s)))
  some_once w P Q hp hq (x ∷ xs) o (inr s) (inr r) = inr (some_once w P Q hp hq xs (omega arith) s r)

  pub some_of_total : (f : A → ℕ) (xs : List A) → 1 ≤ total f xs → Some (λ x. 1 ≤ f x) xs
  some_of_total f xs h = go (some_or_each (λ x. 1 ≤ f x) (λ x. f x ≡ 0) (λ x. one_or_none (f x)) xs)
    where
      one_or_none : (n : ℕ) → 1 ≤ n ⊎ (n ≡ 0)
      one_or_none zero = inr refl
      one_or_none (suc n) = inl (omega arith)

      go : Some (λ x. 1 ≤ f x) xs ⊎ Each (λ x. f x ≡ 0) xs → Some (λ x. 1 ≤ f x) xs
      go (inl s) = s
      go (inr z) = absurd (omega (arith, total_zero f xs z))

  -- as many elements, each at most so much
  pub total_at_most : (f : A → ℕ) (m : ℕ) (xs : List A) → Each (λ x. f x ≤ m) xs → total f xs ≤ length xs * m
  total_at_most f m [] h = omega (arith, zero-mul m)
  total_at_most f m (x ∷ xs) h = omega (arith, h.0, total_at_most f m xs h.1)

  pub total_add : (f g : A → ℕ) (xs : List A) → total (λ x. f x + g x) xs ≡ total f xs + total g xs
  total_add f g [] = refl
  total_add f g (x ∷ xs) = omega (arith, total_add f g xs)

  pub total_scale : (f : A → ℕ) (m : ℕ) (xs : List A) → total (λ x. f x * m) xs ≡ total f xs * m
  total_scale f m [] = sym (zero-mul m)
  total_scale f m (x ∷ xs) = omega (arith, total_scale f m xs)

  pub total_append : (f : A → ℕ) (xs ys : List A) → total f (xs ++ ys) ≡ total f xs + total f ys
  total_append f [] ys = omega arith
  total_append f (x ∷ xs) ys = omega (arith, total_append f xs ys)

  -- what is dropped counts for nothing
  pub total_keep : (f : A → ℕ) (t : A → Bool) (xs : List A) → Each (λ x. t x ≡ false → f x ≡ 0) xs → total f (keep t xs) ≡ total f xs
  total_keep f t [] h = refl
  total_keep f t (x ∷ xs) h = go (t x) refl (total_keep f t xs h.1)
    where
      go : (b : Bool) → t x ≡ b → total f (keep t xs) ≡ total f xs → total f (cond b (x ∷ keep t xs) (keep t xs)) ≡ f x + total f xs
      go true e ih = omega arith
      go false e ih = omega (arith, h.0 e)

  pub total_keep_le : (f : A → ℕ) (t : A → Bool) (xs : List A) → total f (keep t xs) ≤ total f xs
  total_keep_le f t [] = le_refl 0
  total_keep_le f t (x ∷ xs) = go (t x) (total_keep_le f t xs)
    where
      go : (b : Bool) → total f (keep t xs) ≤ total f xs → total f (cond b (x ∷ keep t xs) (keep t xs)) ≤ f x + total f xs
      go true ih = omega arith
      go false ih = omega arith

  -- no element grows and one falls: the sum falls
  pub total_falls : (f g : A → ℕ) (xs : List A) → Each (λ x. f x ≤ g x) xs → Some (λ x. f x + 1 ≤ g x) xs → total f xs + 1 ≤ total g xs
  total_falls f g [] h s = absurd s
  total_falls f g (x ∷ xs) h (inl p) = omega (arith, total_mono f g xs h.1)
  total_falls f g (x ∷ xs) h (inr s) = omega (arith, h.0, total_falls f g xs h.1 s)

module _ {A B : Type 0} where
  pub each_map : (P : B → Type 0) (h : A → B) (xs : List A) → Each (λ x. P (h x)) xs → Each P (map h xs)
  each_map P h [] ps = tt
  each_map P h (x ∷ xs) ps = (ps.0, each_map P h xs ps.1)

  pub each_of_map : (P : B → Type 0) (h : A → B) (xs : List A) → Each P (map h xs) → Each (λ x. P (h x)) xs
  each_of_map P h [] ps = tt
  each_of_map P h (x ∷ xs) ps = (ps.0, each_of_map P h xs ps.1)

  pub some_map : (P : B → Type 0) (h : A → B) (xs : List A) → Some (λ x. P (h x)) xs → Some P (map h xs)
  some_map P h [] s = s
  some_map P h (x ∷ xs) (inl p) = inl p
  some_map P h (x ∷ xs) (inr s) = inr (some_map P h xs s)

  pub some_of_map : (P : B → Type 0) (h : A → B) (xs : List A) → Some P (map h xs) → Some (λ x. P (h x)) xs
  some_of_map P h [] s = s
  some_of_map P h (x ∷ xs) (inl p) = inl p
  some_of_map P h (x ∷ xs) (inr s) = inr (some_of_map P h xs s)

  pub total_map : (f : B → ℕ) (h : A → B) (xs : List A) → total f (map h xs) ≡ total (λ x. f (h x)) xs
  total_map f h [] = refl
  total_map f h (x ∷ xs) = ap (f (h x) +◌) (total_map f h xs)

  -- rows first or columns first
  pub total_swap : (h : A → B → ℕ) (xs : List A) (ys : List B)
      → total (λ x. total (h x) ys) xs ≡ total (λ y. total (λ x. h x y) xs) ys
  total_swap h [] ys = sym (total_none ys)
  total_swap h (x ∷ xs) ys =
      omega (arith, total_swap h xs ys, total_add (λ y. h x y) (λ y. total (λ z. h z y) xs) ys)
