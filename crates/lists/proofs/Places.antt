-- Laws of the places of an array: those in use, those that are left, and the elements in them.
use mathlib.Core.Path.{◌≡◌, refl, sym, ap, ap₂, subst, ◌∙◌}
use mathlib.Core.Bool.{Bool, true, false, ◌&&◌}
use mathlib.Core.List.{List, [], ◌∷◌, ◌++◌, map, append_assoc}
use Prim.Native.Nat.{ℕ, zero, suc, ◌+◌, ◌-◌, ◌≤◌, ◌<◌}
use native.Mathlib.Numerals.{add-one}
use native.Mathlib.Omega.{arith}
use lib.ListN.{length, get_or, take, drop, set, replicate, length-map, length-append, length-replicate, length-drop}
use lib.ListN.{take-append-drop, drop_of_length-le, length-set}
use lib.Seq.{drop-cons, get_or-take, length-take-le, set_at, take-suc, take_at, drop_at, take-append-le, drop-append-le}
use lib.Seq.{paste, set-append_left}
use Rattle.lists.specs.Lists.{every, Each, total, filled}
use Rattle.lists.proofs.Tests.{both, both_made}

-- an array's length is known of its elements as they lie in memory
pub length_mapped : (X Y : Type 0) (f : X → Y) (l : List X) (n : ℕ) → length (map f l) ≡ n → length l ≡ n
length_mapped X Y f l n p = sym (length-map l f) ∙ p

module _ {A : Type 0} where
  -- the next place of an array, and the places after it
  pub next : (xs : List A) (i : ℕ) (d : A) → i < length xs → drop i xs ≡ get_or xs i d ∷ drop (i + 1) xs
  next xs i d h = drop-cons xs i d h ∙ ap (λ n. get_or xs i d ∷ drop n xs) (sym (add-one i))

  -- the same of the first c places
  pub next_live :
      (xs : List A) (c i : ℕ) (d : A) → i < c → c ≤ length xs →
      drop i (take c xs) ≡ get_or xs i d ∷ drop (i + 1) (take c xs)
  next_live xs c i d h l =
      let k : length (take c xs) ≡ c = length-take-le c xs l in
      next (take c xs) i d (omega arith) ∙ ap (λ x. x ∷ drop (i + 1) (take c xs)) (get_or-take c xs i d h)

  -- nothing is left after the last place
  pub no_more : (xs : List A) (i : ℕ) → length xs ≤ i → drop i xs ≡ []
  no_more xs i h = drop_of_length-le xs h

  pub no_more_live : (xs : List A) (c i : ℕ) → c ≤ i → c ≤ length xs → drop i (take c xs) ≡ []
  no_more_live xs c i h l =
      let k : length (take c xs) ≡ c = length-take-le c xs l in
      no_more (take c xs) i (omega arith)

  pub every_none : (p : A → Bool) → every p [] ≡ true
  unfolding every
  every_none p = refl

  pub every_past : (p : A → Bool) (x : A) (xs : List A) → p x ≡ true → every p (x ∷ xs) ≡ every p xs
  unfolding every
  every_past p x xs h = ap (λ b. b && every p xs) h

  pub every_stop : (p : A → Bool) (x : A) (xs : List A) → p x ≡ false → every p (x ∷ xs) ≡ false
  unfolding every
  every_stop p x xs h = ap (λ b. b && every p xs) h

  -- a test that every element passes, as a fact of each element
  pub each_of_every :
      (p : A → Bool) (P : A → Type 0) → ((x : A) → p x ≡ true → P x) → (xs : List A) → every p xs ≡ true → Each P xs
  unfolding every
  each_of_every p P f [] h = tt
  each_of_every p P f (x ∷ xs) h = (f x (both (p x) (every p xs) h).0, each_of_every p P f xs (both (p x) (every p xs) h).1)

  pub every_of_each :
      (p : A → Bool) (P : A → Type 0) → ((x : A) → P x → p x ≡ true) → (xs : List A) → Each P xs → every p xs ≡ true
  unfolding every
  every_of_each p P f [] h = refl
  every_of_each p P f (x ∷ xs) h = both_made (p x) (every p xs) (f x h.0) (every_of_each p P f xs h.1)

  -- what holds of each element holds of the one at a place
  pub each_get_or : (P : A → Type 0) (xs : List A) (i : ℕ) (d : A) → Each P xs → i < length xs → P (get_or xs i d)
  each_get_or P [] i d e h = absurd (omega arith)
  each_get_or P (x ∷ xs) zero d e h = e.0
  each_get_or P (x ∷ xs) (suc i) d e h = each_get_or P xs i d e.1 (omega arith)

  pub each_live :
      (P : A → Type 0) (xs : List A) (c i : ℕ) (d : A) → Each P (take c xs) → i < c → c ≤ length xs → P (get_or xs i d)
  each_live P xs c i d e h l =
      let k : length (take c xs) ≡ c = length-take-le c xs l in
      subst P (get_or-take c xs i d h) (each_get_or P (take c xs) i d e (omega arith))

  pub length_filled : (n : ℕ) (z : A) (xs : List A) → length xs ≤ n → length (filled n z xs) ≡ n
  length_filled n z xs h = simp (length-append, length-replicate) (omega arith)

  -- the list at the front of an array is what stands in its first places
  pub take_filled : (n : ℕ) (z : A) (xs : List A) → take (length xs) (filled n z xs) ≡ xs
  take_filled n z xs = take_at xs (replicate (n - length xs) z) (length xs) refl

  -- one more element is put into the first unused place
  pub filled_more :
      (n : ℕ) (z x : A) (xs : List A) → length xs < n →
      set (filled n z xs) (length xs) x ≡ filled n z (xs ++ (x ∷ []))
  filled_more n z x xs h =
      let m = n - suc (length xs) in
      let e : n - length xs ≡ suc m = omega arith in
      let more : length (xs ++ (x ∷ [])) ≡ suc (length xs) = simp length-append (add-one (length xs)) in
      ap (λ k. set (xs ++ replicate k z) (length xs) x) e
      ∙ set_at xs z (replicate m z) x (length xs) refl
      ∙ sym (append_assoc xs (x ∷ []) (replicate m z))
      ∙ ap (λ k. (xs ++ (x ∷ [])) ++ replicate (n - k) z) (sym more)

  -- a test of place after place: every place passes exactly if those that are left do
  module _ (p : A → Bool) (left : List A) (all : Bool) (so_far : all ≡ every p left) where
    -- the next place fails
    pub every_fails : (x : A) (rest : List A) → left ≡ x ∷ rest → p x ≡ false → false ≡ all
    every_fails x rest e h = sym (so_far ∙ ap (every p) e ∙ every_stop p x rest h)

    -- the next place passes
    pub every_goes_on : (x : A) (rest : List A) → left ≡ x ∷ rest → p x ≡ true → all ≡ every p rest
    every_goes_on x rest e h = so_far ∙ ap (every p) e ∙ every_past p x rest h

    -- no place is left
    pub every_passes : left ≡ [] → true ≡ all
    every_passes e = sym (so_far ∙ ap (every p) e ∙ every_none p)

  -- place after place is filled from the front of a list
  pub filled_next :
      (n : ℕ) (z d : A) (xs : List A) (i : ℕ) → i < length xs → i < n →
      set (filled n z (take i xs)) i (get_or xs i d) ≡ filled n z (take (i + 1) xs)
  filled_next n z d xs i h k =
      let e : length (take i xs) ≡ i = length-take-le i xs (omega arith) in
      ap (λ j. set (filled n z (take i xs)) j (get_or xs i d)) (sym e)
      ∙ filled_more n z (get_or xs i d) (take i xs) (omega arith)
      ∙ ap (filled n z) (sym (take-suc xs i d h) ∙ ap (λ j. take j xs) (sym (add-one i)))

  same_each : (z : A) (xs : List A) → Each (λ x. x ≡ z) xs → xs ≡ replicate (length xs) z
  same_each z [] e = refl
  same_each z (x ∷ xs) e = λ t. e.0 t ∷ same_each z xs e.1 t

  each_same : (z : A) (n : ℕ) → Each (λ x. x ≡ z) (replicate n z)
  each_same z zero = tt
  each_same z (suc n) = (refl, each_same z n)

  -- an array whose unused places are all z is its first places, filled up
  pub filled_of_unused :
      (n c : ℕ) (z : A) (xs : List A) → length xs ≡ n → c ≤ n → Each (λ x. x ≡ z) (drop c xs) →
      xs ≡ filled n z (take c xs)
  filled_of_unused n c z xs l h e =
      let front : length (take c xs) ≡ c = length-take-le c xs (omega arith) in
      let back : length (drop c xs) ≡ n - length (take c xs) = length-drop c xs ∙ omega arith in
      sym (take-append-drop c xs) ∙ ap (λ r. take c xs ++ r) (same_each z (drop c xs) e ∙ ap (λ k. replicate k z) back)

  pub unused_of_filled : (n : ℕ) (z : A) (xs : List A) → Each (λ x. x ≡ z) (drop (length xs) (filled n z xs))
  unused_of_filled n z xs = subst (Each (λ x. x ≡ z)) (sym (drop_at xs (replicate (n - length xs) z) (length xs) refl)) (each_same z (n - length xs))

  -- the places behind one have moved up by one, and the last of them is unused again: that one is out
  module _ (n : ℕ) (z : A) (xs : List A) (at : ℕ) (h : at < length xs) (l : length xs ≤ n) where
    left : List A
    left = take at xs ++ drop (at + 1) xs

    length_left : length left ≡ length xs - 1
    unfolding left
    length_left =
        let a : length (take at xs) ≡ at = length-take-le at xs (omega arith) in
        let b : length (drop (at + 1) xs) ≡ length xs - (at + 1) = length-drop (at + 1) xs in
        length-append (take at xs) (drop (at + 1) xs) ∙ omega arith

    moved_up :
        (m : ℕ) → at + m ≡ length xs - 1 →
        paste (filled n z xs) at (drop (at + 1) (filled n z xs)) m ≡ left ++ (get_or xs (length xs - 1) z ∷ replicate (n - length xs) z)
    unfolding left
    moved_up m e =
        let r = replicate (n - length xs) z in
        let front : take at (xs ++ r) ≡ take at xs = take-append-le at xs r (omega arith) in
        let b : length (drop (at + 1) xs) ≡ m = length-drop (at + 1) xs ∙ omega arith in
        let middle : take m (drop (at + 1) (xs ++ r)) ≡ drop (at + 1) xs =
        ap (take m) (drop-append-le (at + 1) xs r (omega arith)) ∙ take_at (drop (at + 1) xs) r m b in
        let one : drop (length xs - 1) xs ≡ get_or xs (length xs - 1) z ∷ [] =
        drop-cons xs (length xs - 1) z (omega arith) ∙ ap (λ k. get_or xs (length xs - 1) z ∷ k) (drop_of_length-le xs {i = suc (length xs - 1)} (omega arith)) in
        let back : drop (at + m) (xs ++ r) ≡ get_or xs (length xs - 1) z ∷ r =
        ap (λ k. drop k (xs ++ r)) e ∙ drop-append-le (length xs - 1) xs r (omega arith) ∙ ap (λ k. k ++ r) one in
        λ t. (front t ++ middle t) ++ back t

    pub filled_without :
        (m : ℕ) → at + m ≡ length xs - 1 →
        set (paste (filled n z xs) at (drop (at + 1) (filled n z xs)) m) (length xs - 1) z ≡ filled n z (take at xs ++ drop (at + 1) xs)
    unfolding left
    filled_without m e =
        let k : suc (n - length xs) ≡ n - length left = omega (arith, length_left) in
        ap (λ d. set d (length xs - 1) z) (moved_up m e)
        ∙ set_at left _ (replicate (n - length xs) z) z (length xs - 1) length_left
        ∙ ap (λ j. left ++ replicate j z) k

    pub length_without : length (take at xs ++ drop (at + 1) xs) ≡ length xs - 1
    unfolding left
    length_without = length_left

  -- the places from one on have moved up by one, and it has a new element
  pub filled_put :
      (n : ℕ) (z x : A) (xs : List A) (at m : ℕ) → at + m ≡ length xs → length xs < n →
      set (paste (filled n z xs) (at + 1) (drop at (filled n z xs)) m) at x ≡ filled n z (take at xs ++ (x ∷ drop at xs))
  filled_put n z x xs at m e l =
      let r = replicate (n - length xs) z in
      let front : take at (xs ++ r) ≡ take at xs = take-append-le at xs r (omega arith) in
      let long : length (take at xs) ≡ at = length-take-le at xs (omega arith) in
      let all : length (xs ++ r) ≡ n = length_filled n z xs (omega arith) in
      let one : take (at + 1) (xs ++ r) ≡ take at xs ++ (get_or (xs ++ r) at z ∷ []) =
      ap (λ k. take k (xs ++ r)) (add-one at) ∙ take-suc (xs ++ r) at z (omega arith) ∙ ap (λ k. k ++ (get_or (xs ++ r) at z ∷ [])) front in
      let behind : length (drop at xs) ≡ m = length-drop at xs ∙ omega arith in
      let middle : take m (drop at (xs ++ r)) ≡ drop at xs =
      ap (take m) (drop-append-le at xs r (omega arith)) ∙ take_at (drop at xs) r m behind in
      let rest : drop (at + 1 + m) (xs ++ r) ≡ replicate (n - suc (length xs)) z = rest_of (n - suc (length xs)) (omega arith) in
      let more : length (take at xs ++ (x ∷ drop at xs)) ≡ suc (length xs) = length-append (take at xs) (x ∷ drop at xs) ∙ omega arith in
      (λ t. set ((one t ++ middle t) ++ rest t) at x)
      ∙ ap (λ k. set k at x) (append_assoc (take at xs ++ (get_or (xs ++ r) at z ∷ [])) (drop at xs) (replicate (n - suc (length xs)) z) ∙ append_assoc (take at xs) (get_or (xs ++ r) at z ∷ []) (drop at xs ++ replicate (n - suc (length xs)) z))
      ∙ set_at (take at xs) (get_or (xs ++ r) at z) (drop at xs ++ replicate (n - suc (length xs)) z) x at long
      ∙ sym (append_assoc (take at xs) (x ∷ drop at xs) (replicate (n - suc (length xs)) z))
      ∙ ap (λ k. (take at xs ++ (x ∷ drop at xs)) ++ replicate (n - k) z) (sym more)
    where
      rest_of : (k : ℕ) → n - length xs ≡ suc k → drop (at + 1 + m) (xs ++ replicate (n - length xs) z) ≡ replicate k z
      rest_of k q =
          let at_end_lem : at + 1 + m ≡ length (xs ++ (z ∷ [])) = omega (arith, e, length-append xs (z ∷ [])) in
          ap (λ c. drop (at + 1 + m) (xs ++ replicate c z)) q
          ∙ ap (drop (at + 1 + m)) (sym (append_assoc xs (z ∷ []) (replicate k z)))
          ∙ drop_at (xs ++ (z ∷ [])) (replicate k z) (at + 1 + m) (sym at_end_lem)

  pub each_take : (P : A → Type 0) (n : ℕ) (xs : List A) → Each P xs → Each P (take n xs)
  each_take P zero xs e = tt
  each_take P (suc n) [] e = tt
  each_take P (suc n) (x ∷ xs) e = (e.0, each_take P n xs e.1)

  pub each_drop : (P : A → Type 0) (n : ℕ) (xs : List A) → Each P xs → Each P (drop n xs)
  each_drop P zero xs e = e
  each_drop P (suc n) [] e = tt
  each_drop P (suc n) (x ∷ xs) e = each_drop P n xs e.1

  -- a part of a list has at most the whole's sum
  pub total_without : (f : A → ℕ) (at : ℕ) (xs : List A) → total f (take at xs ++ drop (suc at) xs) ≤ total f xs
  total_without f zero [] = omega arith
  total_without f zero (x ∷ xs) = omega arith
  total_without f (suc at) [] = omega arith
  total_without f (suc at) (x ∷ xs) = let ih : total f (take at xs ++ drop (suc at) xs) ≤ total f xs = total_without f at xs in omega arith

module _ {A : Type 0} where
  -- the first i elements changed, the others as they were
  abbrev pub changed : (A → A) → ℕ → List A → List A
  changed h i xs = map h (take i xs) ++ drop i xs

  changed_set : (h : A → A) (d : A) (xs : List A) (i : ℕ) → i < length xs → set (changed h i xs) i (h (get_or xs i d)) ≡ changed h (i + 1) xs
  changed_set h d [] i l = absurd (omega arith)
  changed_set h d (x ∷ xs) zero l = refl
  changed_set h d (x ∷ xs) (suc i) l =
      let e : suc i + 1 ≡ suc (i + 1) = omega arith in
      rw e (ap (h x ∷◌) (changed_set h d xs i (omega arith)))

  -- one element more is changed, where it stands
  pub changed_next : (h : A → A) (d : A) (xs : List A) (i : ℕ) → i < length xs
      → set (changed h i xs) i (h (get_or (changed h i xs) i d)) ≡ changed h (i + 1) xs
  changed_next h d [] i l = absurd (omega arith)
  changed_next h d (x ∷ xs) zero l = refl
  changed_next h d (x ∷ xs) (suc i) l =
      let e : suc i + 1 ≡ suc (i + 1) = omega arith in
      rw e (ap (h x ∷◌) (changed_next h d xs i (omega arith)))

  length_changed : (h : A → A) (i : ℕ) (xs : List A) → length (changed h i xs) ≡ length xs
  length_changed h zero xs = refl
  length_changed h (suc i) [] = refl
  length_changed h (suc i) (x ∷ xs) = ap suc (length_changed h i xs)

  -- the same in the places of an array: one place more is changed
  pub filled_changed_next : (n : ℕ) (z : A) (h : A → A) (d : A) (xs : List A) (i : ℕ) → i < length xs
      → set (filled n z (changed h i xs)) i (h (get_or xs i d)) ≡ filled n z (changed h (i + 1) xs)
  filled_changed_next n z h d xs i l =
      let many : length (changed h i xs) ≡ length xs = length_changed h i xs in
      set-append_left (changed h i xs) (replicate (n - length (changed h i xs)) z) i (h (get_or xs i d)) (omega arith)
      ∙ ap₂ (λ ys k. ys ++ replicate (n - k) z) (changed_set h d xs i l) (many ∙ sym (length_changed h (i + 1) xs))

  -- all of them are changed
  pub changed_all : (h : A → A) (i : ℕ) (xs : List A) → length xs ≤ i → changed h i xs ≡ map h xs
  changed_all h zero [] l = refl
  changed_all h zero (x ∷ xs) l = absurd (omega arith)
  changed_all h (suc i) [] l = refl
  changed_all h (suc i) (x ∷ xs) l = ap (h x ∷◌) (changed_all h i xs (omega arith))

  -- all those in use are changed, and the unused places stay
  pub filled_changed : (n : ℕ) (z : A) (h : A → A) (xs : List A) → map h xs ++ drop (length xs) (filled n z xs) ≡ filled n z (map h xs)
  filled_changed n z h xs =
      ap (map h xs ++◌) (drop_at xs (replicate (n - length xs) z) (length xs) refl ∙ ap (λ k. replicate (n - k) z) (sym (length-map xs h)))

  -- a place in use is changed
  pub filled_set : (n : ℕ) (z : A) (xs : List A) (i : ℕ) (x : A) → i < length xs → set (filled n z xs) i x ≡ filled n z (set xs i x)
  filled_set n z xs i x h =
      set-append_left xs (replicate (n - length xs) z) i x h ∙ ap (λ k. set xs i x ++ replicate (n - k) z) (sym (length-set xs i x))
