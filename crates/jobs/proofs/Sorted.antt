-- The order of the table: jobs put in their places are the same jobs, each before those after it, and there is one such order.
use mathlib.Core.Path.{◌≡◌, refl, sym, ap, subst, ◌∙◌}
use mathlib.Core.Logic.{inl, inr}
use mathlib.Core.Bool.{Bool, true, false, cond, ◌&&◌}
use mathlib.Core.List.{List, [], ◌∷◌, ◌++◌, map, map-id}
use Prim.Native.Nat.{ℕ, zero, suc, ◌+◌, ◌-◌, ◌≤◌, ◌<◌}
use native.Mathlib.Omega.{arith}
use lib.Dec.{ltb, eqb}
use lib.ListN.{length, get_or, take, drop}
use Rattle.std.specs.Prelude.{Some as Found, unwrap_or}
use Rattle.std.specs.List.{position_from, IsAllAdjacentAnswer}
use borrow.Author.Tests.{ltb-true, eq-eqb}
use Rattle.lists.specs.Lists.{eq, bit, total, Each, Some, keep, SameElements}
use Rattle.lists.proofs.Tests.{eq_refl, eq_is, eq_le, eqb_elim, ltb_elim, both, both_made, false_not_true}
use Rattle.lists.proofs.Lists.{each_imp, each_keep, each_map, each_of_map, each_at, each_of_total_zero, total_append}
use Rattle.lists.proofs.Same.{same_sym, same_length, some_same}
use Rattle.ticks.specs.Ticks.{ticks, instant}
use Rattle.jobs.specs.declared.Job.{Job}
use Rattle.jobs.specs.Jobs.{times}
use Rattle.jobs.proofs.Numbers.{not_counted, times_taken}
use Rattle.jobs.specs.Sorted.{before, rising, Before, Sorted, place_of, insert, sorted}

-- the test says which of two jobs of different numbers stands before the other
module _ (a b : Job) where
  test : Bool → Bool
  test e = cond e (ltb a.number b.number) (ltb a.deadline.0 b.deadline.0)

  pub stands_before : before a b ≡ true → Before a b
  unfolding before test
  stands_before =
      eqb_elim (λ e. test e ≡ true → Before a b) a.deadline.0 b.deadline.0
      (λ p h. record { deadline = omega arith; number = λ e. ltb-true a.number b.number h })
      (λ p h. let l = ltb-true a.deadline.0 b.deadline.0 h in record { deadline = omega arith; number = λ e. absurd (p e) })

  pub stands_after : (b.number ≡ a.number → ⊥) → before a b ≡ false → Before b a
  unfolding before test
  stands_after other =
      eqb_elim (λ e. test e ≡ false → Before b a) a.deadline.0 b.deadline.0
      (λ p. ltb_elim (λ l. l ≡ false → Before b a) a.number b.number
      (λ l h. absurd (false_not_true (sym h)))
      (λ l h. record { deadline = omega arith; number = λ e. omega (arith, l, other) }))
      (λ p. ltb_elim (λ l. l ≡ false → Before b a) a.deadline.0 b.deadline.0
      (λ l h. absurd (false_not_true (sym h)))
      (λ l h. record { deadline = l; number = λ e. absurd (p (sym e)) }))

  pub before_made : Before a b → before a b ≡ true
  unfolding before test
  before_made h =
      eqb_elim (λ e. test e ≡ true) a.deadline.0 b.deadline.0
      (λ p. ltb_elim (λ l. l ≡ true) a.number b.number (λ l. refl) (λ l. absurd (omega (arith, l, h.number p))))
      (λ p. ltb_elim (λ l. l ≡ true) a.deadline.0 b.deadline.0 (λ l. refl) (λ l. absurd (p (omega (arith, l, h.deadline)))))

pub before_trans : (a b c : Job) → Before a b → Before b c → Before a c
before_trans a b c f g =
    record {
      deadline = omega (arith, f.deadline, g.deadline);
      number = λ e.
          let p : a.deadline.0 ≡ b.deadline.0 = omega (arith, e, f.deadline, g.deadline) in
          let q : b.deadline.0 ≡ c.deadline.0 = omega (arith, e, f.deadline, g.deadline) in
          omega (arith, f.number p, g.number q);
    }

not_both : (a b : Job) → Before a b → Before b a → ⊥
not_both a b f g =
    let p : a.deadline.0 ≡ b.deadline.0 = omega (arith, f.deadline, g.deadline) in
    omega (arith, f.number p, g.number (sym p))

-- the test of neighbours, and each before all those after it
pub rising_sorted : (js : List Job) → rising js ≡ true → Sorted js
unfolding rising
rising_sorted [] h = tt
rising_sorted (j ∷ []) h = (tt, tt)
rising_sorted (j ∷ k ∷ ks) h =
    let t = both (before j k) (rising (k ∷ ks)) h in
    let s = rising_sorted (k ∷ ks) t.1 in
    let f = stands_before j k t.0 in
    ((f, each_imp (Before k) (Before j) (λ x g. before_trans j k x f g) ks s.0), s)

pub sorted_rising : (js : List Job) → Sorted js → rising js ≡ true
unfolding rising
sorted_rising [] s = refl
sorted_rising (j ∷ []) s = refl
sorted_rising (j ∷ k ∷ ks) s = both_made (before j k) (rising (k ∷ ks)) (before_made j k s.0.0) (sorted_rising (k ∷ ks) s.1)

-- asked of each two neighbours
pub rising_asked : (js : List Job) (r : Bool) → IsAllAdjacentAnswer (λ j k b. b ≡ before j k) js r → r ≡ rising js
unfolding rising
rising_asked js true h = sym (all js h)
  where
    all : (js : List Job) → ((k : ℕ) (d : Job) → k + 1 < length js → true ≡ before (get_or js k d) (get_or js (k + 1) d)) → rising js ≡ true
    all [] h = refl
    all (j ∷ []) h = refl
    all (j ∷ i ∷ is) h =
        both_made (before j i) (rising (i ∷ is)) (sym (h 0 j (omega arith)))
        (all (i ∷ is) (λ k d l. let e : suc k + 1 ≡ suc (k + 1) = omega arith in rw e at (h (suc k) d (omega arith))))
rising_asked js false h = sym (some js h.0 h.1 h.2)
  where
    none : (b : Bool) → b && false ≡ false
    none true = refl
    none false = refl

    some : (js : List Job) (k : ℕ) → k + 1 < length js → ((d : Job) → false ≡ before (get_or js k d) (get_or js (k + 1) d)) → rising js ≡ false
    some [] k l h = absurd (omega arith)
    some (j ∷ []) k l h = absurd (omega arith)
    some (j ∷ i ∷ is) zero l h = ap (◌&& rising (i ∷ is)) (sym (h j))
    some (j ∷ i ∷ is) (suc k) l h =
        let e : suc k + 1 ≡ suc (k + 1) = omega arith in
        ap (before j i &&◌) (some (i ∷ is) k (omega arith) (λ d. rw e at (h d))) ∙ none (before j i)

-- jobs are told apart by all that is stored of them
is_job : Job → Job → ℕ
is_job j k = eq j.number k.number + eq j.owed.0 k.owed.0 + eq j.deadline.0 k.deadline.0 + eq j.figure.0 k.figure.0 - 3

own_job : (j : Job) → 1 ≤ is_job j j
unfolding is_job
own_job j = omega (arith, eq_refl j.number, eq_refl j.owed.0, eq_refl j.deadline.0, eq_refl j.figure.0)

same_job : (j k : Job) → 1 ≤ is_job j k → k ≡ j
unfolding is_job
same_job j k h =
    let a = eq_le j.number k.number in
    let b = eq_le j.owed.0 k.owed.0 in
    let c = eq_le j.deadline.0 k.deadline.0 in
    let d = eq_le j.figure.0 k.figure.0 in
    λ i. record {
      number = sym (eq_is j.number k.number (omega (arith, h, a, b, c, d))) i;
      owed = ticks (sym (eq_is j.owed.0 k.owed.0 (omega (arith, h, a, b, c, d))) i);
      deadline = instant (sym (eq_is j.deadline.0 k.deadline.0 (omega (arith, h, a, b, c, d))) i);
      figure = ticks (sym (eq_is j.figure.0 k.figure.0 (omega (arith, h, a, b, c, d))) i);
    }

-- THERE IS ONE ORDER: the same jobs, each before those after it, stand so in one way
pub sorted_once : (xs ys : List Job) → Sorted xs → Sorted ys → SameElements xs ys → xs ≡ ys
sorted_once [] [] s t e = refl
sorted_once [] (y ∷ ys) s t e = absurd (omega (arith, same_length [] (y ∷ ys) e))
sorted_once (x ∷ xs) [] s t e = absurd (omega (arith, same_length (x ∷ xs) [] e))
sorted_once (x ∷ xs) (y ∷ ys) s t e =
    go (λ p. sorted_once xs ys s.1 t.1 (λ f. omega (arith, e f, ap f p)))
    (some_same is_job own_job same_job (λ k. k ≡ x) (x ∷ xs) (y ∷ ys) e (inl refl))
    (some_same is_job own_job same_job (λ k. k ≡ y) (y ∷ ys) (x ∷ xs) (same_sym (x ∷ xs) (y ∷ ys) e) (inl refl))
  where
    go : (y ≡ x → xs ≡ ys) → Some (λ k. k ≡ x) (y ∷ ys) → Some (λ k. k ≡ y) (x ∷ xs) → x ∷ xs ≡ y ∷ ys
    go ih (inl p) q = λ i. sym p i ∷ ih p i
    go ih (inr p) (inl q) = λ i. q i ∷ ih (sym q) i
    go ih (inr p) (inr q) = absurd (not_both x y (each_at (Before x) y xs s.0 q) (each_at (Before y) x ys t.0 p))

-- a job put in its place: the same jobs and one more
pub insert_total : (f : Job → ℕ) (j : Job) (js : List Job) → total f (insert j js) ≡ f j + total f js
unfolding insert
insert_total f j [] = refl
insert_total f j (k ∷ ks) = go (before j k) (insert_total f j ks)
  where
    go : (b : Bool) → total f (insert j ks) ≡ f j + total f ks → total f (cond b (j ∷ k ∷ ks) (k ∷ insert j ks)) ≡ f j + (f k + total f ks)
    go true ih = refl
    go false ih = omega arith

pub insert_same : (js : List Job) (j : Job) → SameElements (insert j js) (js ++ (j ∷ []))
insert_same js j f = omega (arith, insert_total f j js, total_append f js (j ∷ []))

pub sorted_same : (js : List Job) → SameElements (sorted js) js
unfolding sorted
sorted_same [] f = refl
sorted_same (j ∷ js) f = omega (arith, insert_total f j (sorted js), sorted_same js f)

pub each_insert : (P : Job → Type 0) (j : Job) (js : List Job) → P j → Each P js → Each P (insert j js)
unfolding insert
each_insert P j [] p ps = (p, tt)
each_insert P j (k ∷ ks) p ps = go (before j k) (each_insert P j ks p ps.1)
  where
    go : (b : Bool) → Each P (insert j ks) → Each P (cond b (j ∷ k ∷ ks) (k ∷ insert j ks))
    go true ih = (p, ps)
    go false ih = (ps.0, ih)

pub each_sorted : (P : Job → Type 0) (js : List Job) → Each P js → Each P (sorted js)
unfolding sorted
each_sorted P [] ps = tt
each_sorted P (j ∷ js) ps = each_insert P j (sorted js) ps.0 (each_sorted P js ps.1)

-- each before those after it
pub insert_sorted : (j : Job) (js : List Job) → Each (λ k. k.number ≡ j.number → ⊥) js → Sorted js → Sorted (insert j js)
unfolding insert
insert_sorted j [] o s = (tt, tt)
insert_sorted j (k ∷ ks) o s = go (before j k) refl (insert_sorted j ks o.1 s.1)
  where
    go : (b : Bool) → before j k ≡ b → Sorted (insert j ks) → Sorted (cond b (j ∷ k ∷ ks) (k ∷ insert j ks))
    go true e ih = let f = stands_before j k e in ((f, each_imp (Before k) (Before j) (λ x g. before_trans j k x f g) ks s.0), s)
    go false e ih = (each_insert (Before k) j ks (stands_after j k o.0 e) s.0, ih)

-- a number that does not stand among the jobs is none of theirs
pub others_than : (n : ℕ) (js : List Job) → times n js ≡ 0 → Each (λ k. k.number ≡ n → ⊥) js
others_than n js z =
    each_imp (λ k. bit (eqb n k.number) ≡ 0) (λ k. k.number ≡ n → ⊥) (λ k. not_counted n k) js
    (each_of_total_zero (λ k. bit (eqb n k.number)) js z)

pub sorted_sorted : (js : List Job) → ((n : ℕ) → times n js ≤ 1) → Sorted (sorted js)
unfolding sorted
sorted_sorted [] o = tt
sorted_sorted (j ∷ js) o =
    let here : bit (eqb j.number j.number) ≡ 1 = ap bit (eq-eqb j.number j.number refl) in
    insert_sorted j (sorted js)
    (others_than j.number (sorted js) (omega (arith, sorted_same js (λ k. bit (eqb j.number k.number)), here, o j.number)))
    (sorted_sorted js (λ n. omega (arith, o n)))

-- jobs in order stay as they are
insert_first : (j : Job) (js : List Job) → Each (Before j) js → insert j js ≡ j ∷ js
unfolding insert
insert_first j [] h = refl
insert_first j (k ∷ ks) h = ap (λ b. cond b (j ∷ k ∷ ks) (k ∷ insert j ks)) (before_made j k h.0)

pub sorted_own : (js : List Job) → Sorted js → sorted js ≡ js
unfolding sorted
sorted_own [] s = refl
sorted_own (j ∷ js) s = ap (insert j) (sorted_own js s.1) ∙ insert_first j js s.0

-- a job taken behind jobs in order, and put in its place
pub sorted_taken : (js : List Job) (j : Job) → Sorted js → ((n : ℕ) → times n js ≤ 1) → times j.number js ≡ 0 → sorted (js ++ (j ∷ [])) ≡ insert j js
sorted_taken js j s o free =
    sorted_once (sorted (js ++ (j ∷ []))) (insert j js) (sorted_sorted (js ++ (j ∷ [])) (times_taken js j o free)) (insert_sorted j js (others_than j.number js free) s)
    (λ f. sorted_same (js ++ (j ∷ [])) f ∙ sym (insert_same js j f))

-- it stands at its place
pub insert_place : (j : Job) (js : List Job) → insert j js ≡ take (place_of j js) js ++ (j ∷ drop (place_of j js) js)
unfolding insert place_of
insert_place j [] = refl
insert_place j (k ∷ ks) = go (before j k) (insert_place j ks)
  where
    go : (b : Bool) → insert j ks ≡ take (place_of j ks) ks ++ (j ∷ drop (place_of j ks) ks)
        → cond b (j ∷ k ∷ ks) (k ∷ insert j ks) ≡ take (cond b 0 (suc (place_of j ks))) (k ∷ ks) ++ (j ∷ drop (cond b 0 (suc (place_of j ks))) (k ∷ ks))
    go true ih = refl
    go false ih = ap (k ∷◌) ih

pub place_inside : (j : Job) (js : List Job) → place_of j js ≤ length js
unfolding place_of
place_inside j [] = omega arith
place_inside j (k ∷ ks) = go (before j k) (place_inside j ks)
  where
    go : (b : Bool) → place_of j ks ≤ length ks → cond b 0 (suc (place_of j ks)) ≤ suc (length ks)
    go true ih = omega arith
    go false ih = omega arith

-- its place is that of the first job that it stands before, or behind the last
pub place_found : (j : Job) (js : List Job) (k : ℕ) → unwrap_or (position_from (before j) k js) (k + length js) ≡ k + place_of j js
unfolding place_of
place_found j [] k = refl
place_found j (x ∷ xs) k =
    let one : k + suc (length xs) ≡ k + 1 + length xs = omega arith in
    rw one (go (before j x) (place_found j xs (k + 1)))
  where
    go : (b : Bool) → unwrap_or (position_from (before j) (k + 1) xs) (k + 1 + length xs) ≡ k + 1 + place_of j xs
        → unwrap_or (cond b (Found k) (position_from (before j) (k + 1) xs)) (k + 1 + length xs) ≡ k + cond b 0 (suc (place_of j xs))
    go true ih = omega arith
    go false ih = omega arith

-- of things that are read as jobs: what leaves number and deadline as they are leaves the order, and so does leaving some out
module _ {A : Type 0} where
  pub sorted_alike : (h k : A → Job) → ((x : A) → (k x).number ≡ (h x).number) → ((x : A) → (k x).deadline.0 ≡ (h x).deadline.0)
      → (xs : List A) → Sorted (map h xs) → Sorted (map k xs)
  sorted_alike h k n d [] s = tt
  sorted_alike h k n d (x ∷ xs) s = (
    each_map (Before (k x)) k xs
        (each_imp (λ y. Before (h x) (h y)) (λ y. Before (k x) (k y))
        (λ y f. record { deadline = omega (arith, d x, d y, f.deadline); number = λ e. omega (arith, n x, n y, f.number (omega (arith, e, d x, d y))) }) xs
        (each_of_map (Before (h x)) h xs s.0)),
    sorted_alike h k n d xs s.1,
  )

  pub sorted_left : (h : A → Job) (t : A → Bool) (xs : List A) → Sorted (map h xs) → Sorted (map h (keep t xs))
  sorted_left h t [] s = tt
  sorted_left h t (x ∷ xs) s = go (t x) (sorted_left h t xs s.1)
    where
      go : (b : Bool) → Sorted (map h (keep t xs)) → Sorted (map h (cond b (x ∷ keep t xs) (keep t xs)))
      go true ih = (each_map (Before (h x)) h (keep t xs) (each_keep (λ y. Before (h x) (h y)) t xs (each_imp (λ y. Before (h x) (h y)) (λ y. t y ≡ true → Before (h x) (h y)) (λ y f e. f) xs (each_of_map (Before (h x)) h xs s.0))), ih)
      go false ih = ih

-- and so of jobs themselves
pub sorted_map : (h : Job → Job) → ((j : Job) → (h j).number ≡ j.number) → ((j : Job) → (h j).deadline.0 ≡ j.deadline.0) → (js : List Job) → Sorted js → Sorted (map h js)
sorted_map h n d js s = sorted_alike (λ j. j) h n d js (subst Sorted (sym (map-id js)) s)

pub sorted_keep : (t : Job → Bool) (js : List Job) → Sorted js → Sorted (keep t js)
sorted_keep t js s = subst Sorted (map-id (keep t js)) (sorted_left (λ j. j) t js (subst Sorted (sym (map-id js)) s))

-- what leaves number and deadline as they are may come before or after the jobs are put in order
module _ (h : Job → Job) (n : (j : Job) → (h j).number ≡ j.number) (d : (j : Job) → (h j).deadline.0 ≡ j.deadline.0) where
  before_map : (j k : Job) → before (h j) (h k) ≡ before j k
  unfolding before
  before_map j k = λ i. cond (eqb (d j i) (d k i)) (ltb (n j i) (n k i)) (ltb (d j i) (d k i))

  insert_map : (j : Job) (js : List Job) → insert (h j) (map h js) ≡ map h (insert j js)
  unfolding insert
  insert_map j [] = refl
  insert_map j (k ∷ ks) = ap (λ b. cond b (h j ∷ h k ∷ map h ks) (h k ∷ insert (h j) (map h ks))) (before_map j k) ∙ go (before j k) (insert_map j ks)
    where
      go : (b : Bool) → insert (h j) (map h ks) ≡ map h (insert j ks) → cond b (h j ∷ h k ∷ map h ks) (h k ∷ insert (h j) (map h ks)) ≡ map h (cond b (j ∷ k ∷ ks) (k ∷ insert j ks))
      go true ih = refl
      go false ih = ap (h k ∷◌) ih

  pub map_sorted : (js : List Job) → sorted (map h js) ≡ map h (sorted js)
  unfolding sorted
  map_sorted [] = refl
  map_sorted (j ∷ js) = ap (insert (h j)) (map_sorted js) ∙ insert_map j (sorted js)
