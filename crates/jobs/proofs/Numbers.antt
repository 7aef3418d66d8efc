-- Looking a number up, and numbers that stand once.
use mathlib.Core.Path.{◌≡◌, refl, sym, ap, subst, ◌∙◌}
use mathlib.Core.Bool.{Bool, true, false, not, ◌&&◌, cond}
use mathlib.Core.List.{List, [], ◌∷◌, ◌++◌}
use Prim.Native.Nat.{ℕ, zero, suc, ◌+◌, ◌≤◌}
use native.Mathlib.Omega.{arith}
use lib.Dec.{eqb}
use lib.ListN.{length, get_or, take, drop}
use borrow.Author.Tests.{eq-eqb, ne_eqb, eqb-true, eqb-false, not-true, not-false}
use Rattle.lists.specs.Lists.{every, bit}
use Rattle.lists.proofs.Tests.{both, both_made}
use Rattle.lists.proofs.Lists.{total_append}
use Rattle.jobs.specs.declared.Job.{Job}
use Rattle.std.specs.Prelude.{Some, None, is_none, ◌||◌}
use Rattle.std.specs.List.{list_any}
use Rattle.jobs.specs.Jobs.{no_job, found_in, lacks, distinct, times, others, FoundAt}

-- a number that is not found is not there
pub lacks_found : (n k : ℕ) (js : List Job) → lacks n js ≡ is_none (found_in n k js)
unfolding lacks every
lacks_found n k [] = refl
lacks_found n k (j ∷ js) = go (eqb j.number n) (lacks_found n (k + 1) js)
  where
    go :
        (b : Bool) → lacks n js ≡ is_none (found_in n (k + 1) js) →
        not b && lacks n js ≡ is_none (cond b (Some k) (found_in n (k + 1) js))
    go true ih = refl
    go false ih = ih

-- some job has the number, or it is not there
pub any_or_lacks : (n : ℕ) (js : List Job) → list_any (λ j. eqb j.number n) js ≡ not (lacks n js)
unfolding lacks every
any_or_lacks n [] = refl
any_or_lacks n (j ∷ js) = go (eqb j.number n) (any_or_lacks n js)
  where
    go :
        (b : Bool) → list_any (λ k. eqb k.number n) js ≡ not (lacks n js) →
        b || list_any (λ k. eqb k.number n) js ≡ not (not b && lacks n js)
    go true ih = refl
    go false ih = ih

pub distinct_none : distinct [] ≡ true
unfolding distinct
distinct_none = refl

pub distinct_past : (j : Job) (js : List Job) → lacks j.number js ≡ true → distinct (j ∷ js) ≡ distinct js
unfolding distinct
distinct_past j js h = ap (λ b. b && distinct js) h

pub distinct_stop : (j : Job) (js : List Job) → lacks j.number js ≡ false → distinct (j ∷ js) ≡ false
unfolding distinct
distinct_stop j js h = ap (λ b. b && distinct js) h

-- the first job's number stands among those behind it, or not
pub stands_behind : (js : List Job) (r : Bool) → 1 ≤ length js → r ≡ list_any (λ j. eqb j.number (get_or js 0 no_job).number) (drop 1 js) → r ≡ true → distinct js ≡ false
stands_behind [] r l e t = absurd (omega arith)
stands_behind (j ∷ js) r l e t = distinct_stop j js (not-true (lacks j.number js) (sym (any_or_lacks j.number js) ∙ sym e ∙ t))

pub none_behind : (js : List Job) (r : Bool) → 1 ≤ length js → r ≡ list_any (λ j. eqb j.number (get_or js 0 no_job).number) (drop 1 js) → r ≡ false → distinct js ≡ distinct (drop 1 js)
none_behind [] r l e f = absurd (omega arith)
none_behind (j ∷ js) r l e f = distinct_past j js (not-false (lacks j.number js) (sym (any_or_lacks j.number js) ∙ sym e ∙ f))

-- a number that is not there stands no times, and the other way round
pub lacks_times : (n : ℕ) (js : List Job) → lacks n js ≡ true → times n js ≡ 0
unfolding lacks every
lacks_times n [] h = refl
lacks_times n (j ∷ js) h =
    let t = both (not (eqb j.number n)) (lacks n js) h in
    let ih : times n js ≡ 0 = lacks_times n js t.1 in
    let other : bit (eqb n j.number) ≡ 0 =
    ap bit (ne_eqb n j.number (λ e. eqb-false j.number n (not-true (eqb j.number n) t.0) (sym e))) in
    omega arith

pub times_lacks : (n : ℕ) (js : List Job) → times n js ≡ 0 → lacks n js ≡ true
unfolding lacks every
times_lacks n [] h = refl
times_lacks n (j ∷ js) h = go (eqb n j.number) refl (times_lacks n js)
  where
    go :
        (b : Bool) → eqb n j.number ≡ b → (times n js ≡ 0 → lacks n js ≡ true) →
        not (eqb j.number n) && lacks n js ≡ true
    go true e ih = absurd (let one : bit (eqb n j.number) ≡ 1 = ap bit e in omega arith)
    go false e ih =
        both_made (not (eqb j.number n)) (lacks n js)
        (ap not (ne_eqb j.number n (λ f. eqb-false n j.number e (sym f))))
        (ih (let none : bit (eqb n j.number) ≡ 0 = ap bit e in omega arith))

-- lists that have a number as often say the same of it
pub lacks_alike : (n : ℕ) (xs ys : List Job) → times n xs ≡ times n ys → lacks n xs ≡ lacks n ys
lacks_alike n xs ys e = go (lacks n xs) refl (lacks n ys) refl
  where
    go : (a : Bool) → lacks n xs ≡ a → (b : Bool) → lacks n ys ≡ b → a ≡ b
    go true p true q = refl
    go true p false q = sym (times_lacks n ys (sym e ∙ lacks_times n xs p)) ∙ q
    go false p true q = sym p ∙ times_lacks n xs (e ∙ lacks_times n ys q)
    go false p false q = refl

-- no number twice: every number at most once
pub distinct_once : (js : List Job) → distinct js ≡ true → (n : ℕ) → times n js ≤ 1
unfolding distinct
distinct_once [] h n = omega arith
distinct_once (j ∷ js) h n = go (eqb n j.number) refl (distinct_once js t.1 n)
  where
    t : (lacks j.number js ≡ true) × (distinct js ≡ true)
    t = both (lacks j.number js) (distinct js) h

    go : (b : Bool) → eqb n j.number ≡ b → times n js ≤ 1 → bit b + times n js ≤ 1
    go true e ih =
        let none : times n js ≡ 0 = ap (λ m. times m js) (eqb-true n j.number e) ∙ lacks_times j.number js t.0 in
        omega arith
    go false e ih = omega arith

pub once_distinct : (js : List Job) → ((n : ℕ) → times n js ≤ 1) → distinct js ≡ true
unfolding distinct
once_distinct [] h = refl
once_distinct (j ∷ js) h =
    let here : bit (eqb j.number j.number) ≡ 1 = ap bit (eq-eqb j.number j.number refl) in
    both_made (lacks j.number js) (distinct js)
    (times_lacks j.number js (omega (arith, h j.number)))
    (once_distinct js (λ n. omega (arith, h n)))

-- a number that is not found stands no times
pub found_nothing : (n k : ℕ) (js : List Job) → found_in n k js ≡ None → times n js ≡ 0
found_nothing n k js e = lacks_times n js (lacks_found n k js ∙ ap is_none e)

-- a number that is found stands there, and not before
pub found_at : (n k i : ℕ) (js : List Job) → found_in n k js ≡ Some i → (m : ℕ) × (i ≡ k + m) × FoundAt n m js
found_at n k i [] e = absurd (let z : ◌≡◌ {A = ℕ} 0 1 = cc in omega arith)
found_at n k i (j ∷ js) e = go (eqb j.number n) refl (found_at n (k + 1) i js) e
  where
    go :
        (b : Bool) → eqb j.number n ≡ b →
        (found_in n (k + 1) js ≡ Some i → (m : ℕ) × (i ≡ k + 1 + m) × FoundAt n m js) →
        cond b (Some k) (found_in n (k + 1) js) ≡ Some i → (m : ℕ) × (i ≡ k + m) × FoundAt n m (j ∷ js)
    go true t ih f =
        let same : k ≡ i = cc in
        (0, omega arith, record { inside = omega arith; number = eqb-true j.number n t; first = refl })
    go false t ih f =
        let r = ih f in
        let other : bit (eqb n j.number) ≡ 0 = ap bit (ne_eqb n j.number (λ s. eqb-false j.number n t (sym s))) in (
          suc r.0,
          omega (arith, r.1),
          record { inside = omega (arith, r.2.inside); number = r.2.number; first = omega (arith, other, r.2.first) },
        )

-- the same, counted from the first place
pub found_first : (n i : ℕ) (js : List Job) → found_in n 0 js ≡ Some i → FoundAt n i js
found_first n i js e =
    let r = found_at n 0 i js e in
    let same : r.0 ≡ i = omega (arith, r.1) in
    subst (λ m. FoundAt n m js) same r.2

-- a job of the number, and one of another
others_here : (n : ℕ) (j : Job) (js : List Job) → j.number ≡ n → others n (j ∷ js) ≡ others n js
others_here n j js e = ap (λ b. cond (not b) (j ∷ others n js) (others n js)) (eq-eqb n j.number (sym e))

others_past : (n : ℕ) (j : Job) (js : List Job) → (j.number ≡ n → ⊥) → others n (j ∷ js) ≡ j ∷ others n js
others_past n j js e = ap (λ b. cond (not b) (j ∷ others n js) (others n js)) (ne_eqb n j.number (λ f. e (sym f)))

pub not_counted : (n : ℕ) (j : Job) → bit (eqb n j.number) ≡ 0 → j.number ≡ n → ⊥
not_counted n j z e = let one : bit (eqb n j.number) ≡ 1 = ap bit (eq-eqb n j.number (sym e)) in omega arith

-- jobs among which the number does not stand stay as they are
pub others_all : (n : ℕ) (js : List Job) → times n js ≡ 0 → others n js ≡ js
others_all n [] h = refl
others_all n (j ∷ js) h = others_past n j js (not_counted n j (omega arith)) ∙ ap (λ l. j ∷ l) (others_all n js (omega arith))

-- where the number stands once, the jobs without the one at its place are the jobs with another number
pub without_others :
    (n m : ℕ) (js : List Job) → times n js ≤ 1 → FoundAt n m js → take m js ++ drop (suc m) js ≡ others n js
without_others n m [] h f = absurd (omega (arith, f.inside))
without_others n zero (j ∷ js) h f =
    let one : bit (eqb n j.number) ≡ 1 = ap bit (eq-eqb n j.number (sym f.number)) in
    sym (others_here n j js f.number ∙ others_all n js (omega arith))
without_others n (suc m) (j ∷ js) h f =
    ap (λ l. j ∷ l)
    (without_others n m js (omega arith)
    (record { inside = omega (arith, f.inside); number = f.number; first = omega (arith, f.first) }))
    ∙ sym (others_past n j js (not_counted n j (omega (arith, f.first))))

-- one more job, under a number that none has
pub times_taken : (js : List Job) (j : Job) → ((n : ℕ) → times n js ≤ 1) → times j.number js ≡ 0 → (n : ℕ) → times n (js ++ (j ∷ [])) ≤ 1
times_taken js j once free n = go (eqb n j.number) refl
  where
    go : (b : Bool) → eqb n j.number ≡ b → times n (js ++ (j ∷ [])) ≤ 1
    go true e =
        let none : times n js ≡ 0 = ap (λ m. times m js) (eqb-true n j.number e) ∙ free in
        let one : bit (eqb n j.number) ≡ 1 = ap bit e in
        omega (arith, total_append (λ k. bit (eqb n k.number)) js (j ∷ []))
    go false e =
        let none : bit (eqb n j.number) ≡ 0 = ap bit e in
        omega (arith, total_append (λ k. bit (eqb n k.number)) js (j ∷ []), once n)
