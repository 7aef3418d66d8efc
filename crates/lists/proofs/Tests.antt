-- Laws of tests: how to go by cases of each, and rows of them.
use mathlib.Core.Path.{◌≡◌, refl, sym, ◌∙◌, ap, subst}
use mathlib.Core.Bool.{Bool, true, false, not, ◌&&◌}
use mathlib.Core.List.{List, [], ◌∷◌}
use Prim.Native.Nat.{ℕ, suc, ◌≤◌, ◌<◌}
use native.Mathlib.Omega.{arith}
use lib.Dec.{T, eqb, leb, ltb, eqb→eq, eqb_refl, leb→le, nleb→lt}
use Rattle.lists.specs.Lists.{bit, eq, all_of, Each}

pub false_not_true : false ≡ true → ⊥
false_not_true p = let n : ◌≡◌ {A = ℕ} 0 1 = cc in omega arith

pub leb_elim : (P : Bool → Type 0) (m n : ℕ) → (m ≤ n → P true) → (n < m → P false) → P (leb m n)
leb_elim P m n y z = go (leb m n) refl
  where
    go : (b : Bool) → leb m n ≡ b → P b
    go true e = y (leb→le m n (subst T (sym e) tt))
    go false e = z (nleb→lt m n (subst (λ b. T (not b)) (sym e) tt))

pub ltb_elim : (P : Bool → Type 0) (m n : ℕ) → (m < n → P true) → (n ≤ m → P false) → P (ltb m n)
ltb_elim P m n y z = leb_elim P (suc m) n y (λ h. z (omega arith))

pub ltb_says : (m n : ℕ) → ltb m n ≡ true → m < n
ltb_says m n = ltb_elim (λ b. b ≡ true → m < n) m n (λ h e. h) (λ h e. absurd (false_not_true e))

pub ltb-true : (m n : ℕ) → m < n → ltb m n ≡ true
ltb-true m n h = ltb_elim (λ b. b ≡ true) m n (λ k. refl) (λ k. absurd (omega arith))

pub eqb_elim : (P : Bool → Type 0) (m n : ℕ) → (m ≡ n → P true) → ((m ≡ n → ⊥) → P false) → P (eqb m n)
eqb_elim P m n y z = go (eqb m n) refl
  where
    go : (b : Bool) → eqb m n ≡ b → P b
    go true e = y (eqb→eq m n (subst T (sym e) tt))
    go false e = z (λ p. subst T e (subst (λ k. T (eqb m k)) p (eqb_refl m)))

pub eq_elim : (P : ℕ → Type 0) (m n : ℕ) → (m ≡ n → P 1) → ((m ≡ n → ⊥) → P 0) → P (eq m n)
unfolding eq
eq_elim P m n y z = eqb_elim (λ b. P (bit b)) m n y z

pub eq_le : (m n : ℕ) → eq m n ≤ 1
eq_le m n = eq_elim (λ k. k ≤ 1) m n (λ p. omega arith) (λ p. omega arith)

pub eq_refl : (n : ℕ) → eq n n ≡ 1
eq_refl n = eq_elim (λ k. k ≡ 1) n n (λ p. refl) (λ p. absurd (p refl))

pub eq_is : (m n : ℕ) → 1 ≤ eq m n → m ≡ n
eq_is m n = eq_elim (λ k. 1 ≤ k → m ≡ n) m n (λ p h. p) (λ p h. absurd (omega arith))

pub eq_not : (m n : ℕ) → (m ≡ n → ⊥) → eq m n ≡ 0
eq_not m n h = eq_elim (λ k. k ≡ 0) m n (λ p. absurd (h p)) (λ p. refl)

pub both : (a b : Bool) → a && b ≡ true → (a ≡ true) × (b ≡ true)
both true b h = (refl, h)
both false b h = absurd (false_not_true h)

pub both_made : (a b : Bool) → a ≡ true → b ≡ true → a && b ≡ true
both_made a b p q = ap (λ x. x && b) p ∙ q

-- of a row of tests the next fails, and so does the row
pub fails : (b : Bool) (bs : List Bool) → b ≡ false → false ≡ all_of (b ∷ bs)
unfolding all_of
fails b bs p = sym (ap (λ x. x && all_of bs) p)

-- the next passes, and leaves the answer to the rest of the row
pub passes : (r b : Bool) (bs : List Bool) → b ≡ true → r ≡ all_of bs → r ≡ all_of (b ∷ bs)
unfolding all_of
passes r b bs p q = q ∙ sym (ap (λ x. x && all_of bs) p)

-- the last test of a row
pub last : (r b : Bool) → r ≡ b → r ≡ all_of (b ∷ [])
unfolding all_of
last r true p = p
last r false p = p

pub all_of_lem : (bs : List Bool) → all_of bs ≡ true → Each (λ b. b ≡ true) bs
unfolding all_of
all_of_lem [] h = tt
all_of_lem (b ∷ bs) h = ((both b (all_of bs) h).0, all_of_lem bs (both b (all_of bs) h).1)

pub all_of_made : (bs : List Bool) → Each (λ b. b ≡ true) bs → all_of bs ≡ true
unfolding all_of
all_of_made [] h = refl
all_of_made (b ∷ bs) h = both_made b (all_of bs) h.0 (all_of_made bs h.1)
