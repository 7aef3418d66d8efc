-- Laws of sums over a stretch of instants.
use mathlib.Core.Path.{◌≡◌, refl, sym}
use mathlib.Core.List.{List}
use Prim.Native.Nat.{ℕ, zero, suc, ◌+◌, ◌-◌, ◌≤◌}
use native.Mathlib.Nat.{le_refl, suc-add, zero-add, add-zero}
use native.Mathlib.Omega.{arith}
use Rattle.lists.specs.Lists.{total}
use Rattle.edf.specs.Instants.{during}
use Rattle.lists.proofs.Lists.{total_add, total_zero, each}

-- a stretch in two parts
pub during_append : (f : ℕ → ℕ) (a m n : ℕ) → during f a (m + n) ≡ during f a m + during f (a + m) n
during_append f a zero n = rw (zero-add n, add-zero a) (omega arith)
during_append f a (suc m) n =
    let e : a + suc m ≡ suc a + m = omega arith in
    rw (suc-add m n, e) (omega (arith, during_append f (suc a) m n))

pub during_mono : (f g : ℕ → ℕ) → ((x : ℕ) → f x ≤ g x) → (a n : ℕ) → during f a n ≤ during g a n
during_mono f g h a zero = le_refl 0
during_mono f g h a (suc n) = omega (arith, h a, during_mono f g h (suc a) n)

-- at most one a tick
pub during_le : (f : ℕ → ℕ) → ((x : ℕ) → f x ≤ 1) → (a n : ℕ) → during f a n ≤ n
during_le f h a zero = le_refl 0
during_le f h a (suc n) = omega (arith, h a, during_le f h (suc a) n)

-- a stretch inside another
during_inner : (f : ℕ → ℕ) (a k n r : ℕ) → during f (a + k) n ≤ during f a (k + (n + r))
during_inner f a k n r = omega (arith, during_append f a k (n + r), during_append f (a + k) n r)

pub during_within : (f : ℕ → ℕ) (a m b n : ℕ) → a ≤ b → b + n ≤ a + m → during f b n ≤ during f a m
during_within f a m b n h k =
    let e : (b - a) + (n + (m - (b - a) - n)) ≡ m = omega arith in
    let s : a + (b - a) ≡ b = omega arith in
    rw (e, s) at (during_inner f a (b - a) n (m - (b - a) - n))

-- one stretch and then another inside a third
pub during_then : (f : ℕ → ℕ) (t x y e : ℕ) → t ≤ x → x ≤ y → y ≤ e → during f t (x - t) + during f x (y - x) ≤ during f t (e - t)
during_then f t x y e h k l =
    let there : t + (x - t) ≡ x = omega arith in
    let whole : during f t ((x - t) + (y - x)) ≡ during f t (x - t) + during f x (y - x)
    = rw there at (during_append f t (x - t) (y - x)) in
    omega (arith, whole, during_within f t (e - t) t ((x - t) + (y - x)) (le_refl t) (omega arith))

pub during_total : {A : Type 0} (h : A → ℕ → ℕ) (xs : List A) (a n : ℕ)
    → during (λ x. total (λ y. h y x) xs) a n ≡ total (λ y. during (h y) a n) xs
during_total h xs a zero = sym (total_zero (λ y. 0) xs (each (λ y. 0 ≡ 0) (λ y. refl) xs))
during_total h xs a (suc n) =
    omega (arith, during_total h xs (suc a) n, total_add (λ y. h y a) (λ y. during (h y) (suc a) n) xs)
