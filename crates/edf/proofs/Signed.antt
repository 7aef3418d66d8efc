-- Differences of two numbers, below zero too, and how they are compared without taking anything away.
use mathlib.Core.Path.{◌≡◌, refl, ap}
use mathlib.Core.Logic.{◌↔◌}
use mathlib.Core.Bool.{cond}
use Prim.Native.Nat.{ℕ, zero, suc, ◌+◌, ◌-◌, ◌≤◌, ◌<◌}
use native.Mathlib.Omega.{arith}
use lib.Dec.{le→leb, lt→ltb, leb→le, ltb→lt}
use lib.IntN.{pos, negsuc, sub_ℕ, ◌-ℤ◌}
use lib.Signed.{mag, ◌≤ℤ◌, ◌<ℤ◌}
use Rattle.lists.proofs.Tests.{ltb_elim}

difference : (m n : ℕ) → sub_ℕ m n ≡ pos m -ℤ pos n
difference m zero =
    ltb_elim (λ t. cond t (negsuc (zero - suc m)) (pos (m - zero)) ≡ pos (m + zero)) m zero
    (λ p. absurd (omega arith))
    (λ p. ap pos (sub_none m))
  where
    sub_none : (m : ℕ) → m - zero ≡ m + zero
    sub_none m = omega arith
difference m (suc n) = refl

-- one difference is no larger than another
pub difference_le : (a b c d : ℕ) → (a + d ≤ c + b) ↔ ((pos a -ℤ pos b) ≤ℤ (pos c -ℤ pos d))
difference_le a b c d =
    rw (← difference a b, ← difference c d)
    (ltb_elim (λ s. (a + d ≤ c + b) ↔ (cond s (negsuc (b - suc a)) (pos (a - b)) ≤ℤ sub_ℕ c d)) a b
    (λ p. ltb_elim (λ t. (a + d ≤ c + b) ↔ (negsuc (b - suc a) ≤ℤ cond t (negsuc (d - suc c)) (pos (c - d)))) c d
    (λ q. (λ h. record { le = le→leb (d - suc c) (b - suc a) (omega arith) }, λ h. omega (arith, leb→le (d - suc c) (b - suc a) h.le)))
    (λ q. (λ h. record { le = tt }, λ h. omega arith)))
    (λ p. ltb_elim (λ t. (a + d ≤ c + b) ↔ (pos (a - b) ≤ℤ cond t (negsuc (d - suc c)) (pos (c - d)))) c d
    (λ q. (λ h. absurd (omega arith), λ h. absurd h.le))
    (λ q. (λ h. record { le = le→leb (a - b) (c - d) (omega arith) }, λ h. omega (arith, leb→le (a - b) (c - d) h.le)))))

-- one difference is smaller than another
pub difference_lt : (a b c d : ℕ) → (a + d < c + b) ↔ ((pos a -ℤ pos b) <ℤ (pos c -ℤ pos d))
difference_lt a b c d =
    rw (← difference a b, ← difference c d)
    (ltb_elim (λ s. (a + d < c + b) ↔ (cond s (negsuc (b - suc a)) (pos (a - b)) <ℤ sub_ℕ c d)) a b
    (λ p. ltb_elim (λ t. (a + d < c + b) ↔ (negsuc (b - suc a) <ℤ cond t (negsuc (d - suc c)) (pos (c - d)))) c d
    (λ q. (λ h. record { lt = lt→ltb (d - suc c) (b - suc a) (omega arith) }, λ h. omega (arith, ltb→lt (d - suc c) (b - suc a) h.lt)))
    (λ q. (λ h. record { lt = tt }, λ h. omega arith)))
    (λ p. ltb_elim (λ t. (a + d < c + b) ↔ (pos (a - b) <ℤ cond t (negsuc (d - suc c)) (pos (c - d)))) c d
    (λ q. (λ h. absurd (omega arith), λ h. absurd h.lt))
    (λ q. (λ h. record { lt = lt→ltb (a - b) (c - d) (omega arith) }, λ h. omega (arith, ltb→lt (a - b) (c - d) h.lt)))))

-- a difference of two numbers below a bound is as far from zero at most
pub difference_below : (a b k : ℕ) → a < k → b < k → mag (pos a -ℤ pos b) < k
difference_below a b k h l =
    rw (← difference a b)
    (ltb_elim (λ t. mag (cond t (negsuc (b - suc a)) (pos (a - b))) < k) a b (λ p. omega arith) (λ p. omega arith))
