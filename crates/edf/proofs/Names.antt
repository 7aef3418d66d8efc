-- Laws of sameness: how to go by cases of whom a tick goes to.
use mathlib.Core.Path.{◌≡◌, refl, ap}
use mathlib.Core.Logic.{◌⊎◌, inl, inr}
use Prim.Native.Nat.{ℕ, ◌≤◌}
use native.Mathlib.Omega.{arith}
use Rattle.lists.proofs.Tests.{eq_elim}
use Rattle.edf.specs.Book.{Who, job, feed, idle, same}
use Rattle.edf.specs.Step.{number_of}

-- whoever the two are: they are the same and count 1, or they differ and count 0
pub same_elim : (P : ℕ → Type 0) (v w : Who) → (v ≡ w → P 1) → ((v ≡ w → ⊥) → P 0) → P (same v w)
unfolding same
same_elim P (job m) (job n) y z = eq_elim P m n (λ p. y (ap job p)) (λ p. z (λ e. p (ap number_of e)))
same_elim P (job m) (feed q) y z = z (λ e. let k : ◌≡◌ {A = ℕ} 0 1 = cc in omega arith)
same_elim P (job m) idle y z = z (λ e. let k : ◌≡◌ {A = ℕ} 0 1 = cc in omega arith)
same_elim P (feed p) (job n) y z = z (λ e. let k : ◌≡◌ {A = ℕ} 0 1 = cc in omega arith)
same_elim P (feed m) (feed n) y z = eq_elim P m n (λ p. y (ap feed p)) (λ p. z (λ e. p (ap number_of e)))
same_elim P (feed p) idle y z = z (λ e. let k : ◌≡◌ {A = ℕ} 0 1 = cc in omega arith)
same_elim P idle (job n) y z = z (λ e. let k : ◌≡◌ {A = ℕ} 0 1 = cc in omega arith)
same_elim P idle (feed q) y z = z (λ e. let k : ◌≡◌ {A = ℕ} 0 1 = cc in omega arith)
same_elim P idle idle y z = y refl

pub same_le : (v w : Who) → same v w ≤ 1
same_le v w = same_elim (λ k. k ≤ 1) v w (λ p. omega arith) (λ p. omega arith)

pub same_refl : (w : Who) → same w w ≡ 1
same_refl w = same_elim (λ k. k ≡ 1) w w (λ p. refl) (λ p. absurd (p refl))

pub same_is : (v w : Who) → 1 ≤ same v w → v ≡ w
same_is v w = same_elim (λ k. 1 ≤ k → v ≡ w) v w (λ p h. p) (λ p h. absurd (omega arith))

pub same_not : (v w : Who) → (v ≡ w → ⊥) → same v w ≡ 0
same_not v w h = same_elim (λ k. k ≡ 0) v w (λ p. absurd (h p)) (λ p. refl)

-- the same or not
pub same_or_not : (v w : Who) → (v ≡ w) ⊎ (v ≡ w → ⊥)
same_or_not v w = same_elim (λ k. (v ≡ w) ⊎ (v ≡ w → ⊥)) v w (λ p. inl p) (λ p. inr p)
