-- The feed at a position, in its place.
use mathlib.Core.Path.{◌≡◌, refl, ap, ◌∙◌}
use mathlib.Core.Bool.{cond}
use mathlib.Core.List.{List, [], ◌∷◌}
use Prim.Native.Nat.{ℕ, zero, suc, ◌+◌, ◌-◌, ◌≤◌, ◌<◌}
use native.Mathlib.Decide.{dec_le, dec_lt}
use native.Mathlib.Omega.{arith}
use lib.ListN.{length, get_or, set}
use lib.Seq.{set-get_or}
use borrow.Author.Tests.{eq-eqb, ne_eqb}
use Rattle.lists.specs.Lists.{eq}
use Rattle.lists.proofs.Tests.{eq_refl, eq_not}
use Rattle.ticks.specs.Ticks.{ticks}
use Rattle.feeds.specs.declared.Feed.{Feed}
use Rattle.feeds.specs.Feeds.{no_feed, owing}
use Rattle.feeds.specs.Pieces.{owes_at, rested, served}

-- no such position before the first, nor after the last
pub owes_before : (p k : ℕ) (fs : List Feed) → p < k → owes_at p k fs ≡ 0
owes_before p k [] h = refl
owes_before p k (f ∷ fs) h =
    let differ : p ≡ k → ⊥ = λ e. omega arith in
    ap (λ b. cond b f.owes.0 (owes_at p (suc k) fs)) (ne_eqb p k differ) ∙ owes_before p (suc k) fs (omega arith)

pub owes_after : (p k : ℕ) (fs : List Feed) → k + length fs ≤ p → owes_at p k fs ≡ 0
owes_after p k [] h = refl
owes_after p k (f ∷ fs) h =
    let differ : p ≡ k → ⊥ = λ e. omega arith in
    ap (λ b. cond b f.owes.0 (owes_at p (suc k) fs)) (ne_eqb p k differ) ∙ owes_after p (suc k) fs (omega arith)

-- at its place
pub owes_place : (i k : ℕ) (fs : List Feed) → i < length fs → owes_at (k + i) k fs ≡ (get_or fs i no_feed).owes.0
owes_place i k [] h = absurd (omega arith)
owes_place zero k (f ∷ fs) h =
    ap (λ b. cond b f.owes.0 (owes_at (k + 0) (suc k) fs)) (eq-eqb (k + 0) k (omega arith))
owes_place (suc i) k (f ∷ fs) h =
    let differ : k + suc i ≡ k → ⊥ = λ e. omega arith in
    let e : k + suc i ≡ suc k + i = omega arith in
    ap (λ b. cond b f.owes.0 (owes_at (k + suc i) (suc k) fs)) (ne_eqb (k + suc i) k differ)
    ∙ ap (λ p. owes_at p (suc k) fs) e
    ∙ owes_place i (suc k) fs (omega arith)

-- where something is owed there is such a position
pub owes_some : (p k : ℕ) (fs : List Feed) → (owes_at p k fs ≡ 0 → ⊥) → (k ≤ p) × (p < k + length fs)
owes_some p k fs n = (low (dec_le k p), high (dec_lt p (k + length fs)))
  where
    low : Dec (k ≤ p) → k ≤ p
    low (yes h) = h
    low (no h) = absurd (n (owes_before p k fs (omega arith)))

    high : Dec (p < k + length fs) → p < k + length fs
    high (yes h) = h
    high (no h) = absurd (n (owes_after p k fs (omega arith)))

-- a rest at a position that is not among these changes nothing
pub rested_before : (p k : ℕ) (fs : List Feed) → p < k → rested p k fs ≡ fs
rested_before p k [] h = refl
rested_before p k (f ∷ fs) h =
    let differ : p ≡ k → ⊥ = λ e. omega arith in
    λ i. owing (ticks (cond (ne_eqb p k differ i) 0 f.owes.0)) f ∷ rested_before p (suc k) fs (omega arith) i

-- one that is among them changes its own place
pub rested_place : (i k : ℕ) (fs : List Feed) → i < length fs → rested (k + i) k fs ≡ set fs i (owing (ticks 0) (get_or fs i no_feed))
rested_place i k [] h = absurd (omega arith)
rested_place zero k (f ∷ fs) h =
    λ j. owing (ticks (cond (eq-eqb (k + 0) k (omega arith) j) 0 f.owes.0)) f ∷ rested_before (k + 0) (suc k) fs (omega arith) j
rested_place (suc i) k (f ∷ fs) h =
    let differ : k + suc i ≡ k → ⊥ = λ e. omega arith in
    let e : k + suc i ≡ suc k + i = omega arith in
    λ j. owing (ticks (cond (ne_eqb (k + suc i) k differ j) 0 f.owes.0)) f
    ∷ (ap (λ p. rested p (suc k) fs) e ∙ rested_place i (suc k) fs (omega arith)) j

-- a tick for another position leaves the feed as it is
other_served : (n p k : ℕ) → (p ≡ k → ⊥) → n - eq p k ≡ n
other_served n p k differ = let z : eq p k ≡ 0 = eq_not p k differ in omega arith

pub served_before : (p k : ℕ) (fs : List Feed) → p < k → served p k fs ≡ fs
served_before p k [] h = refl
served_before p k (f ∷ fs) h =
    λ i. owing (ticks (other_served f.owes.0 p k (λ e. omega arith) i)) f ∷ served_before p (suc k) fs (omega arith) i

pub served_after : (p k : ℕ) (fs : List Feed) → k + length fs ≤ p → served p k fs ≡ fs
served_after p k [] h = refl
served_after p k (f ∷ fs) h =
    λ i. owing (ticks (other_served f.owes.0 p k (λ e. omega arith) i)) f ∷ served_after p (suc k) fs (omega arith) i

pub served_place : (i k : ℕ) (fs : List Feed) → i < length fs
    → served (k + i) k fs ≡ set fs i (owing (ticks ((get_or fs i no_feed).owes.0 - 1)) (get_or fs i no_feed))
served_place i k [] h = absurd (omega arith)
served_place zero k (f ∷ fs) h =
    let e : k + 0 ≡ k = omega arith in
    let z : f.owes.0 - eq (k + 0) k ≡ f.owes.0 - 1 = ap (λ n. f.owes.0 - eq n k) e ∙ ap (λ n. f.owes.0 - n) (eq_refl k) in
    λ j. owing (ticks (z j)) f ∷ served_before (k + 0) (suc k) fs (omega arith) j
served_place (suc i) k (f ∷ fs) h =
    let e : k + suc i ≡ suc k + i = omega arith in
    λ j. owing (ticks (other_served f.owes.0 (k + suc i) k (λ d. omega arith) j)) f
    ∷ (ap (λ p. served p (suc k) fs) e ∙ served_place i (suc k) fs (omega arith)) j

-- a piece that owes nothing has nothing to get
pub served_idle : (i k : ℕ) (fs : List Feed) → i < length fs → (get_or fs i no_feed).owes.0 ≡ 0 → served (k + i) k fs ≡ fs
served_idle i k fs h z =
    let e : (get_or fs i no_feed).owes.0 - 1 ≡ (get_or fs i no_feed).owes.0 = omega arith in
    served_place i k fs h ∙ ap (λ n. set fs i (owing (ticks n) (get_or fs i no_feed))) e ∙ set-get_or fs i no_feed
