-- When pieces come: how the time since the last release goes on from tick to tick.
use mathlib.Core.Path.{◌≡◌, ◌∙◌, ap}
use mathlib.Core.Logic.{◌⊎◌, inl, inr, ◌↔◌}
use Prim.Native.Nat.{ℕ, zero, suc, ◌+◌, ◌-◌, ◌*◌, ◌/◌, ◌%◌, ◌<◌}
use native.Mathlib.Nat.{mod-lt, mod-eq_of_lt, mod_self, suc-mod, div-add-mod, mul-mod_right, add-mul-mod_self_left}
use native.Mathlib.Decide.{dec_lt}
use native.Mathlib.Omega.{arith}
use Rattle.edf.specs.Book.{Plan}
use Rattle.edf.specs.Releases.{since, later_from}

-- a tick after t one tick more has gone since the release, or the period is over and a piece is released
abbrev pub Onward : Plan → ℕ → Type 0
Onward p t =
    ((since p t + 1 < p.period) × (since p (suc t) ≡ since p t + 1)) ⊎ ((since p t + 1 ≡ p.period) × (since p (suc t) ≡ 0))

module _ (p : Plan) (t : ℕ) (h : p.offset < p.period) where
  abbrev T : ℕ
  T = p.period

  abbrev a : ℕ
  a = p.offset

  pub since_lt : since p t < p.period
  unfolding since
  since_lt = mod-lt (t + T - a) (omega arith)

  -- before the first release the time runs as if there had been one a period earlier
  pub since_early : t < p.offset → since p t ≡ t + p.period - p.offset
  unfolding since
  since_early k = mod-eq_of_lt (omega arith)

  pub since_suc : Onward p t
  unfolding since
  since_suc = go (dec_lt (suc s) T)
    where
      s : ℕ
      s = (t + T - a) % T

      moved : (suc t + T - a) % T ≡ suc s % T
      moved =
          let e : suc t + T - a ≡ suc (t + T - a) = omega arith in
          ap (◌% T) e ∙ suc-mod (t + T - a) T

      go : Dec (suc s < T) → ((s + 1 < T) × ((suc t + T - a) % T ≡ s + 1)) ⊎ ((s + 1 ≡ T) × ((suc t + T - a) % T ≡ 0))
      go (yes p) = inl (omega arith, omega (arith, moved, mod-eq_of_lt p))
      go (no p) =
          let e : suc s ≡ T = omega (arith, mod-lt (t + T - a) {m = T} (omega arith)) in
          inr (omega arith, moved ∙ ap (◌% T) e ∙ mod_self T)

  -- a release is an instant that leaves the remainder `offset` when divided by `period`
  pub release_is_remainder : (since p t ≡ 0) ↔ (t % p.period ≡ p.offset)
  unfolding since
  release_is_remainder = (λ z. forth z ((t + T - a) / T) (div-add-mod (t + T - a) T), back)
    where
      forth : (t + T - a) % T ≡ 0 → (m : ℕ) → T * m + (t + T - a) % T ≡ t + T - a → t % T ≡ a
      forth z zero e = absurd (omega arith)
      forth z (suc m) e =
          let p : t ≡ a + T * m = omega arith in
          ap (◌% T) p ∙ add-mul-mod_self_left a T m ∙ mod-eq_of_lt h

      back : t % T ≡ a → (t + T - a) % T ≡ 0
      back r =
          let p : t + T - a ≡ T * (t / T + 1) = omega (arith, div-add-mod t T) in
          ap (◌% T) p ∙ mul-mod_right T (t / T + 1)

  -- k releases after the next one is a release
  pub since_later : (k : ℕ) → since p (later_from p t k) ≡ 0
  unfolding since
  since_later k =
      let n : ℕ = t + T - a in
      let e : t + (T - n % T) + k * T + T - a ≡ T * (n / T + 1 + k)
      = omega (arith, div-add-mod n T, mod-lt n {m = T} (omega arith)) in
      ap (◌% T) e ∙ mul-mod_right T (n / T + 1 + k)
