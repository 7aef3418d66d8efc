-- Plans that want no more than it has in any stretch up to their round are light: so it is then in every longer stretch.
use mathlib.Core.Path.{◌≡◌, ◌∙◌, ap}
use mathlib.Core.List.{List}
use Prim.Native.Nat.{ℕ, zero, suc, ◌+◌, ◌-◌, ◌*◌, ◌/◌, ◌%◌, ◌≤◌, ◌<◌, ◌∣◌}
use native.Mathlib.Nat.{mul-le-mul_left, mul-div_cancel', add-mul-div_left, mod-add-div', mod-lt}
use native.Mathlib.Omega.{arith}
use Rattle.lists.specs.Lists.{total, Each}
use Rattle.edf.specs.Book.{Plan}
use Rattle.edf.specs.Load.{stretch, Light}
use Rattle.edf.proofs.Loads.{a_round, Round}
use Rattle.lists.proofs.Lists.{each_both, total_le, total_eq, total_add}
use Rattle.lists.proofs.Numbers.{div_mono}

-- a round more of ticks brings a round more of pieces
stretch_round : (R L : ℕ) (p : Plan) → 1 ≤ p.period → p.lead ≤ p.period → p.period ∣ R → stretch (L + R) p ≡ stretch L p + a_round R p
stretch_round R L p e l d =
    let n : L + R + p.period - p.lead ≡ (L + p.period - p.lead) + p.period * (R / p.period)
    = omega (arith, mul-div_cancel' p.period d) in
    let q : (L + R + p.period - p.lead) / p.period ≡ (L + p.period - p.lead) / p.period + R / p.period
    = ap (◌/ p.period) n ∙ add-mul-div_left (L + p.period - p.lead) (R / p.period) e in
    omega (arith, ap (p.work *◌) q)

-- what the pieces of a round want is wanted in a stretch as long
round_in_stretch : (R : ℕ) (p : Plan) → p.lead ≤ p.period → a_round R p ≤ stretch R p
round_in_stretch R p l = mul-le-mul_left p.work (div_mono p.period R (R + p.period - p.lead) (omega arith))

pub round_carried : (R : ℕ) (ps : List Plan) → Each (λ p. p.lead ≤ p.period) ps → total (stretch R) ps ≤ R → total (a_round R) ps ≤ R
round_carried R ps e h = omega (arith, total_le (λ p. p.lead ≤ p.period) (a_round R) (stretch R) (round_in_stretch R) ps e)

-- LIGHT FROM THE SHORT STRETCHES, for pieces due at any length up to their period
pub short_stretches_are_light : (R : ℕ) (ps : List Plan) → Round R ps
    → Each (λ p. (1 ≤ p.period) × (p.lead ≤ p.period)) ps
    → ((L : ℕ) → L < R → total (stretch L) ps ≤ L)
    → Light ps
unfolding Light
short_stretches_are_light R ps r e short L =
    let n : L % R + L / R * R ≡ L = mod-add-div' L R in
    rw n at (rounds (L / R) (L % R) (mod-lt L r.positive))
  where
    more : (L : ℕ) → total (stretch (L + R)) ps ≡ total (stretch L) ps + total (a_round R) ps
    more L =
        total_eq (λ p. ((1 ≤ p.period) × (p.lead ≤ p.period)) × (p.period ∣ R)) (stretch (L + R)) (λ p. stretch L p + a_round R p)
        (λ p h. stretch_round R L p h.0.0 h.0.1 h.1)
        ps
        (each_both (λ p. (1 ≤ p.period) × (p.lead ≤ p.period)) (λ p. p.period ∣ R) ps e r.common)
        ∙ total_add (stretch L) (a_round R) ps

    rounds : (k L : ℕ) → L < R → total (stretch (L + k * R)) ps ≤ L + k * R
    rounds zero L h = let z : L + 0 * R ≡ L = omega arith in rw z (short L h)
    rounds (suc k) L h =
        let z : L + suc k * R ≡ (L + k * R) + R = omega arith in
        rw z (omega (arith, more (L + k * R), rounds k L h, r.carried))
