-- Euclid's rule and the common multiple, as laws of numbers.
use mathlib.Core.Path.{◌≡◌, sym, ap, subst, subst⁻¹, ◌∙◌}
use Prim.Native.Nat.{ℕ, ◌-◌, ◌*◌, ◌/◌, ◌%◌, ◌≤◌, ◌∣◌}
use native.Mathlib.Omega.{arith}
use native.Mathlib.Nat.{mul_comm, mul_assoc, mul-sub, mul-zero, mul-pos, mod_def, dvd_refl, dvd-zero, dvd-sub}
use native.Mathlib.Nat.{dvd-mod_iff, dvd-mul_left, dvd-mul_right, dvd-mul_right_of_dvd, mul-dvd-mul_left}
use native.Mathlib.Nat.{mul-dvd-mul_right, mul-div_cancel', dvd_of_mul-dvd-mul_left, pos_of_dvd_of_pos, le_of_dvd}
use native.Mathlib.Nat.{mul-one, pos_of_ne-zero}
use Rattle.plans.specs.Euclid.{GreatestDivisor, LeastMultiple}

-- a number and 0
pub divisor_none : (a : ℕ) → GreatestDivisor a 0 a
divisor_none a = record { first = dvd_refl a; second = dvd-zero a; greatest = λ m d p q. p }

-- the remainder, taken m times
rest_times : (a b m : ℕ) → a % b * m ≡ a * m - b * m * (a / b)
rest_times a b m =
    ap (λ x. x * m) (mod_def a b)
    ∙ mul_comm (a - b * (a / b)) m
    ∙ mul-sub m a (b * (a / b))
    ∙ ap (λ x. x - m * (b * (a / b))) (mul_comm m a)
    ∙ ap (λ x. a * m - x) (sym (mul_assoc m b (a / b)) ∙ ap (λ x. x * (a / b)) (mul_comm m b))

-- that of the smaller and the remainder
pub divisor_rest : (a b g : ℕ) → GreatestDivisor b (a % b) g → GreatestDivisor a b g
divisor_rest a b g r = record {
  first = (dvd-mod_iff g {m = a} {n = b} r.first).0 r.second;
  second = r.first;
  greatest = λ m d p q. r.greatest m d q
      (subst⁻¹ (λ x. d ∣ x) (rest_times a b m)
      (dvd-sub d p (dvd-mul_right_of_dvd d q (a / b))));
}

-- a divisor of some number is some
pub divisor_some : (a b g : ℕ) → GreatestDivisor a b g → 1 ≤ a → 1 ≤ g
divisor_some a b g r h = pos_of_dvd_of_pos r.first h

-- what is left of a number after its greatest divisor with another, taken that other's times
pub multiple_least : (a b g : ℕ) → 1 ≤ a → 1 ≤ b → GreatestDivisor a b g → LeastMultiple a b (a / g * b)
multiple_least a b g ha hb r = record {
  some = mul-pos {m = q} {n = b} some_q hb;
  first = subst (λ x. a ∣ x) (sym whole) (dvd-mul_right a (b / g));
  second = dvd-mul_left b q;
  least = λ m p s. dvd_of_mul-dvd-mul_left {k = g} (q * b) {n = m} some_g
      (subst (λ x. x ∣ g * m) times
      (r.greatest m (a * b) (mul-dvd-mul_left b {c = m} a s)
      (subst (λ x. a * b ∣ x) (mul_comm m b) (mul-dvd-mul_right a {b = m} p b))));
}
  where
    q : ℕ
    q = a / g

    a_is : g * q ≡ a
    a_is = mul-div_cancel' g r.first

    some_g : 1 ≤ g
    some_g = divisor_some a b g r ha

    some_q : 1 ≤ q
    some_q = pos_of_ne-zero (λ e. omega (arith, sym a_is ∙ ap (λ x. g * x) e ∙ mul-zero g))

    whole : q * b ≡ a * (b / g)
    whole =
        ap (λ x. q * x) (sym (mul-div_cancel' g r.second))
        ∙ sym (mul_assoc q g (b / g))
        ∙ ap (λ x. x * (b / g)) (mul_comm q g ∙ a_is)

    times : a * b ≡ g * (q * b)
    times = ap (λ x. x * b) (sym a_is) ∙ mul_assoc g q b

-- the greatest common divisor, in the plain words: whatever divides both divides it, and is no greater
pub divisor_divided : (a b g d : ℕ) → GreatestDivisor a b g → d ∣ a → d ∣ b → d ∣ g
divisor_divided a b g d r p q =
    subst (λ x. d ∣ x) (mul-one g)
    (r.greatest 1 d (subst⁻¹ (λ x. d ∣ x) (mul-one a) p) (subst⁻¹ (λ x. d ∣ x) (mul-one b) q))

pub divisor_greatest : (a b g d : ℕ) → 1 ≤ a → GreatestDivisor a b g → d ∣ a → d ∣ b → d ≤ g
divisor_greatest a b g d h r p q = le_of_dvd (pos_of_dvd_of_pos r.first h) (divisor_divided a b g d r p q)

-- the least common multiple: whatever both go into is no less
pub multiple_no_less : (a b l m : ℕ) → LeastMultiple a b l → 1 ≤ m → a ∣ m → b ∣ m → l ≤ m
multiple_no_less a b l m r h p q = le_of_dvd h (r.least m p q)
