-- Laws on numbers in a base.
use mathlib.Core.Path.{◌≡◌, refl, sym, ap, subst, ◌∙◌}
use mathlib.Core.Bool.{Bool, true, false, not, cond, ◌&&◌, ◌||◌, and-false, or-true}
use mathlib.Core.List.{List, [], ◌∷◌, ◌++◌, append_assoc, append-nil}
use Prim.Native.Nat.{ℕ, zero, suc, ◌+◌, ◌-◌, ◌*◌, ◌/◌, ◌%◌, ◌^◌, ◌≤◌, ◌<◌, max}
use native.Mathlib.Nat.{
  le_of_suc-le-suc,
  lt_of_lt_of_le,
  pow-suc,
  pow-zero,
  pow-le-pow_left,
  pow-le-pow_right,
  mul-le-mul,
  mul-le-mul_left,
  mod-lt,
  mod-eq_of_lt,
  div-add-mod',
  div-lt_self,
  div-lt_iff_lt-mul,
  le-div_iff_mul-le,
  mul-add-div_right,
  mul-add-mod_self_right,
  div-eq_of_lt,
}
use native.Mathlib.Numerals.{add-one}
use native.Mathlib.Decide.{dec_lt}
use native.Mathlib.Omega.{arith}
use borrow.Author.Tests.{le-leb, eq-eqb, ne_eqb, lt-ltb, le-ltb, leb-true, ltb-true}
use lib.Dec.{leb, ltb, eqb, lit≤}
use lib.ListN.{length, get_or, length-append, get_or-append}
use Rattle.std.specs.Prelude.{Some, None}
use Rattle.text.specs.Numbers.{nought, Base, is_digit, all_digits, counted, is_shaped, number_in, numeral_in, numeral, digits}

-- both of two tests hold
both : (a b : Bool) → a && b ≡ true → (a ≡ true) × (b ≡ true)
both true b e = (refl, e)
both false b e = cc

-- the two bases
pub decimal : Base 10
decimal = record { two = lit≤ tt; ten = lit≤ tt }

pub binary : Base 2
binary = record { two = lit≤ tt; ten = lit≤ tt }

-- a number is shaped by how many digits it may have
pub shaped_short : (most : ℕ) (s : List ℕ) → is_shaped most s ≡ true → length s ≤ most
unfolding is_shaped
shaped_short most s e =
    let m = leb (length s) most in
    let f = eqb (length s) 1 || not (eqb (get_or s 0 0) nought) in
    leb-true (length s) most (both m f (both (leb 1 (length s)) (m && f) e).1).0

module _ (base : ℕ) where
  pub digit_made : (b : ℕ) → nought ≤ b → b < nought + base → is_digit base b ≡ true
  unfolding is_digit
  digit_made b l h = rw (le-leb nought b l) (lt-ltb b (nought + base) h)

  pub digit_is : (b : ℕ) → is_digit base b ≡ true → (nought ≤ b) × (b < nought + base)
  unfolding is_digit
  digit_is b e =
      let t = both (leb nought b) (ltb b (nought + base)) e in
      (leb-true nought b t.0, ltb-true b (nought + base) t.1)

  module _ (b : ℕ) (s : List ℕ) where
    pub digits_past : is_digit base b ≡ true → all_digits base (b ∷ s) ≡ all_digits base s
    unfolding all_digits
    digits_past h = rw h

    pub digits_not : is_digit base b ≡ false → all_digits base (b ∷ s) ≡ false
    unfolding all_digits
    digits_not h = rw h

  module _ (most : ℕ) (s : List ℕ) where
    pub number_other : all_digits base s ≡ false → None ≡ number_in base most s
    unfolding number_in
    number_other h = rw (h, and-false)

    pub number_made : (n : ℕ) → is_shaped most s ≡ true → all_digits base s ≡ true → counted base 0 s ≡ n → Some n ≡ number_in base most s
    unfolding number_in
    number_made n h a e = rw (h, a, e)

  pub digits_none : all_digits base [] ≡ true
  unfolding all_digits
  digits_none = refl

  pub counted_none : (n : ℕ) → counted base n [] ≡ n
  unfolding counted
  counted_none n = refl

  -- one digit more: so many times as much is still out of reach
  pub counted_small : (n d i : ℕ) → n < base ^ i → d < base → n * base + d < base ^ (i + 1)
  counted_small n d i h l =
      let e : base ^ (i + 1) ≡ base ^ i * base = ap (λ k. base ^ k) (add-one i) ∙ pow-suc base i in
      let m : base * (n + 1) ≤ base * base ^ i = mul-le-mul_left {m = n + 1} {n = base ^ i} base (omega (arith, h)) in
      omega (arith, e, m, l)

-- a byte that is no digit
pub digits_other : (base : ℕ) (s : List ℕ) (j : ℕ) → j < length s → is_digit base (get_or s j 0) ≡ false → all_digits base s ≡ false
digits_other base [] j l h = absurd (omega arith)
digits_other base (b ∷ s) zero l h = digits_not base b s h
digits_other base (b ∷ s) (suc j) l h = go (is_digit base b) refl (digits_other base s j (le_of_suc-le-suc l) h)
  where
    go : (t : Bool) → is_digit base b ≡ t → all_digits base s ≡ false → all_digits base (b ∷ s) ≡ false
    go true e r = digits_past base b s e ∙ r
    go false e r = digits_not base b s e

pub counted_fits : (base n i most : ℕ) → 2 ≤ base → n < base ^ i → i ≤ most → n < base ^ most
counted_fits base n i most two h l = lt_of_lt_of_le h (pow-le-pow_right (omega (arith, two)) l)

-- and fits 64 bits with a digit more
pub counted_room : (base n d i most : ℕ) → Base base → base ^ most < 2 ^ 60 → n < base ^ i → i ≤ most → d < 10 → n * base + d < 2 ^ 64
counted_room base n d i most b room h l low =
    let few : n ≤ 2 ^ 60 = omega (arith, counted_fits base n i most b.two h l) in
    let times : n * base ≤ 2 ^ 60 * 10 = mul-le-mul few b.ten in
    omega arith

-- a 0 in front of others is not shaped
zero_first : (n d : ℕ) → d ≡ nought → eqb (suc (suc n)) 1 || not (eqb d nought) ≡ true → ⊥
zero_first n d z h =
    let e : eqb (suc (suc n)) 1 || not (eqb d nought) ≡ false || not true = λ i. ne_eqb (suc (suc n)) 1 (λ k. omega (arith, k)) i || not (eq-eqb d nought z i) in
    let f : false ≡ true = sym e ∙ h in
    cc

module _ (base : ℕ) (b : Base base) where
  -- the parts of a number: its last digit, and what stands before it
  pub last_low : (n : ℕ) → n % base < base
  last_low n = mod-lt n (omega (arith, b.two))

  parts : (n : ℕ) → n / base * base + n % base ≡ n
  parts n = div-add-mod' n base

  pub front_less : (n : ℕ) → base ≤ n → n / base < n
  front_less n h = div-lt_self (omega (arith, h, b.two)) (omega (arith, b.two))

  front_some : (n : ℕ) → base ≤ n → 1 ≤ n / base
  front_some n h = (le-div_iff_mul-le {k = base} {x = 1} {y = n} (omega (arith, b.two))).1 (omega (arith, h))

  -- what holds of one digit, and of a number where it holds of the part before its last, holds of every number
  module _ (P : ℕ → Type 0) (one : (n : ℕ) → n < base → P n) (more : (n : ℕ) → base ≤ n → P (n / base) → P n) where
    within : (k n : ℕ) → n < k → P n
    within zero n h = absurd (omega arith)
    within (suc k) n h = go (dec_lt n base) (within k (n / base))
      where
        go : Dec (n < base) → (n / base < k → P (n / base)) → P n
        go (yes p) ih = one n p
        go (no p) ih = more n (omega (arith, p)) (ih (omega (arith, front_less n (omega (arith, p)), h)))

    by_digits : (n : ℕ) → P n
    by_digits n = within (suc n) n (omega arith)

  module _ (k n : ℕ) where
    in_one : n < base → numeral_in base (suc k) n ≡ (nought + n) ∷ []
    unfolding numeral_in
    in_one h = rw (lt-ltb n base h, numeral_in)

    in_more : base ≤ n → numeral_in base (suc k) n ≡ numeral_in base k (n / base) ++ ((nought + n % base) ∷ [])
    unfolding numeral_in
    in_more h = rw (le-ltb n base h, numeral_in)

  -- room for n digits is enough
  enough : (j k n : ℕ) → n < j → n < k → numeral_in base j n ≡ numeral_in base k n
  enough zero k n h l = absurd (omega arith)
  enough (suc j) zero n h l = absurd (omega arith)
  enough (suc j) (suc k) n h l = go (dec_lt n base) (enough j k (n / base))
    where
      go : Dec (n < base) → (n / base < j → n / base < k → numeral_in base j (n / base) ≡ numeral_in base k (n / base)) → numeral_in base (suc j) n ≡ numeral_in base (suc k) n
      go (yes p) ih = in_one j n p ∙ sym (in_one k n p)
      go (no p) ih =
          let m : base ≤ n = omega (arith, p) in
          in_more j n m ∙ ap (λ s. s ++ ((nought + n % base) ∷ [])) (ih (omega (arith, front_less n m, h)) (omega (arith, front_less n m, l))) ∙ sym (in_more k n m)

  pub digits_one : (n : ℕ) → n < base → numeral base n ≡ (nought + n) ∷ []
  unfolding numeral
  digits_one n h = in_one n n h

  pub digits_more : (n : ℕ) → base ≤ n → numeral base n ≡ numeral base (n / base) ++ ((nought + n % base) ∷ [])
  unfolding numeral
  digits_more n h =
      in_more n n h
      ∙ ap (λ s. s ++ ((nought + n % base) ∷ [])) (enough n (suc (n / base)) (n / base) (front_less n h) (omega arith))

  -- a digit more at the end
  digits_snoc : (s : List ℕ) (d : ℕ) → all_digits base s ≡ true → is_digit base d ≡ true → all_digits base (s ++ (d ∷ [])) ≡ true
  unfolding all_digits
  digits_snoc [] d h e = rw e
  digits_snoc (a ∷ s) d h e =
      let t = both (is_digit base a) (all_digits base s) h in
      rw t.0 (digits_snoc s d t.1 e)

  counted_snoc : (n : ℕ) (s : List ℕ) (d : ℕ) → counted base n (s ++ (d ∷ [])) ≡ counted base n s * base + (d - nought)
  unfolding counted
  counted_snoc n [] d = refl
  counted_snoc n (a ∷ s) d = counted_snoc (n * base + (a - nought)) s d

  pub digits_all : (n : ℕ) → all_digits base (numeral base n) ≡ true
  digits_all =
      by_digits (λ n. all_digits base (numeral base n) ≡ true)
      (λ n h. rw (digits_one n h) (digits_snoc [] (nought + n) (digits_none base) (digit_made base (nought + n) (omega arith) (omega (arith, h)))))
      (λ n h ih. rw (digits_more n h) (digits_snoc (numeral base (n / base)) (nought + n % base) ih (digit_made base (nought + n % base) (omega arith) (omega (arith, last_low n)))))

  -- the digits of a number count the number
  digits_count : (n : ℕ) → counted base 0 (numeral base n) ≡ n
  digits_count =
      by_digits (λ n. counted base 0 (numeral base n) ≡ n)
      (λ n h. ap (counted base 0) (digits_one n h) ∙ counted_snoc 0 [] (nought + n) ∙ omega (arith, ap (◌* base) (counted_none base 0)))
      (λ n h ih. ap (counted base 0) (digits_more n h) ∙ counted_snoc 0 (numeral base (n / base)) (nought + n % base) ∙ omega (arith, ap (◌* base) ih, parts n))

  pub digits_some : (n : ℕ) → 1 ≤ length (numeral base n)
  digits_some =
      by_digits (λ n. 1 ≤ length (numeral base n))
      (λ n h. rw (digits_one n h) (lit≤ tt))
      (λ n h ih. rw (digits_more n h, length-append) (omega arith))

  pub digits_longer : (n : ℕ) → base ≤ n → length (numeral base n) ≡ length (numeral base (n / base)) + 1
  digits_longer n h = ap length (digits_more n h) ∙ length-append (numeral base (n / base)) ((nought + n % base) ∷ [])

  -- a number below the base to the k has at most k digits
  pub digits_most : (k n : ℕ) → n < base ^ suc k → length (numeral base n) ≤ suc k
  digits_most zero n h = rw (digits_one n (omega (arith, h, pow-suc base 0, ap (◌* base) (pow-zero base)))) (lit≤ tt)
  digits_most (suc k) n h = go (dec_lt n base) (digits_most k (n / base))
    where
      go : Dec (n < base) → (n / base < base ^ suc k → length (numeral base (n / base)) ≤ suc k) → length (numeral base n) ≤ suc (suc k)
      go (yes p) ih = rw (digits_one n p) (omega arith)
      go (no p) ih =
          let l : n / base < base ^ suc k = (div-lt_iff_lt-mul {k = base} {x = n} {y = base ^ suc k} (omega (arith, b.two))).1 (omega (arith, h, pow-suc base (suc k))) in
          omega (arith, digits_longer n (omega (arith, p)), ih l)

  -- and one from the base to the k on has more than k
  digits_least : (k n : ℕ) → base ^ k ≤ n → suc k ≤ length (numeral base n)
  digits_least zero n h = digits_some n
  digits_least (suc k) n h =
      let some : base ^ 0 ≤ base ^ k = pow-le-pow_right (omega (arith, b.two)) (omega arith) in
      let far : base ≤ n = omega (arith, h, pow-suc base k, some, pow-zero base, mul-le-mul_left {m = 1} {n = base ^ k} base (omega (arith, some, pow-zero base))) in
      let front : base ^ k ≤ n / base = (le-div_iff_mul-le {k = base} {x = base ^ k} {y = n} (omega (arith, b.two))).1 (omega (arith, h, pow-suc base k)) in
      omega (arith, digits_longer n far, digits_least k (n / base) front)

  -- so a number has one digit more than its logarithm, and 0 as many as 1
  pub digits_by_logarithm : (n m k : ℕ) → m ≡ max n 1 → base ^ k ≤ m → m < base * base ^ k → k + 1 ≡ length (numeral base n)
  digits_by_logarithm n m k e l h = go (dec_lt n 1)
    where
      some : k + 1 ≡ length (numeral base m)
      some = omega (arith, digits_least k m l, digits_most k m (omega (arith, h, pow-suc base k)))

      go : Dec (n < 1) → k + 1 ≡ length (numeral base n)
      go (yes p) = some ∙ ap length (digits_one m (omega (arith, e, b.two))) ∙ sym (ap length (digits_one n (omega (arith, p, b.two))))
      go (no p) = some ∙ ap (λ n. length (numeral base n)) (omega (arith, e, p))

  -- a number of 64 bits has at most 64
  pub digits_few : (n : ℕ) → n < 2 ^ 64 → length (numeral base n) ≤ 64
  digits_few n h = digits_most 63 n (lt_of_lt_of_le h (pow-le-pow_left {n = 2} {m = base} b.two 64))

  -- no leading zero but 0 itself
  digits_first : (n : ℕ) → 1 ≤ n → get_or (numeral base n) 0 0 ≡ nought → ⊥
  digits_first =
      by_digits (λ n. 1 ≤ n → get_or (numeral base n) 0 0 ≡ nought → ⊥)
      (λ n h l e. let f : nought + n ≡ nought = rw (digits_one n h) at e in omega arith)
      (λ n h ih l e.
      ih (front_some n h)
      (sym (get_or-append (numeral base (n / base)) ((nought + n % base) ∷ []) 0 0 (digits_some (n / base)))
      ∙ ap (λ s. get_or s 0 0) (sym (digits_more n h)) ∙ e))

  -- a first digit that is no 0 makes a number that is not too long well shaped
  shaped_made : (most : ℕ) (s : List ℕ) → 1 ≤ length s → length s ≤ most → (get_or s 0 0 ≡ nought → ⊥) → is_shaped most s ≡ true
  unfolding is_shaped
  shaped_made most s l m f = rw (le-leb 1 (length s) l, le-leb (length s) most m, ne_eqb (get_or s 0 0) nought f, or-true)

  shaped_one : (most d : ℕ) → 1 ≤ most → is_shaped most (d ∷ []) ≡ true
  unfolding is_shaped
  shaped_one most d l = rw (le-leb 1 most l)

  digits_shaped : (k n : ℕ) → n < base ^ suc k → is_shaped (suc k) (numeral base n) ≡ true
  digits_shaped k n h = go (dec_lt n base)
    where
      go : Dec (n < base) → is_shaped (suc k) (numeral base n) ≡ true
      go (yes p) = rw (digits_one n p) (shaped_one (suc k) (nought + n) (omega arith))
      go (no p) = shaped_made (suc k) (numeral base n) (digits_some n) (digits_most k n h) (digits_first n (omega (arith, p, b.two)))

  -- the digits of a number are read as the number
  pub number_digits : (k n : ℕ) → n < base ^ suc k → number_in base (suc k) (numeral base n) ≡ Some n
  number_digits k n h = sym (number_made base (suc k) (numeral base n) n (digits_shaped k n h) (digits_all n) (digits_count n))

  -- AND BACK: digits that follow a number are read behind its own
  more_digits : (n : ℕ) (s : List ℕ) → 1 ≤ n → all_digits base s ≡ true → numeral base (counted base n s) ≡ numeral base n ++ s
  unfolding counted all_digits
  more_digits n [] h a = sym (append-nil (numeral base n))
  more_digits n (d ∷ s) h a =
      let t = both (is_digit base d) (all_digits base s) a in
      let k = digit_is base d t.0 in
      let low : d - nought < base = omega (arith, k.0, k.1) in
      let room : 0 < base = omega (arith, b.two) in
      let m = n * base + (d - nought) in
      let far : base ≤ n * base + (d - nought) = omega (arith, mul-le-mul_left {m = 1} {n = n} base h) in
      let front : (n * base + (d - nought)) / base ≡ n = mul-add-div_right room n (d - nought) ∙ omega (arith, div-eq_of_lt low) in
      let last : (n * base + (d - nought)) % base ≡ d - nought = mul-add-mod_self_right n base (d - nought) ∙ mod-eq_of_lt low in
      let digit : nought + (d - nought) ≡ d = omega (arith, k.0) in
      let one : numeral base (n * base + (d - nought)) ≡ numeral base n ++ (d ∷ [])
      = digits_more (n * base + (d - nought)) far ∙ (λ i. numeral base (front i) ++ ((nought + last i) ∷ [])) ∙ ap (λ e. numeral base n ++ (e ∷ [])) digit in
      more_digits (n * base + (d - nought)) s (omega (arith, far, b.two)) t.1
      ∙ ap (◌++ s) one
      ∙ append_assoc (numeral base n) (d ∷ []) s

  -- a field that is a number is that number, written
  pub numeral_counted : (most : ℕ) (s : List ℕ) → is_shaped most s ≡ true → all_digits base s ≡ true → numeral base (counted base 0 s) ≡ s
  unfolding is_shaped counted all_digits
  numeral_counted most [] h a = cc
  numeral_counted most (d ∷ []) h a =
      let k = digit_is base d (both (is_digit base d) true a).0 in
      let low : 0 * base + (d - nought) < base = omega (arith, k.0, k.1) in
      digits_one (0 * base + (d - nought)) low ∙ ap (◌∷ []) (omega (arith, k.0))
  numeral_counted most (d ∷ e ∷ s) h a =
      let t = both (is_digit base d) (all_digits base (e ∷ s)) a in
      let k = digit_is base d t.0 in
      let first = (both (leb (length (d ∷ e ∷ s)) most) (eqb (length (d ∷ e ∷ s)) 1 || not (eqb d nought)) (both (leb 1 (length (d ∷ e ∷ s))) (leb (length (d ∷ e ∷ s)) most && (eqb (length (d ∷ e ∷ s)) 1 || not (eqb d nought))) h).1).1 in
      let some : d ≡ nought → ⊥ = λ z. zero_first (length s) d z first in
      let low : 0 * base + (d - nought) < base = omega (arith, k.0, k.1) in
      let high : 1 ≤ 0 * base + (d - nought) = omega (arith, k.0, some) in
      more_digits (0 * base + (d - nought)) (e ∷ s) high t.1 ∙ ap (◌++ (e ∷ s)) (digits_one (0 * base + (d - nought)) low ∙ ap (◌∷ []) (omega (arith, k.0)))

  -- so what is read as a number is its numeral
  pub number_written : (most n : ℕ) (s : List ℕ) → number_in base most s ≡ Some n → numeral base n ≡ s
  unfolding number_in
  number_written most n s e = go (is_shaped most s) refl (all_digits base s) refl e
    where
      go : (x : Bool) → is_shaped most s ≡ x → (y : Bool) → all_digits base s ≡ y → cond (x && y) (Some (counted base 0 s)) None ≡ Some n → numeral base n ≡ s
      go true h true a c = let same : counted base 0 s ≡ n = cc in ap (numeral base) (sym same) ∙ numeral_counted most s h a
      go true h false a c = cc
      go false h y a c = cc

  -- and is below the base to the most digits
  counted_below : (i n : ℕ) (s : List ℕ) → n < base ^ i → all_digits base s ≡ true → counted base n s < base ^ (i + length s)
  unfolding counted all_digits
  counted_below i n [] h a = subst (λ k. n < base ^ k) (omega arith) h
  counted_below i n (d ∷ s) h a =
      let t = both (is_digit base d) (all_digits base s) a in
      let k = digit_is base d t.0 in
      let there : i + 1 + length s ≡ i + suc (length s) = omega arith in
      subst (λ m. counted base (n * base + (d - nought)) s < base ^ m) there
      (counted_below (i + 1) (n * base + (d - nought)) s (counted_small base n (d - nought) i h (omega (arith, k.0, k.1))) t.1)

  pub number_bounded : (most n : ℕ) (s : List ℕ) → number_in base most s ≡ Some n → n < base ^ most
  unfolding number_in
  number_bounded most n s e = go (is_shaped most s) refl (all_digits base s) refl e
    where
      go : (x : Bool) → is_shaped most s ≡ x → (y : Bool) → all_digits base s ≡ y → cond (x && y) (Some (counted base 0 s)) None ≡ Some n → n < base ^ most
      go true h true a c =
          let same : counted base 0 s ≡ n = cc in
          let low = counted_below 0 0 s (omega (arith, pow-zero base)) a in
          let there : 0 + length s ≡ length s = omega arith in
          subst (◌< base ^ most) same (counted_fits base (counted base 0 s) (length s) most b.two (subst (λ m. counted base 0 s < base ^ m) there low) (shaped_short most s h))
      go true h false a c = cc
      go false h y a c = cc

-- a number of 64 bits has at most 20 decimal digits
pub digits_wide : (n : ℕ) → n < 2 ^ 64 → length (digits n) ≤ 20
digits_wide n h = digits_most 10 decimal 19 n (omega arith)
