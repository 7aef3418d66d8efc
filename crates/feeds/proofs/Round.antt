-- The round is the least number that every period goes into; and the round so far, feed by feed.
use mathlib.Core.Path.{◌≡◌, refl, sym, ap, subst, ◌∙◌}
use mathlib.Core.Bool.{Bool, true, false, cond, false≢true}
use mathlib.Core.List.{List, [], ◌∷◌}
use Prim.Native.Nat.{ℕ, zero, suc, ◌+◌, ◌*◌, ◌/◌, ◌%◌, ◌≤◌, ◌<◌, ◌∣◌, min}
use native.Mathlib.Omega.{arith}
use native.Mathlib.Decide.{dec_lt, ℕ_discrete}
use native.Mathlib.Nat.{one-dvd, dvd_trans, dvd_refl, dvd-mod_iff, mod-lt, le_of_dvd, mod-eq-zero_of_dvd}
use native.Mathlib.Nat.{dvd_of_mod-eq-zero}
use lib.ListN.{length, get_or, drop}
use borrow.Author.Tests.{eq-eqb, eqb-true}
use Rattle.ticks.specs.Ticks.{most_round}
use Rattle.lists.specs.Lists.{every, Each}
use Rattle.lists.proofs.Places.{next, no_more, each_of_every, every_of_each}
use Rattle.plans.specs.Euclid.{GreatestDivisor, LeastMultiple}
use Rattle.plans.proofs.Divides.{divisor_none, divisor_rest, multiple_least}
use Rattle.feeds.specs.declared.Feed.{Feed}
use Rattle.feeds.specs.Feeds.{no_feed}
use Rattle.feeds.specs.Round.{IsRound, periods, goes_into, first_from, round_of}

module _ (p : ℕ → Bool) where
  first_from_lem : (k n : ℕ) → n ≤ first_from p k n
  unfolding first_from
  first_from_lem zero n = omega arith
  first_from_lem (suc k) n = go (p n) (first_from_lem k (suc n))
    where
      go : (b : Bool) → suc n ≤ first_from p k (suc n) → n ≤ cond b n (first_from p k (suc n))
      go true h = omega arith
      go false h = omega arith

  first_among : (k n : ℕ) → first_from p k n ≤ n + k
  unfolding first_from
  first_among zero n = omega arith
  first_among (suc k) n = go (p n) (first_among k (suc n))
    where
      go : (b : Bool) → first_from p k (suc n) ≤ suc n + k → cond b n (first_from p k (suc n)) ≤ n + suc k
      go true h = omega arith
      go false h = omega arith

  -- where it is among the k, it passes
  first_passes : (k n : ℕ) → first_from p k n < n + k → p (first_from p k n) ≡ true
  unfolding first_from
  first_passes zero n h = absurd (omega arith)
  first_passes (suc k) n h = go (p n) refl (first_passes k (suc n)) h
    where
      go :
          (b : Bool) → p n ≡ b → (first_from p k (suc n) < suc n + k → p (first_from p k (suc n)) ≡ true) →
          cond b n (first_from p k (suc n)) < n + suc k → p (cond b n (first_from p k (suc n))) ≡ true
      go true e ih l = e
      go false e ih l = ih (omega arith)

  -- none before it passes
  none_before : (k n m : ℕ) → n ≤ m → m < first_from p k n → p m ≡ false
  unfolding first_from
  none_before zero n m l h = absurd (omega arith)
  none_before (suc k) n m l h = go (p n) refl (none_before k (suc n) m) h
    where
      at :
          Dec (m ≡ n) → p n ≡ false → (suc n ≤ m → m < first_from p k (suc n) → p m ≡ false) →
          m < first_from p k (suc n) → p m ≡ false
      at (yes e) f ih h' = ap p e ∙ f
      at (no e) f ih h' = ih (omega arith) h'

      go :
          (b : Bool) → p n ≡ b → (suc n ≤ m → m < first_from p k (suc n) → p m ≡ false) →
          m < cond b n (first_from p k (suc n)) → p m ≡ false
      go true e ih h' = absurd (omega arith)
      go false e ih h' = at (ℕ_discrete m n) e ih h'

  clash : (m : ℕ) → p m ≡ true → p m ≡ false → ⊥
  clash m t f = false≢true (sym f ∙ t)

  first_is :
      (k n r : ℕ) → n ≤ r → r < n + k → p r ≡ true → ((m : ℕ) → n ≤ m → m < r → p m ≡ false) → first_from p k n ≡ r
  first_is k n r l h t f = go (dec_lt (first_from p k n) r) (dec_lt r (first_from p k n))
    where
      go : Dec (first_from p k n < r) → Dec (r < first_from p k n) → first_from p k n ≡ r
      go (yes a) d = absurd (clash _ (first_passes k n (omega arith)) (f _ (first_from_lem k n) a))
      go (no a) (yes b) = absurd (clash _ t (none_before k n r l b))
      go (no a) (no b) = omega arith

  first_none : (k n : ℕ) → ((m : ℕ) → n ≤ m → p m ≡ true → n + k ≤ m) → first_from p k n ≡ n + k
  first_none k n f = go (dec_lt (first_from p k n) (n + k)) (first_among k n)
    where
      go : Dec (first_from p k n < n + k) → first_from p k n ≤ n + k → first_from p k n ≡ n + k
      go (yes a) l = absurd (omega (arith, f _ (first_from_lem k n) (first_passes k n a)))
      go (no a) l = omega arith

-- every period goes into m
abbrev pub Common : List ℕ → ℕ → Type 0
Common ps m = Each (λ p. p ∣ m) ps

common_test : (ps : List ℕ) (m : ℕ) → Common ps m → every (goes_into m) ps ≡ true
common_test ps m c = every_of_each (goes_into m) (λ p. p ∣ m) (λ p h. eq-eqb _ _ (mod-eq-zero_of_dvd p h)) ps c

test_common : (ps : List ℕ) (m : ℕ) → every (goes_into m) ps ≡ true → Common ps m
test_common ps m t = each_of_every (goes_into m) (λ p. p ∣ m) (λ p h. dvd_of_mod-eq-zero p (eqb-true _ _ h)) ps t

not_common : (ps : List ℕ) (m : ℕ) → (Common ps m → ⊥) → every (goes_into m) ps ≡ false
not_common ps m f = go (every (goes_into m) ps) refl
  where
    go : (b : Bool) → every (goes_into m) ps ≡ b → b ≡ false
    go true e = absurd (f (test_common ps m e))
    go false e = refl

common_rest : (ps : List ℕ) (m R : ℕ) → Common ps R → Common ps m → Common ps (m % R)
common_rest [] m R a b = tt
common_rest (p ∷ ps) m R a b = ((dvd-mod_iff p {m = m} {n = R} a.0).1 b.0, common_rest ps m R a.1 b.1)

-- a round that is short enough is found
pub round_is : (ps : List ℕ) (R : ℕ) → IsRound R ps → R ≤ most_round → round_of ps ≡ R
unfolding round_of
round_is ps R r h =
    first_is (λ n. every (goes_into n) ps) most_round 1 R r.some (omega arith) (common_test ps R r.common)
    (λ m l k. not_common ps m (λ c. omega (arith, le_of_dvd l (r.least m c))))

-- where every common multiple is too long
pub round_long : (ps : List ℕ) → ((m : ℕ) → 1 ≤ m → Common ps m → most_round < m) → round_of ps ≡ most_round + 1
unfolding round_of
round_long ps f =
    first_none (λ n. every (goes_into n) ps) most_round 1 (λ m l t. f m l (test_common ps m t))

-- what is found is the round
pub round_found : (ps : List ℕ) → round_of ps ≤ most_round → IsRound (round_of ps) ps
unfolding round_of
round_found ps h = record {
  some = first_from_lem test most_round 1;
  common = common;
  least = λ m c. go m c (ℕ_discrete (m % R) 0);
}
  where
    test : ℕ → Bool
    test n = every (goes_into n) ps

    R : ℕ
    R = first_from test most_round 1

    common : Common ps R
    common = test_common ps R (first_passes test most_round 1 (omega arith))

    go : (m : ℕ) → Common ps m → Dec (m % R ≡ 0) → R ∣ m
    go m c (yes e) = dvd_of_mod-eq-zero R e
    go m c (no e) =
        absurd (clash test (m % R) (common_test ps (m % R) (common_rest ps m R common c))
        (none_before test most_round 1 (m % R) (omega arith) (mod-lt m (first_from_lem test most_round 1))))

-- the round of the feeds so far, and the periods that are left: together they go into whatever all the periods go into
pub record SoFar (round : ℕ) (left ps : List ℕ) : Type 0 where
  pub some : 1 ≤ round
  pub whole : (m : ℕ) → round ∣ m → Common left m → Common ps m
  pub parts : (m : ℕ) → Common ps m → (round ∣ m) × Common left m

pub so_far_none : (ps : List ℕ) → SoFar 1 ps ps
so_far_none ps = record { some = omega arith; whole = λ m a c. c; parts = λ m c. (one-dvd m, c) }

pub so_far_more :
    (round p l : ℕ) (left ps : List ℕ) → SoFar round (p ∷ left) ps → LeastMultiple round p l → SoFar l left ps
so_far_more round p l left ps s t = record {
  some = t.some;
  whole = λ m a c. s.whole m (dvd_trans round t.first a) (dvd_trans p t.second a, c);
  parts = λ m c. (t.least m (s.parts m c).0 (s.parts m c).1.0, (s.parts m c).1.1);
}

pub so_far_done : (R : ℕ) (ps : List ℕ) → SoFar R [] ps → IsRound R ps
so_far_done R ps s = record {
  some = s.some;
  common = s.whole R (dvd_refl R) tt;
  least = λ m c. (s.parts m c).0;
}

-- a round that is too long so far is too long
pub so_far_long : (round : ℕ) (left ps : List ℕ) → SoFar round left ps → most_round < round → round_of ps ≡ most_round + 1
so_far_long round left ps s h = round_long ps (λ m l c. omega (arith, le_of_dvd l (s.parts m c).0))

-- the same of feeds that are gone through from the first: the next one's period is taken in
pub so_far_next :
    (round l i : ℕ) (fs : List Feed) → i < length fs → SoFar round (periods (drop i fs)) (periods fs)
    → LeastMultiple round (get_or fs i no_feed).plan.period.0 l → SoFar l (periods (drop (i + 1) fs)) (periods fs)
so_far_next round l i fs h s t =
    so_far_more round (get_or fs i no_feed).plan.period.0 l (periods (drop (i + 1) fs)) (periods fs)
    (subst (λ r. SoFar round r (periods fs)) (ap periods (next fs i no_feed h)) s) t

-- all are taken in
pub so_far_all :
    (round i : ℕ) (fs : List Feed) → length fs ≤ i → SoFar round (periods (drop i fs)) (periods fs) → round ≤ most_round → round_of (periods fs) ≡ round
so_far_all round i fs h s l =
    round_is (periods fs) round (so_far_done round (periods fs) (subst (λ r. SoFar round r (periods fs)) (ap periods (no_more fs i h)) s)) l

-- with no feeds the round is 1
pub round_none : round_of [] ≡ 1
round_none = round_is [] 1 (so_far_done 1 [] (so_far_none [])) (omega arith)

divisor_exists : (k a b : ℕ) → b < k → (g : ℕ) × GreatestDivisor a b g
divisor_exists zero a b h = absurd (omega arith)
divisor_exists (suc k) a zero h = (a, divisor_none a)
divisor_exists (suc k) a (suc b) h =
    let less : a % suc b < suc b = mod-lt a {m = suc b} (omega arith) in
    let r = divisor_exists k (suc b) (a % suc b) (omega arith) in
    (r.0, divisor_rest a (suc b) r.0 r.1)

round_goes_on : (round : ℕ) (left ps : List ℕ) → SoFar round left ps → Each (λ p. 1 ≤ p) left → (R : ℕ) × IsRound R ps
round_goes_on round [] ps s e = (round, so_far_done round ps s)
round_goes_on round (p ∷ left) ps s e =
    let g = divisor_exists (suc p) round p (omega arith) in
    let l = multiple_least round p g.0 s.some e.0 g.1 in
    round_goes_on (round / g.0 * p) left ps (so_far_more round p (round / g.0 * p) left ps s l) e.1

-- periods of at least a tick have a round, however long
pub round_exists : (ps : List ℕ) → Each (λ p. 1 ≤ p) ps → (R : ℕ) × IsRound R ps
round_exists ps e = round_goes_on 1 ps ps (so_far_none ps) e

-- what is looked for is the round itself, cut off one tick above the longest
pub round_cut_off : (ps : List ℕ) (R : ℕ) → IsRound R ps → round_of ps ≡ min R (most_round + 1)
round_cut_off ps R r = go (dec_lt most_round R)
  where
    go : Dec (most_round < R) → round_of ps ≡ min R (most_round + 1)
    go (yes h) =
        let cut : round_of ps ≡ most_round + 1 = round_long ps (λ m l c. omega (arith, le_of_dvd l (r.least m c))) in
        omega arith
    go (no h) =
        let it : round_of ps ≡ R = round_is ps R r (omega arith) in
        omega arith
