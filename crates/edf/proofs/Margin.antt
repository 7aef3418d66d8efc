-- How far one has to look for the smallest margin, and that a customer can be told of one instant only.
use mathlib.Core.Path.{◌≡◌, sym, subst}
use mathlib.Core.Logic.{inl, inr, ◌↔◌}
use mathlib.Core.Bool.{true, false}
use Prim.Native.Nat.{ℕ, zero, suc, ◌+◌, ◌-◌, ◌*◌, ◌≤◌, ◌<◌}
use native.Mathlib.Nat.{le-mul_of_pos_right}
use native.Mathlib.Decide.{dec_lt}
use native.Mathlib.Omega.{arith}
use lib.Dec.{T}
use lib.IntN.{pos}
use lib.Signed.{lt_z, ◌≤ℤ◌, ◌<ℤ◌, lt_z_yes}
use Rattle.edf.specs.Book.{Book, plans}
use Rattle.edf.specs.Fits.{Fits}
use Rattle.edf.specs.Owed.{owed_by, Room}
use Rattle.edf.specs.Order.{InOrder}
use Rattle.edf.specs.Load.{Light, horizon}
use Rattle.edf.proofs.Loads.{Round, Beyond}
use Rattle.edf.specs.Margin.{margin, Overbooked, NoLarger, Smaller, FirstOverbooked, Tightest, Telling}
use Rattle.edf.proofs.Equality.{fits_iff_room}
use Rattle.edf.proofs.Horizon.{owed_by_round}
use Rattle.edf.proofs.Signed.{difference_le, difference_lt}

-- THE SIGNED MARGIN AND ITS TELLING WITHOUT TAKING AWAY ARE ONE
pub overbooked_below_zero : (b : Book) (D : ℕ) → b.clock < D → Overbooked b D ↔ (margin b D <ℤ pos 0)
unfolding margin
overbooked_below_zero b D h =
    let less = difference_lt (D - b.clock) (owed_by b D) 0 0 in
    (λ s. less.0 (omega arith), λ n. omega (arith, less.1 n))

pub no_larger_is : (b : Book) (D E : ℕ) → b.clock < D → b.clock < E → NoLarger b D E ↔ (margin b D ≤ℤ margin b E)
unfolding margin
no_larger_is b D E h k =
    let less = difference_le (D - b.clock) (owed_by b D) (E - b.clock) (owed_by b E) in
    (λ s. less.0 (omega arith), λ n. omega (arith, less.1 n))

pub smaller_is : (b : Book) (D E : ℕ) → b.clock < D → b.clock < E → Smaller b D E ↔ (margin b D <ℤ margin b E)
unfolding margin
smaller_is b D E h k =
    let less = difference_lt (D - b.clock) (owed_by b D) (E - b.clock) (owed_by b E) in
    (λ s. less.0 (omega arith), λ n. omega (arith, less.1 n))

-- THE HORIZON FOR MARGINS: a margin that is reached by every instant up to a round past the last deadline and release is
-- reached by all
pub margin_within_horizon : (b : Book) (R L x y : ℕ) → InOrder b → Round R (plans b.feeds) → Beyond b L
    → ((E : ℕ) → b.clock < E → E ≤ horizon R L → x + owed_by b E ≤ E + y)
    → (E : ℕ) → b.clock < E → x + owed_by b E ≤ E + y
margin_within_horizon b R L x y o r z near E h = rounds E E (omega (arith, le-mul_of_pos_right E r.positive)) h
  where
    rounds : (k E : ℕ) → E ≤ L + R + k * R → b.clock < E → x + owed_by b E ≤ E + y
    rounds zero E l h = near E h (omega arith)
    rounds (suc k) E l h = go (dec_lt (L + R) E) (λ c. rounds k (E - R) (omega arith) (omega (arith, c, z.clock)))
      where
        back : L + R < E → owed_by b E ≤ owed_by b (E - R) + R
        back c =
            let e : E - R + R ≡ E = omega arith in
            rw e at (owed_by_round b R L (E - R) o r z (omega arith))

        go : Dec (L + R < E) → (L + R < E → x + owed_by b (E - R) ≤ E - R + y) → x + owed_by b E ≤ E + y
        go (yes c) ih = omega (arith, ih c, back c)
        go (no c) ih = near E h (omega arith)

-- an overbooked instant leaves no room
pub overbooked_no_room : (b : Book) (D : ℕ) → b.clock < D → Overbooked b D → Room b → ⊥
unfolding Room
overbooked_no_room b D h s r = omega (arith, r D h)

-- TWO INSTANTS THAT A CUSTOMER CAN BE TOLD OF ARE THE SAME
pub overbooked_once : (b : Book) (D E : ℕ) → FirstOverbooked b D → FirstOverbooked b E → D ≡ E
overbooked_once b D E p q = go (dec_lt D E) (dec_lt E D)
  where
    go : Dec (D < E) → Dec (E < D) → D ≡ E
    go (yes l) m = absurd (omega (arith, q.before D p.after l, p.short))
    go (no l) (yes m) = absurd (omega (arith, p.before E q.after m, q.short))
    go (no l) (no m) = omega arith

pub tightest_once : (b : Book) (D E : ℕ) → Tightest b D → Tightest b E → D ≡ E
tightest_once b D E p q = go (dec_lt D E) (dec_lt E D)
  where
    go : Dec (D < E) → Dec (E < D) → D ≡ E
    go (yes l) m = absurd (omega (arith, q.first D p.after l, p.least E q.after))
    go (no l) (yes m) = absurd (omega (arith, p.first E q.after m, q.least D p.after))
    go (no l) (no m) = omega arith

pub not_both : (b : Book) (D E : ℕ) → FirstOverbooked b D → Tightest b E → ⊥
not_both b D E p q = overbooked_no_room b D p.after p.short q.room

pub told_once : (b : Book) (D E : ℕ) → Telling b D → Telling b E → D ≡ E
told_once b D E (inl p) (inl q) = overbooked_once b D E p q
told_once b D E (inl p) (inr q) = absurd (not_both b D E p q)
told_once b D E (inr p) (inl q) = absurd (not_both b E D q p)
told_once b D E (inr p) (inr q) = tightest_once b D E p q

-- THE SIGN OF THE MARGIN TELLS WHICH OF THE TWO IT IS
pub below_zero_is_overbooked : (b : Book) (D : ℕ) → Telling b D → lt_z (margin b D) (pos 0) ≡ true → FirstOverbooked b D
below_zero_is_overbooked b D (inl p) e = p
below_zero_is_overbooked b D (inr p) e =
    absurd (overbooked_no_room b D p.after ((overbooked_below_zero b D p.after).1 (lt_z_yes (subst T (sym e) tt))) p.room)

pub not_below_zero_is_tightest : (b : Book) (D : ℕ) → Telling b D → lt_z (margin b D) (pos 0) ≡ false → Tightest b D
not_below_zero_is_tightest b D (inl p) e = absurd (subst T e ((overbooked_below_zero b D p.after).0 p.short).lt)
not_below_zero_is_tightest b D (inr p) e = p

-- WHERE THE INSTANT IS OVERBOOKED THE BOOK DOES NOT FIT, WHERE IT IS THE TIGHTEST IT DOES
pub overbooked_does_not_fit : (b : Book) (D : ℕ) → InOrder b → Light (plans b.feeds) → FirstOverbooked b D → Fits b → ⊥
overbooked_does_not_fit b D o l p f = overbooked_no_room b D p.after p.short ((fits_iff_room b o l).0 f)

pub tightest_fits : (b : Book) (D : ℕ) → InOrder b → Light (plans b.feeds) → Tightest b D → Fits b
tightest_fits b D o l p = (fits_iff_room b o l).1 p.room
