-- What a customer is told on X of the bench examples: a test computed over all rows, and one law that turns it into
-- the statement.
use mathlib.Core.Path.{◌≡◌, refl, sym, ap, subst}
use mathlib.Core.Logic.{inl, inr}
use mathlib.Core.Bool.{Bool, true, false, cond, ◌&&◌}
use mathlib.Core.List.{List, [], ◌∷◌}
use Prim.Native.Nat.{ℕ, zero, suc, ◌+◌, ◌-◌, ◌≤◌, ◌<◌}
use native.Mathlib.Nat.{le_refl, dvd_of_mod-eq-zero}
use native.Mathlib.Decide.{ℕ_discrete}
use native.Mathlib.Omega.{arith}
use lib.Dec.{leb, ltb, eqb}
use lib.IntN.{ℤ, pos, negsuc}
use borrow.Author.Tests.{leb-true, eqb-true}
use Rattle.lists.specs.Lists.{eq, every, all_of, Each}
use Rattle.lists.proofs.Tests.{false_not_true, ltb_elim, ltb_says, eq_elim, eq_le, both, all_of_lem}
use Rattle.lists.proofs.Places.{each_of_every}
use Rattle.edf.specs.Book.{Book, owing, plans}
use Rattle.edf.specs.Releases.{since}
use Rattle.edf.specs.Owed.{by_then, owed_by, Room}
use Rattle.edf.specs.Order.{FeedInOrder, InOrder}
use Rattle.edf.specs.Calls.{taking}
use Rattle.edf.specs.Load.{opened}
use Rattle.edf.proofs.Loads.{Round, Beyond}
use Rattle.edf.specs.Margin.{margin, FirstOverbooked, Tightest, Telling}
use Rattle.edf.proofs.Releases.{since_lt}
use Rattle.edf.proofs.Examples.{plain, X, request}
use Rattle.edf.proofs.Margin.{margin_within_horizon}

-- X with a request
abbrev asked : ℕ → ℕ → Book
asked work lead = taking (request 1 work lead) X

-- a request, and what is told of it: the instant, what is owed by then, and the margin
pub record Row : Type 0 where
  pub work : ℕ
  pub lead : ℕ
  pub at : ℕ
  pub owed : ℕ
  pub spare : ℤ

abbrev row : ℕ → ℕ → ℕ → ℕ → ℤ → Row
row work lead at owed spare = record { work = work; lead = lead; at = at; owed = owed; spare = spare }

pub record Holds (r : Row) : Type 0 where
  pub told : Telling (asked r.work r.lead) r.at
  pub owed : owed_by (asked r.work r.lead) r.at ≡ r.owed
  pub spare : margin (asked r.work r.lead) r.at ≡ r.spare

abbrev pub table : List Row
table =
    row 4 6 6 7 (negsuc 0)
    ∷ row 3 6 6 6 (pos 0)
    ∷ row 4 7 7 7 (pos 0)
    ∷ row 5 12 12 12 (pos 0)
    ∷ row 6 12 12 13 (negsuc 0)
    ∷ row 6 13 13 13 (pos 0)
    ∷ row 2 1 1 2 (negsuc 0)
    ∷ row 1 100 1 0 (pos 1)
    ∷ []

-- a round past the last deadline and the last next release
abbrev far_enough : ℕ → ℕ
far_enough lead = 6 + lead + 12

unfoldable same_margin : ℤ → ℤ → Bool
same_margin (pos m) (pos n) = eqb m n
same_margin (pos m) (negsuc n) = false
same_margin (negsuc m) (pos n) = false
same_margin (negsuc m) (negsuc n) = eqb m n

same_margin_lem : (y z : ℤ) → same_margin y z ≡ true → y ≡ z
unfolding same_margin
same_margin_lem (pos m) (pos n) e = ap pos (eqb-true m n e)
same_margin_lem (pos m) (negsuc n) e = absurd (false_not_true e)
same_margin_lem (negsuc m) (pos n) e = absurd (false_not_true e)
same_margin_lem (negsuc m) (negsuc n) e = ap negsuc (eqb-true m n e)

-- the test holds of every instant from 1 to H
unfoldable up_to : (ℕ → Bool) → ℕ → Bool
up_to test zero = true
up_to test (suc H) = test (suc H) && up_to test H

up_to_says : (test : ℕ → Bool) (H : ℕ) → up_to test H ≡ true → (E : ℕ) → 0 < E → E ≤ H → test E ≡ true
unfolding up_to
up_to_says test zero e E h l = absurd (omega arith)
up_to_says test (suc H) e E h l =
    let t = both (test (suc H)) (up_to test H) e in
    go (ℕ_discrete E (suc H)) t.0 (up_to_says test H t.1 E h)
  where
    go : Dec (E ≡ suc H) → test (suc H) ≡ true → (E ≤ H → test E ≡ true) → test E ≡ true
    go (yes q) s ih = subst (λ n. test n ≡ true) (sym q) s
    go (no q) s ih = ih (omega arith)

abbrev in_time : Book → ℕ → Bool
in_time b E = leb (owed_by b E) E

abbrev no_larger : Book → ℕ → ℕ → Bool
no_larger b D E = leb (D + owed_by b E) (E + owed_by b D)

abbrev smaller : Book → ℕ → ℕ → Bool
smaller b D E = ltb (D + owed_by b E) (E + owed_by b D)

-- a feed whose first piece has just come
fresh : (T p : ℕ) → FeedInOrder 0 (owing p (plain p (suc T) p 0))
fresh T p =
    record {
      plan = record { offset = omega arith; lead = omega arith; short = le_refl _ };
      owes = le_refl _;
      early = λ h. absurd (omega arith);
      over = λ h. absurd (omega (arith, since_lt (plain p (suc T) p 0).plan 0 (omega arith)));
    }

module _ (work lead : ℕ) where
  in_order : 1 ≤ work → 1 ≤ lead → InOrder (asked work lead)
  unfolding taking opened since
  in_order some ahead =
      record {
        feeds = (fresh 3 1, (fresh 5 2, tt));
        jobs = (record { owes = some; ahead = ahead }, tt);
        positions = λ n. eq_elim (λ e. e + (eq n 2 + 0) ≤ 1) n 1
            (λ p. eq_elim (λ e. 1 + (e + 0) ≤ 1) n 2 (λ q. absurd (omega arith)) (λ q. omega arith))
            (λ p. omega (arith, eq_le n 2));
        numbers = λ n. omega (arith, eq_le n 1);
      }

  round : Round 12 (plans (asked work lead).feeds)
  unfolding taking opened
  round =
      record {
        positive = omega arith;
        common = (dvd_of_mod-eq-zero 4 refl, (dvd_of_mod-eq-zero 6 refl, tt));
        carried = omega arith;
      }

  beyond : Beyond (asked work lead) (6 + lead)
  unfolding taking opened since
  beyond = record { clock = omega arith; jobs = (omega arith, tt); feeds = (omega arith, (omega arith, tt)) }

  -- looked at up to the instant itself
  refused : (D : ℕ) → 0 < D → D < owed_by (asked work lead) D → up_to (in_time (asked work lead)) (D - 1) ≡ true
      → FirstOverbooked (asked work lead) D
  unfolding taking opened
  refused D h late e =
      record {
        after = h;
        short = omega arith;
        before = λ E k l. omega (arith, leb-true (owed_by (asked work lead) E) E (up_to_says (in_time (asked work lead)) (D - 1) e E k (omega arith)));
      }

  -- looked at up to a round past the last deadline and release
  taken : (D : ℕ) → 0 < D → 1 ≤ work → 1 ≤ lead
      → up_to (in_time (asked work lead)) (far_enough lead) ≡ true
      → up_to (no_larger (asked work lead) D) (far_enough lead) ≡ true
      → up_to (smaller (asked work lead) D) (D - 1) ≡ true
      → Tightest (asked work lead) D
  unfolding taking opened Room
  taken D h some ahead room least first =
      record {
        after = h;
        room = λ E k. omega (arith, all 0 0 (λ F l m. omega (arith, leb-true (owed_by (asked work lead) F) F (up_to_says (in_time (asked work lead)) (far_enough lead) room F l m))) E k);
        least = all D (owed_by (asked work lead) D) (λ E k l. leb-true _ _ (up_to_says (no_larger (asked work lead) D) (far_enough lead) least E k l));
        first = λ E k l. ltb_says _ _ (up_to_says (smaller (asked work lead) D) (D - 1) first E k (omega arith));
      }
    where
      all : (x y : ℕ) → ((E : ℕ) → 0 < E → E ≤ far_enough lead → x + owed_by (asked work lead) E ≤ E + y) → (E : ℕ) → 0 < E → x + owed_by (asked work lead) E ≤ E + y
      all x y near = margin_within_horizon (asked work lead) 12 (6 + lead) x y (in_order some ahead) round beyond near

-- the row's figures are right, and its instant is the one to tell of
unfoldable right : Row → Bool
right r =
    let b = asked r.work r.lead in
    all_of
    (leb 1 r.work
    ∷ leb 1 r.lead
    ∷ ltb 0 r.at
    ∷ eqb (owed_by b r.at) r.owed
    ∷ same_margin (margin b r.at) r.spare
    ∷ cond (ltb r.at (owed_by b r.at))
    (up_to (in_time b) (r.at - 1))
    (all_of (up_to (in_time b) (far_enough r.lead) ∷ up_to (no_larger b r.at) (far_enough r.lead) ∷ up_to (smaller b r.at) (r.at - 1) ∷ []))
    ∷ [])

holds : (r : Row) → right r ≡ true → Holds r
unfolding right
holds r e =
    let b = asked r.work r.lead in
    let t = all_of_lem _ e in
    let some = leb-true _ _ t.0 in
    let ahead = leb-true _ _ t.1.0 in
    let after = ltb_says _ _ t.1.1.0 in
    record {
      told = ltb_elim
          (λ s. cond s (up_to (in_time b) (r.at - 1)) (all_of (up_to (in_time b) (far_enough r.lead) ∷ up_to (no_larger b r.at) (far_enough r.lead) ∷ up_to (smaller b r.at) (r.at - 1) ∷ [])) ≡ true → Telling b r.at)
          r.at
          (owed_by b r.at)
          (λ l f. inl (refused r.work r.lead r.at after l f))
          (λ l f. let u = all_of_lem _ f in inr (taken r.work r.lead r.at after some ahead u.0 u.1.0 u.1.1.0))
          t.1.1.1.1.1.0;
      owed = eqb-true _ _ t.1.1.1.0;
      spare = same_margin_lem _ _ t.1.1.1.1.0;
    }

-- ALL ROWS HOLD
pub table_holds : Each Holds table
unfolding right same_margin up_to margin taking opened owed_by by_then since all_of every
table_holds = each_of_every right Holds holds table refl
