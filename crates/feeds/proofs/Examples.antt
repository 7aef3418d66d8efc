-- The opening's rows of the bench examples, and a neighbour of each that opens.
use mathlib.Core.Path.{◌≡◌, refl, sym, ap, subst, ◌∙◌}
use mathlib.Core.Bool.{true}
use mathlib.Core.List.{List, [], ◌∷◌}
use Prim.Native.Nat.{ℕ, ◌+◌, ◌*◌, ◌/◌, ◌%◌, ◌≤◌, ◌<◌}
use native.Mathlib.Nat.{one-dvd, dvd_refl}
use lib.Dec.{leb, lit<, lit≤}
use borrow.Author.Tests.{le-leb, lt-leb}
use Rattle.ticks.specs.declared.Length.{Length}
use Rattle.ticks.specs.Ticks.{most_round, ticks}
use Rattle.lists.specs.Lists.{every, all_of}
use Rattle.plans.specs.Plans.{plan_in, to_the_next}
use Rattle.plans.specs.Euclid.{GreatestDivisor}
use Rattle.plans.proofs.Divides.{divisor_none, divisor_rest, multiple_least}
use Rattle.answers.specs.declared.Refusal.TheVariants.{RoundTooLong, TooMuchLoad, NotWholeFeeds}
use Rattle.std.specs.Prelude.{Ok, Err}
use Rattle.answers.specs.Answers.{first_of}
use Rattle.feeds.specs.declared.Feed.{Feed}
use Rattle.feeds.specs.Feeds.{feed_in}
use Rattle.feeds.specs.Round.{IsRound, round_of, periods, demand, carries}
use Rattle.feeds.specs.Lines.{shape_lines, feed_lines, feeds_in}
use Rattle.feeds.proofs.Round.{so_far_none, so_far_more, so_far_done, so_far_long, round_is, round_found, SoFar}
use Rattle.feeds.proofs.Stretches.{carries_made, carries_fails, round_decides}
use Rattle.feeds.proofs.Lines.{feeds_too_long, feeds_too_much, feeds_yes}

module _ (a b g : ℕ) (ha : 1 ≤ a) (hb : 1 ≤ b) (h : GreatestDivisor a b g) where
  two_periods : SoFar (a / g * b) [] (a ∷ b ∷ [])
  two_periods =
      so_far_more a b _ [] _
      (so_far_more 1 a a (b ∷ []) _ (so_far_none _) (record { some = ha; first = one-dvd a; second = dvd_refl a; least = λ m p q. q }))
      (multiple_least a b g ha hb h)

  -- the round of two periods whose greatest common divisor is known
  round_of_two : a / g * b ≤ most_round → round_of (a ∷ b ∷ []) ≡ a / g * b
  round_of_two l = round_is _ _ (so_far_done _ _ two_periods) l

  long_of_two : most_round < a / g * b → round_of (a ∷ b ∷ []) ≡ most_round + 1
  long_of_two l = so_far_long _ _ _ two_periods l

module _ (charge : Length) (fs : List Feed) (R : ℕ) (within : every feed_in fs ≡ true) (round : round_of (periods fs) ≡ R) where
  too_long : most_round < R → first_of (feed_lines charge fs) ≡ Err RoundTooLong
  too_long h = feeds_too_long charge fs within (ap (λ r. leb r most_round) round ∙ lt-leb R most_round h)

  -- a stretch of L ticks wants more than L
  too_much : R ≤ most_round → (L : ℕ) → 1 ≤ L → L ≤ R → L < demand charge L fs → first_of (feed_lines charge fs) ≡ Err TooMuchLoad
  too_much h L p q l =
      feeds_too_much charge fs within (ap (λ r. leb r most_round) round ∙ le-leb R most_round h)
      (ap (λ r. carries charge r fs) round ∙ carries_fails charge R fs L p q l)

  -- every piece is due when the next one comes, and the round can do what it wants
  passed : R ≤ most_round → every (λ f. to_the_next f.plan) fs ≡ true → demand charge R fs ≤ R → first_of (feed_lines charge fs) ≡ Ok tt
  passed h e l =
      let is : IsRound R (periods fs) = subst (λ r. IsRound r (periods fs)) round (round_found (periods fs) (subst (◌≤ most_round) (sym round) h)) in
      feeds_yes charge fs within (ap (λ r. leb r most_round) round ∙ le-leb R most_round h)
      (ap (λ r. carries charge r fs) round ∙ carries_made charge R fs (λ L p q. round_decides charge R fs is e l L))

-- 2 and an odd number
odd : (a : ℕ) → a % 2 ≡ 1 → GreatestDivisor a 2 1
odd a e = divisor_rest a 2 1 (subst (λ r. GreatestDivisor 2 r 1) (sym e) (divisor_rest 2 1 1 (divisor_none 1)))

-- three numbers are no whole feeds; four and eight are
pub three_numbers : first_of (shape_lines 3) ≡ Err NotWholeFeeds
unfolding first_of
three_numbers = refl

pub four_numbers : first_of (shape_lines 4) ≡ Ok tt
unfolding first_of
four_numbers = refl

pub eight_numbers : first_of (shape_lines 8) ≡ Ok tt
unfolding first_of
eight_numbers = refl

-- periods 40,319 and 2: the round is too long
abbrev long_list : List ℕ
long_list = 40319 ∷ 1 ∷ 0 ∷ 40319 ∷ 2 ∷ 1 ∷ 0 ∷ 2 ∷ []

pub long_round : first_of (feed_lines (ticks 0) (feeds_in long_list)) ≡ Err RoundTooLong
unfolding feeds_in every plan_in all_of
long_round =
    too_long (ticks 0) (feeds_in long_list) (most_round + 1) refl (long_of_two 40319 2 1 (lit≤ tt) (lit≤ tt) (odd 40319 refl) (lit< tt)) (lit< tt)

-- periods 20,159 and 2: a round that is not
abbrev short_list : List ℕ
short_list = 20159 ∷ 1 ∷ 0 ∷ 20159 ∷ 2 ∷ 1 ∷ 0 ∷ 2 ∷ []

pub short_round : first_of (feed_lines (ticks 0) (feeds_in short_list)) ≡ Ok tt
unfolding feeds_in every plan_in all_of
short_round =
    passed (ticks 0) (feeds_in short_list) 40318 refl (round_of_two 20159 2 1 (lit≤ tt) (lit≤ tt) (odd 20159 refl) (lit≤ tt)) (lit≤ tt) refl (lit≤ tt)

two_and_three : round_of (2 ∷ 3 ∷ []) ≡ 6
two_and_three = round_of_two 2 3 1 (lit≤ tt) (lit≤ tt) (divisor_rest 2 3 1 (odd 3 refl)) (lit≤ tt)

-- 1 of 2 and 2 of 3 ticks are more than there are
pub much : first_of (feed_lines (ticks 0) (feeds_in (2 ∷ 1 ∷ 0 ∷ 2 ∷ 3 ∷ 2 ∷ 0 ∷ 3 ∷ []))) ≡ Err TooMuchLoad
unfolding feeds_in every plan_in all_of
much = too_much (ticks 0) (feeds_in (2 ∷ 1 ∷ 0 ∷ 2 ∷ 3 ∷ 2 ∷ 0 ∷ 3 ∷ [])) 6 refl two_and_three (lit≤ tt) 6 (lit≤ tt) (lit≤ tt) (lit< tt)

-- 1 of 2 and 1 of 3 are not
pub not_much : first_of (feed_lines (ticks 0) (feeds_in (2 ∷ 1 ∷ 0 ∷ 2 ∷ 3 ∷ 1 ∷ 0 ∷ 3 ∷ []))) ≡ Ok tt
unfolding feeds_in every plan_in all_of
not_much = passed (ticks 0) (feeds_in (2 ∷ 1 ∷ 0 ∷ 2 ∷ 3 ∷ 1 ∷ 0 ∷ 3 ∷ [])) 6 refl two_and_three (lit≤ tt) refl (lit≤ tt)

-- they are where both are due in the first tick
pub soon : first_of (feed_lines (ticks 0) (feeds_in (2 ∷ 1 ∷ 0 ∷ 1 ∷ 3 ∷ 1 ∷ 0 ∷ 1 ∷ []))) ≡ Err TooMuchLoad
unfolding feeds_in every plan_in all_of
soon = too_much (ticks 0) (feeds_in (2 ∷ 1 ∷ 0 ∷ 1 ∷ 3 ∷ 1 ∷ 0 ∷ 1 ∷ [])) 6 refl two_and_three (lit≤ tt) 1 (lit≤ tt) (lit≤ tt) (lit< tt)
