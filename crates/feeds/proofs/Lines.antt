-- The lines that feeds are put to: which answer means what.
use mathlib.Core.Path.{◌≡◌, sym, ap, subst}
use mathlib.Core.Bool.{true, false, not}
use mathlib.Core.List.{List, []}
use Prim.Native.Nat.{ℕ, zero, suc, ◌/◌, ◌%◌, ◌≤◌}
use native.Mathlib.Nat.{le_refl}
use native.Mathlib.Omega.{arith}
use lib.Dec.{leb}
use lib.ListN.{length}
use borrow.Author.Tests.{eqb-true, ltb-false, leb-true, le-leb, not-false}
use Rattle.ticks.specs.declared.Length.{Length}
use Rattle.ticks.specs.Ticks.{most_round}
use Rattle.lists.specs.Lists.{every, Each}
use Rattle.answers.specs.declared.Refusal.TheVariants.{Outside, RoundTooLong, TooMuchLoad}
use Rattle.std.specs.Prelude.{Ok, Err}
use Rattle.answers.specs.Answers.{first_of}
use Rattle.answers.proofs.Answers.{stops, goes_on_lem, no_line, yes_first}
use Rattle.feeds.specs.declared.Feed.{Feed}
use Rattle.feeds.specs.Feeds.{most_feeds, numbers_a_feed, feed_in, FeedIn}
use Rattle.feeds.specs.Round.{periods, round_of, demand, carries}
use Rattle.feeds.specs.Lines.{shape_lines, feed_lines, Passing}
use Rattle.feeds.proofs.Limits.{feeds_in_lem, feeds_in_made}
use Rattle.feeds.proofs.Round.{round_found, round_none}
use Rattle.feeds.proofs.Stretches.{carries_says, carries_made, demand_none}

-- nothing to refuse in how many numbers were lent
pub shape_yes : (n : ℕ) → first_of (shape_lines n) ≡ Ok tt → (n % numbers_a_feed ≡ 0) × (n / numbers_a_feed ≤ most_feeds)
shape_yes n h =
    let a = yes_first _ _ h in
    let b = yes_first _ _ a.1 in
    (eqb-true _ _ (not-false _ a.0), ltb-false _ _ b.0)

module _ (charge : Length) (fs : List Feed) where
  -- line 2 holds
  pub feeds_outside : every feed_in fs ≡ false → first_of (feed_lines charge fs) ≡ Err Outside
  feeds_outside p = stops _ _ (ap not p)

  -- line 9 holds and no line before it
  pub feeds_too_long :
      every feed_in fs ≡ true → leb (round_of (periods fs)) most_round ≡ false → first_of (feed_lines charge fs) ≡ Err RoundTooLong
  feeds_too_long p q = goes_on_lem _ _ _ (ap not p) (stops _ _ (ap not q))

  -- line 10 holds and no line before it
  pub feeds_too_much :
      every feed_in fs ≡ true → leb (round_of (periods fs)) most_round ≡ true →
      carries charge (round_of (periods fs)) fs ≡ false → first_of (feed_lines charge fs) ≡ Err TooMuchLoad
  feeds_too_much p q h = goes_on_lem _ _ _ (ap not p) (goes_on_lem _ _ _ (ap not q) (stops _ _ (ap not h)))

  -- no line holds
  pub feeds_yes :
      every feed_in fs ≡ true → leb (round_of (periods fs)) most_round ≡ true →
      carries charge (round_of (periods fs)) fs ≡ true → first_of (feed_lines charge fs) ≡ Ok tt
  feeds_yes p q h = goes_on_lem _ _ _ (ap not p) (goes_on_lem _ _ _ (ap not q) (goes_on_lem _ _ _ (ap not h) no_line))

  -- in no ticks nothing comes that is due
  carried_from : ((L : ℕ) → 1 ≤ L → L ≤ round_of (periods fs) → demand charge L fs ≤ L) → Each FeedIn fs
      → (L : ℕ) → L ≤ round_of (periods fs) → demand charge L fs ≤ L
  carried_from f w zero h = subst (◌≤ 0) (sym (demand_none charge fs w)) (le_refl 0)
  carried_from f w (suc L) h = f (suc L) (omega arith) h

  -- feeds that have a place each and that no line refuses pass
  pub yes_passing : length fs ≤ most_feeds → first_of (feed_lines charge fs) ≡ Ok tt → Passing charge fs
  yes_passing few h =
      let a = yes_first _ _ h in
      let b = yes_first _ _ a.1 in
      let c = yes_first _ _ b.1 in
      let within = feeds_in_lem fs (not-false _ a.0) in
      let short = leb-true (round_of (periods fs)) most_round (not-false _ b.0) in
      record {
        few = few;
        within = within;
        short = short;
        round = round_found (periods fs) short;
        carried = carried_from (carries_says charge (round_of (periods fs)) fs (not-false _ c.0)) within;
      }

  pub passing_yes : Passing charge fs → first_of (feed_lines charge fs) ≡ Ok tt
  passing_yes h =
      feeds_yes (feeds_in_made fs h.within) (le-leb _ _ h.short)
      (carries_made charge (round_of (periods fs)) fs (λ L p q. h.carried L q))

-- no feeds at all pass
pub passing_none : (charge : Length) → Passing charge []
passing_none charge =
    let short : round_of (periods []) ≤ most_round = subst (◌≤ most_round) (sym round_none) (omega arith) in
    record { few = omega arith; within = tt; short = short; round = round_found [] short; carried = λ L h. omega arith }
