-- Feeds in order, in their places and as a list.
use mathlib.Core.Path.{◌≡◌, sym, ap, subst}
use mathlib.Core.Bool.{true}
use mathlib.Core.List.{List}
use Prim.Native.Nat.{◌≤◌}
use native.Mathlib.Omega.{arith}
use lib.ListN.{length, drop, length-take}
use lib.Seq.{length-take-le}
use borrow.Author.Tests.{leb-true, le-leb}
use Rattle.ticks.specs.declared.Instant.{Instant}
use Rattle.ticks.specs.declared.Length.{Length}
use Rattle.lists.specs.Lists.{Each, filled}
use Rattle.lists.proofs.Tests.{all_of_lem, all_of_made}
use Rattle.lists.proofs.Places.{each_of_every, every_of_each, take_filled, filled_of_unused, unused_of_filled}
use Rattle.answers.proofs.Answers.{passes_yes, yes_passes}
use Rattle.feeds.specs.declared.Feed.{Feed}
use Rattle.feeds.specs.declared.Feeds.{Feeds}
use Rattle.feeds.specs.Feeds.{most_feeds, no_feed, unused_feed, in_use, feeds_of, Tidy}
use Rattle.feeds.specs.Lines.{feeds_pass, feed_lines, FeedsIn}
use Rattle.feeds.specs.Pieces.{piece_in, PieceIn}
use Rattle.feeds.proofs.Limits.{unused_feed_lem, unused_feed_made}
use Rattle.feeds.proofs.Lines.{yes_passing, passing_yes}
use Rattle.feeds.proofs.Pieces.{piece_in_lem, piece_in_made}

-- feeds that pass, as facts of their places
pub record FeedsPass (charge : Length) (clock : Instant) (s : Feeds) : Type 0 where
  pub few : s.count ≤ most_feeds
  pub feeds : FeedsIn charge clock (in_use s)
  pub unused : Each (λ f. f ≡ no_feed) (drop s.count s.feeds)

pub feeds_pass_lem : (charge : Length) (clock : Instant) (s : Feeds) → feeds_pass charge clock s ≡ true → FeedsPass charge clock s
unfolding feeds_pass
feeds_pass_lem charge clock s h =
    let t = all_of_lem _ h in
    let few = leb-true s.count most_feeds t.0 in
    let many : length (in_use s) ≤ most_feeds = simp length-take (omega arith) in
    record {
      few = few;
      feeds = record {
        passing = yes_passing charge (in_use s) many (passes_yes (feed_lines charge (in_use s)) t.1.0);
        pieces = each_of_every (piece_in charge clock) (PieceIn charge clock) (piece_in_lem charge clock) (in_use s) t.1.1.1.0;
      };
      unused = each_of_every unused_feed (λ f. f ≡ no_feed) unused_feed_lem _ t.1.1.0;
    }

pub feeds_pass_made : (charge : Length) (clock : Instant) (s : Feeds) → FeedsPass charge clock s → feeds_pass charge clock s ≡ true
unfolding feeds_pass
feeds_pass_made charge clock s h =
    all_of_made _ (
      le-leb _ _ h.few,
      (
        yes_passes (feed_lines charge (in_use s)) (passing_yes charge (in_use s) h.feeds.passing),
        (
          every_of_each unused_feed (λ f. f ≡ no_feed) unused_feed_made _ h.unused,
          (every_of_each (piece_in charge clock) (PieceIn charge clock) (piece_in_made charge clock) (in_use s) h.feeds.pieces, tt),
        ),
      ),
    )

-- feeds whose unused places are all zero are their list, filled up
pub feeds_tidy : (charge : Length) (clock : Instant) (s : Feeds) → length s.feeds ≡ most_feeds → FeedsPass charge clock s → Tidy s
feeds_tidy charge clock s l h =
    let places : s.feeds ≡ filled most_feeds no_feed (in_use s)
    = filled_of_unused most_feeds s.count no_feed s.feeds l h.few h.unused in
    let many : length (in_use s) ≡ s.count = length-take-le s.count s.feeds (omega (arith, h.few)) in
    record { few = h.few; filled = λ i. record { count = sym many i; feeds = places i } }

-- as many in use as are counted
pub tidy_many : (s : Feeds) → Tidy s → length (in_use s) ≡ s.count
tidy_many s t = sym (ap (λ r. r.count) t.filled)

module _ (fs : List Feed) where
  -- a list in its places: those in use hold it
  pub in_use_of : in_use (feeds_of fs) ≡ fs
  in_use_of = take_filled most_feeds no_feed fs

  pub tidy_of : length fs ≤ most_feeds → Tidy (feeds_of fs)
  tidy_of few = record { few = few; filled = ap feeds_of (sym in_use_of) }

  -- a list in order is in order in its places
  pub feeds_pass_of : (charge : Length) (clock : Instant) → FeedsIn charge clock fs → feeds_pass charge clock (feeds_of fs) ≡ true
  feeds_pass_of charge clock h =
      feeds_pass_made charge clock (feeds_of fs)
      (record {
        few = h.passing.few;
        feeds = subst (FeedsIn charge clock) (sym in_use_of) h;
        unused = unused_of_filled most_feeds no_feed fs;
      })
