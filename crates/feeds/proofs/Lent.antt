-- How a lent list of numbers is read feed by feed.
use mathlib.Core.Path.{◌≡◌, refl}
use mathlib.Core.List.{List, [], ◌∷◌}
use Prim.Native.Nat.{ℕ, zero, suc, ◌/◌, ◌≤◌, ◌<◌}
use native.Mathlib.Omega.{arith}
use lib.ListN.{length, get_or}
use Rattle.ticks.specs.declared.Length.{Length}
use Rattle.std.specs.Simd.{first_chunks}
use Rattle.lists.specs.Lists.{Each}
use Rattle.std.specs.Prelude.{Ok}
use Rattle.answers.specs.Answers.{first_of}
use Rattle.feeds.specs.declared.Feed.{Feed}
use Rattle.feeds.specs.Feeds.{most_feeds, numbers_a_feed, no_feed}
use Rattle.feeds.specs.Lines.{shape_lines, feed_lines, Passing, feed, feeds_in}
use Rattle.feeds.proofs.Lines.{shape_yes, yes_passing}

-- the feed of a list's first four numbers
abbrev pub feed_of_four : List ℕ → Feed
feed_of_four ys = feed (get_or ys 0 0) (get_or ys 1 0) (get_or ys 2 0) (get_or ys 3 0)

-- a feed for every four numbers
pub feeds_in_length : (xs : List ℕ) → length (feeds_in xs) ≡ length xs / numbers_a_feed
unfolding feeds_in
feeds_in_length [] = refl
feeds_in_length (a ∷ []) = refl
feeds_in_length (a ∷ b ∷ []) = refl
feeds_in_length (a ∷ b ∷ c ∷ []) = refl
feeds_in_length (a ∷ b ∷ c ∷ d ∷ xs) = let ih = feeds_in_length xs in omega arith

-- each feed is that of the four numbers that stand together
pub feed_in_at : (xs : List ℕ) (k i : ℕ) → k ≡ length xs / numbers_a_feed → i < k
    → get_or (feeds_in xs) i no_feed ≡ feed_of_four (get_or (first_chunks numbers_a_feed k xs) i [])
unfolding feeds_in
feed_in_at xs zero i e h = absurd (omega arith)
feed_in_at [] (suc k) i e h = absurd (omega arith)
feed_in_at (a ∷ []) (suc k) i e h = absurd (omega arith)
feed_in_at (a ∷ b ∷ []) (suc k) i e h = absurd (omega arith)
feed_in_at (a ∷ b ∷ c ∷ []) (suc k) i e h = absurd (omega arith)
feed_in_at (a ∷ b ∷ c ∷ d ∷ xs) (suc k) zero e h = refl
feed_in_at (a ∷ b ∷ c ∷ d ∷ xs) (suc k) (suc i) e h = feed_in_at xs k i (omega arith) (omega arith)

-- no piece has come yet
pub nothing_yet : (xs : List ℕ) → Each (λ f. f.owes.0 ≡ 0) (feeds_in xs)
unfolding feeds_in
nothing_yet [] = tt
nothing_yet (a ∷ []) = tt
nothing_yet (a ∷ b ∷ []) = tt
nothing_yet (a ∷ b ∷ c ∷ []) = tt
nothing_yet (a ∷ b ∷ c ∷ d ∷ xs) = (refl, nothing_yet xs)

-- a list that lines 12 and 8 let pass has no more feeds than there are places
pub few_read : (xs : List ℕ) → first_of (shape_lines (length xs)) ≡ Ok tt → length (feeds_in xs) ≤ most_feeds
few_read xs h =
    let many : length (feeds_in xs) ≡ length xs / numbers_a_feed = feeds_in_length xs in
    omega (arith, shape_yes (length xs) h)

-- feeds that were read and that no line refuses pass
pub read_passing : (xs : List ℕ) (charge : Length) → first_of (shape_lines (length xs)) ≡ Ok tt → first_of (feed_lines charge (feeds_in xs)) ≡ Ok tt
    → Passing charge (feeds_in xs)
read_passing xs charge h k = yes_passing charge (feeds_in xs) (few_read xs h) k
