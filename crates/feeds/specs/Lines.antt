-- The lines that feeds are put to, each once: by the opening, and by the test of any state.
use Rattle.std.specs.Prelude.{Bool, not, List, [], ◌∷◌, ℕ, ◌/◌, ◌%◌, ◌≤◌, leb, ltb, eqb, length, drop}
use Rattle.ticks.specs.declared.Instant.{Instant}
use Rattle.ticks.specs.declared.Length.{Length}
use Rattle.ticks.specs.Ticks.{most_round, ticks}
use Rattle.lists.specs.Lists.{every, Each, all_of}
use Rattle.answers.specs.declared.Refusal.TheVariants.{Outside, TooManyFeeds, RoundTooLong, TooMuchLoad, NotWholeFeeds}
use Rattle.answers.specs.Answers.{Line, line, passes}
use Rattle.feeds.specs.declared.Feed.{Feed}
use Rattle.feeds.specs.declared.Feeds.{Feeds}
use Rattle.feeds.specs.Feeds.{most_feeds, numbers_a_feed, feed_of, feed_in, FeedIn, unused_feed, in_use}
use Rattle.feeds.specs.Round.{IsRound, periods, round_of, demand, carries}
use Rattle.feeds.specs.Pieces.{piece_in, PieceIn}

-- of how many numbers were lent: they are no whole feeds (12), or more feeds than there are places (8)
abbrev pub shape_lines : ℕ → List Line
shape_lines n =
    line (not (eqb (n % numbers_a_feed) 0)) NotWholeFeeds ∷ line (ltb most_feeds (n / numbers_a_feed)) TooManyFeeds ∷ []

-- of the feeds: a length or an offset is outside its limits (2), the round is too long (9), in some stretch up to the round they
-- want more than it has (10), the charge of each piece counted
abbrev pub feed_lines : Length → List Feed → List Line
feed_lines charge fs =
    line (not (every feed_in fs)) Outside
    ∷ line (not (leb (round_of (periods fs)) most_round)) RoundTooLong
    ∷ line (not (carries charge (round_of (periods fs)) fs)) TooMuchLoad
    ∷ []

-- the feeds of a state in order: at most 16 (line 8), they pass lines 2, 9 and 10, the unused places are all zero, and the
-- current pieces are in order
unfoldable pub feeds_pass : Length → Instant → Feeds → Bool
feeds_pass charge clock s =
    all_of
    (leb s.count most_feeds
    ∷ passes (feed_lines charge (in_use s))
    ∷ every unused_feed (drop s.count s.feeds)
    ∷ every (piece_in charge clock) (in_use s)
    ∷ [])

-- feeds that pass, as facts
pub record Passing (charge : Length) (fs : List Feed) : Type 0 where
  pub few : length fs ≤ most_feeds
  pub within : Each FeedIn fs
  pub short : round_of (periods fs) ≤ most_round
  pub round : IsRound (round_of (periods fs)) (periods fs)
  pub carried : (L : ℕ) → L ≤ round_of (periods fs) → demand charge L fs ≤ L

-- the same of a state's feeds at an instant, with their current pieces
pub record FeedsIn (charge : Length) (clock : Instant) (fs : List Feed) : Type 0 where
  pub passing : Passing charge fs
  pub pieces : Each (PieceIn charge clock) fs

-- four numbers: the feed whose piece has not come yet
abbrev pub feed : ℕ → ℕ → ℕ → ℕ → Feed
feed period work offset lead =
    feed_of (record { period = ticks period; work = ticks work; offset = ticks offset; lead = ticks lead }) 0

-- four numbers a feed; one, two or three that are left over make none
unfoldable pub feeds_in : List ℕ → List Feed
feeds_in [] = []
feeds_in (a ∷ []) = []
feeds_in (a ∷ b ∷ []) = []
feeds_in (a ∷ b ∷ c ∷ []) = []
feeds_in (a ∷ b ∷ c ∷ d ∷ xs) = feed a b c d ∷ feeds_in xs
