-- What feeds owe by an instant, told of the desk's own feeds.
use Rattle.std.specs.Prelude.{ℕ, ◌+◌, ◌*◌, ◌≤◌}
use Rattle.ticks.specs.declared.Instant.{Instant}
use Rattle.ticks.specs.declared.Length.{Length}
use Rattle.ticks.specs.Ticks.{last_instant, most_job, most_feed, most_round}
use Rattle.plans.specs.Plans.{most_piece, due}
use Rattle.feeds.specs.declared.Feed.{Feed}
use Rattle.feeds.specs.Feeds.{FeedIn}
use Rattle.feeds.specs.Pieces.{PieceIn}
use Rattle.edf.specs.Owed.{by_then, later_by}
use Rattle.ledger.specs.Books.{book_plan}

-- what a feed owes by D, told at the instant t: its current piece and those to come, each of these with the charge
unfoldable pub feed_owes : Length → ℕ → ℕ → Feed → ℕ
feed_owes charge t D f = by_then D (due f.plan t) f.owes.0 + later_by t D (book_plan charge f.plan)

-- a feed in order at the clock's instant
abbrev pub FeedOrdered : Length → Instant → Feed → Type 0
FeedOrdered charge clock f = FeedIn f × PieceIn charge clock f

-- no instant is looked at that lies further ahead: the longest lead and the longest round
abbrev pub farthest : ℕ
farthest = most_job + most_round

-- the most that one feed owes by such an instant
abbrev pub most_of_feed : ℕ
most_of_feed = most_piece * (farthest + most_feed + 1)

-- an instant that is looked at
pub record Reach (clock by : Instant) : Type 0 where
  pub inside : clock.0 ≤ last_instant
  pub near : by.0 ≤ clock.0 + farthest
