-- The state of a box, and when it is in order.
use Rattle.std.specs.Prelude.{◌≡◌, Bool, [], ◌∷◌, ◌≤◌, leb, length}
use Rattle.lists.specs.Lists.{all_of}
use Rattle.ticks.specs.declared.Instant.{Instant}
use Rattle.ticks.specs.declared.Length.{Length}
use Rattle.ticks.specs.Ticks.{last_instant, most_charge, within, instant, ticks}
use Rattle.feeds.specs.declared.Feeds.{Feeds}
use Rattle.feeds.specs.Feeds.{most_feeds, feeds_of, in_use, Tidy as TidyFeeds}
use Rattle.feeds.specs.Lines.{feeds_pass, FeedsIn}
use Rattle.jobs.specs.declared.Table.{Table}
use Rattle.jobs.specs.Jobs.{most_jobs, table_of, live, table_in, JobsIn, Tidy as TidyTable}
use Rattle.ledger.specs.declared.Ledger.{Ledger}

-- a state with these feeds and no jobs
abbrev pub laid : Instant → Length → Feeds → Ledger
laid clock charge feeds = record { clock = clock; charge = charge; feeds = feeds; table = table_of [] }

-- the empty state: clock 0, charge 0, no feeds, no jobs
abbrev pub empty : Ledger
empty = laid (instant 0) (ticks 0) (feeds_of [])

-- the state at another instant, with other pieces and other jobs; everything else stays
abbrev pub moved : Ledger → Instant → Feeds → Table → Ledger
moved l clock feeds table = record { clock = clock; charge = l.charge; feeds = feeds; table = table }

-- a state in order: the clock and the charge are within their limits; the feeds would pass the opening and their current
-- pieces are in order; the jobs are in order at the clock's instant; and unused places are zero
unfoldable pub in_order : Ledger → Bool
in_order l =
    all_of
    (within l.clock
    ∷ leb l.charge.0 most_charge
    ∷ feeds_pass l.charge l.clock l.feeds
    ∷ table_in l.charge l.clock l.table
    ∷ [])

-- as many places as the arrays have
pub record Sized (l : Ledger) : Type 0 where
  pub feeds : length l.feeds.feeds ≡ most_feeds
  pub jobs : length l.table.jobs ≡ most_jobs

-- a state in order, as facts
pub record InOrder (l : Ledger) : Type 0 where
  pub clock : l.clock.0 ≤ last_instant
  pub charge : l.charge.0 ≤ most_charge
  pub feeds : FeedsIn l.charge l.clock (in_use l.feeds)
  pub jobs : JobsIn l.charge l.clock (live l.table)
  pub tidy_feeds : TidyFeeds l.feeds
  pub tidy_table : TidyTable l.table
