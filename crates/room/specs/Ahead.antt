-- How far ahead one has to look.
use Rattle.std.specs.Prelude.{List, [], ◌∷◌}
use Rattle.ticks.specs.declared.Instant.{Instant}
use Rattle.ticks.specs.Ticks.{instant, later_of}
use Rattle.plans.specs.Plans.{next}
use Rattle.feeds.specs.declared.Feed.{Feed}
use Rattle.feeds.specs.Feeds.{in_use}
use Rattle.feeds.specs.Round.{periods, round_of}
use Rattle.jobs.specs.Jobs.{live}
use Rattle.edf.specs.Load.{horizon}
use Rattle.ledger.specs.declared.Ledger.{Ledger}

-- the latest of this instant and of those of the list
unfoldable pub latest_of : {A : Type 0} → (A → Instant) → List A → Instant → Instant
latest_of f [] from = from
latest_of f (x ∷ xs) from = latest_of f xs (later_of from (f x))

-- when a feed's next piece comes
abbrev pub next_of : Instant → Feed → Instant
next_of clock f = instant (next f.plan clock.0)

-- the instant past every deadline and every next release
unfoldable pub last_due : Ledger → Instant
last_due l = latest_of (next_of l.clock) (in_use l.feeds) (latest_of (λ j. j.deadline) (live l.table) l.clock)

-- how far one has to look: a round past it
unfoldable pub horizon_of : Ledger → Instant
horizon_of l = instant (horizon (round_of (periods (in_use l.feeds))) (last_due l).0)
