-- Whom an answer can name.
use Rattle.std.specs.Prelude.{◌≤◌}
use Rattle.feeds.specs.Feeds.{most_feeds}
use Rattle.answers.specs.declared.Who.{Who}
use Rattle.answers.specs.declared.Who.TheVariants.{Job, Feed, Idle}

-- a job by a number of at least 1, a feed by its position, from 1 up to as many as there are places, or nobody
abbrev pub Named : Who → Type 0
Named (Job number) = 1 ≤ number
Named (Feed position) = (1 ≤ position) × (position ≤ most_feeds)
Named Idle = Unit {0}
