-- Feeds in their places, and the limits of each.
use Rattle.std.specs.Prelude.{◌≡◌, Bool, true, List, [], ◌∷◌, map, ℕ, ◌≤◌, eqb, length, take}
use Rattle.ticks.specs.declared.Length.{Length}
use Rattle.ticks.specs.Ticks.{ticks}
use Rattle.plans.specs.declared.Plan.{Plan}
use Rattle.plans.specs.Plans.{no_plan, plan_in, PlanIn, unused_plan}
use Rattle.lists.specs.Lists.{every, all_of, filled}
use Rattle.feeds.specs.declared.Feed.{Feed}
use Rattle.feeds.specs.declared.Feeds.{Feeds}

-- as many feeds as there are places
abbrev pub most_feeds : ℕ
most_feeds = 16

-- as many numbers as a feed takes in a lent list
abbrev pub numbers_a_feed : ℕ
numbers_a_feed = 4

-- a feed of this plan whose current piece owes so much
abbrev pub feed_of : Plan → ℕ → Feed
feed_of p n = record { plan = p; owes = ticks n }

-- a place that no feed has
abbrev pub no_feed : Feed
no_feed = feed_of no_plan 0

-- the feed with another figure of what its current piece owes
abbrev pub owing : Length → Feed → Feed
owing n f = record { plan = f.plan; owes = n }

-- a feed within its limits: its plan is
abbrev pub feed_in : Feed → Bool
feed_in f = plan_in f.plan

-- the same, as facts
abbrev pub FeedIn : Feed → Type 0
FeedIn f = PlanIn f.plan

-- an unused place is all zero
unfoldable pub unused_feed : Feed → Bool
unused_feed f = all_of (unused_plan f.plan ∷ eqb f.owes.0 0 ∷ [])

-- the feeds in use, in list order
abbrev pub in_use : Feeds → List Feed
in_use s = take s.count s.feeds

-- the plans of these feeds
abbrev pub plans_of : List Feed → List Plan
plans_of fs = map (λ f. f.plan) fs

-- these feeds at the front, the other places all zero
abbrev pub feeds_of : List Feed → Feeds
feeds_of fs = record { count = length fs; feeds = filled most_feeds no_feed fs }

-- as many feeds as there are places at most, each within its limits
pub record Bearable (s : Feeds) : Type 0 where
  pub few : s.count ≤ most_feeds
  pub within : every feed_in (in_use s) ≡ true

-- feeds at the front of their places, the other places all zero
pub record Tidy (s : Feeds) : Type 0 where
  pub few : s.count ≤ most_feeds
  pub filled : s ≡ feeds_of (in_use s)
