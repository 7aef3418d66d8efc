-- The tests of feeds, and the facts that they stand for.
use mathlib.Core.Path.{◌≡◌, ap}
use mathlib.Core.Bool.{true}
use mathlib.Core.List.{List}
use Prim.Native.Nat.{ℕ, ◌<◌}
use lib.ListN.{length, get_or}
use borrow.Author.Tests.{eqb-true, eq-eqb}
use Rattle.ticks.specs.Ticks.{ticks}
use Rattle.lists.specs.Lists.{every, Each}
use Rattle.lists.proofs.Tests.{all_of_lem, all_of_made}
use Rattle.lists.proofs.Places.{each_of_every, every_of_each, each_get_or}
use Rattle.plans.proofs.Plans.{plan_in_lem, plan_in_made, unused_plan_lem, unused_plan_made}
use Rattle.feeds.specs.declared.Feed.{Feed}
use Rattle.feeds.specs.Feeds.{feed_in, FeedIn, unused_feed, no_feed}

pub feeds_in_lem : (fs : List Feed) → every feed_in fs ≡ true → Each FeedIn fs
feeds_in_lem fs h = each_of_every feed_in FeedIn (λ f. plan_in_lem f.plan) fs h

pub feeds_in_made : (fs : List Feed) → Each FeedIn fs → every feed_in fs ≡ true
feeds_in_made fs h = every_of_each feed_in FeedIn (λ f. plan_in_made f.plan) fs h

-- the feed at a place
pub feed_in_at : (fs : List Feed) (i : ℕ) → every feed_in fs ≡ true → i < length fs → FeedIn (get_or fs i no_feed)
feed_in_at fs i h l = each_get_or FeedIn fs i no_feed (feeds_in_lem fs h) l

pub unused_feed_lem : (f : Feed) → unused_feed f ≡ true → f ≡ no_feed
unfolding unused_feed
unused_feed_lem f h =
    let t = all_of_lem _ h in
    let plan = unused_plan_lem f.plan t.0 in
    let owes = eqb-true f.owes.0 0 t.1.0 in
    λ i. record { plan = plan i; owes = ticks (owes i) }

pub unused_feed_made : (f : Feed) → f ≡ no_feed → unused_feed f ≡ true
unfolding unused_feed
unused_feed_made f h =
    all_of_made _ (unused_plan_made f.plan (ap (λ g. g.plan) h), (eq-eqb _ _ (ap (λ g. g.owes.0) h), tt))
