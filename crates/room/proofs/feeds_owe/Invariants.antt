-- `room::feeds_owe` meets its contract: what is added up so far and what the feeds that are left owe make the whole.
use mathlib.Core.Path.{◌≡◌}
use Prim.Native.Nat.{◌+◌, ◌*◌, ◌≤◌}
use lib.ListN.{drop}
use Rattle.lists.specs.Lists.{total}
use Rattle.room.specs.Owed.{feed_owes, most_of_feed}
use Rattle.room.proofs.feeds_owe.Given as goal

abbrev pub invariant-loop-feed : goal.invariant-loop-feed
invariant-loop-feed l = (l.sum ≤ l.feed-index * most_of_feed) × (total (feed_owes l.charge l.clock.0 l.by.0) l.feed-items ≡ l.sum + total (feed_owes l.charge l.clock.0 l.by.0) (drop l.feed-index l.feed-items))
