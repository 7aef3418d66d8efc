-- `feeds::Feeds::arrive` meets its contract: the feeds so far have their pieces, the others are as they were.
use mathlib.Core.Path.{◌≡◌}
use Rattle.lists.proofs.Places.{changed}
use Rattle.feeds.specs.Feeds.{in_use}
use Rattle.feeds.specs.Pieces.{arrived}
use Rattle.feeds.proofs.Feeds.arrive.Given as goal

abbrev pub invariant-loop-feed : goal.invariant-loop-feed
invariant-loop-feed l = l.feed-items ≡ changed (arrived l.charge l.at) l.feed-index (in_use l.fn.self)
