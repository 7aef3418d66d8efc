-- `feeds::taken` meets its contract: the places so far hold the feeds so far, the others are all zero.
use mathlib.Core.Path.{◌≡◌}
use lib.ListN.{take}
use Rattle.lists.specs.Lists.{filled}
use Rattle.feeds.specs.Feeds.{most_feeds, no_feed}
use Rattle.feeds.specs.Lines.{feeds_in}
use Rattle.feeds.proofs.taken.Given as goal

abbrev pub invariant-loop-i : goal.invariant-loop-i
invariant-loop-i l = l.feeds ≡ filled most_feeds no_feed (take l.i (feeds_in l.fn.list))
