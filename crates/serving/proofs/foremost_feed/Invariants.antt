-- `serving::foremost_feed` meets its contract: the best so far and the feeds that are left make the whole.
use mathlib.Core.Path.{◌≡◌}
use Rattle.feeds.specs.Feeds.{in_use}
use Rattle.serving.specs.Front.{foremost_over, feed_fronts, nobody_front}
use Rattle.serving.proofs.foremost_feed.Given as goal

abbrev pub invariant-loop-i : goal.invariant-loop-i
invariant-loop-i l = (l.i-iterator.iter.count ≡ 0) × (foremost_over (feed_fronts l.clock 1 (in_use l.fn.feeds)) nobody_front ≡ foremost_over (feed_fronts l.clock 1 l.i-iterator.iter.iter.rest.now) l.best)
