-- `reasons::due::feeds_due_after` meets its contract: up to the instant found so far nothing comes due, but for the feeds that are
-- left to look at.
use native.Mathlib.Omega.{arith}
use Rattle.lists.proofs.Places.{next}
use Rattle.ticks.specs.Ticks.{ticks}
use Rattle.feeds.specs.Feeds.{in_use, no_feed}
use Rattle.room.specs.Owed.{feed_owes}
use Rattle.reasons.proofs.Until.{still_next}
use Rattle.reasons.proofs.due.feeds_due_after.Goals as goal

pub loop-feed-preserved : goal.loop-feed-preserved
loop-feed-preserved c =
    let fs = in_use c.args.feeds in
    let loop = c.loop-feed in
    let until = c.feed_due_after-next.ensures in (
      (until (ticks 0)).after,
      omega (arith, (until (ticks 0)).within),
      λ charge. still_next (feed_owes charge c.args.clock.0) _ fs _ _ _ _ _ (next fs loop.feed-index no_feed c.loop-feed-test.true) (loop.invariant.2 charge) (until charge),
    )
