-- `feeds::Feeds::round` meets its contract: the round so far and the periods that are left go into whatever all of them go into.
use mathlib.Core.Path.{sym, ap}
use native.Mathlib.Omega.{arith}
use Rattle.ticks.specs.Ticks.{ticks}
use Rattle.feeds.specs.Feeds.{in_use}
use Rattle.feeds.proofs.Limits.{feed_in_at}
use Rattle.feeds.proofs.Round.{so_far_none, so_far_next, so_far_all, so_far_long}
use Rattle.feeds.proofs.Feeds.round.Goals as goal

pub loop-feed-init : goal.loop-feed-init
loop-feed-init c = (omega arith, so_far_none _)

pub multiple-round-requires : goal.multiple-round-requires
multiple-round-requires c =
    let here = feed_in_at (in_use c.args.self) c.loop-feed.feed-index c.requires.1 c.loop-feed-test.true in
    (c.loop-feed.invariant.1.some, c.loop-feed.invariant.0, here.period.0, here.period.1)

pub returns-then-round : goal.returns-then-round
returns-then-round c =
    let more = so_far_next _ _ _ _ c.loop-feed-test.true c.loop-feed.invariant.1 c.multiple-round.ensures in
    ap ticks (sym (so_far_long _ _ _ more c.if-round.true))

pub loop-feed-preserved : goal.loop-feed-preserved
loop-feed-preserved c = (c.if-round.false, so_far_next _ _ _ _ c.loop-feed-test.true c.loop-feed.invariant.1 c.multiple-round.ensures)

pub returns : goal.returns
returns c = ap ticks (sym (so_far_all _ _ _ c.loop-feed-test.false c.loop-feed.invariant.1 c.loop-feed.invariant.0))
