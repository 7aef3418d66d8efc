-- `feeds::Feeds::arrive` meets its contract: the feeds so far have their pieces, the others are as they were.
use mathlib.Core.Path.{◌≡◌, sym, ap, ◌∙◌}
use mathlib.Core.List.{map, ◌++◌}
use lib.ListN.{length, get_or, set, drop, length-map}
use Rattle.lists.specs.Lists.{filled}
use Rattle.lists.proofs.Places.{changed_next, changed_all, filled_changed}
use Rattle.feeds.specs.Feeds.{most_feeds, no_feed, in_use}
use Rattle.feeds.specs.Pieces.{arrived}
use Rattle.feeds.proofs.Passing.{tidy_many}
use Rattle.feeds.proofs.Feeds.arrive.Goals as goal

pub loop-feed-preserved : goal.loop-feed-preserved
loop-feed-preserved c =
    let loop = c.loop-feed in
    let h = arrived c.args.charge c.args.at in
    ap (set loop.feed-items loop.feed-index) c.arrived.ensures
    ∙ ap (λ fs. set fs loop.feed-index (h (get_or fs loop.feed-index no_feed))) loop.invariant
    ∙ changed_next h no_feed (in_use c.args.self) loop.feed-index c.loop-feed-test.true

pub returns : goal.returns
returns c =
    let self = c.args.self in
    let fs = in_use self in
    let h = arrived c.args.charge c.args.at in
    let many : length fs ≡ self.count = tidy_many self c.requires.0 in
    let items : c.loop-feed.feed-items ≡ map h fs = c.loop-feed.invariant ∙ changed_all h c.loop-feed.feed-index fs c.loop-feed-test.false in
    let rest : drop self.count self.feeds ≡ drop (length fs) (filled most_feeds no_feed fs)
    = (λ i. drop (sym many i) (c.requires.0.filled i).feeds) in
    let places : c.loop-feed.feed-items ++ drop self.count self.feeds ≡ filled most_feeds no_feed (map h fs)
    = (λ i. items i ++ rest i) ∙ filled_changed most_feeds no_feed h fs in
    λ i. record { count = (sym many ∙ sym (length-map fs h)) i; feeds = places i }
