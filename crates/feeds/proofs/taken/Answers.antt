-- `feeds::taken` meets its contract: the places so far hold the feeds so far, the others are all zero.
use mathlib.Core.Path.{◌≡◌, refl, sym, ap, ◌∙◌}
use mathlib.Core.List.{[]}
use Prim.Native.Nat.{◌/◌, ◌≤◌}
use native.Mathlib.Omega.{arith}
use lib.ListN.{length, get_or, take, set}
use lib.Seq.{take_all}
use Rattle.lists.specs.Lists.{filled}
use Rattle.lists.proofs.Places.{filled_next}
use Rattle.feeds.specs.Feeds.{most_feeds, numbers_a_feed, no_feed}
use Rattle.feeds.specs.Lines.{feeds_in}
use Rattle.feeds.proofs.Lines.{shape_yes}
use Rattle.feeds.proofs.Lent.{feed_of_four, feeds_in_length, feed_in_at}
use Rattle.feeds.proofs.taken.Goals as goal

pub offset_bounds-feeds-i : goal.offset_bounds-feeds-i
offset_bounds-feeds-i c = omega (arith, shape_yes (length c.args.list.now) c.requires, c.as_chunks.ensures.front_len)

pub bounds-feeds-i : goal.bounds-feeds-i
bounds-feeds-i c = omega (arith, shape_yes (length c.args.list.now) c.requires, c.as_chunks.ensures.front_len)

pub loop-i-preserved : goal.loop-i-preserved
loop-i-preserved c =
    let list = c.args.list.now in
    let i = c.loop-i.i in
    let fs = feeds_in list in
    let few : length list / numbers_a_feed ≤ most_feeds = (shape_yes (length list) c.requires).1 in
    let many : length fs ≡ length list / numbers_a_feed = feeds_in_length list in
    let inside = c.as_chunks.ensures.front_len in
    let here : c.of.result ≡ get_or fs i no_feed
    = c.of.ensures ∙ ap (λ cs. feed_of_four (get_or cs i [])) c.as_chunks.ensures.front ∙ sym (feed_in_at list _ i refl (omega arith)) in
    (λ t. set (c.loop-i.invariant t) i (here t)) ∙ filled_next most_feeds no_feed no_feed fs i (omega arith) (omega arith)

pub returns : goal.returns
returns c =
    let list = c.args.list.now in
    let fs = feeds_in list in
    let many : length fs ≡ length list / numbers_a_feed = feeds_in_length list in
    let whole = c.as_chunks.ensures.front_len in
    let all : take c.loop-i.i fs ≡ fs = take_all c.loop-i.i fs (omega arith) in
    let places : c.loop-i.feeds ≡ filled most_feeds no_feed fs = c.loop-i.invariant ∙ ap (filled most_feeds no_feed) all in
    λ t. record { count = (whole ∙ sym many) t; feeds = places t }
