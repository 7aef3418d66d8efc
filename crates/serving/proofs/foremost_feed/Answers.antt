-- `serving::foremost_feed` meets its contract: the best so far and the feeds that are left make the whole.
use mathlib.Core.Path.{◌≡◌, sym, ap, ◌∙◌}
use mathlib.Core.List.{[]}
use Prim.Native.Nat.{◌+◌}
use native.Mathlib.Omega.{arith}
use lib.ListN.{length}
use Rattle.lists.proofs.Places.{no_more}
use Rattle.serving.specs.declared.Piece.{Piece}
use Rattle.serving.specs.Front.{foremost_over, first_of_two, feed_front, feed_fronts}
use Rattle.serving.proofs.Front.{last_passed}
use Rattle.serving.proofs.foremost_feed.Goals as goal

pub loop-i-preserved : goal.loop-i-preserved
loop-i-preserved c =
    let t = c.args.clock in
    let best = c.loop-i.best in
    let feed = c.in-Some.feed.now in
    let left = c.next.new.self.iter.iter.rest.now in
    let next = c.in-Some.ensures.steps in
    let none_before : c.next.new.self.iter.count ≡ 0 = next.0 ∙ c.loop-i.invariant.0 in
    let position : c.in-Some.i + 1 ≡ 1 + length left = omega (arith, next.1.1, c.loop-i.invariant.0) in
    let whole = λ (front : Piece). foremost_over (feed_fronts t 1 left) (first_of_two front best) in (
      none_before,
      c.loop-i.invariant.1
          ∙ ap (λ fs. foremost_over (feed_fronts t 1 fs) best) next.1.0
          ∙ last_passed t 1 left feed best
          ∙ ap (λ n. whole (feed_front t n feed)) (sym position)
          ∙ ap whole (sym c.of_feed-piece.ensures)
          ∙ ap (foremost_over (feed_fronts t 1 left)) (sym c.first_of-best.ensures),
    )

pub returns : goal.returns
unfolding foremost_over
returns c =
    let left = c.loop-i.i-iterator.iter.iter.rest.now in
    let none : left ≡ [] = no_more left 0 (omega (arith, c.in-None.ensures.steps.1)) in
    sym (c.loop-i.invariant.1 ∙ ap (λ fs. foremost_over (feed_fronts c.args.clock 1 fs) c.loop-i.best) none)
