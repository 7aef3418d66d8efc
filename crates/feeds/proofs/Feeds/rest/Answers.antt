-- `feeds::Feeds::rest` meets its contract: nothing is owed at the position from now on.
use mathlib.Core.Path.{◌≡◌, sym, ap, ◌∙◌}
use Prim.Native.Nat.{◌+◌, ◌-◌}
use native.Mathlib.Omega.{arith}
use lib.ListN.{length}
use Rattle.feeds.specs.Feeds.{in_use, feeds_of}
use Rattle.feeds.specs.Pieces.{rested}
use Rattle.feeds.proofs.Passing.{tidy_many}
use Rattle.feeds.proofs.Positions.{rested_place}
use Rattle.feeds.proofs.Feeds.rest.Goals as goal

pub returns : goal.returns
returns c =
    let fs = in_use c.args.self in
    let position = c.args.position in
    let many : length fs ≡ c.args.self.count = tidy_many c.args.self c.requires.0 in
    let at : position ≡ 1 + (position - 1) = omega arith in
    c.owing.ensures ∙ sym (ap feeds_of (ap (λ p. rested p 1 fs) at ∙ rested_place (position - 1) 1 fs (omega arith)))
