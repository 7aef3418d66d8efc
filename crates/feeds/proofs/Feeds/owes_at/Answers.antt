-- `feeds::Feeds::owes_at` meets its contract: the feed's own place, or none.
use mathlib.Core.Path.{◌≡◌, sym, ap, ◌∙◌}
use Prim.Native.Nat.{◌+◌, ◌-◌, ◌≤◌, ◌<◌}
use native.Mathlib.Omega.{arith}
use lib.ListN.{length, length-take}
use lib.Seq.{get_or-take}
use Rattle.ticks.specs.Ticks.{ticks}
use Rattle.feeds.specs.Feeds.{no_feed, in_use}
use Rattle.feeds.specs.Pieces.{owes_at}
use Rattle.feeds.proofs.Positions.{owes_before, owes_after, owes_place}
use Rattle.feeds.proofs.Feeds.owes_at.Goals as goal
use Rattle.feeds.proofs.Feeds.owes_at.Goals.{else-at-ge1-via-then-at-ge1+else-at-self, else-at-ge1-via-else-at-ge1}

pub returns-then-at-self : goal.returns-then-at-self
returns-then-at-self c =
    let self = c.args.self in
    let position = c.args.position in
    let i = position - 1 in
    let at : position ≡ 1 + i = omega arith in
    let inside : i < length (in_use self) = simp length-take (omega (arith, c.requires)) in
    ap ticks
    (sym
    (ap (λ p. owes_at p 1 (in_use self)) at
    ∙ owes_place i 1 (in_use self) inside
    ∙ ap (λ f. f.owes.0) (get_or-take self.count self.feeds i no_feed (omega arith))))

pub returns-else-at-ge1 : goal.returns-else-at-ge1
returns-else-at-ge1 c =
    let fs = in_use c.args.self in
    let none : owes_at c.args.position 1 fs ≡ 0 =
    elim c.else-at-ge1.branch [
      | else-at-ge1-via-then-at-ge1+else-at-self w ↦
          let many : length fs ≤ c.args.self.count = simp length-take (omega arith) in
          owes_after _ 1 fs (omega arith)
      | else-at-ge1-via-else-at-ge1 w ↦ owes_before _ 1 fs (omega arith)
    ] in
    ap ticks (sym none)
