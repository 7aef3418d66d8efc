-- `feeds::Feeds::bears_each` meets its contract: from the end on every stretch has what it wants.
use Prim.Native.Nat.{ℕ, ◌≤◌, ◌<◌}
use Rattle.feeds.specs.Feeds.{in_use}
use Rattle.feeds.specs.Round.{demand}
use Rattle.feeds.proofs.Feeds.bears_each.Given as goal

abbrev pub invariant-loop-self : goal.invariant-loop-self
invariant-loop-self l = (l.end.0 ≤ l.initial.end.0) × ((L : ℕ) → l.end.0 ≤ L → L < l.initial.end.0 → demand l.charge L (in_use l.self) ≤ L)

abbrev pub decreases-loop-self : goal.decreases-loop-self
decreases-loop-self l = l.end.0
