-- `reasons::tightest` meets its contract: before the instant that is reached there is room, and the best so far is the
-- earliest of the smallest margin.
use Prim.Native.Nat.{◌-◌, ◌≤◌, ◌<◌}
use Rattle.ledger.specs.Books.{book_of}
use Rattle.reasons.proofs.Walk.{Walked}
use Rattle.reasons.proofs.tightest.Given as goal

abbrev pub invariant-loop-ledger : goal.invariant-loop-ledger
invariant-loop-ledger l = Walked (book_of l.ledger) l.best l.by.0 × (l.best.at.0 < l.end.0) × (l.by.0 ≤ l.end.0)

abbrev pub decreases-loop-ledger : goal.decreases-loop-ledger
decreases-loop-ledger l = l.end.0 - l.by.0
