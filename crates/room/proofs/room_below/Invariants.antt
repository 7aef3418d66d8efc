-- `room::room_below` meets its contract: by every instant from the one that is reached on there is room.
use Prim.Native.Nat.{◌≤◌}
use Rattle.ledger.specs.Books.{book_of}
use Rattle.room.specs.Walk.{RoomFrom}
use Rattle.room.proofs.room_below.Given as goal

abbrev pub invariant-loop-ledger : goal.invariant-loop-ledger
invariant-loop-ledger l = (l.ledger.clock.0 ≤ l.end.0) × (l.end.0 ≤ l.initial.end.0) × RoomFrom l.end.0 l.initial.end.0 (book_of l.ledger)

abbrev pub decreases-loop-ledger : goal.decreases-loop-ledger
decreases-loop-ledger l = l.end.0
