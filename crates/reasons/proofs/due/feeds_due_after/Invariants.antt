-- `reasons::due::feeds_due_after` meets its contract: up to the instant found so far nothing comes due, but for the feeds that are
-- left to look at.
use Prim.Native.Nat.{◌≤◌, ◌<◌}
use lib.ListN.{drop}
use Rattle.ticks.specs.declared.Length.{Length}
use Rattle.room.specs.Owed.{feed_owes}
use Rattle.reasons.proofs.Until.{StillBut}
use Rattle.reasons.proofs.due.feeds_due_after.Given as goal

abbrev pub invariant-loop-feed : goal.invariant-loop-feed
invariant-loop-feed l = (l.by.0 < l.next.0) × (l.next.0 ≤ l.initial.next.0) × ((charge : Length) → StillBut (feed_owes charge l.clock.0) l.by.0 l.feed-items l.next.0 (drop l.feed-index l.feed-items))
