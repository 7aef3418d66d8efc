-- `feeds::Feeds::round` meets its contract: the round so far and the periods that are left go into whatever all of them go into.
use Prim.Native.Nat.{◌≤◌}
use lib.ListN.{drop}
use Rattle.ticks.specs.Ticks.{most_round}
use Rattle.feeds.specs.Feeds.{in_use}
use Rattle.feeds.specs.Round.{periods}
use Rattle.feeds.proofs.Round.{SoFar}
use Rattle.feeds.proofs.Feeds.round.Given as goal

abbrev pub invariant-loop-feed : goal.invariant-loop-feed
invariant-loop-feed l = (l.round ≤ most_round) × SoFar l.round (periods (drop l.feed-index (in_use l.fn.self))) (periods (in_use l.fn.self))
