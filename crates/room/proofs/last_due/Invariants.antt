-- `room::last_due` meets its contract: the latest so far and the jobs and feeds that are left make the whole.
use mathlib.Core.Path.{◌≡◌}
use lib.ListN.{drop}
use Rattle.feeds.specs.Feeds.{in_use}
use Rattle.room.specs.Ahead.{latest_of, next_of, last_due}
use Rattle.room.proofs.last_due.Given as goal

abbrev pub invariant-loop-job : goal.invariant-loop-job
invariant-loop-job l = last_due l.fn.ledger ≡ latest_of (next_of l.clock) (in_use l.fn.ledger.feeds) (latest_of (λ j. j.deadline) (drop l.job-index l.job-items) l.last)

abbrev pub invariant-loop-feed : goal.invariant-loop-feed
invariant-loop-feed l = last_due l.fn.ledger ≡ latest_of (next_of l.clock) (drop l.feed-index l.feed-items) l.last
