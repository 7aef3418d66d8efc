-- `listing::list` meets its contract: the jobs so far stand in the buffer, the rest of it is as it was.
use mathlib.Core.Path.{◌≡◌}
use Rattle.jobs.specs.Jobs.{live}
use Rattle.listing.proofs.Buffer.{written}
use Rattle.listing.proofs.list.Given as goal

abbrev pub invariant-loop-i : goal.invariant-loop-i
invariant-loop-i l = l.buffer ≡ written (live l.fn.table) l.initial.buffer l.i
