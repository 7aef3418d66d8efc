-- `listing::list` meets its contract: the jobs so far stand in the buffer, the rest of it is as it was.
use mathlib.Core.Path.{◌∙◌}
use native.Mathlib.Omega.{arith}
use Rattle.jobs.specs.Jobs.{live}
use Rattle.listing.proofs.Buffer.{written_more}
use Rattle.listing.proofs.list.Goals as goal

pub loop-i-preserved : goal.loop-i-preserved
loop-i-preserved c =
    c.put.ensures
    ∙ written_more (live c.args.table) c.args.buffer.now c.loop-i.buffer c.loop-i.i c.loop-i.invariant (omega (arith, c.loop-i-test.true))
