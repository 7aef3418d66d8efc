-- `jobs::Table::put` meets its contract: the jobs from the place on have moved up, and the new one stands there.
use mathlib.Core.Path.{◌∙◌}
use Prim.Native.Nat.{◌+◌, ◌-◌}
use native.Mathlib.Omega.{arith}
use lib.ListN.{set}
use Rattle.jobs.proofs.Places.{one_more}
use Rattle.jobs.proofs.Table.put.Goals as goal

pub returns : goal.returns
returns c =
    let t = c.args.self in
    let at = c.args.at in
    (λ k. record { count = t.count + 1; jobs = set (c.copy_within.ensures.after k) at c.args.job })
    ∙ one_more t c.args.job at (t.count - at) c.requires.0 c.requires.1 (omega (arith, c.requires.2))
