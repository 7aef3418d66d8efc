-- `jobs::Table::without` meets its contract: the jobs behind the place have moved up, and the last place is unused again.
use mathlib.Core.Path.{◌∙◌}
use Prim.Native.Nat.{◌+◌, ◌-◌}
use native.Mathlib.Omega.{arith}
use lib.ListN.{set}
use Rattle.jobs.specs.Jobs.{no_job}
use Rattle.jobs.proofs.Places.{one_less}
use Rattle.jobs.proofs.Table.without.Goals as goal

pub returns : goal.returns
returns c =
    let t = c.args.self in
    let at = c.args.at in
    (λ k. record { count = t.count - 1; jobs = set (c.copy_within.ensures.after k) (t.count - 1) no_job })
    ∙ one_less t at (t.count - (at + 1)) c.requires.0 c.requires.1 (omega (arith, c.requires.1))
