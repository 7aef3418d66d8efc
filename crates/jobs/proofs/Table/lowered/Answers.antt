-- `jobs::Table::lowered` meets its contract: the jobs so far show it no more, the others are as they were.
use mathlib.Core.Path.{ap, ◌∙◌}
use native.Mathlib.Omega.{arith}
use lib.ListN.{set, get_or}
use Rattle.jobs.specs.Jobs.{live, no_job}
use Rattle.jobs.specs.Figures.{lowered}
use Rattle.jobs.proofs.Places.{next_changed, all_changed}
use Rattle.lists.proofs.Places.{changed_all}
use Rattle.jobs.proofs.Table.lowered.Goals as goal

pub loop-other-preserved : goal.loop-other-preserved
loop-other-preserved c =
    let loop = c.loop-other in
    let h = lowered c.args.job in
    ap (set loop.other-items loop.other-index) c.lowered.ensures
    ∙ ap (λ ks. set ks loop.other-index (h (get_or ks loop.other-index no_job))) loop.invariant
    ∙ next_changed h loop.other-index (live c.args.self) (omega (arith, c.loop-other-test.true))

pub returns : goal.returns
returns c =
    let t = c.args.self in
    let h = lowered c.args.job in
    let loop = c.loop-other in
    all_changed t h loop.other-items c.requires.0 (loop.invariant ∙ changed_all h loop.other-index (live t) (omega (arith, c.loop-other-test.false)))
