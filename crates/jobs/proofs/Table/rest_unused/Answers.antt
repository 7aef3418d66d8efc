-- `jobs::Table::rest_unused` meets its contract: what `all` says of the places left over is what the test of every one says.
use mathlib.Core.Path.{sym, ◌∙◌}
use borrow.Author.Rules.{rules}
use borrow.Author.Tests.{tests}
use native.Mathlib.Omega.{arith}
use Prim.Native.Nat.{◌-◌}
use lib.ListN.{drop, length, length-drop}
use lib.Seq.{take_all}
use Rattle.std.proofs.lemmas.Iterator.{YieldsList-from_slice}
use Rattle.std.proofs.lemmas.Iterator.Search.{all_from_yields_List}
use Rattle.jobs.specs.Jobs.{unused_job}
use Rattle.lists.proofs.Every.{every_is_all}
use Rattle.jobs.proofs.Table.rest_unused.Goals as goal

pub returns : goal.returns
returns c =
    let all = c.args.self.jobs in
    let rest = drop c.args.self.count all in
    let left = length all - c.args.self.count in
    let whole = take_all left rest (omega (arith, length-drop c.args.self.count all)) in
    all_from_yields_List unused_job _ _ c.all.result c.all.ensures.ran (YieldsList-from_slice rest (c.iter.ensures.rest ∙ whole)) (λ x b q k. search (rules, tests))
    ∙ sym (every_is_all unused_job rest)
