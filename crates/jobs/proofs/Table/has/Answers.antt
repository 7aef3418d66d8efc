-- `jobs::Table::has` meets its contract: what `any` says of the live jobs is that not all have another number.
use mathlib.Core.Path.{◌∙◌}
use borrow.Author.Rules.{rules}
use borrow.Author.Tests.{tests}
use lib.Dec.{eqb}
use Rattle.std.proofs.lemmas.Iterator.{YieldsList-from_slice}
use Rattle.std.proofs.lemmas.Iterator.Search.{any_from_yields_List}
use Rattle.jobs.specs.declared.Job.{Job}
use Rattle.jobs.specs.Jobs.{live}
use Rattle.jobs.proofs.Numbers.{any_or_lacks}
use Rattle.jobs.proofs.Table.has.Goals as goal

pub returns : goal.returns
returns c =
    let p = λ (j : Job). eqb j.number c.args.number in
    let js = live c.args.self in
    any_from_yields_List p _ _ c.any.result c.any.ensures.ran (YieldsList-from_slice js c.iter.ensures.rest) (λ x b q k. search (rules, tests))
    ∙ any_or_lacks c.args.number js
