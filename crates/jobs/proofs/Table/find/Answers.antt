-- `jobs::Table::find` meets its contract: what `position` says of the live jobs is the first place that has the number.
use mathlib.Core.Path.{◌∙◌}
use borrow.Author.Rules.{rules}
use borrow.Author.Tests.{tests}
use lib.Dec.{eqb}
use Rattle.std.proofs.lemmas.Iterator.{YieldsList-from_slice}
use Rattle.std.proofs.lemmas.Iterator.Adapters.{position_from-zero}
use Rattle.std.proofs.lemmas.Iterator.Search.{position_from_yields_List}
use Rattle.jobs.specs.declared.Job.{Job}
use Rattle.jobs.specs.Jobs.{live}
use Rattle.jobs.proofs.Table.find.Goals as goal

pub returns : goal.returns
returns c =
    let p = λ (j : Job). eqb j.number c.args.number in
    let js = live c.args.self in
    position_from_yields_List p _ _ c.position.result c.position.ensures.ran (YieldsList-from_slice js c.iter.ensures.rest) (λ x b q k. search (rules, tests))
    ∙ position_from-zero p js
