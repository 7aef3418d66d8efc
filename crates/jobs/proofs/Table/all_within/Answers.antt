-- `jobs::Table::all_within` meets its contract: what `all` says of the live jobs is what the test of every one says.
use mathlib.Core.Path.{sym, ◌∙◌}
use borrow.Author.Rules.{rules}
use borrow.Author.Tests.{tests}
use Rattle.std.proofs.lemmas.Iterator.{YieldsList-from_slice}
use Rattle.std.proofs.lemmas.Iterator.Search.{all_from_yields_List}
use Rattle.jobs.specs.Jobs.{live, job_in}
use Rattle.lists.proofs.Every.{every_is_all}
use Rattle.jobs.proofs.Table.all_within.Goals as goal

pub returns : goal.returns
returns c =
    let p = job_in c.args.charge c.args.clock in
    let js = live c.args.self in
    all_from_yields_List p _ _ c.all.result c.all.ensures.ran (YieldsList-from_slice js c.iter.ensures.rest) (λ x b q k. search (rules, tests))
    ∙ sym (every_is_all p js)
