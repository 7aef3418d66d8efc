-- `feeds::Feeds::all_to_the_next` meets its contract: what `all` says of the feeds in use is what the test of every one says.
use mathlib.Core.Path.{sym, ◌∙◌}
use borrow.Author.Rules.{rules}
use borrow.Author.Tests.{tests}
use Rattle.std.proofs.lemmas.Iterator.{YieldsList-from_slice}
use Rattle.std.proofs.lemmas.Iterator.Search.{all_from_yields_List}
use Rattle.lists.proofs.Every.{every_is_all}
use Rattle.plans.specs.Plans.{to_the_next}
use Rattle.feeds.specs.declared.Feed.{Feed}
use Rattle.feeds.specs.Feeds.{in_use}
use Rattle.feeds.proofs.Feeds.all_to_the_next.Goals as goal

pub returns : goal.returns
returns c =
    let fs = in_use c.args.self in
    let test = λ (f : Feed). to_the_next f.plan in
    all_from_yields_List test _ _ c.all.result c.all.ensures.ran (YieldsList-from_slice fs c.iter.ensures.rest) (λ x b q k. search (rules, tests))
    ∙ sym (every_is_all test fs)
