-- `feeds::Feeds::all_within` meets its contract: what `all` says of the feeds in use is what the test of every one says.
use mathlib.Core.Path.{sym, ◌∙◌}
use borrow.Author.Rules.{rules}
use borrow.Author.Tests.{tests}
use Rattle.std.proofs.lemmas.Iterator.{YieldsList-from_slice}
use Rattle.std.proofs.lemmas.Iterator.Search.{all_from_yields_List}
use Rattle.lists.proofs.Every.{every_is_all}
use Rattle.feeds.specs.Feeds.{feed_in, in_use}
use Rattle.feeds.proofs.Feeds.all_within.Goals as goal

pub returns : goal.returns
returns c =
    let fs = in_use c.args.self in
    all_from_yields_List feed_in _ _ c.all.result c.all.ensures.ran (YieldsList-from_slice fs c.iter.ensures.rest) (λ x b q k. search (rules, tests))
    ∙ sym (every_is_all feed_in fs)
