-- `feeds::Feeds::pieces_in` meets its contract: what `all` says of the feeds in use is what the test of every one says.
use mathlib.Core.Path.{sym, subst, ◌∙◌}
use borrow.Author.Rules.{rules}
use borrow.Author.Tests.{tests}
use Rattle.std.proofs.lemmas.Iterator.{YieldsList-from_slice}
use Rattle.std.proofs.lemmas.Iterator.Adapters.{serves_from_places}
use Rattle.std.proofs.lemmas.Iterator.Search.{all_from_yields_List}
use Rattle.lists.proofs.Every.{every_is_all}
use Rattle.lists.proofs.Places.{each_get_or}
use Rattle.feeds.specs.Feeds.{FeedIn, in_use}
use Rattle.feeds.specs.Pieces.{piece_in}
use Rattle.feeds.proofs.Limits.{feeds_in_lem}
use Rattle.feeds.proofs.Feeds.pieces_in.Goals as goal

pub all-requires-clause-callable : goal.all-requires-clause-callable
all-requires-clause-callable c =
    let fs = in_use c.args.self in
    let within = feeds_in_lem fs c.requires.0.within in
    serves_from_places (YieldsList-from_slice fs c.iter.ensures.rest) (λ x q k. search (rules, tests))
    (λ x k l e. let here : FeedIn x.now = subst FeedIn (sym e) (each_get_or FeedIn fs k _ within l) in search rules)

pub returns : goal.returns
returns c =
    let fs = in_use c.args.self in
    let test = piece_in c.args.charge c.args.clock in
    all_from_yields_List test _ _ c.all.result c.all.ensures.ran (YieldsList-from_slice fs c.iter.ensures.rest) (λ x b q k. search (rules, tests))
    ∙ sym (every_is_all test fs)
