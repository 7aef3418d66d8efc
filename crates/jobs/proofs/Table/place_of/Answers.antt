-- `jobs::Table::place_of` meets its contract: what `position` says of the live jobs is the first that the job stands before.
use mathlib.Core.Path.{◌≡◌, sym, ap, ◌∙◌}
use native.Mathlib.Omega.{arith}
use borrow.Author.Rules.{rules}
use borrow.Author.Tests.{tests}
use lib.ListN.{length}
use lib.Seq.{length-take-le}
use Rattle.std.specs.Prelude.{unwrap_or}
use Rattle.std.proofs.lemmas.Iterator.{YieldsList-from_slice}
use Rattle.std.proofs.lemmas.Iterator.Adapters.{position_from-zero}
use Rattle.std.proofs.lemmas.Iterator.Search.{position_from_yields_List}
use Rattle.lists.proofs.Places.{length_mapped}
use Rattle.jobs.specs.Jobs.{live}
use Rattle.jobs.specs.Sorted.{before, place_of}
use Rattle.std.specs.List.{position_from}
use native.Mathlib.Nat.{zero-add}
use Rattle.jobs.proofs.Sorted.{place_found}
use Rattle.jobs.proofs.Table.place_of.Goals as goal

pub returns : goal.returns
returns c =
    let t = c.args.self in
    let js = live t in
    let long : length t.jobs ≡ 64 = search (rules, length_mapped) in
    let many : t.count ≡ length js = sym (length-take-le t.count t.jobs (omega arith)) in
    let found = position_from_yields_List (before c.args.job) _ _ c.position.result c.position.ensures.ran (YieldsList-from_slice js c.iter.ensures.rest) (λ x b q k. search (rules, tests))
    ∙ position_from-zero (before c.args.job) js in
    c.unwrap_or.ensures
    ∙ (λ i. unwrap_or (found i) (many i))
    ∙ ap (unwrap_or (position_from (before c.args.job) 0 js)) (sym (zero-add (length js)))
    ∙ place_found c.args.job js 0
    ∙ zero-add (place_of c.args.job js)
