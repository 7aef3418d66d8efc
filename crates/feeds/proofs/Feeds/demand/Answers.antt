-- `feeds::Feeds::demand` meets its contract: what `sum` says of the feeds in use is their total.
use mathlib.Core.Path.{sym, ap, subst, ◌∙◌}
use Prim.Native.Nat.{◌≤◌}
use native.Mathlib.Omega.{arith}
use borrow.Author.Rules.{rules}
use borrow.Author.Tests.{tests}
use lib.ListN.{length, length-take}
use Rattle.std.proofs.lemmas.Iterator.{YieldsList-from_slice, YieldsList-from_map}
use Rattle.std.proofs.lemmas.Iterator.Adapters.{serves_from_places}
use Rattle.std.proofs.lemmas.Iterator.Consumers.{YieldsList-at, sum_by_from_yields_List, fits_by_from_yields_list}
use Rattle.ticks.specs.Ticks.{ticks}
use Rattle.lists.proofs.Every.{sum_is_total}
use Rattle.lists.proofs.Places.{each_get_or}
use Rattle.plans.specs.Plans.{stretch}
use Rattle.feeds.specs.declared.Feed.{Feed}
use Rattle.feeds.specs.Feeds.{FeedIn, in_use}
use Rattle.feeds.proofs.Limits.{feeds_in_lem}
use Rattle.feeds.proofs.Stretches.{demand_at_most}
use Rattle.feeds.proofs.Feeds.demand.Goals as goal

pub sum-requires-clause-can : goal.sum-requires-clause-can
sum-requires-clause-can c =
    let fs = in_use c.args.self in
    let within = feeds_in_lem fs c.requires.0.within in (
      tt,
      serves_from_places (YieldsList-from_slice fs cc) (λ x q k. search (rules, tests))
          (λ x k l e. let here : FeedIn x.now = subst FeedIn (sym e) (each_get_or FeedIn fs k _ within l) in search rules),
    )

pub sum-requires-clause-fits : goal.sum-requires-clause-fits
sum-requires-clause-fits c =
    let fs = in_use c.args.self in
    let wants = λ (f : Feed). stretch c.args.charge c.args.stretch.0 f.plan in
    let few : length fs ≤ 16 = simp length-take (omega (arith, c.requires.0.few)) in
    let most = demand_at_most c.args.charge c.args.stretch.0 fs (feeds_in_lem fs c.requires.0.within) c.requires.1 c.requires.2 in
    fits_by_from_yields_list wants fs c.map.result _
    (YieldsList-from_map _ wants (YieldsList-at c.map.ensures.source (YieldsList-from_slice fs c.iter.ensures.rest)) c.map.ensures.closure (λ x r q k. search (rules, tests)))
    (rw (sum_is_total wants fs) (omega (arith, most)))

pub returns : goal.returns
returns c =
    let fs = in_use c.args.self in
    let wants = λ (f : Feed). stretch c.args.charge c.args.stretch.0 f.plan in
    ap ticks
    (sum_by_from_yields_List wants fs c.map.result _ c.sum.ensures.ran
    (YieldsList-from_map _ wants (YieldsList-at c.map.ensures.source (YieldsList-from_slice fs c.iter.ensures.rest)) c.map.ensures.closure (λ x r q k. search (rules, tests)))
    ∙ sum_is_total wants fs)
