-- `reasons::due::feed_due_after` meets its contract, by whether the current piece is due.
use mathlib.Core.Path.{◌≡◌}
use Prim.Native.Nat.{◌+◌, ◌-◌, ◌%◌, ◌≤◌, ◌<◌}
use native.Mathlib.Omega.{arith}
use borrow.Author.Rules.{rules}
use Rattle.std.proofs.lemmas.Bool.Decides.{nat_tests}
use Rattle.ticks.specs.Ticks.{earlier_of}
use Rattle.plans.specs.Plans.{since}
use Rattle.reasons.proofs.Until.{feed_until_first, feed_until_next}
use Rattle.reasons.proofs.due.feed_due_after.Goals as goal

pub returns-then-lt : goal.returns-then-lt
returns-then-lt c =
    let feed = c.args.feed in
    let t = c.args.clock.0 in
    let by = c.args.by.0 in
    let early : by + since feed.plan t < t + feed.plan.lead.0 = grind (arith, nat_tests) in
    let first : c.plus.result.0 + since feed.plan t ≡ t + feed.plan.lead.0 = grind (arith, nat_tests) in
    let earlier : c.min.result ≡ earlier_of c.plus.result c.args.till = search rules in
    λ charge. rw earlier (feed_until_first charge t by feed c.plus.result c.args.till early first c.requires.2)

pub returns : goal.returns
returns c =
    let feed = c.args.feed in
    let t = c.args.clock.0 in
    let by = c.args.by.0 in
    let T = feed.plan.period.0 in
    let come : t + feed.plan.lead.0 ≤ by + since feed.plan t = grind (arith, nat_tests) in
    let next : c.plus-2.result.0 ≡ by + (T - (by + since feed.plan t - (t + feed.plan.lead.0)) % T) = grind (arith, nat_tests) in
    let earlier : c.min-2.result ≡ earlier_of c.plus-2.result c.args.till = search rules in
    λ charge. rw earlier (feed_until_next charge t by feed c.plus-2.result c.args.till c.requires.0 come next c.requires.2)
