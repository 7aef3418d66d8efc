-- `feeds::Feeds::bears_each` meets its contract: from the end on every stretch has what it wants.
use mathlib.Core.Path.{◌≡◌, sym, ap}
use Prim.Native.Nat.{◌+◌, ◌≤◌, ◌<◌}
use native.Mathlib.Omega.{arith}
use borrow.Author.Rules.{rules}
use borrow.Author.Tests.{tests}
use Rattle.feeds.specs.Feeds.{in_use}
use Rattle.feeds.specs.Round.{demand}
use Rattle.feeds.proofs.Stretches.{carries_made, carries_fails, enough_from}
use Rattle.feeds.proofs.Feeds.bears_each.Goals as goal

pub returns-then-lt : goal.returns-then-lt
returns-then-lt c =
    let a = c.args in
    let L = c.one_less-stretch.result.0 in
    let first : c.and-end.result.0 ≡ a.round.0 + 1 = ap (λ l. l.0) c.and-end.ensures in
    let some : 1 < c.loop-self.end.0 = search (rules, tests) in
    let looked : L + 1 ≡ c.loop-self.end.0 = omega (arith, ap (λ l. l.0) c.one_less-stretch.ensures) in
    let wants : c.demand-want.result.0 ≡ demand a.charge L (in_use a.self) = ap (λ l. l.0) c.demand-want.ensures in
    let more : L < c.demand-want.result.0 = search (rules, tests) in
    sym (carries_fails a.charge a.round.0 (in_use a.self) L (omega arith) (omega (arith, c.loop-self.invariant.0)) (omega arith))

pub loop-self-preserved : goal.loop-self-preserved
loop-self-preserved c =
    let a = c.args in
    let L = c.one_less-stretch.result.0 in
    let first : c.and-end.result.0 ≡ a.round.0 + 1 = ap (λ l. l.0) c.and-end.ensures in
    let some : 1 < c.loop-self.end.0 = search (rules, tests) in
    let looked : L + 1 ≡ c.loop-self.end.0 = omega (arith, ap (λ l. l.0) c.one_less-stretch.ensures) in
    let wants : c.demand-want.result.0 ≡ demand a.charge L (in_use a.self) = ap (λ l. l.0) c.demand-want.ensures in
    let enough : c.demand-want.result.0 ≤ L = search (rules, tests) in (
      omega (arith, c.loop-self.invariant.0),
      λ M h k. enough_from a.charge (in_use a.self) L c.demand-want.result.0 a.round.0 wants
          (λ N i j. c.loop-self.invariant.1 N (omega arith) (omega arith))
          M
          h
          (omega arith),
    )

pub returns : goal.returns
returns c =
    let a = c.args in
    let first : c.and-end.result.0 ≡ a.round.0 + 1 = ap (λ l. l.0) c.and-end.ensures in
    let none : c.loop-self.end.0 ≤ 1 = search (rules, tests) in
    sym (carries_made a.charge a.round.0 (in_use a.self) (λ L p q. c.loop-self.invariant.1 L (omega arith) (omega arith)))
