-- `desk::Desk::runner` meets its contract: nobody where there is no next step, else whom serving finds foremost.
use Rattle.std.proofs.Common.{rules, ◌≡◌, true, false, not, ltb, sym, ap, ◌∙◌}
use borrow.Author.Tests.{not-true, not-false}
use Rattle.lists.proofs.Places.{length_mapped}
use Rattle.ticks.specs.Ticks.{last_instant}
use Rattle.edf.specs.Step.{runner}
use Rattle.answers.specs.declared.Who.TheVariants.{Idle}
use Rattle.answers.specs.Answers.{on_yes}
use Rattle.answers.proofs.Answers.{stops, goes_on_lem, no_line}
use Rattle.ledger.specs.Books.{who_is}
use Rattle.desk.proofs.InOrder.{in_order_lem}
use Rattle.desk.specs.State.{book, in_order}
use Rattle.desk.specs.Calls.{runner_of}
use Rattle.desk.proofs.Desk.runner.Goals as goal

pub returns-then-not-in_order : goal.returns-then-not-in_order
unfolding runner_of
returns-then-not-in_order c =
    let d = c.args.self in
    ap (λ v. on_yes v (who_is (runner (book d)).who) Idle) (sym (stops _ _ (ap not (sym c.in_order.ensures ∙ not-true _ c.if-not-in_order.true-raw))))

pub foremost-requires : goal.foremost-requires
foremost-requires c =
    let fine : in_order c.args.self ≡ true =
    sym c.in_order.ensures ∙ not-false _ c.if-not-in_order.false-raw in
    in_order_lem _ (record { feeds = search (rules, length_mapped); jobs = search (rules, length_mapped) }) fine

pub returns-then-le : goal.returns-then-le
unfolding runner_of
returns-then-le c =
    let fine : in_order c.args.self ≡ true =
    sym c.in_order.ensures ∙ not-false _ c.if-not-in_order.false-raw in
    let stays : ltb c.args.self.ledger.clock.0 last_instant ≡ false = search rules in
    let d = c.args.self in
    ap (λ v. on_yes v (who_is (runner (book d)).who) Idle) (sym (goes_on_lem _ _ _ (ap not fine) (stops _ _ (ap not stays))))

pub returns : goal.returns
unfolding runner_of
returns c =
    let fine : in_order c.args.self ≡ true =
    sym c.in_order.ensures ∙ not-false _ c.if-not-in_order.false-raw in
    let goes : ltb c.args.self.ledger.clock.0 last_instant ≡ true = search rules in
    let d = c.args.self in
    ap (λ p. p.who) c.foremost.ensures
    ∙ ap (λ v. on_yes v (who_is (runner (book d)).who) Idle) (sym (goes_on_lem _ _ _ (ap not fine) (goes_on_lem _ _ _ (ap not goes) no_line)))
