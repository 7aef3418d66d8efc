-- `desk::Desk::stepped` meets its contract: line 13, then the step of a state in order.
use Rattle.std.proofs.Common.{rules, ◌≡◌, [], Err, sym, ap, ◌∙◌, true, not}
use borrow.Author.Tests.{not-true, not-false}
use Rattle.lists.proofs.Places.{length_mapped}
use Rattle.answers.specs.declared.Refusal.TheVariants.{NotInOrder}
use Rattle.answers.proofs.Answers.{stopped_is, passed_by}
use Rattle.desk.specs.State.{in_order}
use Rattle.desk.specs.Calls.{stepped_desk}
use Rattle.desk.proofs.InOrder.{in_order_lem}
use Rattle.desk.proofs.Calls.{step_stopped, step_by_serving}
use Rattle.desk.proofs.Desk.stepped.Goals as goal

pub returns-in_err-when : goal.returns-in_err-when
returns-in_err-when c =
    let no = stopped_is (not c.in_order.result) NotInOrder _ (sym c.in_err-when.ensures) in
    let told : c.from_residual.result ≡ Err c.in_err-when.field-0.0 = search rules in
    ap (stepped_desk c.args.self) (told ∙ ap Err no.1) ∙ step_stopped c.args.self (sym c.in_order.ensures ∙ not-true _ no.0)

pub served-requires : goal.served-requires
served-requires c =
    let fine : in_order c.args.self ≡ true = sym c.in_order.ensures ∙ not-false _ (passed_by (not c.in_order.result) NotInOrder [] _ (sym c.in_ok-when.ensures)).0 in
    in_order_lem _ (record { feeds = search (rules, length_mapped); jobs = search (rules, length_mapped) }) fine

pub returns : goal.returns
returns c =
    let fine : in_order c.args.self ≡ true = sym c.in_order.ensures ∙ not-false _ (passed_by (not c.in_order.result) NotInOrder [] _ (sym c.in_ok-when.ensures)).0 in
    ap (stepped_desk c.args.self) c.served.ensures ∙ step_by_serving c.args.self fine
