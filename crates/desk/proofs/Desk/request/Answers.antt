-- `desk::Desk::request` meets its contract: line 13, then the request.
use Rattle.std.proofs.Common.{rules, ◌≡◌, not, Err, sym, ap, ◌∙◌}
use Rattle.answers.specs.declared.Refusal.TheVariants.{NotInOrder}
use Rattle.answers.proofs.Answers.{stops, stopped_is}
use Rattle.desk.specs.Calls.{disorder}
use Rattle.desk.proofs.Asking.{refused_request}
use Rattle.desk.proofs.Desk.request.Goals as goal

pub returns-in_err-when : goal.returns-in_err-when
returns-in_err-when c =
    let a = c.args in
    let from : c.from_residual.result ≡ Err c.in_err-when.field-0.0 = search rules in
    let (holds, which) = stopped_is _ NotInOrder _ (sym c.when.ensures ∙ c.in_err-when.was) in
    from ∙ ap Err which ∙ refused_request a.self a.number a.work a.lead NotInOrder (stops (disorder a.self) _ (ap not (sym c.in_order.ensures) ∙ holds))
