-- `desk::Desk::taken` meets its contract: stopped by a line, or judged.
use Rattle.std.proofs.Common.{rules, ◌≡◌, Err, sym, subst, ◌∙◌}
use Rattle.lists.proofs.Places.{length_mapped}
use Rattle.desk.specs.Answers.{handed}
use Rattle.desk.specs.Asking.{Admissible, Judged, Asked}
use Rattle.desk.proofs.Asking.{admissible, stopped_asked, judged_asked, request_refused, request_passed}
use Rattle.desk.proofs.Desk.taken.Goals as goal

pub returns-in_err-request : goal.returns-in_err-request
returns-in_err-request c =
    let a = c.args in
    let from : c.from_residual.result ≡ Err c.in_err-request.field-0.0 = search rules in
    let no = request_refused a.self a.number a.work a.lead _ (sym c.request.ensures ∙ c.in_err-request.was) in
    subst (λ r. Asked a.self a.number a.work a.lead (handed a.self r)) (sym from) (stopped_asked a.self a.number a.work a.lead _ no)

pub admit-requires : goal.admit-requires
admit-requires c =
    let a = c.args in
    let (says, is) = request_passed a.self a.number a.work a.lead _ (sym c.request.ensures ∙ c.in_ok-request.was) in
    subst (Admissible a.self) (sym is) (admissible a.self a.number a.work a.lead (record { feeds = search (rules, length_mapped); jobs = search (rules, length_mapped) }) says)

pub returns : goal.returns
returns c =
    let a = c.args in
    let (says, is) = request_passed a.self a.number a.work a.lead _ (sym c.request.ensures ∙ c.in_ok-request.was) in
    judged_asked a.self a.number a.work a.lead _ says (subst (λ j. Judged a.self j (handed a.self c.admit.result)) is c.admit.ensures)
