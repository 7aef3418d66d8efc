-- `questions::why` meets its contract: lines 13 and 1 to 5, then what decides line 6.
use Rattle.std.proofs.Common.{rules, Err, sym, subst, ◌∙◌}
use Rattle.lists.proofs.Places.{length_mapped}
use Rattle.desk.specs.Asking.{Admissible}
use Rattle.desk.proofs.Asking.{admissible, request_refused, request_passed}
use Rattle.questions.specs.Whys.{Told, Explained}
use Rattle.questions.proofs.Whys.{stopped_explained, told_explained}
use Rattle.questions.proofs.why.Goals as goal

pub explain-requires : goal.explain-requires
explain-requires c =
    let a = c.args in
    let (says, is) = request_passed a.desk a.number a.work a.lead _ (sym c.request.ensures ∙ c.in-Ok.is) in
    subst (Admissible a.desk) (sym is) (admissible a.desk a.number a.work a.lead (record { feeds = search (rules, length_mapped); jobs = search (rules, length_mapped) }) says)

pub returns-in-Ok : goal.returns-in-Ok
returns-in-Ok c =
    let a = c.args in
    let (says, is) = request_passed a.desk a.number a.work a.lead _ (sym c.request.ensures ∙ c.in-Ok.is) in
    told_explained a.desk a.number a.work a.lead _ says (subst (λ j. Told a.desk j c.explain.result) is c.explain.ensures)

pub returns-in-Err : goal.returns-in-Err
returns-in-Err c =
    let a = c.args in
    let no = request_refused a.desk a.number a.work a.lead _ (sym c.request.ensures ∙ c.in-Err.is) in
    subst (λ r. Explained a.desk a.number a.work a.lead (record { verdict = Err c.in-Err.refusal; reason = r })) (sym c.none.ensures)
    (stopped_explained a.desk a.number a.work a.lead _ no)
