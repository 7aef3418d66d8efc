-- `desk::Desk::taken_undated` meets its contract: stopped by line 13, 1 or 19, or an ordinary ask with the lead of the rule.
use Rattle.std.proofs.Common.{rules, arith, ◌≡◌, Err, Ok, sym, ap, subst, ◌∙◌}
use borrow.Author.Tests.{not-false}
use Rattle.lists.proofs.Places.{length_mapped}
use Rattle.ticks.specs.Ticks.{instant}
use Rattle.answers.specs.Answers.{first_of}
use Rattle.answers.proofs.Answers.{yes_first}
use Rattle.desk.specs.Answers.{handed}
use Rattle.desk.specs.State.{since}
use Rattle.desk.specs.Calls.{disorder}
use Rattle.desk.specs.Asking.{request_of, Admissible, Judged}
use Rattle.desk.specs.Undated.{undated_lines, undated_lead, AskedUndated}
use Rattle.desk.proofs.Asking.{admissible, stopped_asked, judged_asked, request_refused, request_passed}
use Rattle.desk.proofs.Undated.{undated_due, undated_asked, undated_shared}
use Rattle.desk.proofs.Desk.taken_undated.Goals as goal

pub undated_lead-requires : goal.undated_lead-requires
undated_lead-requires c =
    let a = c.args in
    let passes : first_of (undated_lines c.args.self c.args.number) ≡ Ok tt = search rules in
    (not-false _ (yes_first (disorder a.self) _ passes).0, undated_shared a.self a.number a.work passes, omega (arith, ap (λ l. l.0) c.of-work.ensures))

pub asked-requires : goal.asked-requires
asked-requires c =
    let passes : first_of (undated_lines c.args.self c.args.number) ≡ Ok tt = search rules in
    (not-false _ (yes_first (disorder c.args.self) _ passes).0, omega (arith, ap (λ l. l.0) c.of-work.ensures), c.undated_lead.ensures.1)

pub returns-in_err-job : goal.returns-in_err-job
returns-in_err-job c =
    let a = c.args in
    let lead = undated_lead a.self a.work in
    let passes : first_of (undated_lines c.args.self c.args.number) ≡ Ok tt = search rules in
    let from : c.from_residual-in_err-job.result ≡ Err c.in_err-job.field-0.0 = search rules in
    let work = ap (λ l. l.0) c.of-work.ensures in
    let ahead = ap (λ l. l.0) c.undated_lead.ensures.0 ∙ ap (undated_lead a.self) work in
    let no = request_refused a.self a.number a.work lead _ (sym (c.asked.ensures ∙ (λ i. request_of a.self a.number (work i) (ahead i))) ∙ c.in_err-job.was) in
    subst (λ r. AskedUndated a.self a.number a.work (handed a.self r)) (sym from)
    (undated_asked a.self a.number a.work _ passes (stopped_asked a.self a.number a.work lead _ no))

pub admit-requires : goal.admit-requires
admit-requires c =
    let a = c.args in
    let lead = undated_lead a.self a.work in
    let work = ap (λ l. l.0) c.of-work.ensures in
    let ahead = ap (λ l. l.0) c.undated_lead.ensures.0 ∙ ap (undated_lead a.self) work in
    let (says, is) = request_passed a.self a.number a.work lead _ (sym (c.asked.ensures ∙ (λ i. request_of a.self a.number (work i) (ahead i))) ∙ c.in_ok-job.was) in
    subst (Admissible a.self) (sym is) (admissible a.self a.number a.work lead (record { feeds = search (rules, length_mapped); jobs = search (rules, length_mapped) }) says)

pub returns-in_err-admit : goal.returns-in_err-admit
returns-in_err-admit c =
    let a = c.args in
    let lead = undated_lead a.self a.work in
    let passes : first_of (undated_lines c.args.self c.args.number) ≡ Ok tt = search rules in
    let from : c.from_residual-in_err-admit.result ≡ Err c.in_err-admit.field-0.0 = search rules in
    let work = ap (λ l. l.0) c.of-work.ensures in
    let ahead = ap (λ l. l.0) c.undated_lead.ensures.0 ∙ ap (undated_lead a.self) work in
    let (says, is) = request_passed a.self a.number a.work lead _ (sym (c.asked.ensures ∙ (λ i. request_of a.self a.number (work i) (ahead i))) ∙ c.in_ok-job.was) in
    let judged = subst (λ j. Judged a.self j (handed a.self c.admit.result)) is c.admit.ensures in
    let asked = judged_asked a.self a.number a.work lead _ says (subst (λ r. Judged a.self (Rattle.desk.specs.Asking.requested a.self a.number a.work lead) (handed a.self r)) c.in_err-admit.was judged) in
    subst (λ r. AskedUndated a.self a.number a.work (handed a.self r)) (sym from) (undated_asked a.self a.number a.work _ passes asked)

pub returns : goal.returns
returns c =
    let a = c.args in
    let lead = undated_lead a.self a.work in
    let passes : first_of (undated_lines c.args.self c.args.number) ≡ Ok tt = search rules in
    let work = ap (λ l. l.0) c.of-work.ensures in
    let ahead = ap (λ l. l.0) c.undated_lead.ensures.0 ∙ ap (undated_lead a.self) work in
    let (says, is) = request_passed a.self a.number a.work lead _ (sym (c.asked.ensures ∙ (λ i. request_of a.self a.number (work i) (ahead i))) ∙ c.in_ok-job.was) in
    let judged = subst (λ j. Judged a.self j (handed a.self c.admit.result)) is c.admit.ensures in
    let asked = judged_asked a.self a.number a.work lead _ says (subst (λ r. Judged a.self (Rattle.desk.specs.Asking.requested a.self a.number a.work lead) (handed a.self r)) c.in_ok-admit.was judged) in
    let due = ap (λ j. j.deadline) is ∙ ap instant (undated_due a.self a.work) in
    let desk = c.since.ensures ∙ ap (λ t. since t c.in_ok-admit.field-0) due in
    subst (λ d. AskedUndated a.self a.number a.work (handed a.self (Ok d))) (sym desk) (undated_asked a.self a.number a.work _ passes asked)
