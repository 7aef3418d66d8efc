-- `desk::Desk::asked` meets its contract: the request's own lines, then the place's, then the job.
use Rattle.std.proofs.Common.{rules, arith, ◌≡◌, Err, Ok, not, sym, ap, ◌∙◌}
use Rattle.lists.proofs.Places.{length_mapped}
use Rattle.jobs.specs.Jobs.{job}
use Rattle.answers.proofs.Answers.{goes_on_lem, goes_past, stops_before}
use Rattle.ledger.specs.State.{InOrder}
use Rattle.desk.specs.Asking.{request_lines, place_lines}
use Rattle.desk.proofs.InOrder.{in_order_lem, few_in_order}
use Rattle.desk.proofs.Asking.{refused_request, passed_request}
use Rattle.desk.proofs.Desk.asked.Goals as goal

pub request_stops-requires : goal.request_stops-requires
request_stops-requires c =
    let order : InOrder c.args.self.ledger =
    in_order_lem _ (record { feeds = search (rules, length_mapped); jobs = search (rules, length_mapped) }) c.requires.0 in
    (order.clock, c.requires.2)

pub returns-in_err-request_stops : goal.returns-in_err-request_stops
returns-in_err-request_stops c =
    let a = c.args in
    let from : c.from_residual.result ≡ Err c.in_err-request_stops.field-0.0 = search rules in
    let own = stops_before _ (place_lines a.self.ledger.table a.number) _ (sym c.request_stops.ensures ∙ c.in_err-request_stops.was) in
    from ∙ refused_request a.self a.number a.work.0 a.lead.0 _ (goes_on_lem _ _ _ (ap not c.requires.0) own)

pub place_stops-requires : goal.place_stops-requires
place_stops-requires c = few_in_order _ (record { feeds = search (rules, length_mapped); jobs = search (rules, length_mapped) }) c.requires.0

pub returns-in_err-place_stops : goal.returns-in_err-place_stops
returns-in_err-place_stops c =
    let a = c.args in
    let from : c.from_residual-in_err-place_stops.result ≡ Err c.in_err-place_stops.field-0.0 = search rules in
    let past = goes_past (request_lines a.self.ledger.clock a.number a.work a.lead) _ (sym c.request_stops.ensures ∙ c.in_ok-request_stops.was) in
    from ∙ refused_request a.self a.number a.work.0 a.lead.0 _ (goes_on_lem _ _ _ (ap not c.requires.0) (past ∙ sym c.place_stops.ensures ∙ c.in_err-place_stops.was))

pub and-owed-requires : goal.and-owed-requires
and-owed-requires c =
    let order : InOrder c.args.self.ledger =
    in_order_lem _ (record { feeds = search (rules, length_mapped); jobs = search (rules, length_mapped) }) c.requires.0 in
    omega (arith, order.charge, c.requires.1)

pub plus-requires : goal.plus-requires
plus-requires c =
    let order : InOrder c.args.self.ledger =
    in_order_lem _ (record { feeds = search (rules, length_mapped); jobs = search (rules, length_mapped) }) c.requires.0 in
    omega (arith, order.clock, c.requires.2)

pub returns : goal.returns
returns c =
    let a = c.args in
    let past = goes_past (request_lines a.self.ledger.clock a.number a.work a.lead) _ (sym c.request_stops.ensures ∙ c.in_ok-request_stops.was) in
    let made = c.of.ensures ∙ (λ i. job a.number (c.and-owed.ensures i) (c.plus.ensures i)) in
    ap Ok made ∙ passed_request a.self a.number a.work.0 a.lead.0 (goes_on_lem _ _ _ (ap not c.requires.0) (past ∙ sym c.place_stops.ensures ∙ c.in_ok-place_stops.was))
