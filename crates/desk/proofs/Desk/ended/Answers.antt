-- `desk::Desk::ended` meets its contract: its lines, then the table without the job.
use Rattle.std.proofs.Common.{rules, ◌≡◌, Ok, ap, ◌∙◌}
use borrow.Author.Tests.{not-false}
use Rattle.lists.proofs.Places.{length_mapped}
use Rattle.answers.specs.Answers.{first_of}
use Rattle.answers.proofs.Answers.{yes_first}
use Rattle.ledger.specs.State.{InOrder}
use Rattle.edf.specs.Calls.{ending}
use Rattle.desk.specs.State.{book, with, rewritten}
use Rattle.desk.specs.Calls.{end_lines, end_of}
use Rattle.desk.proofs.InOrder.{in_order_lem}
use Rattle.desk.proofs.Answers.{handed_no, handed_yes}
use Rattle.desk.proofs.Calls.{ended_ledger}
use Rattle.desk.proofs.Desk.ended.Goals as goal

pub returns-in_err-end_stops : goal.returns-in_err-end_stops
unfolding end_of
returns-in_err-end_stops c = search (rules, handed_no)

pub end-table-requires : goal.end-table-requires
end-table-requires c =
    let yes : first_of (end_lines c.args.self c.args.number) ≡ Ok tt = search rules in
    let order : InOrder c.args.self.ledger =
    in_order_lem _ (record { feeds = search (rules, length_mapped); jobs = search (rules, length_mapped) }) (not-false _ (yes_first _ _ yes).0) in
    (order.tidy_table, order.jobs.figures, order.jobs.once)

pub returns : goal.returns
unfolding end_of
returns c =
    let d = c.args.self in
    let n = c.args.number in
    let yes : first_of (end_lines c.args.self c.args.number) ≡ Ok tt = search rules in
    let order : InOrder c.args.self.ledger =
    in_order_lem _ (record { feeds = search (rules, length_mapped); jobs = search (rules, length_mapped) }) (not-false _ (yes_first _ _ yes).0) in
    let desk = c.with.ensures ∙ ap (with d) (c.moved.ensures ∙ ended_ledger d.ledger order n _ c.end-table.ensures) in
    (λ i. record { desk = desk i; verdict = Ok tt }) ∙ handed_yes (end_lines d n) (rewritten d (ending n (book d))) d yes
