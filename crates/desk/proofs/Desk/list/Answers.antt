-- `desk::Desk::list` meets its contract: its lines, then the list of the live jobs.
use Rattle.std.proofs.Common.{rules, ◌≡◌, Err, Ok, ◌++◌, ◌*◌, length, drop, sym, ap, ◌∙◌}
use borrow.Author.Tests.{not-false, ltb-false}
use Rattle.lists.proofs.Places.{length_mapped}
use Rattle.jobs.specs.Jobs.{numbers_a_job, live}
use Rattle.listing.specs.Words.{words}
use Rattle.answers.specs.Answers.{first_of, on_yes, yes_with}
use Rattle.answers.proofs.Answers.{yes_first}
use Rattle.ledger.specs.State.{InOrder}
use Rattle.desk.proofs.InOrder.{in_order_lem}
use Rattle.desk.specs.Calls.{list_lines, counted_of, listed_of}
use Rattle.desk.proofs.Desk.list.Goals as goal

pub returns-in_err-list_stops : goal.returns-in_err-list_stops
unfolding counted_of listed_of
returns-in_err-list_stops c =
    let d = c.args.self in
    let from : c.from_residual.result ≡ Err c.in_err-list_stops.field-0.0 = search rules in
    let no : first_of (list_lines c.args.self (length c.args.buffer.now)) ≡ Err c.in_err-list_stops.field-0.0 = search rules in (
      from ∙ ap (λ v. yes_with v (length (live d.ledger.table))) (sym no),
      ap (λ v. on_yes v (words (live d.ledger.table) ++ drop (numbers_a_job * d.ledger.table.count) c.args.buffer.now) c.args.buffer.now) (sym no),
    )

pub list-requires : goal.list-requires
list-requires c =
    let yes : first_of (list_lines c.args.self (length c.args.buffer.now)) ≡ Ok tt = search rules in
    let order : InOrder c.args.self.ledger =
    in_order_lem _ (record { feeds = search (rules, length_mapped); jobs = search (rules, length_mapped) }) (not-false _ (yes_first _ _ yes).0) in
    (order.tidy_table, ltb-false _ _ (yes_first _ _ (yes_first _ _ yes).1).0)

pub returns : goal.returns
unfolding counted_of listed_of
returns c =
    let d = c.args.self in
    let yes : first_of (list_lines c.args.self (length c.args.buffer.now)) ≡ Ok tt = search rules in (
      ap Ok c.list.ensures.0 ∙ ap (λ v. yes_with v (length (live d.ledger.table))) (sym yes),
      c.list.ensures.1
          ∙ ap (λ v. on_yes v (words (live d.ledger.table) ++ drop (numbers_a_job * d.ledger.table.count) c.args.buffer.now) c.args.buffer.now) (sym yes),
    )
