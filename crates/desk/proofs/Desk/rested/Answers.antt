-- `desk::Desk::rested` meets its contract: its lines, then the feeds with the piece at rest.
use Rattle.std.proofs.Common.{rules, arith, ◌≡◌, Ok, ap, ◌∙◌}
use borrow.Author.Tests.{not-false, eqb-false}
use Rattle.feeds.specs.Feeds.{in_use}
use Rattle.feeds.proofs.Positions.{owes_some}
use Rattle.feeds.proofs.Passing.{tidy_many}
use Rattle.lists.proofs.Places.{length_mapped}
use Rattle.answers.specs.Answers.{first_of}
use Rattle.answers.proofs.Answers.{yes_first}
use Rattle.ledger.specs.State.{InOrder}
use Rattle.edf.specs.Calls.{resting}
use Rattle.desk.specs.State.{book, with, rewritten}
use Rattle.desk.specs.Calls.{rest_lines, rest_of}
use Rattle.desk.proofs.InOrder.{in_order_lem}
use Rattle.desk.proofs.Answers.{handed_no, handed_yes}
use Rattle.desk.proofs.Calls.{rested_ledger}
use Rattle.desk.proofs.Desk.rested.Goals as goal

pub returns-in_err-rest_stops : goal.returns-in_err-rest_stops
unfolding rest_of
returns-in_err-rest_stops c = search (rules, handed_no)

-- where something is owed there is such a position
pub rest-feeds-requires : goal.rest-feeds-requires
rest-feeds-requires c =
    let d = c.args.self in
    let yes : first_of (rest_lines c.args.self c.args.position) ≡ Ok tt = search rules in
    let order : InOrder c.args.self.ledger =
    in_order_lem _ (record { feeds = search (rules, length_mapped); jobs = search (rules, length_mapped) }) (not-false _ (yes_first _ _ yes).0) in
    let there = owes_some c.args.position 1 (in_use d.ledger.feeds) (eqb-false _ _ (yes_first _ _ (yes_first _ _ yes).1).0) in
    (order.tidy_feeds, there.0, omega (arith, there.1, tidy_many d.ledger.feeds order.tidy_feeds))

pub returns : goal.returns
unfolding rest_of
returns c =
    let d = c.args.self in
    let p = c.args.position in
    let yes : first_of (rest_lines c.args.self c.args.position) ≡ Ok tt = search rules in
    let order : InOrder c.args.self.ledger =
    in_order_lem _ (record { feeds = search (rules, length_mapped); jobs = search (rules, length_mapped) }) (not-false _ (yes_first _ _ yes).0) in
    let desk = c.with.ensures ∙ ap (with d) (c.moved.ensures ∙ rested_ledger d.ledger order p _ c.rest-feeds.ensures) in
    (λ i. record { desk = desk i; verdict = Ok tt }) ∙ handed_yes (rest_lines d p) (rewritten d (resting p (book d))) d yes
