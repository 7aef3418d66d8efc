-- `desk::Desk::rest_stops` meets its contract: line 13, then line 7.
use Rattle.std.proofs.Common.{rules, ◌≡◌, true}
use Rattle.lists.proofs.Places.{length_mapped}
use Rattle.answers.proofs.Answers.{stopped_by, passed_by, last_by}
use Rattle.desk.specs.State.{in_order}
use Rattle.desk.proofs.InOrder.{in_order_lem, in_order_told}
use Rattle.desk.proofs.Desk.rest_stops.Goals as goal

pub returns-in_err-when : goal.returns-in_err-when
returns-in_err-when c = search (rules, stopped_by)

pub owes_at-requires : goal.owes_at-requires
owes_at-requires c =
    let fine : in_order c.args.self ≡ true = search (rules, in_order_told) in
    (in_order_lem _ (record { feeds = search (rules, length_mapped); jobs = search (rules, length_mapped) }) fine).tidy_feeds.few

pub returns : goal.returns
returns c = search (rules, passed_by, last_by)
