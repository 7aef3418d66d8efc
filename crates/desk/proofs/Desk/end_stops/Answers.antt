-- `desk::Desk::end_stops` meets its contract: line 13, then line 7.
use Rattle.std.proofs.Common.{rules}
use Rattle.lists.proofs.Places.{length_mapped}
use Rattle.answers.proofs.Answers.{stopped_by, passed_by, last_by}
use Rattle.desk.proofs.InOrder.{few_in_order, in_order_told}
use Rattle.desk.proofs.Desk.end_stops.Goals as goal

pub returns-in_err-when : goal.returns-in_err-when
returns-in_err-when c = search (rules, stopped_by)

pub has-requires : goal.has-requires
has-requires c = search (rules, length_mapped, few_in_order, in_order_told)

pub returns : goal.returns
returns c = search (rules, passed_by, last_by)
