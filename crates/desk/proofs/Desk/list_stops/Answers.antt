-- `desk::Desk::list_stops` meets its contract: line 13, then line 11.
use Rattle.std.proofs.Common.{rules, arith, ◌≤◌}
use Rattle.lists.proofs.Places.{length_mapped}
use Rattle.answers.proofs.Answers.{stopped_by, passed_by, last_by}
use Rattle.desk.proofs.InOrder.{few_in_order, in_order_told}
use Rattle.jobs.specs.Jobs.{most_jobs}
use Rattle.desk.proofs.Desk.list_stops.Goals as goal

pub returns-in_err-when : goal.returns-in_err-when
returns-in_err-when c = search (rules, stopped_by)

pub overflow_mul-self : goal.overflow_mul-self
overflow_mul-self c =
    let few : c.args.self.ledger.table.count ≤ most_jobs = search (rules, length_mapped, few_in_order, in_order_told) in
    omega (arith, few)

pub returns : goal.returns
returns c = search (rules, passed_by, last_by)
