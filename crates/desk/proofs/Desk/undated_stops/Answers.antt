-- `desk::Desk::undated_stops` meets its contract: lines 13, 1 and 19.
use Rattle.std.proofs.Common.{rules}
use Rattle.answers.proofs.Answers.{stopped_by, passed_by, last_by}
use Rattle.desk.proofs.Desk.undated_stops.Goals as goal

pub returns-in_err-when : goal.returns-in_err-when
returns-in_err-when c = search (rules, stopped_by)

pub returns-in_err-when-2 : goal.returns-in_err-when-2
returns-in_err-when-2 c = search (rules, passed_by, stopped_by)

pub returns : goal.returns
returns c = search (rules, passed_by, last_by)
