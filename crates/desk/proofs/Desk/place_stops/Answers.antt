-- `desk::Desk::place_stops` meets its contract: lines 4 and 5.
use Rattle.std.proofs.Common.{rules}
use Rattle.answers.specs.Answers.{first_of}
use Rattle.answers.proofs.Answers.{stopped_by, passed_by, last_by}
use Rattle.desk.proofs.Desk.place_stops.Goals as goal

pub returns-in_err-when : goal.returns-in_err-when
returns-in_err-when c = search (rules, stopped_by)

pub returns : goal.returns
unfolding first_of
returns c = search (rules, passed_by, last_by)
