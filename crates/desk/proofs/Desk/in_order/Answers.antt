-- `desk::Desk::in_order` meets its contract: what is kept beside the state of the box, then that state.
use Rattle.std.proofs.Common.{rules}
use Rattle.lists.proofs.Tests.{passes, fails, last}
use Rattle.desk.specs.State.{in_order}
use Rattle.desk.proofs.Desk.in_order.Goals as goal

pub returns-then-within : goal.returns-then-within
unfolding in_order
returns-then-within c = search (rules, passes, fails, last)

pub returns-else-within : goal.returns-else-within
unfolding in_order
returns-else-within c = search (rules, passes, fails, last)
