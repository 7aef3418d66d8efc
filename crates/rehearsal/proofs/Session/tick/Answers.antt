-- `rehearsal::Session::tick` meets its contract: on a good desk the step below it is the desk's own.
use Rattle.std.proofs.Common.{sym, ap, ◌∙◌, ◌-◌}
use Rattle.desk.proofs.Reachable.{good_order}
use Rattle.sayings.specs.declared.Said.{Said}
use Rattle.rehearsal.specs.Session.{with_desk, with_left, reply}
use Rattle.rehearsal.proofs.Replies.{given, refused}
use Rattle.rehearsal.proofs.Session.tick.Goals as goal

pub step-requires : goal.step-requires
step-requires c = good_order c.args.self.desk c.requires.1

pub returns-in-Ok : goal.returns-in-Ok
returns-in-Ok c =
    let s = c.args.self in
    let x = c.in-Ok.stepped in
    ap (λ d. reply (with_left (with_desk s d) (s.left - 1)) (Said.Tick s.desk.ledger.clock.0 x.who)) c.with.ensures
    ∙ given s c.requires.1 x (sym c.in-Ok.is ∙ c.step.ensures)

pub returns-in-Err : goal.returns-in-Err
returns-in-Err c =
    ap (λ n. reply (with_left c.args.self 0) (Said.Stopped n)) c.number.ensures
    ∙ refused c.args.self c.requires.1 c.in-Err.refusal (sym c.in-Err.is ∙ c.step.ensures)
