-- `showing::tell` meets its contract: the line finds its place, and is put there.
use Rattle.std.proofs.Common.{rules, ◌≤◌, length}
use Rattle.showing.proofs.Telling.{kept_in_place, line_added}
use Rattle.showing.proofs.tell.Goals as goal

pub returns-clause-told : goal.returns-clause-told
returns-clause-told g c =
    let k = kept_in_place c.args.out.now c.args.at c.in_ok-to.to c.in_ok-to.ensures.place in
    let b : c.line.result ≤ length c.args.out.now = search rules in
    (b, line_added k c.line.ensures)
