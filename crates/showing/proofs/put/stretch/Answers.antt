-- `showing::put::stretch` meets its contract: one after the other, and the room is enough for any numbers.
use native.Mathlib.Omega.{arith}
use lib.ListN.{length-append}
use Rattle.text.proofs.Numbers.{digits_wide}
use Rattle.text.proofs.Texts.{put_length, put_after}
use Rattle.showing.proofs.put.stretch.Goals as goal

pub worded-b-requires : goal.worded-b-requires
worded-b-requires c =
    let p = c.worded-a.ensures in
    omega (arith, digits_wide c.args.stretch.from (omega arith), simp length-append at p.next, put_length p, c.requires)

pub who-requires : goal.who-requires
who-requires c =
    let p = c.worded-a.ensures in
    let q = c.worded-b.ensures in
    omega (arith, digits_wide c.args.stretch.from (omega arith), digits_wide c.args.stretch.to (omega arith), simp length-append at p.next, put_length p, simp length-append at q.next, put_length q, c.requires)

pub returns : goal.returns
returns c = put_after c.worded-a.ensures (put_after c.worded-b.ensures c.who.ensures)
