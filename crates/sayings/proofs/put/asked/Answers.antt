use native.Mathlib.Omega.{arith}
use lib.ListN.{length-append}
use Rattle.text.proofs.Numbers.{digits_wide}
use Rattle.text.proofs.Texts.{put_length, put_after}
use Rattle.sayings.proofs.put.asked.Goals as goal

pub verdict-requires : goal.verdict-requires
verdict-requires c =
    let p = c.worded-a.ensures in
    (omega (arith, digits_wide c.from.result (omega arith), simp length-append at p.next, put_length p, c.requires), omega arith)

pub returns : goal.returns
returns c = rw c.from.ensures at (put_after c.worded-a.ensures c.verdict.ensures)
