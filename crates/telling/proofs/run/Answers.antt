-- Each tick leaves fewer of them, and a good desk.
use Rattle.std.proofs.Common.{◌≡◌, rules, arith, sym, ap, subst}
use Rattle.rehearsal.specs.Session.{tick_of}
use Rattle.rehearsal.proofs.Replies.{GoodReply, tick_good, tick_less}
use Rattle.telling.proofs.run.Goals as goal

pub loop-going-smaller : goal.loop-going-smaller
loop-going-smaller g c =
    let s = c.loop-going.going.session in
    let e : c.tick-reply.result.session.left ≡ (tick_of s).session.left = ap (λ r. r.session.left) c.tick-reply.ensures in
    omega (arith, e, tick_less s (omega arith))

pub loop-going-preserved : goal.loop-going-preserved
loop-going-preserved g c =
    let s = c.loop-going.going.session in
    let before = c.loop-going.invariant.1 in
    let good = subst GoodReply (sym c.tick-reply.ensures) (tick_good s before.buffer.good) in
    (search rules, record { place = before.place; buffer = record { good = good; filled = search rules; large = search rules } })
