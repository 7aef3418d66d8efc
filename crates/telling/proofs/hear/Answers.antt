-- A line leads further on, and leaves a good desk.
use Rattle.std.proofs.Common.{rules, ap, arith}
use Rattle.std.proofs.lemmas.Result.{IfOk-weaker}
use Rattle.rehearsal.proofs.Replies.{read_on, read_good}
use Rattle.telling.proofs.hear.Goals as goal

pub run-requires : goal.run-requires
run-requires g c = record { good = read_good _ _ _ _ c.requires.buffer.good c.read-read.ensures; filled = search rules; large = search rules }

pub returns-clause-told : goal.returns-clause-told
returns-clause-told g c =
    let on = read_on _ _ _ _ c.read-read.ensures c.requires.lines c.requires.more in
    IfOk-weaker
    c.run.result _ _
    (λ gone ran.
    let from = ap (λ p. p.from) ran.place in
    let lines = ap (λ p. p.lines) ran.place in
    record {
      further = omega (arith, from, on.further);
      inside = omega (arith, from, on.inside);
      lines = omega (arith, from, lines, on.lines);
      buffer = record { good = ran.buffer.good; filled = omega (arith, ran.buffer.filled); large = omega (arith, ran.buffer.large) };
    })
    c.run.ensures.told
