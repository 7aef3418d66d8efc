-- A line leads further on.
use Rattle.std.proofs.Common.{ap, arith}
use Rattle.std.proofs.lemmas.Result.{IfOk-weaker}
use Rattle.rehearsal.proofs.Replies.{read_on}
use Rattle.waving.proofs.hear.Goals as goal

pub returns-clause-told : goal.returns-clause-told
returns-clause-told g c =
    let on = read_on _ _ _ _ c.read-read.ensures c.requires.lines c.requires.more in
    IfOk-weaker
    c.run.result _ _
    (λ gone there.
    let from = ap (λ p. p.from) there in
    let lines = ap (λ p. p.lines) there in
    record {
      further = omega (arith, from, on.further);
      inside = omega (arith, from, on.inside);
      lines = omega (arith, from, lines, on.lines);
    })
    c.run.ensures.there
