-- Each stretch that is told stands further on in the text, so they end, and none is left.
use Rattle.std.proofs.Common.{rules, arith, sym, ◌∙◌}
use Rattle.waveform.proofs.Onward.{next_gets_on}
use Rattle.showing.proofs.Telling.{left_next, listed}
use Rattle.showing.proofs.tell_stretches.Goals as goal

pub loop-ran-smaller : goal.loop-ran-smaller
loop-ran-smaller g c =
    let on = next_gets_on c.args.text.now c.loop-ran.mark c.in-Next.ran c.in-Next.on (sym c.in-Next.ensures) in
    omega (arith, on.further, on.inside)

pub loop-ran-preserved : goal.loop-ran-preserved
loop-ran-preserved g c =
    let t = c.in_ok-at.ensures.told in
    let before = c.loop-ran.invariant in
    (search rules, omega (arith, t.0, before.0), λ last all k. left_next c.args.text.now last all c.loop-ran.mark c.in-Next.on c.in-Next.ran (sym c.in-Next.ensures) t.1 (before.2 last all k))

-- where something else is told, no stretch is
pub returns-clause-told : goal.returns-clause-told
returns-clause-told g c = (
  c.loop-ran.invariant.1,
  listed c.args.text.now _ _ _ _ c.loop-ran.mark c.loop-ran.invariant.2 (λ x m e. c.in_default.not-Next x m (c.next.ensures ∙ e)),
)
