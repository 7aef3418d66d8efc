-- `waveform::read_head` meets its contract: a line that is not one of those so far is one of those that are left.
use mathlib.Core.Path.{sym, ap, ◌∙◌}
use Rattle.text.specs.Fields.{same}
use Rattle.waveform.proofs.Bytes.{head_here, head_past, head_none}
use Rattle.waveform.proofs.read_head.Goals as goal

pub returns-then-eq : goal.returns-then-eq
unfolding same
returns-then-eq c =
    let s = c.args.s.now in
    sym (c.loop-k.invariant ∙ head_here c.loop-k.k s c.loop-k-test.true (ap (same s) (sym c.head.ensures) ∙ sym c.eq.ensures ∙ c.if-eq.true))

pub loop-k-preserved : goal.loop-k-preserved
unfolding same
loop-k-preserved c =
    let s = c.args.s.now in
    c.loop-k.invariant ∙ head_past c.loop-k.k s c.loop-k-test.true (ap (same s) (sym c.head.ensures) ∙ sym c.eq.ensures ∙ c.if-eq.false)

pub returns : goal.returns
returns c = sym (c.loop-k.invariant ∙ head_none c.loop-k.k c.args.s.now c.loop-k-test.false)
