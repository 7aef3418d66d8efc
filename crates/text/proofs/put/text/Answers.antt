-- `text::put::text` meets its contract: before each turn the bytes passed are put. Assumes nothing.
use mathlib.Core.Path.{sym, ap, ◌∙◌, subst}
use native.Mathlib.Numerals.{add-one}
use native.Mathlib.Omega.{arith}
use lib.ListN.{take}
use lib.Seq.{take-suc}
use Rattle.text.specs.Put.{Put}
use Rattle.text.proofs.Texts.{put_after}
use Rattle.text.proofs.put.text.Goals as goal

pub loop-b-preserved : goal.loop-b-preserved
loop-b-preserved c =
    let b = c.args.bytes.now in
    subst (Put c.args.out.now _ c.args.at c.byte-to.result)
    (sym (ap (λ n. take n b) (add-one c.loop-b.b-index) ∙ take-suc b c.loop-b.b-index 0 (omega (arith, c.loop-b-test.true))))
    (put_after c.loop-b.invariant c.byte-to.ensures)
