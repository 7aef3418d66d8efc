-- `waveform::parts::close` meets its contract: line 13, then what fits, and line 11 where that is nothing.
use mathlib.Core.Path.{◌≡◌, sym, ap, ◌∙◌}
use mathlib.Core.Bool.{false, not, ◌&&◌, ◌||◌}
use lib.Dec.{eqb}
use lib.ListN.{length}
use Rattle.std.specs.Prelude.{Ok}
use Rattle.answers.specs.declared.Refusal.TheVariants.{ShortBuffer, NotInOrder}
use Rattle.answers.proofs.Answers.{stops, goes_on_lem, no_line}
use Rattle.text.proofs.Texts.{put_in_front, put_in_front_next, front_untouched}
use Rattle.waveform.specs.Order.{ordered, is_none}
use Rattle.waveform.specs.Parts.{stuck, closing_lines, closing_fitting}
use Rattle.waveform.proofs.Closing.{stuck_says, stuck_nothing, closed_no, closed_yes}
use Rattle.waveform.proofs.parts.close.Goals as goal

pub returns-then-not-can_close : goal.returns-then-not-can_close
returns-then-not-can_close c =
    let a = c.args in
    let n = length a.out.now in
    let k = closed_no n a.cursor NotInOrder (stops _ _ (ap not (sym c.can_close.ensures ∙ c.if-not-can_close.true))) in
    (c.refused.ensures ∙ k.0, front_untouched k.1)

pub returns-then-is_stuck : goal.returns-then-is_stuck
returns-then-is_stuck c =
    let fine : not (is_none c.args.cursor || ordered c.args.cursor) ≡ false = ap not (sym c.can_close.ensures ∙ c.if-not-can_close.false) in
    let short : stuck (closing_lines c.args.cursor) (closing_fitting (length c.args.out.now) c.args.cursor) ≡ c.is_stuck.result =
    let a = c.args in
    let w = c.write_end-page.ensures in
    sym
    (c.is_stuck.ensures
    ∙ (λ i. eqb (put_in_front_next w.0 i) 0 && not (is_none (w.1 i)))
    ∙ stuck_says (closing_fitting (length a.out.now) a.cursor) a.cursor) in
    let a = c.args in
    let n = length a.out.now in
    let stop = short ∙ c.if-is_stuck.true in
    let k = closed_no n a.cursor ShortBuffer (goes_on_lem _ _ _ fine (stops _ _ stop)) in
    (c.refused-then-is_stuck.ensures ∙ k.0, put_in_front c.write_end-page.ensures.0 (stuck_nothing _ _ stop ∙ k.1))

pub returns : goal.returns
returns c =
    let fine : not (is_none c.args.cursor || ordered c.args.cursor) ≡ false = ap not (sym c.can_close.ensures ∙ c.if-not-can_close.false) in
    let short : stuck (closing_lines c.args.cursor) (closing_fitting (length c.args.out.now) c.args.cursor) ≡ c.is_stuck.result =
    let a = c.args in
    let w = c.write_end-page.ensures in
    sym
    (c.is_stuck.ensures
    ∙ (λ i. eqb (put_in_front_next w.0 i) 0 && not (is_none (w.1 i)))
    ∙ stuck_says (closing_fitting (length a.out.now) a.cursor) a.cursor) in
    let a = c.args in
    let n = length a.out.now in
    let w = c.write_end-page.ensures in
    let k = closed_yes n a.cursor (goes_on_lem _ _ _ fine (goes_on_lem _ _ _ (short ∙ c.if-is_stuck.false) no_line)) in
    ((λ i. record { cursor = w.1 i; verdict = Ok tt; bytes = put_in_front_next w.0 i }) ∙ k.0, put_in_front w.0 k.1)
