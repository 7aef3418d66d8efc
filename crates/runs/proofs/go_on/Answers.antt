-- `runs::go_on` meets its contract: line 13 twice, then the part, and line 11 where it wrote nothing and a line is due.
use mathlib.Core.Path.{◌≡◌, sym, ap, ◌∙◌}
use mathlib.Core.Bool.{false, not, ◌&&◌}
use borrow.Author.Tests.{eqb-true}
use lib.Dec.{eqb}
use lib.ListN.{length}
use Rattle.lists.proofs.Tests.{both}
use Rattle.text.proofs.Texts.{put_in_front, put_in_front_next, front_untouched}
use Rattle.std.specs.Prelude.{Ok}
use Rattle.answers.specs.declared.Refusal.TheVariants.{ShortBuffer, NotInOrder}
use Rattle.answers.proofs.Answers.{stops, goes_on_lem, no_line}
use Rattle.desk.specs.State.{in_order}
use Rattle.waveform.specs.Cursors.{any_due}
use Rattle.runs.specs.Parts.{clock_of, ordered_at, part_of, stuck}
use Rattle.runs.proofs.Answers.{stuck_nothing, went_no, went_yes}
use Rattle.runs.proofs.go_on.Goals as goal

pub returns-then-not-in_order : goal.returns-then-not-in_order
returns-then-not-in_order c =
    let a = c.args in
    let k = went_no (length a.out.now) a.most a.desk a.cursor NotInOrder (stops _ _ (ap not (sym c.in_order.ensures ∙ c.if-not-in_order.true))) in
    (c.refused.ensures ∙ k.0, front_untouched k.1)

pub returns-then-not-ordered_at : goal.returns-then-not-ordered_at
returns-then-not-ordered_at c =
    let fine : not (in_order c.args.desk) ≡ false = ap not (sym c.in_order.ensures ∙ c.if-not-in_order.false) in
    let a = c.args in
    let k = went_no (length a.out.now) a.most a.desk a.cursor NotInOrder (goes_on_lem _ _ _ fine (stops _ _ (ap not (sym c.ordered_at.ensures ∙ c.if-not-ordered_at.true)))) in
    (c.refused-then-not-ordered_at.ensures ∙ k.0, front_untouched k.1)

pub carry-going-requires : goal.carry-going-requires
unfolding ordered_at
carry-going-requires c = eqb-true _ _ (both _ _ (sym c.ordered_at.ensures ∙ c.if-not-ordered_at.false)).0

pub returns-then-is_stuck : goal.returns-then-is_stuck
unfolding stuck
returns-then-is_stuck c =
    let fine : not (in_order c.args.desk) ≡ false = ap not (sym c.in_order.ensures ∙ c.if-not-in_order.false) in
    let there : not (ordered_at (clock_of c.args.desk) c.args.cursor) ≡ false = ap not (sym c.ordered_at.ensures ∙ c.if-not-ordered_at.false) in
    let short : stuck (part_of (length c.args.out.now) c.args.most c.args.desk c.args.cursor) ≡ c.is_stuck.result =
    let k = c.carry-going.ensures in
    sym (c.is_stuck.ensures ∙ (λ i. eqb (put_in_front_next k.put i) 0 && any_due (k.cursor i).due)) in
    let a = c.args in
    let stop = short ∙ c.if-is_stuck.true in
    let k = went_no (length a.out.now) a.most a.desk a.cursor ShortBuffer (goes_on_lem _ _ _ fine (goes_on_lem _ _ _ there (stops _ _ stop))) in
    (c.refused-then-is_stuck.ensures ∙ k.0, put_in_front c.carry-going.ensures.put (stuck_nothing (part_of (length a.out.now) a.most a.desk a.cursor) stop ∙ k.1))

pub returns : goal.returns
unfolding stuck
returns c =
    let fine : not (in_order c.args.desk) ≡ false = ap not (sym c.in_order.ensures ∙ c.if-not-in_order.false) in
    let there : not (ordered_at (clock_of c.args.desk) c.args.cursor) ≡ false = ap not (sym c.ordered_at.ensures ∙ c.if-not-ordered_at.false) in
    let short : stuck (part_of (length c.args.out.now) c.args.most c.args.desk c.args.cursor) ≡ c.is_stuck.result =
    let k = c.carry-going.ensures in
    sym (c.is_stuck.ensures ∙ (λ i. eqb (put_in_front_next k.put i) 0 && any_due (k.cursor i).due)) in
    let a = c.args in
    let p = c.carry-going.ensures in
    let k = went_yes (length a.out.now) a.most a.desk a.cursor (goes_on_lem _ _ _ fine (goes_on_lem _ _ _ there (goes_on_lem _ _ _ (short ∙ c.if-is_stuck.false) no_line))) in
    ((λ i. record { desk = p.desk i; cursor = p.cursor i; verdict = Ok tt; bytes = put_in_front_next p.put i; steps = p.steps i }) ∙ k.0, put_in_front p.put k.1)
