-- `runs::carry` meets its contract: before each turn so many steps are taken and their lines written, and the others are left.
use mathlib.Core.Path.{◌≡◌, sym, ap, ◌∙◌}
use mathlib.Core.Bool.{true, not}
use native.Mathlib.Omega.{arith}
use Rattle.text.proofs.Texts.{put_length}
use Rattle.answers.specs.Answers.{is_yes}
use Rattle.answers.proofs.Answers.{is_yes_lem}
use Rattle.desk.proofs.Named.{step_in_time}
use Rattle.waveform.proofs.SoFar.{same_run}
use Rattle.runs.specs.Parts.{clock_of}
use Rattle.runs.proofs.Carrying.{due_stops, refusal_stops, nothing_done, one_more, part_done, part_full, finished}
use Rattle.runs.proofs.carry.Goals as goal

pub loop-steps-init : goal.loop-steps-init
loop-steps-init c =
    let p = c.write_due-page.ensures in
    nothing_done (omega (arith, p.0.room, p.0.next, put_length p.0)) (ap (λ y. y.clock) p.1 ∙ (same_run _ c.args.cursor).0 ∙ c.requires)

pub stepped-requires : goal.stepped-requires
stepped-requires c =
    let taken : is_yes c.step-stepped.result.verdict ≡ true = c.is_err.ensures.negation ∙ ap not c.if-is_err.false in
    let l = c.loop-steps in
    let d = l.desk in
    let k : l.page.cursor.clock ≡ clock_of d = l.invariant.clock in
    omega (arith, k, step_in_time d (is_yes_lem _ (ap (λ x. is_yes x.verdict) (sym c.step-stepped.ensures) ∙ taken)))

pub loop-steps-preserved : goal.loop-steps-preserved
loop-steps-preserved c =
    let taken : is_yes c.step-stepped.result.verdict ≡ true = c.is_err.ensures.negation ∙ ap not c.if-is_err.false in
    one_more c.loop-steps.invariant c.loop-steps-test.true (sym c.any.ensures ∙ c.if-any.false) c.step-stepped.ensures taken c.stepped.ensures c.write_due-page-in-loop-steps.ensures.0 c.write_due-page-in-loop-steps.ensures.1

pub returns-after-loop-steps : goal.returns-after-loop-steps
returns-after-loop-steps c =
    let a = c.args in
    let g = c.loop-steps.invariant in
    finished a.out.now a.most a.desk a.cursor c.write_due-page.ensures g (λ xs h. part_full g xs h c.loop-steps-test.false)

pub returns-then-any : goal.returns-then-any
returns-then-any c =
    let a = c.args in
    let g = c.loop-steps.invariant in
    let due = sym c.any.ensures ∙ c.if-any.true in
    finished a.out.now a.most a.desk a.cursor c.write_due-page.ensures g (λ xs h. part_done g xs h (due_stops _ due))

pub returns-then-is_err : goal.returns-then-is_err
returns-then-is_err c =
    let a = c.args in
    let g = c.loop-steps.invariant in
    let still = sym c.any.ensures ∙ c.if-any.false in
    let no = ap (λ x. is_yes x.verdict) (sym c.step-stepped.ensures) ∙ c.is_err.ensures.negation ∙ ap not c.if-is_err.true in
    finished a.out.now a.most a.desk a.cursor c.write_due-page.ensures g (λ xs h. part_done g xs h (refusal_stops _ still no))
