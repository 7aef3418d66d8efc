-- `runs::begin` meets its contract: line 13, then the beginning of a run.
use Rattle.std.proofs.Common.{rules, ◌≡◌, [], ◌∷◌, Err, Ok, sym, ap, ◌∙◌}
use Rattle.answers.specs.Answers.{first_of, yes_with}
use Rattle.answers.proofs.Answers.{stopped_by, passed_by, no_line}
use Rattle.desk.specs.Calls.{disorder}
use Rattle.waveform.specs.Cursors.{begun}
use Rattle.runs.specs.Parts.{clock_of, begun_of}
use Rattle.runs.proofs.begin.Goals as goal

pub returns-in_err-when : goal.returns-in_err-when
unfolding begun_of
returns-in_err-when c =
    let d = c.args.desk in
    let from : c.from_residual.result ≡ Err c.in_err-when.field-0.0 = search rules in
    let no : first_of (disorder c.args.desk ∷ []) ≡ Err c.in_err-when.field-0.0 = search (rules, stopped_by) in
    from ∙ ap (λ v. yes_with v (begun (clock_of d))) (sym no)

pub returns : goal.returns
unfolding begun_of
returns c =
    let d = c.args.desk in
    let yes : first_of (disorder c.args.desk ∷ []) ≡ Ok tt = search (rules, passed_by, no_line) in
    ap Ok c.begin.ensures ∙ ap (λ v. yes_with v (begun (clock_of d))) (sym yes)
