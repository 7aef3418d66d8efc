-- `desk::Desk::front_stops` meets its contract: lines 12 and 8, then 3, then 18.
use Rattle.std.proofs.Common.{rules, ◌≡◌, Err, length, sym, ◌∙◌}
use Rattle.answers.proofs.Answers.{stopped_by, passed_by, last_by, stops_before, goes_past}
use Rattle.feeds.specs.Lines.{shape_lines}
use Rattle.desk.proofs.Desk.front_stops.Goals as goal

pub returns-in_err-shape : goal.returns-in_err-shape
returns-in_err-shape c =
    let from : c.from_residual.result ≡ Err c.in_err-shape.field-0.0 = search rules in
    from ∙ sym (stops_before (shape_lines (length c.args.list.now)) _ _ (sym c.shape.ensures ∙ c.in_err-shape.was))

pub returns-in_err-when : goal.returns-in_err-when
returns-in_err-when c =
    rw (goes_past (shape_lines (length c.args.list.now)) _ (sym c.shape.ensures ∙ c.in_ok-shape.was)) (search (rules, stopped_by))

pub returns : goal.returns
returns c =
    rw (goes_past (shape_lines (length c.args.list.now)) _ (sym c.shape.ensures ∙ c.in_ok-shape.was)) (search (rules, passed_by, last_by))
