-- `desk::Desk::opened` meets its contract: lines 12, 8, 3 and 18, then the feeds' own.
use Rattle.std.proofs.Common.{rules, ◌≡◌, Err, sym, ap, ◌∙◌}
use Rattle.ticks.specs.Ticks.{instant, ticks}
use Rattle.feeds.specs.Lines.{feed_lines, feeds_in}
use Rattle.answers.proofs.Answers.{stops_before}
use Rattle.desk.specs.State.{empty}
use Rattle.desk.specs.Answers.{handed}
use Rattle.desk.specs.Opening.{front_lines, opened_desk, opened_of}
use Rattle.desk.proofs.Answers.{handed_no, handed_told, answered_past}
use Rattle.desk.proofs.Desk.opened.Goals as goal

pub returns-in_err-front_stops : goal.returns-in_err-front_stops
unfolding opened_of
returns-in_err-front_stops c =
    let from : c.from_residual.result ≡ Err c.in_err-front_stops.field-0.0 = search rules in
    let no = stops_before (front_lines c.args.list.now c.args.start c.args.charge) _ _ (sym c.front_stops.ensures ∙ c.in_err-front_stops.was) in
    ap (handed empty) from ∙ handed_no _ _ empty _ no

pub returns : goal.returns
unfolding opened_of
returns c =
    let a = c.args in
    let fs = feeds_in a.list.now in
    let new = opened_desk fs (ticks a.charge) (instant a.start) in
    ap (handed empty) c.laid_out.ensures
    ∙ handed_told (feed_lines (ticks a.charge) fs) new empty
    ∙ answered_past new empty (front_lines a.list.now a.start a.charge) (feed_lines (ticks a.charge) fs) (sym c.front_stops.ensures ∙ c.in_ok-front_stops.was)
