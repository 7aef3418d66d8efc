-- `desk::Desk::opened_shared` meets its contract: lines 12, 8, 3 and 18, then 19, then the feeds' own; a yes has the share.
use Rattle.std.proofs.Common.{rules, ◌≡◌, Err, Ok, not, [], ◌∷◌, sym, ap, ◌∙◌}
use Rattle.ticks.specs.Ticks.{instant, ticks}
use Rattle.feeds.specs.Lines.{feed_lines, feeds_in}
use Rattle.answers.specs.Answers.{first_of}
use Rattle.answers.specs.declared.Refusal.TheVariants.{NoShare}
use Rattle.answers.proofs.Answers.{stops, stops_before, stopped_is, passed_by, told_no, told_yes}
use Rattle.desk.specs.State.{empty, sharing}
use Rattle.desk.specs.Answers.{handed}
use Rattle.desk.specs.Opening.{front_lines, share_line, opened_desk, opened_shared_of}
use Rattle.desk.proofs.Answers.{handed_no, handed_yes, answered_past, answered_on}
use Rattle.desk.proofs.Desk.opened_shared.Goals as goal

pub returns-in_err-front_stops : goal.returns-in_err-front_stops
unfolding opened_shared_of
returns-in_err-front_stops c =
    let from : c.from_residual.result ≡ Err c.in_err-front_stops.field-0.0 = search rules in
    let no = stops_before (front_lines c.args.list.now c.args.start c.args.charge) _ _ (sym c.front_stops.ensures ∙ c.in_err-front_stops.was) in
    ap (handed empty) from ∙ handed_no _ _ empty _ no

pub returns-in_err-when : goal.returns-in_err-when
unfolding opened_shared_of
returns-in_err-when c =
    let a = c.args in
    let new = sharing a.share (opened_desk (feeds_in a.list.now) (ticks a.charge) (instant a.start)) in
    let ls = feed_lines (ticks a.charge) (feeds_in a.list.now) in
    let from : c.from_residual-in_err-when.result ≡ Err c.in_err-when.field-0.0 = search rules in
    let (holds, which) = stopped_is _ NoShare _ (sym c.when.ensures ∙ c.in_err-when.was) in
    let no : first_of (share_line a.share ∷ ls) ≡ Err NoShare = stops (share_line a.share) ls (ap not (sym c.is_share.ensures) ∙ holds) in
    ap (handed empty) (from ∙ ap Err which) ∙ handed_no (share_line a.share ∷ ls) new empty NoShare no
    ∙ answered_past new empty (front_lines a.list.now a.start a.charge) (share_line a.share ∷ ls) (sym c.front_stops.ensures ∙ c.in_ok-front_stops.was)

pub returns-in_err-laid_out : goal.returns-in_err-laid_out
unfolding opened_shared_of
returns-in_err-laid_out c =
    let a = c.args in
    let laid = opened_desk (feeds_in a.list.now) (ticks a.charge) (instant a.start) in
    let ls = feed_lines (ticks a.charge) (feeds_in a.list.now) in
    let from : c.from_residual-in_err-laid_out.result ≡ Err c.in_err-laid_out.field-0.0 = search rules in
    let no = told_no (first_of ls) laid _ (sym c.laid_out.ensures ∙ c.in_err-laid_out.was) in
    let is_one = (passed_by _ NoShare [] _ (sym c.when.ensures ∙ c.in_ok-when.was)).0 in
    ap (handed empty) from ∙ handed_no ls (sharing a.share laid) empty _ no
    ∙ answered_on (sharing a.share laid) empty (share_line a.share) ls (ap not (sym c.is_share.ensures) ∙ is_one)
    ∙ answered_past (sharing a.share laid) empty (front_lines a.list.now a.start a.charge) (share_line a.share ∷ ls) (sym c.front_stops.ensures ∙ c.in_ok-front_stops.was)

pub returns : goal.returns
unfolding opened_shared_of
returns c =
    let a = c.args in
    let laid = opened_desk (feeds_in a.list.now) (ticks a.charge) (instant a.start) in
    let ls = feed_lines (ticks a.charge) (feeds_in a.list.now) in
    let (says, is) = told_yes (first_of ls) laid _ (sym c.laid_out.ensures ∙ c.in_ok-laid_out.was) in
    let is_one = (passed_by _ NoShare [] _ (sym c.when.ensures ∙ c.in_ok-when.was)).0 in
    let desk = c.sharing.ensures ∙ ap (sharing a.share) is in
    (λ i. record { desk = desk i; verdict = Ok tt }) ∙ handed_yes ls (sharing a.share laid) empty says
    ∙ answered_on (sharing a.share laid) empty (share_line a.share) ls (ap not (sym c.is_share.ensures) ∙ is_one)
    ∙ answered_past (sharing a.share laid) empty (front_lines a.list.now a.start a.charge) (share_line a.share ∷ ls) (sym c.front_stops.ensures ∙ c.in_ok-front_stops.was)
