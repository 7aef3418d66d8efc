-- `desk::Desk::laid_out` meets its contract: lines 2, 9 and 10, then the pieces of the opening instant.
use Rattle.std.proofs.Common.{rules, arith, ◌≡◌, Err, Ok, map, sym, ap, subst, ◌∙◌}
use Rattle.lists.specs.Lists.{Each}
use Rattle.ticks.specs.Ticks.{instant, ticks}
use Rattle.feeds.specs.Feeds.{in_use, feeds_of, FeedIn, Tidy}
use Rattle.feeds.specs.Lines.{feed_lines, feeds_in}
use Rattle.feeds.proofs.Passing.{in_use_of, tidy_of}
use Rattle.feeds.proofs.Lines.{yes_passing}
use Rattle.feeds.proofs.Lent.{few_read, nothing_yet}
use Rattle.feeds.specs.Pieces.{arrived}
use Rattle.answers.specs.Answers.{first_of, yes_with}
use Rattle.ledger.specs.State.{laid}
use Rattle.desk.specs.State.{with}
use Rattle.desk.specs.Opening.{opened_desk}
use Rattle.desk.proofs.Opening.{opened_ledger, front_passes}
use Rattle.desk.proofs.Desk.laid_out.Goals as goal

pub taken-feeds-requires : goal.taken-feeds-requires
taken-feeds-requires c = (front_passes c.args.list.now c.args.start c.args.charge c.requires).0

pub sound-requires : goal.sound-requires
sound-requires c =
    let front = front_passes c.args.list.now c.args.start c.args.charge c.requires in
    let tidy = subst Tidy (sym c.taken-feeds.ensures) (tidy_of (feeds_in c.args.list.now) (few_read c.args.list.now front.0)) in
    (tidy.few, omega (arith, ap (λ l. l.0) c.of-charge.ensures, front.2))

pub returns-in_err-sound : goal.returns-in_err-sound
returns-in_err-sound c =
    let fs = feeds_in c.args.list.now in
    let fed = ap in_use c.taken-feeds.ensures ∙ in_use_of fs in
    let from : c.from_residual.result ≡ Err c.in_err-sound.field-0.0 = search rules in
    let says : first_of (feed_lines (ticks c.args.charge) fs) ≡ Err c.in_err-sound.field-0.0 =
    sym (c.sound.ensures ∙ (λ i. first_of (feed_lines (c.of-charge.ensures i) (fed i)))) ∙ c.in_err-sound.was in
    from ∙ ap (λ v. yes_with v (opened_desk fs (ticks c.args.charge) (instant c.args.start))) (sym says)

pub arrive-requires : goal.arrive-requires
arrive-requires c =
    let front = front_passes c.args.list.now c.args.start c.args.charge c.requires in
    let fs = feeds_in c.args.list.now in
    let fed = ap in_use c.taken-feeds.ensures ∙ in_use_of fs in
    let tidy = subst Tidy (sym c.taken-feeds.ensures) (tidy_of fs (few_read c.args.list.now front.0)) in
    let yes : first_of (feed_lines (ticks c.args.charge) fs) ≡ Ok tt =
    sym (c.sound.ensures ∙ (λ i. first_of (feed_lines (c.of-charge.ensures i) (fed i)))) ∙ c.in_ok-sound.was in
    let passing = yes_passing (ticks c.args.charge) fs (few_read c.args.list.now front.0) yes in (
      tidy,
      subst (Each FeedIn) (sym fed) passing.within,
      omega (arith, ap (λ l. l.0) c.of-charge.ensures, front.2),
      omega (arith, ap (λ t. t.0) c.at-clock.ensures, front.1),
    )

pub returns : goal.returns
returns c =
    let a = c.args in
    let fs = feeds_in c.args.list.now in
    let fed = ap in_use c.taken-feeds.ensures ∙ in_use_of fs in
    let yes : first_of (feed_lines (ticks c.args.charge) fs) ≡ Ok tt =
    sym (c.sound.ensures ∙ (λ i. first_of (feed_lines (c.of-charge.ensures i) (fed i)))) ∙ c.in_ok-sound.was in
    let come = c.arrive.ensures ∙ (λ i. feeds_of (map (arrived (c.of-charge.ensures i) (c.at-clock.ensures i)) (fed i))) in
    let ledger = c.laid-ledger.ensures ∙ (λ i. laid (c.at-clock.ensures i) (c.of-charge.ensures i) (come i)) in
    let desk = c.with.ensures ∙ (λ i. with (c.none.ensures i) (ledger i)) ∙ opened_ledger fs (ticks a.charge) (instant a.start) (nothing_yet a.list.now) in
    ap Ok desk ∙ ap (λ v. yes_with v (opened_desk fs (ticks a.charge) (instant a.start))) (sym yes)
