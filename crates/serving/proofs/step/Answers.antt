-- `serving::step` meets its contract: line 3, then the tick goes to the foremost piece and the pieces that come are ready.
use mathlib.Core.Path.{◌≡◌, sym, ap, subst, ◌∙◌}
use mathlib.Core.Bool.{true, false}
use mathlib.Core.List.{[], map}
use native.Mathlib.Omega.{arith}
use lib.Dec.{ltb}
use Rattle.lists.specs.Lists.{Each}
use Rattle.ticks.specs.Ticks.{last_instant}
use Rattle.feeds.specs.Feeds.{FeedIn, in_use, feeds_of, Tidy}
use Rattle.feeds.specs.Pieces.{arrived}
use Rattle.feeds.proofs.Passing.{in_use_of}
use Rattle.jobs.specs.Jobs.{live}
use Rattle.std.specs.Prelude.{Ok, Err}
use borrow.Author.Rules.{rules}
use Rattle.answers.specs.declared.Refusal.TheVariants.{PastLast}
use Rattle.answers.proofs.Answers.{stopped_is, passed_by}
use Rattle.std.proofs.lemmas.Bool.Decides.{nat_tests}
use Rattle.edf.specs.Step.{runner}
use Rattle.ledger.specs.State.{moved}
use Rattle.ledger.specs.Books.{book_of, who_of}
use Rattle.serving.specs.Tick.{served_feeds}
use Rattle.serving.proofs.Front.{front_who}
use Rattle.serving.proofs.Owed.{runner_owed}
use Rattle.serving.proofs.Steps.{owing_jobs, given_feeds, given}
use Rattle.serving.proofs.Answers.{stepped_refused, front_stepped}
use Rattle.serving.proofs.step.Goals as goal

pub returns-in_err-when : goal.returns-in_err-when
returns-in_err-when c =
    let from : c.from_residual.result ≡ Err c.in_err-when.field-0.0 = search rules in
    let (holds, which) = stopped_is _ PastLast _ (sym c.when.ensures ∙ c.in_err-when.was) in
    let late : ltb c.args.ledger.clock.0 last_instant ≡ false = grind (arith, nat_tests) in
    from ∙ ap Err which ∙ stepped_refused c.args.ledger late

pub serve_feeds-requires : goal.serve_feeds-requires
serve_feeds-requires c =
    let runs : (runner (book_of c.args.ledger)).who ≡ who_of c.foremost-front.result.who =
    front_who (book_of c.args.ledger) c.foremost-front.result c.foremost-front.ensures in
    let l = c.args.ledger in
    (c.requires.tidy_feeds, runner_owed c.foremost-front.result.who l.charge l.clock (in_use l.feeds) (live l.table) runs)

pub arrive-feeds-requires : goal.arrive-feeds-requires
arrive-feeds-requires c =
    let l = c.args.ledger in
    let ready = given_feeds l c.requires c.foremost-front.result.who in
    (subst Tidy (sym c.serve_feeds.ensures) ready.0, subst (λ s. Each FeedIn (in_use s)) (sym c.serve_feeds.ensures) ready.1, omega (arith, c.requires.charge), omega (arith, c.requires.clock, ap (λ t. t.0) c.next-clock.ensures))

pub serve_jobs-table-requires : goal.serve_jobs-table-requires
serve_jobs-table-requires c = (c.requires.tidy_table, owing_jobs c.args.ledger c.requires, c.requires.jobs.figures, c.requires.jobs.once)

pub returns : goal.returns
returns c =
    let written : c.moved.result ≡ given c.args.ledger c.foremost-front.result.who =
    let l = c.args.ledger in
    let gs = served_feeds c.foremost-front.result.who (in_use l.feeds) in
    let clock = c.next-clock.ensures in
    let served = ap in_use c.serve_feeds.ensures ∙ in_use_of gs in
    let feeds = c.arrive-feeds.ensures ∙ (λ i. feeds_of (map (arrived l.charge (clock i)) (served i))) in
    c.moved.ensures ∙ (λ i. moved l (clock i) (feeds i) (c.serve_jobs-table.ensures i)) in
    let goes = (passed_by _ PastLast [] _ (sym c.when.ensures ∙ c.in_ok-when.was)).0 in
    let early : ltb c.args.ledger.clock.0 last_instant ≡ true = grind (arith, nat_tests) in
    (λ i. Ok (record { ledger = written i; who = c.foremost-front.result.who; owes = c.owes_then.ensures i }))
    ∙ front_stepped c.args.ledger c.foremost-front.result c.requires c.foremost-front.ensures early
