-- `desk::Desk::admit` meets its contract: the state with the job is what is asked of room.
use Rattle.std.proofs.Common.{rules, [], ◌≡◌, true, Err, Ok, sym, ap, subst, ◌∙◌}
use mathlib.Core.Logic.{inl, inr}
use borrow.Author.Tests.{not-true, not-false}
use Rattle.answers.proofs.Answers.{stopped_is, passed_by}
use Rattle.answers.specs.declared.Refusal.TheVariants.{DoesNotFit}
use Rattle.room.specs.Walk.{FitsSays}
use Rattle.ledger.specs.State.{InOrder}
use Rattle.ledger.specs.Books.{book_of}
use Rattle.desk.proofs.InOrder.{in_order_lem}
use Rattle.edf.proofs.Reordered.{reordered_fits, reordered_sym}
use Rattle.desk.specs.State.{with}
use Rattle.desk.specs.Asking.{Judged}
use Rattle.desk.proofs.Calls.{taken_ledger}
use Rattle.desk.proofs.Asking.{takes, taken_in_order, taken_book}
use Rattle.desk.proofs.Desk.admit.Goals as goal

pub taken-requires : goal.taken-requires
taken-requires c = takes c.args.self c.args.job c.requires

pub fits-requires : goal.fits-requires
fits-requires c = subst InOrder (sym c.moved-next.ensures) (taken_in_order c.args.self c.args.job c.requires _ c.taken.ensures)

pub returns-in_err-when : goal.returns-in_err-when
unfolding Judged
returns-in_err-when c =
    let from : c.from_residual.result ≡ Err c.in_err-when.field-0.0 = search rules in
    let (misses, which) = stopped_is _ DoesNotFit _ (sym c.when.ensures ∙ c.in_err-when.was) in
    let said = subst (λ l. FitsSays c.fits.result (book_of l)) c.moved-next.ensures c.fits.ensures in
    let same = taken_book c.args.self c.args.job c.requires _ c.taken.ensures in
    inr (λ f. said.no (not-true _ misses) (reordered_fits _ _ same f), ap (Rattle.desk.specs.Answers.handed c.args.self) (from ∙ ap Err which))

pub returns : goal.returns
unfolding Judged
returns c =
    let order : InOrder c.args.self.ledger =
    in_order_lem _ c.requires.sized c.requires.order in
    let fits : c.fits.result ≡ true = not-false _ (passed_by _ DoesNotFit [] _ (sym c.when.ensures ∙ c.in_ok-when.was)).0 in
    let said = subst (λ l. FitsSays c.fits.result (book_of l)) c.moved-next.ensures c.fits.ensures in
    let same = taken_book c.args.self c.args.job c.requires _ c.taken.ensures in
    let new = c.moved-next.ensures ∙ taken_ledger c.args.self.ledger order c.args.job _ c.requires.free c.taken.ensures in
    inl (reordered_fits _ _ (reordered_sym _ _ same) (said.yes fits), λ i. record { desk = (c.with.ensures ∙ ap (with c.args.self) new) i; verdict = Ok tt })
