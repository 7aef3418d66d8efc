-- `questions::explain` meets its contract: the instant that decides is told.
use mathlib.Core.Path.{sym, ap, subst, ◌∙◌}
use Prim.Native.Nat.{◌<◌, ◌≤◌}
use borrow.Author.Rules.{rules}
use native.Mathlib.Omega.{arith}
use mir.Syntax.{w64}
use mir.Val.{SFits}
use mir.ValLaws.{to_z-of_z}
use Rattle.edf.specs.Book.{Book}
use Rattle.edf.proofs.Reordered.{reordered_sym, reordered_owed, reordered_telling}
use Rattle.answers.specs.declared.Refusal.TheVariants.{DoesNotFit}
use Rattle.std.specs.Prelude.{Ok, Err}
use Rattle.ledger.specs.State.{InOrder}
use Rattle.ledger.specs.Books.{book_of}
use Rattle.desk.proofs.InOrder.{in_order_lem}
use Rattle.reasons.specs.Reasons.{Tells, near_reason}
use Rattle.desk.specs.Asking.{with_job}
use Rattle.desk.proofs.Asking.{takes, taken_in_order, taken_book}
use Rattle.questions.proofs.Whys.{told_after, short_told, room_told}
use Rattle.questions.proofs.explain.Goals as goal

pub taken-requires : goal.taken-requires
taken-requires c = takes c.args.desk c.args.job c.requires

pub tightest-debt-requires : goal.tightest-debt-requires
tightest-debt-requires c = subst InOrder (sym c.moved-all.ensures) (taken_in_order c.args.desk c.args.job c.requires _ c.taken.ensures)

pub reason_at-reason-requires : goal.reason_at-reason-requires
reason_at-reason-requires c =
    let order : InOrder c.args.desk.ledger =
    in_order_lem _ c.requires.sized c.requires.order in
    let all : Book =
    with_job c.args.desk c.args.job in
    let tells : Tells c.args.desk.ledger.clock all c.tightest-debt.result =
    let r = c.tightest-debt.result in
    let same = taken_book c.args.desk c.args.job c.requires _ c.taken.ensures in
    let said = subst (λ l. Tells l.clock (book_of l) r) c.moved-all.ensures c.tightest-debt.ensures in
    record {
      telling = reordered_telling _ _ (reordered_sym _ _ same) r.at.0 said.telling;
      reach = said.reach;
      owed = said.owed ∙ sym (reordered_owed _ _ same r.at.0);
    } in
    let after : c.args.desk.ledger.clock.0 < c.tightest-debt.result.at.0 =
    told_after c.args.desk c.args.job c.tightest-debt.result.at.0 tells.telling in
    (order, omega (arith, c.requires.job.owed.1, order.charge), tells.reach, omega (arith, after))

pub returns-then-lt : goal.returns-then-lt
returns-then-lt c =
    let all : Book =
    with_job c.args.desk c.args.job in
    let tells : Tells c.args.desk.ledger.clock all c.tightest-debt.result =
    let r = c.tightest-debt.result in
    let same = taken_book c.args.desk c.args.job c.requires _ c.taken.ensures in
    let said = subst (λ l. Tells l.clock (book_of l) r) c.moved-all.ensures c.tightest-debt.ensures in
    record {
      telling = reordered_telling _ _ (reordered_sym _ _ same) r.at.0 said.telling;
      reach = said.reach;
      owed = said.owed ∙ sym (reordered_owed _ _ same r.at.0);
    } in
    let a = c.args in
    let r = c.tightest-debt.result in
    let short : c.ticks_since.result.0 < c.tightest-debt.result.owed.0 = search rules in
    short_told a.desk a.job r.at.0 tells.telling _ (omega (arith, short, tells.owed, ap (λ l. l.0) c.ticks_since.ensures))
    (λ i. record { verdict = Err DoesNotFit; reason = c.reason_at-reason.ensures i })

pub returns : goal.returns
returns c =
    let all : Book =
    with_job c.args.desk c.args.job in
    let tells : Tells c.args.desk.ledger.clock all c.tightest-debt.result =
    let r = c.tightest-debt.result in
    let same = taken_book c.args.desk c.args.job c.requires _ c.taken.ensures in
    let said = subst (λ l. Tells l.clock (book_of l) r) c.moved-all.ensures c.tightest-debt.ensures in
    record {
      telling = reordered_telling _ _ (reordered_sym _ _ same) r.at.0 said.telling;
      reach = said.reach;
      owed = said.owed ∙ sym (reordered_owed _ _ same r.at.0);
    } in
    let narrow : SFits w64 c.reason_at-reason.result.margin =
    record { sfits = c.reason_at-reason.type_inv.1.1.1.1.1.1.0.1 } in
    let a = c.args in
    let r = c.tightest-debt.result in
    let time : c.tightest-debt.result.owed.0 ≤ c.ticks_since.result.0 = search rules in
    room_told a.desk a.job r.at.0 tells.telling _ (omega (arith, time, tells.owed, ap (λ l. l.0) c.ticks_since.ensures))
    (λ i. record {
      verdict = Ok tt;
      reason = (c.near.ensures ∙ ap (near_reason r.at) (to_z-of_z w64 c.reason_at-reason.result.margin narrow ∙ ap (λ x. x.margin) c.reason_at-reason.ensures)) i;
    })
