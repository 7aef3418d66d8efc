-- `reasons::reason_at` meets its contract: the parts make all that is owed.
use mathlib.Core.Path.{◌≡◌, ap, ◌∙◌}
use Prim.Native.Nat.{◌+◌}
use native.Mathlib.Omega.{arith}
use lib.IntN.{pos, ◌-ℤ◌}
use mir.Syntax.{w64}
use mir.ValLaws.{to_z-of_z}
use borrow.Author.Rules.{rules}
use Rattle.ticks.specs.Ticks.{ticks}
use Rattle.edf.specs.Book.{Book}
use Rattle.edf.specs.Owed.{owed_by}
use Rattle.edf.specs.Margin.{margin}
use Rattle.edf.specs.Calls.{taking}
use Rattle.ledger.specs.Books.{book_of, book_job}
use Rattle.reasons.proofs.Parts.{parts_make_owed}
use Rattle.reasons.proofs.reason_at.Goals as goal

pub returns : goal.returns
unfolding margin owed_by taking
returns c =
    let book : Book =
    taking (book_job c.args.job) (book_of c.args.ledger) in
    let whole : c.owed_by-jobs.result.0 + c.feeds_owe-printers.result + c.owes_by-asked.result.0 ≡ owed_by book c.args.at.0 =
    omega (
      arith,
      ap (λ l. l.0) c.owed_by-jobs.ensures,
      c.feeds_owe-printers.ensures.0,
      ap (λ l. l.0) c.owes_by-asked.ensures,
      parts_make_owed c.args.ledger c.args.job c.args.at.0,
    ) in
    let told : c.margin.result ≡ margin book c.args.at.0 =
    c.margin.ensures ∙ (λ i. pos (c.ticks_since.ensures i).0 -ℤ pos (whole i)) in
    λ i. record {
      at = c.args.at;
      jobs = c.owed_by-jobs.ensures i;
      feeds = ticks (c.feeds_owe-printers.ensures.0 i);
      job = c.owes_by-asked.ensures i;
      margin = (to_z-of_z w64 c.margin.result (search rules) ∙ told) i;
    }
