-- `desk_c::desk_list` meets its contract: the list, its count flat.
use mathlib.Core.Path.{◌≡◌, sym, ◌∙◌}
use native.Mathlib.Omega.{arith}
use lib.ListN.{length}
use borrow.Author.Rules.{rules}
use Rattle.lists.proofs.Places.{length_mapped}
use Rattle.jobs.specs.Jobs.{most_jobs}
use Rattle.desk_c.proofs.Flat.{few_counted}
use Rattle.desk_c.proofs.desk_list.Goals as goal

pub overflow_cast-result : goal.overflow_cast-result
overflow_cast-result c =
    let places : length c.args.desk.ledger.table.jobs ≡ most_jobs =
    search (rules, length_mapped) in
    omega (arith, few_counted c.args.desk (length c.args.buffer.now) c.in-Ok.count places (sym c.list.ensures.0 ∙ c.in-Ok.is))
