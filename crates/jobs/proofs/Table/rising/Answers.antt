-- `jobs::Table::rising` meets its contract: what `is_sorted_by` says of the live jobs.
use borrow.Author.Rules.{rules}
use Rattle.std.proofs.lemmas.List.Sorted.{answers_always}
use Rattle.jobs.specs.Jobs.{live}
use Rattle.jobs.specs.Sorted.{before}
use Rattle.jobs.proofs.Sorted.{rising_asked}
use Rattle.jobs.proofs.Table.rising.Goals as goal

pub returns : goal.returns
returns c =
    rising_asked (live c.args.self) _ (c.is_sorted_by.ensures.cases before (answers_always _ _ _ (λ f a r g h. search rules)))
