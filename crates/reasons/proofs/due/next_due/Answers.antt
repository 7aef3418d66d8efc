-- `reasons::due::next_due` meets its contract: nothing of the jobs and nothing of the feeds comes due in between.
use Rattle.lists.specs.Lists.{total}
use Rattle.feeds.specs.Feeds.{in_use}
use Rattle.jobs.specs.Jobs.{live}
use Rattle.edf.specs.Owed.{owed_by}
use Rattle.ledger.specs.Books.{book_of}
use Rattle.jobs.specs.Figures.{owes_by}
use Rattle.room.specs.Owed.{feed_owes}
use Rattle.room.proofs.Owed.{owed_by_is}
use Rattle.reasons.proofs.Until.{until_both}
use Rattle.reasons.proofs.due.next_due.Goals as goal

pub returns : goal.returns
returns c =
    let l = c.args.ledger in
    until_both (λ D. total (owes_by D) (live l.table)) (λ D. total (feed_owes l.charge l.clock.0 D) (in_use l.feeds)) (owed_by (book_of l)) _ _ _ _
    (owed_by_is l)
    c.jobs_due_after.ensures
    (c.feeds_due_after.ensures l.charge)
