-- The same book but for the order in which its jobs stand.
use Rattle.std.specs.Prelude.{◌≡◌}
use Rattle.lists.specs.Lists.{SameElements}
use Rattle.edf.specs.Book.{Book}

pub record Reordered (b c : Book) : Type 0 where
  pub clock : b.clock ≡ c.clock
  pub feeds : b.feeds ≡ c.feeds
  pub jobs : SameElements b.jobs c.jobs
