-- What an ask, an end and a rest make of the book.
use Rattle.std.specs.Prelude.{◌≡◌, not, cond, [], ◌∷◌, ◌++◌, map, ℕ, eqb}
use Rattle.lists.specs.Lists.{eq, total, keep}
use Rattle.edf.specs.Book.{Feed, Job, Book, owing}
use Rattle.edf.specs.Order.{JobInOrder}

-- the book with one job more
unfoldable pub taking : Job → Book → Book
taking j b = record { clock = b.clock; feeds = b.feeds; jobs = b.jobs ++ (j ∷ []) }

-- the book without the job of this number
unfoldable pub ending : ℕ → Book → Book
ending n b = record { clock = b.clock; feeds = b.feeds; jobs = keep (λ j. not (eqb n j.number)) b.jobs }

abbrev pub rest_feed : ℕ → Feed → Feed
rest_feed p f = owing (cond (eqb p f.position) 0 f.owes) f

-- the book in which the current piece of the feed at this position owes nothing
unfoldable pub resting : ℕ → Book → Book
resting p b = record { clock = b.clock; feeds = map (rest_feed p) b.feeds; jobs = b.jobs }

-- a job that may be asked for: something is wanted, its deadline is ahead and its number is free
pub record Askable (b : Book) (j : Job) : Type 0 where
  pub sound : JobInOrder b.clock j
  pub free : total (λ k. eq j.number k.number) b.jobs ≡ 0
