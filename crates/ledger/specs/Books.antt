-- The state read as a book of the mathematics, and written anew from one.
use Rattle.std.specs.Prelude.{◌≡◌, List, [], ◌∷◌, map, ℕ, suc, ◌+◌, ◌≤◌, length}
use Rattle.lists.specs.Lists.{Each}
use Rattle.ticks.specs.declared.Instant.{Instant}
use Rattle.ticks.specs.declared.Length.{Length}
use Rattle.ticks.specs.Ticks.{last_instant, most_job, instant, ticks}
use Rattle.plans.specs.declared.Plan.{Plan}
use Rattle.plans.specs.Plans.{charged}
use Rattle.feeds.specs.declared.Feed.{Feed}
use Rattle.feeds.specs.Feeds.{owing, in_use, feeds_of}
use Rattle.jobs.specs.declared.Job.{Job}
use Rattle.jobs.specs.Jobs.{most_jobs, job, live, table_of}
use Rattle.jobs.specs.Figures.{figured}
use Rattle.jobs.specs.Sorted.{Sorted, sorted}
use Rattle.answers.specs.declared.Who.{Who}
use Rattle.answers.specs.declared.Who.TheVariants as who
use Rattle.edf.specs.Book as edf
use Rattle.edf.specs.Order.{InOrder as BookInOrder}
use Rattle.ledger.specs.declared.Ledger.{Ledger}
use Rattle.ledger.specs.State.{moved}

-- a plan under a charge: each piece wants its charged work
abbrev pub book_plan : Length → Plan → edf.Plan
book_plan charge p =
    record { period = p.period.0; work = charged charge p; offset = p.offset.0; lead = p.lead.0 }

-- a feed at its position
abbrev pub book_feed : Length → ℕ → Feed → edf.Feed
book_feed charge position f = record { position = position; plan = book_plan charge f.plan; owes = f.owes.0 }

-- feeds have positions in list order, here from k on
abbrev pub book_feeds : Length → ℕ → List Feed → List edf.Feed
book_feeds charge k [] = []
book_feeds charge k (f ∷ fs) = book_feed charge k f ∷ book_feeds charge (suc k) fs

abbrev pub book_job : Job → edf.Job
book_job j = record { number = j.number; owes = j.owed.0; due = j.deadline.0 }

-- the book of a charge, a clock, feeds and jobs; the first feed has position 1
abbrev pub book_at : Length → Instant → List Feed → List Job → edf.Book
book_at charge clock fs js = record { clock = clock.0; feeds = book_feeds charge 1 fs; jobs = map book_job js }

-- the state read as a book
abbrev pub book_of : Ledger → edf.Book
book_of l = book_at l.charge l.clock (in_use l.feeds) (live l.table)

-- a job of the book, before any table gave it its figure
abbrev pub job_of : edf.Job → Job
job_of j = job j.number (ticks j.owes) (instant j.due)

-- these feeds, owing what those of the book owe
abbrev pub owing_as : List edf.Feed → List Feed → List Feed
owing_as [] fs = fs
owing_as (g ∷ gs) [] = []
owing_as (g ∷ gs) (f ∷ fs) = owing (ticks g.owes) f ∷ owing_as gs fs

-- the state written anew from a book: the clock, what is owed and the jobs are the book's, the jobs in the order of the table
-- and the figures done afresh; everything else stays
abbrev pub rewritten : Ledger → edf.Book → Ledger
rewritten l b =
    moved l (instant b.clock) (feeds_of (owing_as b.feeds (in_use l.feeds))) (table_of (figured (sorted (map job_of b.jobs))))

-- the jobs of a book stand in the order of the table
abbrev pub InTableOrder : edf.Book → Type 0
InTableOrder b = Sorted (map job_of b.jobs)

-- whom a tick goes to, here and in the mathematics
abbrev pub who_of : Who → edf.Who
who_of (who.Job n) = edf.job n
who_of (who.Feed p) = edf.feed p
who_of who.Idle = edf.idle

abbrev pub who_is : edf.Who → Who
who_is (edf.job n) = who.Job n
who_is (edf.feed p) = who.Feed p
who_is edf.idle = who.Idle

-- a job of a book that a table can hold under a charge: numbered, and within the limits of what is owed and of the deadline
pub record JobHeld (charge : Length) (t : ℕ) (j : edf.Job) : Type 0 where
  pub number : 1 ≤ j.number
  pub owes : j.owes ≤ most_job + charge.0
  pub near : j.due ≤ t + most_job
  pub within : j.due ≤ last_instant

-- the feeds of the book are the state's, at their positions and by their plans
pub record SameFeeds (l : Ledger) (b : edf.Book) : Type 0 where
  pub positions : edf.positions b.feeds ≡ edf.positions (book_of l).feeds
  pub plans : edf.plans b.feeds ≡ edf.plans (book_of l).feeds

-- a book in order that can be written into the state
pub record Held (l : Ledger) (b : edf.Book) : Type 0 where
  pub order : BookInOrder b
  pub clock : b.clock ≤ last_instant
  pub feeds : SameFeeds l b
  pub few : length b.jobs ≤ most_jobs
  pub jobs : Each (JobHeld l.charge b.clock) b.jobs
