-- How much the feeds ask for, the opening, and less load.
use Rattle.std.specs.Prelude.{◌≡◌, cond, List, [], map, ℕ, ◌+◌, ◌-◌, ◌*◌, ◌/◌, ◌≤◌, eqb}
use Rattle.lists.specs.Lists.{total, Each, Some, Pairs}
use Rattle.edf.specs.Book.{Plan, Feed, Job, Book, owing, plans}
use Rattle.edf.specs.Releases.{since}
use Rattle.edf.specs.Owed.{Room}
use Rattle.edf.specs.Order.{InOrder}

-- the most that the pieces of a plan that come and are due within L ticks can want
abbrev pub stretch : ℕ → Plan → ℕ
stretch L p = p.work * ((L + p.period - p.lead) / p.period)

-- the plans alone never want more than there is time
unfoldable pub Light : List Plan → Type 0
Light ps = (L : ℕ) → total (stretch L) ps ≤ L

-- a sound book: it is in order and has room, and its feeds alone never want more than there is time
pub record Sound (b : Book) : Type 0 where
  pub order : InOrder b
  pub room : Room b
  pub light : Light (plans b.feeds)

-- how far one has to look: a round past the last deadline and the last of the next releases
abbrev pub horizon : ℕ → ℕ → ℕ
horizon R L = L + R

-- a feed as it stands when the desk opens at t: a piece released then is ready, pieces from before do not exist
abbrev pub opened_feed : ℕ → Feed → Feed
opened_feed t f = owing (cond (eqb (since f.plan t) 0) f.plan.work 0) f

unfoldable pub opened : ℕ → List Feed → Book
opened t fs = record { clock = t; feeds = map (opened_feed t) fs; jobs = [] }

-- the same feed, its current piece owing no more
pub record FeedLess (f g : Feed) : Type 0 where
  pub position : f.position ≡ g.position
  pub plan : f.plan ≡ g.plan
  pub owes : f.owes ≤ g.owes

-- the same job by number, owing no more and due no sooner
pub record JobLess (j k : Job) : Type 0 where
  pub number : j.number ≡ k.number
  pub owes : j.owes ≤ k.owes
  pub due : k.due ≤ j.due

-- the first book holds no more load than the second
pub record Less (a b : Book) : Type 0 where
  pub clock : a.clock ≡ b.clock
  pub feeds : Pairs FeedLess a.feeds b.feeds
  pub jobs : Each (λ j. Some (JobLess j) b.jobs) a.jobs
