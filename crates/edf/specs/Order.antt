-- A book in order.
use Rattle.std.specs.Prelude.{◌≡◌, ℕ, ◌≤◌, ◌<◌}
use Rattle.lists.specs.Lists.{eq, total, Each}
use Rattle.edf.specs.Book.{Plan, Feed, Job, Book}
use Rattle.edf.specs.Releases.{since}

-- a piece is due after it came, and no later than the next one comes
pub record PlanInOrder (p : Plan) : Type 0 where
  pub offset : p.offset < p.period
  pub lead : 1 ≤ p.lead
  pub short : p.lead ≤ p.period

-- at the instant t: a piece owes at most its plan's work, nothing before the first release, nothing from its deadline on
pub record FeedInOrder (t : ℕ) (f : Feed) : Type 0 where
  pub plan : PlanInOrder f.plan
  pub owes : f.owes ≤ f.plan.work
  pub early : t < f.plan.offset → f.owes ≡ 0
  pub over : f.plan.lead ≤ since f.plan t → f.owes ≡ 0

-- a live job owes something and its deadline is ahead
pub record JobInOrder (t : ℕ) (j : Job) : Type 0 where
  pub owes : 1 ≤ j.owes
  pub ahead : t < j.due

-- what every state that the desk lets pass is read as: each feed and each job in order at the clock's instant, and told apart
pub record InOrder (b : Book) : Type 0 where
  pub feeds : Each (FeedInOrder b.clock) b.feeds
  pub jobs : Each (JobInOrder b.clock) b.jobs
  -- no position and no number stands twice
  pub positions : (n : ℕ) → total (λ f. eq n f.position) b.feeds ≤ 1
  pub numbers : (n : ℕ) → total (λ j. eq n j.number) b.jobs ≤ 1
