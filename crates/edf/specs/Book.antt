-- The book: the desk as plain mathematics.
use Rattle.std.specs.Prelude.{List, map, ℕ}
use Rattle.lists.specs.Lists.{eq}

-- how a printer's layers come: a piece every `period` ticks, at the instants that leave the remainder `offset`; it wants
-- `work` ticks and is due `lead` ticks after it came
pub record Plan : Type 0 where
  pub period : ℕ
  pub work : ℕ
  pub offset : ℕ
  pub lead : ℕ

-- a feed of layers at its position: its plan, and what the piece that came last still wants
pub record Feed : Type 0 where
  pub position : ℕ
  pub plan : Plan
  pub owes : ℕ

-- the feed with another figure of what its current piece owes
abbrev pub owing : ℕ → Feed → Feed
owing n f = record { position = f.position; plan = f.plan; owes = n }

abbrev pub positions : List Feed → List ℕ
positions = map (λ f. f.position)

abbrev pub plans : List Feed → List Plan
plans = map (λ f. f.plan)

-- a customer's export that was promised: it still wants `owes` ticks before the instant `due`
pub record Job : Type 0 where
  pub number : ℕ
  pub owes : ℕ
  pub due : ℕ

-- the clock, the feeds in list order and the live jobs
pub record Book : Type 0 where
  pub clock : ℕ
  pub feeds : List Feed
  pub jobs : List Job

-- whom a tick goes to: a job by its number, a feed by its position, or nobody
pub data Who : Type 0 where
  job : ℕ → Who
  feed : ℕ → Who
  idle : Who

-- 1 where the two are the same, 0 otherwise
unfoldable pub same : Who → Who → ℕ
same (job m) (job n) = eq m n
same (job m) (feed q) = 0
same (job m) idle = 0
same (feed p) (job n) = 0
same (feed p) (feed q) = eq p q
same (feed p) idle = 0
same idle (job n) = 0
same idle (feed q) = 0
same idle idle = 1
