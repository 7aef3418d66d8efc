-- A share p/q of the processor for jobs with no date, by the Total Bandwidth rule: p ticks of every q.
use Rattle.std.specs.Prelude.{cond, List, ℕ, ◌+◌, ◌-◌, ◌*◌, ◌/◌, ◌≤◌, ◌<◌, ltb}
use Rattle.lists.specs.Lists.{total}
use Rattle.edf.specs.Book.{Plan, Book}
use Rattle.edf.specs.Owed.{owed_by}
use Rattle.edf.specs.Load.{stretch}

-- the later of two instants
abbrev pub later_of : ℕ → ℕ → ℕ
later_of s t = cond (ltb s t) t s

-- how long a job of so many ticks takes at the share: its work divided by the share, rounded up
unfoldable pub at_share : ℕ → ℕ → ℕ → ℕ
at_share p q work = (work * q + (p - 1)) / p

-- THE DEADLINE OF A JOB WITH NO DATE, asked at the instant t: the later of t and the previous one's deadline, and that long
unfoldable pub deadline_at : ℕ → ℕ → ℕ → ℕ → ℕ → ℕ
deadline_at p q previous t work = later_of t previous + at_share p q work

-- the plans leave the share free: in no stretch of ticks do they want more than is left of it beside the share
unfoldable pub LeavesShare : ℕ → ℕ → List Plan → Type 0
LeavesShare p q ps = (L : ℕ) → q * total (stretch L) ps + p * L ≤ q * L

-- so does all that is owed, from the previous deadline on, or from now where that is past
unfoldable pub ShareFree : ℕ → ℕ → ℕ → Book → Type 0
ShareFree p q previous b = (D : ℕ) → b.clock < D → q * owed_by b D + p * (D - later_of b.clock previous) ≤ q * (D - b.clock)
