-- What the laws of load and of the horizon speak of: a round that carries the plans, an instant past everything, feeds that an
-- opening accepts.
use mathlib.Core.List.{List}
use Prim.Native.Nat.{ℕ, ◌*◌, ◌/◌, ◌≤◌, ◌∣◌}
use Rattle.lists.specs.Lists.{eq, total, Each}
use Rattle.edf.specs.Book.{Plan, Feed, Book, plans}
use Rattle.edf.specs.Releases.{next}
use Rattle.edf.specs.Order.{PlanInOrder}
use Rattle.edf.specs.Load.{Light}

-- what a plan wants in a round of R ticks
abbrev pub a_round : ℕ → Plan → ℕ
a_round R p = p.work * (R / p.period)

-- R is a common multiple of the periods, and in R ticks the plans want at most R
pub record Round (R : ℕ) (ps : List Plan) : Type 0 where
  pub positive : 1 ≤ R
  pub common : Each (λ p. p.period ∣ R) ps
  pub carried : total (a_round R) ps ≤ R

-- the instant is past every job's deadline, every feed's next release and the clock
pub record Beyond (b : Book) (L : ℕ) : Type 0 where
  pub clock : b.clock ≤ L
  pub jobs : Each (λ j. j.due ≤ L) b.jobs
  pub feeds : Each (λ p. next p b.clock ≤ L) (plans b.feeds)

-- feeds that an opening accepts: each plan as the rules want it, no position twice, and together no trouble
pub record Opens (fs : List Feed) : Type 0 where
  pub each : Each PlanInOrder (plans fs)
  pub positions : (n : ℕ) → total (λ f. eq n f.position) fs ≤ 1
  pub light : Light (plans fs)
