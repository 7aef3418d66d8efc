-- A printer's plan: its limits, when its pieces come and when they are due, and what it wants in a stretch of ticks.
use Rattle.std.specs.Prelude.{Bool, [], ◌∷◌, ℕ, ◌+◌, ◌-◌, ◌*◌, ◌/◌, ◌%◌, ◌≤◌, ◌<◌, ltb, eqb}
use Rattle.lists.specs.Lists.{all_of}
use Rattle.ticks.specs.declared.Length.{Length}
use Rattle.ticks.specs.Ticks.{most_feed, most_charge, feed_length, from_one, ticks}
use Rattle.plans.specs.declared.Plan.{Plan}

-- the most that a piece may owe: the most work and the highest charge
abbrev pub most_piece : ℕ
most_piece = most_feed + most_charge

-- the plan of a place that no feed has
abbrev pub no_plan : Plan
no_plan = record { period = ticks 0; work = ticks 0; offset = ticks 0; lead = ticks 0 }

-- a plan within its limits: the period and the work from 1 to the limit, the offset below the period, the deadline length from
-- 1 to the period
unfoldable pub plan_in : Plan → Bool
plan_in p =
    all_of
    (feed_length p.period
    ∷ feed_length p.work
    ∷ ltb p.offset.0 p.period.0
    ∷ from_one p.period.0 p.lead
    ∷ [])

-- the same, as facts
pub record PlanIn (p : Plan) : Type 0 where
  pub period : (1 ≤ p.period.0) × (p.period.0 ≤ most_feed)
  pub work : (1 ≤ p.work.0) × (p.work.0 ≤ most_feed)
  pub offset : p.offset.0 < p.period.0
  pub lead : (1 ≤ p.lead.0) × (p.lead.0 ≤ p.period.0)

-- the plan of an unused place is all zero
unfoldable pub unused_plan : Plan → Bool
unused_plan p =
    all_of (eqb p.period.0 0 ∷ eqb p.work.0 0 ∷ eqb p.offset.0 0 ∷ eqb p.lead.0 0 ∷ [])

-- how many ticks before the instant t the last of the instants came that leave the remainder `offset` when divided by
-- `period`: 0 at a release
unfoldable pub since : Plan → ℕ → ℕ
since p t = (t + p.period.0 - p.offset.0) % p.period.0

-- the first release after t
unfoldable pub next : Plan → ℕ → ℕ
next p t = t + (p.period.0 - since p t)

-- when the current piece is due, or was
unfoldable pub due : Plan → ℕ → ℕ
due p t = t + p.lead.0 - since p t

-- the charged work: what a piece owes when it comes
abbrev pub charged : Length → Plan → ℕ
charged charge p = p.work.0 + charge.0

-- a piece is due when the next one comes
abbrev pub to_the_next : Plan → Bool
to_the_next p = eqb p.lead.0 p.period.0

-- the most that the pieces that come and are due within L ticks can want together: the first comes with the first tick
abbrev pub stretch : Length → ℕ → Plan → ℕ
stretch charge L p = charged charge p * ((L + (p.period.0 - p.lead.0)) / p.period.0)
