-- The current pieces of the feeds: what a state in order says of them, what an instant brings, what is served and rested.
use Rattle.std.specs.Prelude.{◌≡◌, Bool, ◌&&◌, ◌||◌, cond, List, [], ◌∷◌, ℕ, suc, ◌-◌, ◌≤◌, ◌<◌, leb, ltb, eqb}
use Rattle.lists.specs.Lists.{all_of, eq}
use Rattle.ticks.specs.declared.Instant.{Instant}
use Rattle.ticks.specs.declared.Length.{Length}
use Rattle.ticks.specs.Ticks.{ticks}
use Rattle.plans.specs.Plans.{since, charged}
use Rattle.feeds.specs.declared.Feed.{Feed}
use Rattle.feeds.specs.Feeds.{owing}

-- a current piece owes at most its feed's charged work, nothing while the clock is below the offset, and nothing from its
-- deadline on
unfoldable pub piece_in : Length → Instant → Feed → Bool
piece_in charge clock f =
    all_of
    (leb f.owes.0 (charged charge f.plan)
    ∷ (eqb f.owes.0 0 || (leb f.plan.offset.0 clock.0 && ltb (since f.plan clock.0) f.plan.lead.0))
    ∷ [])

-- the same, as facts
pub record PieceIn (charge : Length) (clock : Instant) (f : Feed) : Type 0 where
  pub owes : f.owes.0 ≤ charged charge f.plan
  pub early : clock.0 < f.plan.offset.0 → f.owes.0 ≡ 0
  pub over : f.plan.lead.0 ≤ since f.plan clock.0 → f.owes.0 ≡ 0

-- what the current piece owes at the instant x: one that comes then its charged work, one whose deadline has come nothing
unfoldable pub owes_then : Length → Instant → Feed → Length
owes_then charge x f =
    cond (eqb (since f.plan x.0) 0) (ticks (charged charge f.plan))
    (cond (ltb (since f.plan x.0) f.plan.lead.0) f.owes (ticks 0))

-- the feed at the instant x
unfoldable pub arrived : Length → Instant → Feed → Feed
arrived charge x f = owing (owes_then charge x f) f

-- what the current piece of the feed at position p owes, of feeds from position k on; nothing where there is no such feed
abbrev pub owes_at : ℕ → ℕ → List Feed → ℕ
owes_at p k [] = 0
owes_at p k (f ∷ fs) = cond (eqb p k) f.owes.0 (owes_at p (suc k) fs)

-- the current piece of the feed at position p owes nothing
abbrev pub rested : ℕ → ℕ → List Feed → List Feed
rested p k [] = []
rested p k (f ∷ fs) = owing (ticks (cond (eqb p k) 0 f.owes.0)) f ∷ rested p (suc k) fs

-- the current piece of the feed at position p has one tick less to get
abbrev pub served : ℕ → ℕ → List Feed → List Feed
served p k [] = []
served p k (f ∷ fs) = owing (ticks (f.owes.0 - eq p k)) f ∷ served p (suc k) fs
