-- The margin by an instant, the instant that a customer is told of, and which it is.
use Rattle.std.specs.Prelude.{◌⊎◌, ℕ, ◌+◌, ◌-◌, ◌≤◌, ◌<◌, ℤ, pos, ◌-ℤ◌}
use Rattle.edf.specs.Book.{Book}
use Rattle.edf.specs.Owed.{owed_by, Room}

-- the time until D less what is owed by D, below zero too
unfoldable pub margin : Book → ℕ → ℤ
margin b D = pos (D - b.clock) -ℤ pos (owed_by b D)

-- The same told without taking anything away.

-- more is owed by D than there is time until then
abbrev pub Overbooked : Book → ℕ → Type 0
Overbooked b D = D < b.clock + owed_by b D

-- what is owed by D there is time for
abbrev pub InTime : Book → ℕ → Type 0
InTime b D = b.clock + owed_by b D ≤ D

-- the margin by D is no larger than the one by E
abbrev pub NoLarger : Book → ℕ → ℕ → Type 0
NoLarger b D E = D + owed_by b E ≤ E + owed_by b D

-- the margin by D is smaller than the one by E
abbrev pub Smaller : Book → ℕ → ℕ → Type 0
Smaller b D E = D + owed_by b E < E + owed_by b D

-- why not: D is the earliest instant by which more is owed than there is time
pub record FirstOverbooked (b : Book) (D : ℕ) : Type 0 where
  pub after : b.clock < D
  pub short : Overbooked b D
  pub before : (E : ℕ) → b.clock < E → E < D → InTime b E

-- how close it is: no instant is overbooked, and D is the earliest of those that have the smallest margin
pub record Tightest (b : Book) (D : ℕ) : Type 0 where
  pub after : b.clock < D
  pub room : Room b
  pub least : (E : ℕ) → b.clock < E → NoLarger b D E
  pub first : (E : ℕ) → b.clock < E → E < D → Smaller b D E

-- the instant that a customer is told of
abbrev pub Telling : Book → ℕ → Type 0
Telling b D = FirstOverbooked b D ⊎ Tightest b D
