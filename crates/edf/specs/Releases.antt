-- When a plan's pieces come and when they are due.
use Rattle.std.specs.Prelude.{ℕ, ◌+◌, ◌-◌, ◌*◌, ◌%◌}
use Rattle.edf.specs.Book.{Plan}

-- how long ago the current piece came: 0 at a release
unfoldable pub since : Plan → ℕ → ℕ
since p t = (t + p.period - p.offset) % p.period

-- the first release after t
abbrev pub next : Plan → ℕ → ℕ
next p t = t + (p.period - since p t)

-- when the current piece is due
abbrev pub due : Plan → ℕ → ℕ
due p t = t + p.lead - since p t

-- when the piece comes that is k releases after the next one
abbrev pub later_from : Plan → ℕ → ℕ → ℕ
later_from p t k = next p t + k * p.period
