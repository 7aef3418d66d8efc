-- The next instant at which something is due.
use Rattle.std.specs.Prelude.{◌≡◌, ℕ, ◌≤◌, ◌<◌}

-- r comes after `by` and no later than `till`, and from `by` up to r nothing comes due: what is owed stays as it is
pub record Until (owed : ℕ → ℕ) (by till r : ℕ) : Type 0 where
  pub after : by < r
  pub within : r ≤ till
  pub still : (E : ℕ) → by ≤ E → E < r → owed E ≡ owed by
