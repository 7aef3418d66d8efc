-- Text put into a list of bytes at a place.
use Rattle.std.specs.Prelude.{◌≡◌, List, ◌++◌, ℕ, ◌+◌, ◌≤◌, length, take, drop}

-- e is d with the text at the place `at`, which ends before the place `to`, and with nothing else changed
pub record Put (d e : List ℕ) (at to : ℕ) (text : List ℕ) : Type 0 where
  pub room : at + length text ≤ length d
  pub bytes : e ≡ take at d ++ (text ++ drop (at + length text) d)
  pub next : to ≡ at + length text
