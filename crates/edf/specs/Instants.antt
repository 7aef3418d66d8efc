-- Sums over a stretch of instants.
use Rattle.std.specs.Prelude.{ℕ, zero, suc, ◌+◌}

-- f added up over the n instants from the instant a on
abbrev pub during : (ℕ → ℕ) → ℕ → ℕ → ℕ
during f a zero = 0
during f a (suc n) = f a + during f (suc a) n
