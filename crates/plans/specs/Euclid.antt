-- The greatest common divisor and the least common multiple of two numbers.
use Rattle.std.specs.Prelude.{ℕ, ◌*◌, ◌≤◌}
use Rattle.std.specs.Int.{◌∣◌}

-- g divides both, and whatever divides both, whatever number they are taken times, divides g taken as many times
pub record GreatestDivisor (a b g : ℕ) : Type 0 where
  pub first : g ∣ a
  pub second : g ∣ b
  pub greatest : (m d : ℕ) → d ∣ a * m → d ∣ b * m → d ∣ g * m

-- both go into l, and l goes into every number that both go into
pub record LeastMultiple (a b l : ℕ) : Type 0 where
  pub some : 1 ≤ l
  pub first : a ∣ l
  pub second : b ∣ l
  pub least : (m : ℕ) → a ∣ m → b ∣ m → l ∣ m
