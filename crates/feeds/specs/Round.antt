-- The round: the least number of ticks that every period goes into, and what the feeds want in stretches up to it.
use Rattle.std.specs.Prelude.{Bool, true, cond, ◌&&◌, List, map, ℕ, zero, suc, ◌%◌, ◌≤◌, leb, eqb}
use Rattle.std.specs.Int.{◌∣◌}
use Rattle.ticks.specs.declared.Length.{Length}
use Rattle.ticks.specs.Ticks.{most_round}
use Rattle.lists.specs.Lists.{every, Each, total}
use Rattle.plans.specs.Plans.{stretch}
use Rattle.feeds.specs.declared.Feed.{Feed}

-- every period goes into R, and R goes into every number that all of them go into
pub record IsRound (R : ℕ) (ps : List ℕ) : Type 0 where
  pub some : 1 ≤ R
  pub common : Each (λ p. p ∣ R) ps
  pub least : (m : ℕ) → Each (λ p. p ∣ m) ps → R ∣ m

abbrev pub periods : List Feed → List ℕ
periods fs = map (λ f. f.plan.period.0) fs

-- p goes into n with nothing left
abbrev pub goes_into : ℕ → ℕ → Bool
goes_into n p = eqb (n % p) 0

-- the first number from n on that passes the test, among k of them; the number after those where none does
unfoldable pub first_from : (ℕ → Bool) → ℕ → ℕ → ℕ
first_from p zero n = n
first_from p (suc k) n = let later = first_from p k (suc n) in cond (p n) n later

-- the least number from 1 on that every period goes into; where none is short enough for a round, one tick too many
unfoldable pub round_of : List ℕ → ℕ
round_of ps = first_from (λ n. every (goes_into n) ps) most_round 1

-- what the pieces that come and are due within L ticks want, each with its charge, of feeds released together
abbrev pub demand : Length → ℕ → List Feed → ℕ
demand charge L fs = total (λ f. stretch charge L f.plan) fs

-- in no stretch up to R ticks is more wanted than it has
unfoldable pub carries : Length → ℕ → List Feed → Bool
carries charge zero fs = true
carries charge (suc L) fs = let shorter = carries charge L fs in leb (demand charge (suc L) fs) (suc L) && shorter
