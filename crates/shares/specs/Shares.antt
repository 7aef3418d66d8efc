-- A share p/q of the processor: which numbers are one, and how long a job takes at it.
use Rattle.std.specs.Prelude.{Bool, ◌&&◌, ◌||◌, ℕ, leb, eqb}
use Rattle.ticks.specs.declared.Length.{Length}
use Rattle.ticks.specs.Ticks.{ticks}
use Rattle.edf.specs.Share.{at_share}
use Rattle.shares.specs.declared.Share.{Share}

-- the highest q
abbrev pub most_share : ℕ
most_share = 1000

abbrev pub share : ℕ → ℕ → Share
share p q = record { p = p; q = q }

-- what stands in a state where the opening had no share
abbrev pub no_share : Share
no_share = share 0 0

abbrev pub is_none : Share → Bool
is_none s = eqb s.p 0 && eqb s.q 0

-- p is not zero, nor q, p is not above q, and q is not above the highest
abbrev pub is_share : Share → Bool
is_share s = leb 1 s.p && (leb s.p s.q && leb s.q most_share)

-- a state may have a share, or none
abbrev pub share_in : Share → Bool
share_in s = is_none s || is_share s

-- how long a job of so many ticks takes at the share
abbrev pub time_at : Share → Length → Length
time_at s work = ticks (at_share s.p s.q work.0)
