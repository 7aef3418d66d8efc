-- Numbers that are not too large for their place.
use Rattle.std.specs.Prelude.{cond, ℕ, leb, Option, Some, None}

-- every number but the opening instant is at most this
abbrev pub most_small : ℕ
most_small = 4294967295

-- a number that is not too large for its place
unfoldable pub small_of : Option ℕ → Option ℕ
small_of (Some n) = cond (leb n most_small) (Some n) None
small_of None = None
