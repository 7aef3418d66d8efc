-- The work of a mesh, by bands of its triangle count.
use Rattle.std.specs.Prelude.{cond, List, [], ◌∷◌, ℕ, leb}

-- a band of triangle counts: from just after the band before it up to its last, and the ticks that a mesh in it wants
pub record Band : Type 0 where
  pub last : ℕ
  pub work : ℕ

abbrev pub to : ℕ → ℕ → Band
to n w = record { last = n; work = w }

abbrev pub bands : List Band
bands = to 9999 4 ∷ to 99999 16 ∷ to 999999 120 ∷ to 9999999 900 ∷ to 99999999 8000 ∷ []

-- the ticks that a mesh above all of them wants
abbrev pub above_work : ℕ
above_work = 65536

-- the work of the first of these bands that reaches the count
unfoldable pub work_in : List Band → ℕ → ℕ
work_in [] n = above_work
work_in (b ∷ bs) n = cond (leb n b.last) b.work (work_in bs n)

-- the ticks that a mesh with so many triangles wants
abbrev pub work_of : ℕ → ℕ
work_of n = work_in bands n
