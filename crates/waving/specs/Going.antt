-- Where a script that is being waved stands in its input.
use Rattle.std.specs.Prelude.{List, ℕ, ◌≤◌, ◌<◌, length}
use Rattle.waving.specs.declared.Going.{Going}

-- no more lines than bytes were read
abbrev pub Counted : Going → Type 0
Counted g = g.place.lines ≤ g.place.from

-- there is a line to be read
pub record Ready (input : List ℕ) (g : Going) : Type 0 where
  pub more : g.place.from < length input
  pub lines : Counted g

-- it stands further on
pub record Onto (input : List ℕ) (g h : Going) : Type 0 where
  pub further : g.place.from < h.place.from
  pub inside : h.place.from ≤ length input
  pub lines : Counted h
