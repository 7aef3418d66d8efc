-- Fits, in the words of the rules: for every instant F after the clock there is a choice, for each tick, of at most one
-- piece of work, such that every piece due at or before F gets all it still owes inside its own ticks.
use Rattle.std.specs.Prelude.{ℕ, ◌-◌, ◌*◌, ◌≤◌, ◌<◌}
use Rattle.lists.specs.Lists.{eq, Each}
use Rattle.edf.specs.Instants.{during}
use Rattle.edf.specs.Book.{Book, Who, same}
use Rattle.edf.specs.Pieces.{Piece, later_piece, at_hand}

-- a piece is told by whose it is and when it is due; nobody's is the choice of no piece
pub record Name : Type 0 where
  pub who : Who
  pub due : ℕ

-- the piece that each tick goes to
abbrev pub Choice : Type 0
Choice = ℕ → Name

-- 1 where the tick x goes to the piece p, 0 otherwise
unfoldable pub goes_to : Choice → Piece → ℕ → ℕ
goes_to c p x = same (c x).who p.who * eq (c x).due p.due

-- how many of its own ticks the piece gets
unfoldable pub gets : Choice → Piece → ℕ
gets c p = during (goes_to c p) p.from (p.due - p.from)

-- due at or before F, it gets all it still owes
abbrev pub Served : ℕ → Choice → Piece → Type 0
Served F c p = p.due ≤ F → p.owes ≤ gets c p

-- by this choice every piece of work that is due by F gets all it still owes: those at hand, and of each feed every later one
pub record Serves (b : Book) (F : ℕ) (c : Choice) : Type 0 where
  pub hand : Each (Served F c) (at_hand b)
  pub later : (k : ℕ) → Each (λ f. Served F c (later_piece b.clock k f)) b.feeds

-- for every instant after the clock there is such a choice
unfoldable pub Fits : Book → Type 0
Fits b = (F : ℕ) → b.clock < F → (c : Choice) × Serves b F c
