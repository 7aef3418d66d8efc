-- What is owed by an instant D: all that the pieces due at or before D still want.
use Rattle.std.specs.Prelude.{cond, ℕ, ◌+◌, ◌-◌, ◌*◌, ◌/◌, ◌≤◌, ◌<◌, leb}
use Rattle.lists.specs.Lists.{total}
use Rattle.edf.specs.Book.{Plan, Book, plans}
use Rattle.edf.specs.Releases.{since}
use Rattle.edf.specs.Pieces.{Piece, at_hand}

-- the work counts where its deadline is at or before D
unfoldable pub by_then : ℕ → ℕ → ℕ → ℕ
by_then D due owes = cond (leb due D) owes 0

-- what the piece owes by D
abbrev pub due_by : ℕ → Piece → ℕ
due_by D p = by_then D p.due p.owes

-- how many of the pieces that come after t are due by D
abbrev pub later_count : ℕ → ℕ → Plan → ℕ
later_count t D p = (D + since p t - (t + p.lead)) / p.period

-- what they owe together
abbrev pub later_by : ℕ → ℕ → Plan → ℕ
later_by t D p = p.work * later_count t D p

unfoldable pub owed_by : Book → ℕ → ℕ
owed_by b D = total (due_by D) (at_hand b) + total (later_by b.clock D) (plans b.feeds)

-- there is room: by no instant is more owed than there is time until then
unfoldable pub Room : Book → Type 0
Room b = (D : ℕ) → b.clock < D → owed_by b D ≤ D - b.clock

-- the same, looking only at the instants below H
unfoldable pub RoomBelow : ℕ → Book → Type 0
RoomBelow H b = (D : ℕ) → b.clock < D → D < H → owed_by b D ≤ D - b.clock
