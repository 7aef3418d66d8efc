-- What the walk back from the horizon finds.
use Rattle.std.specs.Prelude.{◌≡◌, Bool, true, false, ℕ, ◌-◌, ◌≤◌, ◌<◌}
use Rattle.edf.specs.Book.{Book}
use Rattle.edf.specs.Fits.{Fits}
use Rattle.edf.specs.Owed.{owed_by, RoomBelow}

-- there is room by every instant from `end` on that lies below the horizon
unfoldable pub RoomFrom : ℕ → ℕ → Book → Type 0
RoomFrom end horizon b = (D : ℕ) → b.clock < D → end ≤ D → D < horizon → owed_by b D ≤ D - b.clock

-- whether there is room by every instant below the horizon
pub record RoomSays (r : Bool) (horizon : ℕ) (b : Book) : Type 0 where
  pub yes : r ≡ true → RoomBelow horizon b
  pub no : r ≡ false → RoomBelow horizon b → ⊥

-- line 6: whether everything fits, by the choices of the rules
pub record FitsSays (r : Bool) (b : Book) : Type 0 where
  pub yes : r ≡ true → Fits b
  pub no : r ≡ false → Fits b → ⊥
