-- Runs: calls made one after the other, and what was told of each. Whatever the state is: a book, a desk, a board.
use Rattle.std.specs.Prelude.{List, [], ◌∷◌, ℕ, ◌+◌, ◌*◌}
use Rattle.edf.specs.Book.{Who, same}

-- what came of a call
pub record Came (S : Type 0) : Type 0 where
  -- the state that it handed back
  pub state : S
  -- whom its answer names, and for how many ticks: one for a step that was taken, none for a call that moves no clock
  pub who : Who
  pub ticks : ℕ
  -- what the named piece of work still owes after them, before any release
  pub owes : ℕ

-- a call that was made, with what came of it
pub record Did (C S : Type 0) : Type 0 where
  pub call : C
  pub came : Came S

module _ {C S : Type 0} where
  -- the state that the last of the calls handed back
  unfoldable pub after : List (Did C S) → S → S
  after [] s = s
  after (x ∷ xs) s = after xs x.came.state

  -- each call is allowed, with what came of it, on the state that the one before handed back
  unfoldable pub Allowed : (C → S → Came S → Type 0) → List (Did C S) → S → Type 0
  Allowed allows [] s = Unit {0}
  Allowed allows (x ∷ xs) s = allows x.call s x.came × Allowed allows xs x.came.state

  -- for how many ticks w was named
  unfoldable pub named : Who → List (Did C S) → ℕ
  named w [] = 0
  named w (x ∷ xs) = same x.came.who w * x.came.ticks + named w xs
