-- Running on with steps alone.
use Rattle.std.specs.Prelude.{ℕ, zero, suc}
use Rattle.edf.specs.Book.{Book}
use Rattle.edf.specs.Step.{step}

-- the book after n steps and no other call
unfoldable pub steps : ℕ → Book → Book
steps zero b = b
steps (suc n) b = steps n (step b)
