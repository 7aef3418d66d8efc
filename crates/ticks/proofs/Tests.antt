-- A test of a length that holds, and the fact that it stands for.
use mathlib.Core.Path.{◌≡◌}
use mathlib.Core.Bool.{true}
use Prim.Native.Nat.{ℕ, ◌≤◌}
use lib.Dec.{leb}
use borrow.Author.Tests.{leb-true, le-leb}
use Rattle.lists.proofs.Tests.{both, both_made}
use Rattle.ticks.specs.declared.Length.{Length}
use Rattle.ticks.specs.Ticks.{from_one}

pub from_one_lem : (most : ℕ) (l : Length) → from_one most l ≡ true → (1 ≤ l.0) × (l.0 ≤ most)
from_one_lem most l h =
    let t = both (leb 1 l.0) (leb l.0 most) h in
    (leb-true _ _ t.0, leb-true _ _ t.1)

pub from_one_made : (most : ℕ) (l : Length) → 1 ≤ l.0 → l.0 ≤ most → from_one most l ≡ true
from_one_made most l p q = both_made _ _ (le-leb _ _ p) (le-leb _ _ q)
