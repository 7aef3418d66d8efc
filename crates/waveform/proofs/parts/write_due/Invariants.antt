-- `waveform::parts::write_due` meets its contract: before each turn some of the lines that fit are put, and the others are left.
use mathlib.Core.Path.{◌≡◌}
use mathlib.Core.List.{List, ◌++◌}
use Prim.Native.Nat.{ℕ, ◌-◌}
use lib.ListN.{length}
use Rattle.text.specs.Put.{Put}
use Rattle.waveform.specs.declared.Token.{Token}
use Rattle.waveform.specs.declared.cursor.Cursor.{Cursor}
use Rattle.waveform.specs.Cursors.{due_lines}
use Rattle.waveform.specs.Parts.{bytes_of, wrote_all, due_fitting}
use Rattle.waveform.proofs.parts.write_due.Given as goal

-- these lines are put, and the others that fit are left
pub record Going (d : List ℕ) (from : ℕ) (b c : Cursor) (e : List ℕ) (at : ℕ) : Type 0 where
  pub done : List Token
  pub put : Put d e from at (bytes_of done)
  pub cursor : c ≡ wrote_all done b
  pub left : due_fitting (length d - from) b ≡ done ++ due_fitting (length d - at) c

abbrev pub invariant-loop-line : goal.invariant-loop-line
invariant-loop-line l = Going l.initial.out l.initial.at l.initial.cursor l.cursor l.out l.at

abbrev pub decreases-loop-line : goal.decreases-loop-line
decreases-loop-line l = length (due_lines l.cursor)
