-- Laws on the lines of a run that are put into a buffer: how long they are.
use mathlib.Core.Path.{◌≡◌}
use mathlib.Core.List.{[], ◌∷◌}
use Prim.Native.Nat.{ℕ, ◌+◌}
use native.Mathlib.Omega.{arith}
use lib.ListN.{length, length-append}
use Rattle.text.specs.Numbers.{bits}
use Rattle.text.specs.Fields.{space, newline}
use Rattle.waveform.specs.declared.Token.{Token}
use Rattle.waveform.specs.Bytes.{value_line, written}
use Rattle.waveform.specs.Texts.{as_line}

-- a line is a byte longer with its newline
pub line_length : (l : Token) → length (as_line l) ≡ length (written l) + 1
unfolding as_line
line_length l = length-append (written l) (newline ∷ [])

-- a value is three bytes longer than its digits
pub value_length : (wire n : ℕ) → length (value_line wire n) ≡ length (bits n) + 3
value_length wire n = omega (arith, length-append (bits n) (space ∷ wire ∷ []))
