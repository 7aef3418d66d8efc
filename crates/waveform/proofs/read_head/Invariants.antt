-- `waveform::read_head` meets its contract: a line that is not one of those so far is one of those that are left.
use mathlib.Core.Path.{◌≡◌}
use lib.ListN.{drop}
use Rattle.waveform.specs.Bytes.{head_lines, head_in}
use Rattle.waveform.proofs.read_head.Given as goal

abbrev pub invariant-loop-k : goal.invariant-loop-k
invariant-loop-k l = head_in head_lines 0 l.s ≡ head_in (drop l.k head_lines) l.k l.s
