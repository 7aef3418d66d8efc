-- `waveform::judge` meets its contract: what is left of the text is judged from the reading on as the whole was.
use mathlib.Core.Path.{◌≡◌}
use Prim.Native.Nat.{◌-◌, ◌≤◌}
use lib.ListN.{length, drop}
use Rattle.text.specs.Fields.{lines_of}
use Rattle.waveform.specs.Texts.{reading, judge, judged}
use Rattle.waveform.proofs.judge.Given as goal

abbrev pub invariant-loop-from : goal.invariant-loop-from
invariant-loop-from l = (l.from ≤ length l.text) × (l.lines ≤ l.from) × (l.stretches ≤ l.from) × (judged l.text ≡ judge (reading l.state l.lines l.start l.stretches) (lines_of (drop l.from l.text)))

abbrev pub decreases-loop-from : goal.decreases-loop-from
decreases-loop-from l = length l.text - l.from
