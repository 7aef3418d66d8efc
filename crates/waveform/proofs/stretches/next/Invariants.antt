-- `waveform::stretches::next` meets its contract: what is left of the text tells from the state on what the whole told.
use mathlib.Core.Path.{◌≡◌}
use Prim.Native.Nat.{◌-◌, ◌≤◌}
use lib.ListN.{length, drop}
use Rattle.text.specs.Fields.{lines_of}
use Rattle.waveform.specs.Telling.{tell}
use Rattle.waveform.proofs.stretches.next.Given as goal

abbrev pub invariant-loop-place : goal.invariant-loop-place
invariant-loop-place l = (l.place ≤ length l.text) × (l.lines ≤ l.place) × (tell l.initial.state l.initial.place l.initial.lines (lines_of (drop l.initial.place l.text)) ≡ tell l.state l.place l.lines (lines_of (drop l.place l.text)))

abbrev pub decreases-loop-place : goal.decreases-loop-place
decreases-loop-place l = length l.text - l.place
