-- `text::put::text` meets its contract: before each turn the bytes passed are put. Assumes nothing.
use lib.ListN.{take}
use Rattle.text.specs.Put.{Put}
use Rattle.text.proofs.put.text.Given as goal

abbrev pub invariant-loop-b : goal.invariant-loop-b
invariant-loop-b l = Put l.initial.out l.out l.at l.to (take l.b-index l.bytes)
