-- What is written stands in the buffer, and each call leaves fewer lines.
use Rattle.std.proofs.Common.{arith, length-take}
use Rattle.waving.proofs.Closing.{fewer_left, few_bytes}
use Rattle.waving.proofs.close.Goals as goal

pub slice_bounds-write_all-end : goal.slice_bounds-write_all-end
slice_bounds-write_all-end g c = few_bytes _ _ c.close-closed.ensures.0 _ c.close-closed.ensures.1

pub slice_bounds-write_all-end-in-loop-cursor : goal.slice_bounds-write_all-end-in-loop-cursor
slice_bounds-write_all-end-in-loop-cursor g c =
    let fits = few_bytes _ _ c.close-closed.ensures.0 _ c.close-closed.ensures.1 in
    simp length-take (omega (arith, fits))

pub loop-cursor-smaller : goal.loop-cursor-smaller
loop-cursor-smaller g c = fewer_left _ _ c.close-closed.ensures.0 (omega arith)
