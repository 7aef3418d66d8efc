-- What is written stands in the buffer, and no more steps are taken than are left.
use Rattle.std.proofs.Common.{rules, arith, length-take}
use Rattle.waving.proofs.Bounds.{few_steps, few_bytes}
use Rattle.waving.proofs.run.Goals as goal

pub slice_bounds-write_all-end : goal.slice_bounds-write_all-end
slice_bounds-write_all-end g c = few_bytes _ _ _ _ c.go_on-went.ensures.0 _ c.go_on-went.ensures.1

pub slice_bounds-write_all-end-in-loop-going : goal.slice_bounds-write_all-end-in-loop-going
slice_bounds-write_all-end-in-loop-going g c =
    let fits = few_bytes _ _ _ _ c.go_on-went.ensures.0 _ c.go_on-went.ensures.1 in
    simp length-take (omega (arith, fits))

pub left_after-going-requires : goal.left_after-going-requires
left_after-going-requires g c = (search rules, few_steps _ _ _ _ c.go_on-went.ensures.0)
