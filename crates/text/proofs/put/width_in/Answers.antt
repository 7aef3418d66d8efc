-- `text::put::width_in` meets its contract: one digit more than the logarithm.
use Rattle.std.proofs.Common.{◌≡◌, ◌+◌, length, arith}
use Rattle.text.specs.Numbers.{numeral}
use Rattle.text.proofs.Numbers.{digits_by_logarithm, digits_few}
use Rattle.text.proofs.put.width_in.Goals as goal

pub returns : goal.returns
returns c =
    let e = c.from.ensures in
    let l = rw e at c.ilog.ensures.power_le in
    let h = rw e at c.ilog.ensures.next_power_gt in
    let width : c.ilog.result + 1 ≡ length (numeral c.args.base c.args.n) = digits_by_logarithm _ c.requires c.args.n _ _ (omega (arith, c.max.ensures)) l h in
    (width, omega (arith, digits_few _ c.requires c.args.n (omega arith)))
