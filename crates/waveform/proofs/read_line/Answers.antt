-- `waveform::read_line` meets its contract: by its first byte.
use mathlib.Core.Path.{◌≡◌, ap, ◌∙◌}
use Prim.Native.Nat.{◌≤◌}
use native.Mathlib.Omega.{arith}
use lib.ListN.{length, get_or, get_or-eq_default}
use borrow.Author.Tests.{ltb-true}
use Rattle.text.specs.Numbers.{number_of}
use Rattle.text.proofs.Fields.{rest_part}
use Rattle.waveform.specs.Bytes.{hash, bee, mark_by, value_of}
use Rattle.waveform.proofs.Bytes.{says_mark, says_value, says_head}
use Rattle.waveform.proofs.read_line.Goals as goal
use Rattle.waveform.proofs.read_line.Goals.{in_default-via-then-s-lt1, in_default-via-else-s-lt1+in_default-1}

pub returns-in-35 : goal.returns-in-35
returns-in-35 c =
    let first : get_or c.args.s.now 0 0 ≡ hash = omega arith in
    c.mark.ensures ∙ ap mark_by (c.read_number.ensures ∙ ap number_of (rest_part c.args.s.now 1)) ∙ says_mark c.args.s.now first

pub returns-in-98 : goal.returns-in-98
returns-in-98 c =
    let first : get_or c.args.s.now 0 0 ≡ bee = omega arith in
    c.read_value.ensures ∙ ap value_of (rest_part c.args.s.now 1) ∙ says_value c.args.s.now first

pub returns-in_default : goal.returns-in_default
returns-in_default c =
    let s = c.args.s.now in
    let none : (get_or c.args.s.now 0 0 ≡ hash → ⊥) × (get_or c.args.s.now 0 0 ≡ bee → ⊥) = elim c.in_default.branch [
      | in_default-via-then-s-lt1 w ↦ let short : length c.args.s.now ≤ 0 = omega (arith, ltb-true) in let z = get_or-eq_default c.args.s.now 0 short in (λ e. omega (arith, e, z), λ e. omega (arith, e, z))
      | in_default-via-else-s-lt1+in_default-1 w ↦ (λ e. omega (arith, e), λ e. omega (arith, e))
    ] in
    c.read_head.ensures ∙ says_head s none.0 none.1
