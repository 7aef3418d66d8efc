-- `text::put::number_in` meets its contract: the digits of the part before the last, and then the last.
use Rattle.std.proofs.Common.{◌+◌, ◌<◌, ◌≤◌, [], ◌∷◌, sym, ap, ◌∙◌, subst, arith}
use native.Mathlib.Nat.{mod-eq_of_lt}
use Rattle.text.specs.Put.{Put}
use Rattle.text.specs.Numbers.{nought}
use Rattle.text.proofs.Numbers.{front_less, digits_one, digits_more, digits_some, digits_longer}
use Rattle.text.proofs.Texts.{put_after, put_length}
use Rattle.text.proofs.put.+number_in.Goals as goal

pub byte-requires : goal.byte-requires
byte-requires t c = omega (arith, digits_some c.args.base c.requires.0 c.args.n, c.requires.1)

pub returns-then-n-times : goal.returns-then-n-times
returns-then-n-times t c =
    let below : c.args.n < c.args.base = omega arith in
    let last = mod-eq_of_lt c.if-n-times.true in
    subst (Put _ _ c.args.at _)
    (ap (λ d. (nought + d) ∷ []) last ∙ sym (digits_one c.args.base c.requires.0 c.args.n below))
    c.byte.ensures

pub number_in-to-requires : goal.number_in-to-requires
number_in-to-requires t c =
    let far : c.args.base ≤ c.args.n = omega arith in
    rw c.from-times.ensures (
      omega (arith, c.decreases, front_less c.args.base c.requires.0 c.args.n far),
      (c.requires.0, omega (arith, digits_longer c.args.base c.requires.0 c.args.n far, c.requires.1)),
    )

pub byte-requires-2 : goal.byte-requires-2
byte-requires-2 t c =
    let far : c.args.base ≤ c.args.n = omega arith in
    let p = rw c.from-times.ensures at c.number_in-to.ensures in
    omega (arith, p.next, put_length p, digits_longer c.args.base c.requires.0 c.args.n far, c.requires.1)

pub returns : goal.returns
returns t c =
    let far : c.args.base ≤ c.args.n = omega arith in
    subst (Put _ _ c.args.at _)
    (sym (digits_more c.args.base c.requires.0 c.args.n far))
    (rw c.from-times.ensures at (put_after c.number_in-to.ensures c.byte-2.ensures))
