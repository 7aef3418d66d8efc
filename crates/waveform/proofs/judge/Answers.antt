-- `waveform::judge` meets its contract: what is left of the text is judged from the reading on as the whole was.
use mathlib.Core.Path.{◌≡◌, sym, ap, ◌∙◌}
use mathlib.Core.Bool.{Bool, true, false}
use Prim.Native.Nat.{ℕ, ◌+◌, ◌-◌, ◌≤◌}
use native.Mathlib.Omega.{arith}
use native.Mathlib.Numerals.{add-one}
use mir.Val.{bool_byte}
use lib.ListN.{take, drop, drop_of_length-le}
use Rattle.std.specs.Prelude.{Some}
use Rattle.lists.specs.Lists.{bit}
use Rattle.text.specs.Fields.{newline, found_in, lines_of}
use Rattle.text.proofs.Fields.{Cut, cut_at}
use Rattle.waveform.specs.Reading.{next}
use Rattle.waveform.specs.Bytes.{says}
use Rattle.waveform.specs.Texts.{Reading, reading, judge, Wrong}
use Rattle.waveform.proofs.Judging.{judge_dead, judge_on, judge_tail, judge_well, judge_short}
use Rattle.waveform.proofs.judge.Goals as goal
use Rattle.waveform.proofs.judge.Goals.{At-loop-from, In-Some, After-next-state}

-- a test as a number, where it counts
one_if : {n k : ℕ} (b : Bool) → n ≡ bool_byte b → bit b ≡ k → (n ≡ k) × (n ≤ 1)
one_if true e h = (e ∙ h, omega (arith, e))
one_if false e h = (e ∙ h, omega (arith, e))

-- how far the reading has come
abbrev here : At-loop-from → Reading
here c = reading c.loop-from.state c.loop-from.lines c.loop-from.start c.loop-from.stretches

-- the line that begins there, and the state after it
found : (c : In-Some) → found_in newline c.loop-from.from (drop c.loop-from.from c.args.text.now) ≡ Some c.in-Some.end
found c = sym c.line_end.ensures ∙ c.in-Some.is

cut : (c : In-Some) → Cut newline c.args.text.now c.loop-from.from c.in-Some.end
cut c = cut_at newline c.args.text.now c.loop-from.from c.in-Some.end (found c)

after : (c : After-next-state) → c.next-state.result ≡ next c.loop-from.state (says (take (c.in-Some.end - c.loop-from.from) (drop c.loop-from.from c.args.text.now)))
after c = c.next-state.ensures ∙ ap (next c.loop-from.state) c.read_line.ensures

pub returns-in_default : goal.returns-in_default
returns-in_default c =
    let l = c.loop-from in
    ap Wrong (add-one l.lines)
    ∙ sym (l.invariant.3 ∙ judge_tail (here (goal.at.returns-in_default c).At-loop-from) c.args.text.now l.from c.loop-from-test.true (sym c.line_end.ensures ∙ c.in_default.is))

pub slice_bounds-read_line-count : goal.slice_bounds-read_line-count
slice_bounds-read_line-count c = omega (arith, (cut (goal.at.slice_bounds-read_line-count c).In-Some).after)

pub slice_bounds-read_line-start : goal.slice_bounds-read_line-start
slice_bounds-read_line-start c = let k = cut (goal.at.slice_bounds-read_line-start c).In-Some in omega (arith, k.after, k.inside)

pub slice_bounds-read_line-end : goal.slice_bounds-read_line-end
slice_bounds-read_line-end c = let k = cut (goal.at.slice_bounds-read_line-end c).In-Some in omega (arith, k.after, k.inside)

pub returns-then-is_dead : goal.returns-then-is_dead
returns-then-is_dead c =
    let l = c.loop-from in
    let g = goal.at.returns-then-is_dead c in
    ap Wrong (add-one l.lines)
    ∙ sym
    (l.invariant.3
    ∙ judge_dead (here g.At-loop-from) c.args.text.now l.from c.in-Some.end (found g.In-Some) c.next-state.result (after g.After-next-state) (sym c.is_dead.ensures ∙ c.if-is_dead.true))

pub loop-from-smaller : goal.loop-from-smaller
loop-from-smaller c = let k = cut (goal.at.loop-from-smaller c).In-Some in omega (arith, k.inside, k.after)

pub loop-from-preserved : goal.loop-from-preserved
loop-from-preserved c =
    let l = c.loop-from in
    let g = goal.at.loop-from-preserved c in
    let k = cut g.In-Some in
    let s = c.next-state.result in
    let left = lines_of (drop (c.in-Some.end + 1) c.args.text.now) in
    let one = one_if c.ended_one.result c.from-stretches.ensures c.ended_one.ensures in (
      omega (arith, k.inside),
      omega (arith, l.invariant.1, k.after),
      omega (arith, l.invariant.2, k.after, one.1),
      l.invariant.3
          ∙ judge_on (here g.At-loop-from) c.args.text.now l.from c.in-Some.end (found g.In-Some) s (after g.After-next-state) (sym c.is_dead.ensures ∙ c.if-is_dead.false)
          ∙ (λ i. judge (reading s (sym (add-one l.lines) i) (sym c.start_by-start.ensures i) (l.stretches + sym one.0 i)) left),
    )

pub returns-in-Some-end : goal.returns-in-Some-end
returns-in-Some-end c =
    let l = c.loop-from in
    let text = c.args.text.now in
    sym
    (l.invariant.3
    ∙ judge_well (here (goal.at.returns-in-Some-end c).At-loop-from) (drop l.from text) (drop_of_length-le text c.loop-from-test.false) (sym c.in-Some-end.is ∙ c.end.ensures))

pub returns-in-None : goal.returns-in-None
returns-in-None c =
    let l = c.loop-from in
    let text = c.args.text.now in
    ap Wrong (add-one l.lines)
    ∙ sym (l.invariant.3 ∙ judge_short (here (goal.at.returns-in-None c).At-loop-from) (drop l.from text) (drop_of_length-le text c.loop-from-test.false) (sym c.in-None.is ∙ c.end.ensures))
