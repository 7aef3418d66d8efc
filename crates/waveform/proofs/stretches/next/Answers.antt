-- `waveform::stretches::next` meets its contract: what is left of the text tells from the state on what the whole told.
use mathlib.Core.Path.{◌≡◌, sym, ap, ◌∙◌}
use Prim.Native.Nat.{suc, ◌+◌, ◌-◌}
use native.Mathlib.Omega.{arith}
use native.Mathlib.Numerals.{add-one}
use lib.ListN.{take, drop, drop_of_length-le}
use Rattle.std.specs.Prelude.{Some}
use Rattle.lists.specs.Lists.{bit}
use Rattle.text.specs.Fields.{newline, found_in, lines_of}
use Rattle.text.proofs.Fields.{Cut, cut_at}
use Rattle.waveform.specs.declared.stretches.Told.TheVariants.{Wrong, Next, Over}
use Rattle.waveform.specs.Reading.{next}
use Rattle.waveform.specs.Bytes.{says}
use Rattle.waveform.specs.Telling.{behind, ending_at, tell, next_told}
use Rattle.waveform.proofs.Telling.{tell_wrong, tell_ended, tell_on, tell_tail, tell_over, tell_short, told_in_order}
use Rattle.waveform.proofs.stretches.next.Goals as goal
use Rattle.waveform.proofs.stretches.next.Goals.{At-loop-place, In-Some, After-next-state}

-- what is told of the text is what is left to tell
left : (c : At-loop-place) → next_told c.args.text.now c.args.mark ≡ tell c.loop-place.state c.loop-place.place c.loop-place.lines (lines_of (drop c.loop-place.place c.args.text.now))
left c = told_in_order c.args.text.now c.args.mark c.state-state.result c.state-state.ensures c.if-mark.false c.if-text-mark.false ∙ c.loop-place.invariant.2

-- the line that begins there, and the state after it
found : (c : In-Some) → found_in newline c.loop-place.place (drop c.loop-place.place c.args.text.now) ≡ Some c.in-Some.end
found c = sym c.line_end.ensures ∙ c.in-Some.is

cut : (c : In-Some) → Cut newline c.args.text.now c.loop-place.place c.in-Some.end
cut c = cut_at newline c.args.text.now c.loop-place.place c.in-Some.end (found c)

after : (c : After-next-state) → c.next-state.result ≡ next c.loop-place.state (says (take (c.in-Some.end - c.loop-place.place) (drop c.loop-place.place c.args.text.now)))
after c = c.next-state.ensures ∙ ap (next c.loop-place.state) c.read_line.ensures

pub returns-in_default : goal.returns-in_default
returns-in_default c =
    let l = c.loop-place in
    ap Wrong (add-one l.lines)
    ∙ sym (left (goal.at.returns-in_default c).At-loop-place ∙ tell_tail l.state c.args.text.now l.place l.lines c.loop-place-test.true (sym c.line_end.ensures ∙ c.in_default.is))

pub slice_bounds-read_line-count : goal.slice_bounds-read_line-count
slice_bounds-read_line-count c = omega (arith, (cut (goal.at.slice_bounds-read_line-count c).In-Some).after)

pub slice_bounds-read_line-start : goal.slice_bounds-read_line-start
slice_bounds-read_line-start c = let k = cut (goal.at.slice_bounds-read_line-start c).In-Some in omega (arith, k.after, k.inside)

pub slice_bounds-read_line-end : goal.slice_bounds-read_line-end
slice_bounds-read_line-end c = let k = cut (goal.at.slice_bounds-read_line-end c).In-Some in omega (arith, k.after, k.inside)

pub returns-then-is_dead : goal.returns-then-is_dead
returns-then-is_dead c =
    let l = c.loop-place in
    let g = goal.at.returns-then-is_dead c in
    ap Wrong (add-one l.lines)
    ∙ sym
    (left g.At-loop-place
    ∙ tell_wrong l.state c.args.text.now l.place l.lines c.in-Some.end (found g.In-Some) c.next-state.result (after g.After-next-state) (sym c.is_dead.ensures ∙ c.if-is_dead.true))

pub returns-then-ended_one : goal.returns-then-ended_one
returns-then-ended_one c =
    let l = c.loop-place in
    let g = goal.at.returns-then-ended_one c in
    let here : c.behind-here.result ≡ behind c.next-state.result (c.in-Some.end + 1) (suc l.lines) = c.behind-here.ensures ∙ ap (behind c.next-state.result (c.in-Some.end + 1)) (add-one l.lines) in
    ap (λ x. Next x c.behind-here.result) c.ended.ensures
    ∙ (λ i. Next (ending_at (here i) (c.since-from.ensures i)) (here i))
    ∙ sym
    (left g.At-loop-place
    ∙ tell_ended l.state c.args.text.now l.place l.lines c.in-Some.end (found g.In-Some) c.next-state.result (after g.After-next-state) (sym c.is_dead.ensures ∙ c.if-is_dead.false) (sym c.ended_one.ensures ∙ ap bit c.if-ended_one.true))

pub loop-place-smaller : goal.loop-place-smaller
loop-place-smaller c = let k = cut (goal.at.loop-place-smaller c).In-Some in omega (arith, k.inside, k.after)

pub loop-place-preserved : goal.loop-place-preserved
loop-place-preserved c =
    let l = c.loop-place in
    let g = goal.at.loop-place-preserved c in
    let k = cut g.In-Some in
    let left = lines_of (drop (c.in-Some.end + 1) c.args.text.now) in (
      omega (arith, k.inside),
      omega (arith, l.invariant.1, k.after),
      l.invariant.2
          ∙ tell_on l.state c.args.text.now l.place l.lines c.in-Some.end (found g.In-Some) c.next-state.result (after g.After-next-state) (sym c.is_dead.ensures ∙ c.if-is_dead.false) (sym c.ended_one.ensures ∙ ap bit c.if-ended_one.false)
          ∙ ap (λ n. tell c.next-state.result (c.in-Some.end + 1) n left) (sym (add-one l.lines)),
    )

pub returns-then-done : goal.returns-then-done
returns-then-done c =
    let l = c.loop-place in
    let text = c.args.text.now in
    ap Over c.behind.ensures
    ∙ sym (left (goal.at.returns-then-done c).At-loop-place ∙ tell_over l.state l.place l.lines (drop l.place text) (drop_of_length-le text c.loop-place-test.false) (sym c.done.ensures ∙ c.if-done.true))

pub returns-else-done : goal.returns-else-done
returns-else-done c =
    let l = c.loop-place in
    let text = c.args.text.now in
    ap Wrong (add-one l.lines)
    ∙ sym (left (goal.at.returns-else-done c).At-loop-place ∙ tell_short l.state l.place l.lines (drop l.place text) (drop_of_length-le text c.loop-place-test.false) (sym c.done.ensures ∙ c.if-done.false))
