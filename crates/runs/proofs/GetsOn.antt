-- A buffer of 36 bytes always gets on: neither going on nor closing is refused for want of room.
use mathlib.Core.Path.{◌≡◌, refl, sym, ap, subst, ◌∙◌}
use mathlib.Core.Bool.{Bool, true, false, cond, not, ◌&&◌, ◌||◌}
use mathlib.Core.List.{List, [], ◌∷◌, ◌++◌}
use Prim.Native.Nat.{ℕ, zero, suc, ◌+◌, ◌-◌, ◌≤◌, ◌<◌}
use native.Mathlib.Omega.{arith}
use borrow.Author.Tests.{eqb-true, eq-eqb, leb-true, leb-false}
use lib.Dec.{eqb, leb}
use lib.ListN.{length, length-append}
use Rattle.lists.specs.Lists.{Each}
use Rattle.lists.proofs.Tests.{both_made}
use Rattle.answers.specs.declared.Who.{Who}
use Rattle.std.specs.Prelude.{Ok}
use Rattle.answers.proofs.Answers.{goes_on_lem, no_line}
use Rattle.desk.specs.declared.Desk.{Desk}
use Rattle.desk.specs.State.{in_order}
use Rattle.desk.specs.Calls.{step_of}
use Rattle.waveform.specs.declared.cursor.Cursor.{Cursor}
use Rattle.waveform.specs.Runs.{job_wire, most_number}
use Rattle.waveform.specs.Texts.{as_line}
use Rattle.waveform.specs.Cursors.{any_due, first_due, wrote}
use Rattle.waveform.specs.Order.{is_none}
use Rattle.waveform.specs.Parts.{bytes_of, wrote_all, due_fitting, closed_of}
use Rattle.waveform.specs.SoFar.{last_of}
use Rattle.waveform.proofs.Fitting.{bytes_append, bytes_none, due_fits}
use Rattle.waveform.proofs.Widths.{longest, first_narrow, closing_fits}
use Rattle.runs.specs.Parts.{clock_of, Part, part, room_in, filled, step_on, goes_on, carried, part_of, ordered_at, stuck, go_answer}
use Rattle.runs.specs.Written.{Written}
use Rattle.runs.proofs.Joined.{part_on, Live}

-- a job's name in 32 bits, as every call has it
abbrev pub Narrow : Who → Type 0
Narrow w = job_wire w ≤ most_number

last_narrow : (ws : List Who) → Each Narrow ws → Narrow (last_of ws)
last_narrow [] h = omega arith
last_narrow (w ∷ []) h = h.0
last_narrow (w ∷ v ∷ ws) h = last_narrow (v ∷ ws) h.1

-- where nothing is written and a line is due, it is too long for the whole buffer
abbrev TooLong : ℕ → Part → Type 0
TooLong size p = length (bytes_of p.lines) ≡ 0 → any_due p.cursor.due ≡ true → size < length (as_line (first_due p.cursor))

none_fitted : (room : ℕ) (c : Cursor) → due_fitting room c ≡ [] → any_due c.due ≡ true → room < length (as_line (first_due c))
none_fitted room c e due = go (leb (length (as_line (first_due c))) room) refl
  where
    go : (b : Bool) → leb (length (as_line (first_due c))) room ≡ b → room < length (as_line (first_due c))
    go true h =
        let z : 0 ≡ suc (length (due_fitting (room - length (as_line (first_due c))) (wrote c))) = ap length (sym e ∙ due_fits room c due (leb-true (length (as_line (first_due c))) room h)) in
        absurd (omega (arith, z))
    go false h = leb-false (length (as_line (first_due c))) room h

filled_long : (size : ℕ) (p : Part) → TooLong size (filled size p)
unfolding wrote_all
filled_long size p none due =
    let fit = due_fitting (room_in size p) p.cursor in
    let bytes : length (bytes_of (p.lines ++ fit)) ≡ length (bytes_of p.lines) + length (bytes_of fit) = ap length (bytes_append p.lines fit) ∙ length-append (bytes_of p.lines) (bytes_of fit) in
    let nothing : fit ≡ [] = bytes_none fit (omega (arith, bytes, none)) in
    let whole : room_in size p ≡ size = omega (arith, bytes, none) in
    let same : wrote_all fit p.cursor ≡ p.cursor = ap (λ ls. wrote_all ls p.cursor) nothing in
    let short = none_fitted (room_in size p) p.cursor nothing (ap (λ c. any_due c.due) (sym same) ∙ due) in
    subst (λ c. size < length (as_line (first_due c))) (sym same) (subst (λ n. n < length (as_line (first_due p.cursor))) whole short)

carried_long : (size n : ℕ) (p : Part) → TooLong size p → TooLong size (carried size n p)
unfolding carried
carried_long size zero p h = h
carried_long size (suc n) p h = by_case (goes_on p) (carried_long size n (filled size (step_on p (step_of p.desk))) (filled_long size (step_on p (step_of p.desk))))
  where
    by_case : (b : Bool) → TooLong size (carried size n (filled size (step_on p (step_of p.desk)))) → TooLong size (cond b (carried size n (filled size (step_on p (step_of p.desk)))) p)
    by_case true k = k
    by_case false k = h

part_long : (size most : ℕ) (d : Desk) (c : Cursor) → TooLong size (part_of size most d c)
unfolding part_of
part_long size most d c = carried_long size most (filled size (part d c [] [])) (filled_long size (part d c [] []))

module _ (t : ℕ) (w : Written) (k : Live t w) (size : ℕ) (wide : longest ≤ size) where
  -- GOING ON at a desk in order whose clock is the run's is not refused
  pub going_on_gets_on : (most : ℕ) (d : Desk) → in_order d ≡ true → w.cursor.clock ≡ clock_of d → Each Narrow (w.names ++ (part_of size most d w.cursor).names)
      → go_answer size most d w.cursor ≡ Ok tt
  unfolding ordered_at stuck
  going_on_gets_on most d order clock narrow =
      let p = part_of size most d w.cursor in
      let on = part_on size most d w.cursor k.tells clock in
      let number : p.cursor.number ≤ most_number = subst (λ n. n ≤ most_number) (sym on.tells.job) (last_narrow (w.names ++ p.names) narrow) in
      let fits : length (as_line (first_due p.cursor)) ≤ longest = first_narrow p.cursor on.tells.order number in
      goes_on_lem _ _ _ (ap not order) (goes_on_lem _ _ _ (ap not (both_made _ _ (eq-eqb _ _ clock) k.tells.order)) (goes_on_lem _ _ _ (not_stuck p fits (part_long size most d w.cursor)) no_line))
    where
      not_stuck : (p : Part) → length (as_line (first_due p.cursor)) ≤ longest → TooLong size p → eqb (length (bytes_of p.lines)) 0 && any_due p.cursor.due ≡ false
      not_stuck p fits long = go (eqb (length (bytes_of p.lines)) 0) refl (any_due p.cursor.due) refl
        where
          go : (a : Bool) → eqb (length (bytes_of p.lines)) 0 ≡ a → (b : Bool) → any_due p.cursor.due ≡ b → a && b ≡ false
          go false ea b eb = refl
          go true ea false eb = refl
          go true ea true eb =
              let short : size < length (as_line (first_due p.cursor)) = long (eqb-true (length (bytes_of p.lines)) 0 ea) eb in
              absurd (omega (arith, short, fits, wide))

  -- CLOSING is not refused
  pub closing_gets_on : Each Narrow w.names → (closed_of size w.cursor).verdict ≡ Ok tt
  unfolding closed_of
  closing_gets_on narrow =
      let number : w.cursor.number ≤ most_number = subst (λ n. n ≤ most_number) (sym k.tells.job) (last_narrow w.names narrow) in
      goes_on_lem _ _ _ (ap not (ap (λ b. is_none w.cursor || b) k.tells.order ∙ or-true (is_none w.cursor))) (goes_on_lem _ _ _ (closing_fits size w.cursor wide k.tells.order number) no_line)
    where
      or-true : (b : Bool) → b || true ≡ true
      or-true true = refl
      or-true false = refl
