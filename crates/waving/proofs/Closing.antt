-- Closing writes no more than the buffer holds, and where it writes, fewer lines are left.
use mathlib.Core.Path.{◌≡◌, refl, ap, subst, ◌∙◌}
use mathlib.Core.Bool.{Bool, true, false, cond}
use mathlib.Core.List.{List, [], ◌∷◌, ◌++◌}
use Prim.Native.Nat.{ℕ, ◌+◌, ◌-◌, ◌≤◌, ◌<◌}
use native.Mathlib.Omega.{arith}
use native.Mathlib.Decide.{dec_le}
use lib.ListN.{length, length-append}
use Rattle.lists.specs.Lists.{all_of}
use Rattle.answers.specs.Verdicts.{Verdict}
use Rattle.std.specs.Prelude.{Ok, Err}
use Rattle.answers.specs.Answers.{first_of, on_yes}
use Rattle.waveform.specs.declared.Token.{Token}
use Rattle.waveform.specs.declared.Token.TheVariants as token
use Rattle.waveform.specs.declared.cursor.Cursor.{Cursor}
use Rattle.waveform.specs.declared.parts.Closed.{Closed}
use Rattle.waveform.specs.Texts.{as_line}
use Rattle.waveform.specs.Cursors.{flagged, due_lines, any_due, any_value}
use Rattle.waveform.specs.Order.{none, is_none}
use Rattle.waveform.specs.Parts.{bytes_of, fitting, wrote_all, due_fitting, closing_lines, closing_fitting, after_closing, close_stops, closed_of, closing_bytes}
use Rattle.waveform.proofs.Fitting.{due_left}
use Rattle.waveform.proofs.SoFar.{same_run}
use Rattle.waveform.proofs.Closing.{Closes, closes_short, closes_still, closes_unmarked, closes_marked}
use Rattle.waving.proofs.Bounds.{inside, counted}

-- how many lines are left
abbrev pub left : Cursor → ℕ
left c = length (closing_lines c)

-- the mark at the end, if there is one
abbrev marks : Cursor → ℕ
marks c = length (flagged c.ran (token.Mark c.clock))

-- no line is no byte
some_lines : (ls : List Token) → 0 < length (bytes_of ls) → 0 < length ls
unfolding bytes_of
some_lines [] h = absurd (omega (arith, h))
some_lines (l ∷ ls) h = omega arith

some_fitting : (room : ℕ) (ls : List Token) → 0 < length (fitting room ls) → 0 < length ls
unfolding fitting
some_fitting room [] h = absurd (omega (arith, h))
some_fitting room (l ∷ ls) h = omega arith

-- no more lines are left than are due, and a mark
left_most : (c : Cursor) → left c ≤ length (due_lines c) + marks c
unfolding closing_lines
left_most c = go (is_none c)
  where
    go : (b : Bool) → length (cond b [] (due_lines c ++ flagged c.ran (token.Mark c.clock))) ≤ length (due_lines c) + marks c
    go true = omega arith
    go false = omega (arith, length-append (due_lines c) (flagged c.ran (token.Mark c.clock)))

-- none of an empty cursor
left_none : (c : Cursor) → is_none c ≡ true → left c ≡ 0
unfolding closing_lines
left_none c e = rw e

-- and of any other exactly so many
left_all : (c : Cursor) → is_none c ≡ false → left c ≡ length (due_lines c) + marks c
unfolding closing_lines
left_all c e = ap (λ b. length (cond b [] (due_lines c ++ flagged c.ran (token.Mark c.clock)))) e ∙ length-append (due_lines c) (flagged c.ran (token.Mark c.clock))

none_left : left none ≡ 0
unfolding closing_lines is_none any_value all_of
none_left = refl

module _ (room : ℕ) (c : Cursor) where
  abbrev fit : List Token
  fit = due_fitting room c

  abbrev after : Cursor
  after = wrote_all (due_fitting room c) c

  -- closing writes something; and then fewer lines are left
  abbrev Writes : Type 0
  Writes = 0 < length (bytes_of (closing_fitting room c))

  abbrev Fewer : Type 0
  Fewer = left (after_closing (closing_fitting room c) c) < left c

  -- the run is over
  to_none : {ls : List Token} → Closes room c ls none → Writes → Fewer
  to_none {ls} k h =
      let z : left (after_closing (closing_fitting room c) c) ≡ 0 = ap left k.cursor ∙ none_left in
      omega (arith, z, some_fitting room (closing_lines c) (some_lines (closing_fitting room c) h))

  -- only what is due was written
  to_after : is_none c ≡ false → Closes room c fit after → Writes → Fewer
  to_after live k h =
      let z : left (after_closing (closing_fitting room c) c) ≡ left after = ap left k.cursor in
      let due : length (due_lines c) ≡ length fit + length (due_lines after) = ap length (due_left room c) ∙ length-append fit (due_lines after) in
      let same : marks after ≡ marks c = λ i. length (flagged ((same_run fit c).1 i) (token.Mark ((same_run fit c).0 i))) in
      let some : 0 < length fit = subst (λ ls. 0 < length ls) k.lines (some_lines (closing_fitting room c) h) in
      omega (arith, z, due, same, some, left_most after, left_all c live)

  fewer : Writes → Fewer
  fewer h = go (is_none c) refl (any_due after.due) refl c.ran refl
    where
      go : (n : Bool) → is_none c ≡ n → (d : Bool) → any_due after.due ≡ d → (r : Bool) → c.ran ≡ r → Fewer
      go true n d e r f = absurd (omega (arith, left_none c n, some_fitting room (closing_lines c) (some_lines (closing_fitting room c) h)))
      go false n true e r f = to_after n (closes_short room c n e) h
      go false n false e false f = to_none (closes_still room c n e f) h
      go false n false e true f = by_room (dec_le (length (as_line (token.Mark c.clock))) (room - length (bytes_of fit)))
        where
          by_room : Dec (length (as_line (token.Mark c.clock)) ≤ room - length (bytes_of fit)) → Fewer
          by_room (yes p) = to_none (closes_marked room c n e f p) h
          by_room (no p) = to_after n (closes_unmarked room c n e f (omega (arith, p))) h

module _ (room : ℕ) (c : Cursor) {r : Closed} (e : r ≡ closed_of room c) where
  abbrev answer : Verdict
  answer = first_of (close_stops room c)

  -- FEWER LINES ARE LEFT where any byte was written
  pub fewer_left : 0 < r.bytes → left r.cursor < left c
  unfolding closed_of
  fewer_left h =
      let bytes : r.bytes ≡ on_yes answer (length (bytes_of (closing_fitting room c))) 0 = ap (λ x. x.bytes) e in
      let cursor : left r.cursor ≡ left (on_yes answer (after_closing (closing_fitting room c) c) c) = ap (λ x. left x.cursor) e in
      let less = by_answer answer (omega (arith, h, bytes)) in
      omega (arith, cursor, less)
    where
      by_answer : (v : Verdict) → 0 < on_yes v (length (bytes_of (closing_fitting room c))) 0 → left (on_yes v (after_closing (closing_fitting room c) c) c) < left c
      by_answer (Ok tt) h = fewer room c h
      by_answer (Err x) h = absurd (omega (arith, h))

  -- NO MORE BYTES THAN THERE ARE
  pub few_bytes : (more : List ℕ) {exit : List ℕ} → exit ≡ closing_bytes room c ++ more → r.bytes ≤ length exit
  unfolding closed_of closing_bytes
  few_bytes more {exit} h =
      let bytes : r.bytes ≡ length (closing_bytes room c) = ap (λ x. x.bytes) e ∙ counted answer (bytes_of (closing_fitting room c)) in
      omega (arith, bytes, inside (closing_bytes room c) more h)
