-- A text is judged line by line.
use mathlib.Core.Path.{◌≡◌, refl, sym, ap, ◌∙◌}
use mathlib.Core.Bool.{true, false, cond}
use mathlib.Core.List.{List, [], ◌∷◌}
use Prim.Native.Nat.{ℕ, suc, ◌+◌, ◌-◌, ◌<◌}
use native.Mathlib.Omega.{arith}
use lib.ListN.{length, take, drop, length-drop}
use Rattle.std.specs.Prelude.{Some, None}
use Rattle.text.specs.Fields.{newline, found_in, parted, lines_of}
use Rattle.text.proofs.Fields.{Cut, cut_at, cut_nowhere, fields_some}
use Rattle.waveform.specs.declared.State.{State}
use Rattle.waveform.specs.Reading.{next, done}
use Rattle.waveform.specs.Bytes.{says}
use Rattle.waveform.specs.Texts.{is_dead, is_nothing, Reading, line_read, end_read, judge, Wrong, end_in, Well}
use Rattle.waveform.proofs.Options.{if_some, if_none}

module _ (r : Reading) where
  -- a whole line, and what is left
  judge_line : (l x : List ℕ) → judge r (l ∷ lines_of x) ≡ cond (is_dead (next r.state (says l))) (Wrong (suc r.lines)) (judge (line_read r (next r.state (says l))) (lines_of x))
  unfolding judge
  judge_line l x =
      let (f, fs, e) = fields_some newline x in
      ap (λ ps. judge r (l ∷ ps)) e ∙ ap (λ ps. cond (is_dead (next r.state (says l))) (Wrong (suc r.lines)) (judge (line_read r (next r.state (says l))) ps)) (sym e)

  module _ (text : List ℕ) (from : ℕ) where
    judge_cut : (e : ℕ) → Cut newline text from e
        → judge r (lines_of (drop from text))
        ≡ cond (is_dead (next r.state (says (take (e - from) (drop from text))))) (Wrong (suc r.lines)) (judge (line_read r (next r.state (says (take (e - from) (drop from text))))) (lines_of (drop (e + 1) text)))
    judge_cut e c = ap (judge r) c.fields ∙ judge_line (take (e - from) (drop from text)) (drop (e + 1) text)

    -- by the state after it: no text of a run goes on so, or what is left is judged from there
    module _ (e : ℕ) (found : found_in newline from (drop from text) ≡ Some e) (n : State) (after : n ≡ next r.state (says (take (e - from) (drop from text)))) where
      judge_after : judge r (lines_of (drop from text)) ≡ cond (is_dead n) (Wrong (suc r.lines)) (judge (line_read r n) (lines_of (drop (e + 1) text)))
      judge_after =
          judge_cut e (cut_at newline text from e found)
          ∙ (λ i. cond (is_dead (sym after i)) (Wrong (suc r.lines)) (judge (line_read r (sym after i)) (lines_of (drop (e + 1) text))))

      pub judge_dead : is_dead n ≡ true → judge r (lines_of (drop from text)) ≡ Wrong (suc r.lines)
      judge_dead d = judge_after ∙ ap (λ b. cond b (Wrong (suc r.lines)) (judge (line_read r n) (lines_of (drop (e + 1) text)))) d

      pub judge_on : is_dead n ≡ false → judge r (lines_of (drop from text)) ≡ judge (line_read r n) (lines_of (drop (e + 1) text))
      judge_on d = judge_after ∙ ap (λ b. cond b (Wrong (suc r.lines)) (judge (line_read r n) (lines_of (drop (e + 1) text)))) d

    -- no newline is left, but something stands there
    pub judge_tail : from < length text → found_in newline from (drop from text) ≡ None → judge r (lines_of (drop from text)) ≡ Wrong (suc r.lines)
    unfolding judge
    judge_tail l h = ap (judge r) (cut_nowhere newline text from h) ∙ go (drop from text) (omega (arith, length-drop from text, l))
      where
        go : (x : List ℕ) → 0 < length x → cond (is_nothing x) (end_read r) (Wrong (suc r.lines)) ≡ Wrong (suc r.lines)
        go [] q = absurd (omega arith)
        go (b ∷ x) q = refl

  -- nothing is left
  judge_end : (x : List ℕ) → x ≡ [] → judge r (lines_of x) ≡ end_read r
  unfolding judge parted
  judge_end x e = ap (λ y. judge r (lines_of y)) e

  pub judge_well : (x : List ℕ) → x ≡ [] → {e : ℕ} → Some e ≡ cond (done r.state) (Some (end_in r.state)) None → judge r (lines_of x) ≡ Well r.start e r.ended
  judge_well x n {e} h =
      let d = if_some (done r.state) (end_in r.state) h in
      judge_end x n ∙ (λ i. cond (d.0 i) (Well r.start (sym d.1 i) r.ended) (Wrong (suc r.lines)))

  pub judge_short : (x : List ℕ) → x ≡ [] → None ≡ cond (done r.state) (Some (end_in r.state)) None → judge r (lines_of x) ≡ Wrong (suc r.lines)
  judge_short x n h =
      judge_end x n ∙ ap (λ b. cond b (Well r.start (end_in r.state) r.ended) (Wrong (suc r.lines))) (if_none (done r.state) (end_in r.state) h)
