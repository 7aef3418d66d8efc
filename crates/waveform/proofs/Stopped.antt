-- The stretches of a text that is judged wrong, taken one after another from the front, are those that end before the wrong line.
use mathlib.Core.Path.{◌≡◌, refl, sym, ap, subst, ◌∙◌}
use mathlib.Core.Bool.{Bool, true, false, cond}
use mathlib.Core.List.{List, [], ◌∷◌, ◌++◌, map}
use Prim.Native.Nat.{ℕ, suc, ◌+◌, ◌-◌}
use native.Mathlib.Omega.{arith}
use lib.ListN.{length, take}
use Rattle.text.specs.Fields.{newline, lines_of}
use Rattle.text.proofs.Fields.{fields_some}
use Rattle.waveform.specs.declared.State.{State}
use Rattle.waveform.specs.declared.State.TheVariants.{Heading}
use Rattle.waveform.specs.Texts as texts
use Rattle.waveform.specs.declared.stretches.Bookmark.{Bookmark}
use Rattle.waveform.specs.declared.stretches.Told.TheVariants.{Wrong, Over}
use Rattle.waveform.specs.Reading.{next, come, done}
use Rattle.waveform.specs.Bytes.{says}
use Rattle.waveform.specs.Stretches.{stretches}
use Rattle.waveform.specs.Texts.{is_dead, is_nothing, end_in, Reading, reading, line_read, judge, judged}
use Rattle.waveform.specs.Telling.{front, behind, tell, OneByOne}
use Rattle.waveform.proofs.Texts.{whole, wrong_not_well, wrong_same}
use Rattle.waveform.proofs.Telling.{told_wrong, told_in_order}
use Rattle.waveform.proofs.OneByOne.{lines_told}

-- WHERE A TEXT IS JUDGED WRONG, it is told wrong, behind the lines before
record Stops (r : Reading) (ps : List (List ℕ)) (n : ℕ) : Type 0 where
  lines : List (List ℕ)
  part : List ℕ
  more : List (List ℕ)
  parts : ps ≡ lines ++ (part ∷ more)
  alive : is_dead (come r.state (map says lines)) ≡ false
  line : n ≡ suc (r.lines + length lines)
  wrong : (p : ℕ) → tell (come r.state (map says lines)) p (r.lines + length lines) (part ∷ more) ≡ Wrong n

stops : (r : Reading) (l : List ℕ) (ls : List (List ℕ)) (n : ℕ) → is_dead r.state ≡ false → judge r (l ∷ ls) ≡ texts.Wrong n → Stops r (l ∷ ls) n
unfolding judge come tell
stops r l [] n a h =
    record {
      lines = [];
      part = l;
      more = [];
      parts = refl;
      alive = a;
      line = go_line l (done r.state) h;
      wrong = λ p. go l (done r.state) h (behind r.state p (r.lines + 0));
    }
  where
    here : texts.Wrong (suc r.lines) ≡ texts.Wrong n → n ≡ suc (r.lines + 0)
    here e = omega (arith, wrong_same (suc r.lines) n e)

    go_line : (m : List ℕ) (d : Bool)
        → cond (is_nothing m) (cond d (texts.Well r.start (end_in r.state) r.ended) (texts.Wrong (suc r.lines))) (texts.Wrong (suc r.lines)) ≡ texts.Wrong n → n ≡ suc (r.lines + 0)
    go_line [] true e = absurd (wrong_not_well n r.start (end_in r.state) r.ended (sym e))
    go_line [] false e = here e
    go_line (x ∷ m) d e = here e

    go : (m : List ℕ) (d : Bool)
        → cond (is_nothing m) (cond d (texts.Well r.start (end_in r.state) r.ended) (texts.Wrong (suc r.lines))) (texts.Wrong (suc r.lines)) ≡ texts.Wrong n
        → (b : Bookmark) → cond (is_nothing m) (cond d (Over b) (Wrong (suc (r.lines + 0)))) (Wrong (suc (r.lines + 0))) ≡ Wrong n
    go [] true e b = absurd (wrong_not_well n r.start (end_in r.state) r.ended (sym e))
    go [] false e b = ap Wrong (sym (here e))
    go (x ∷ m) d e b = ap Wrong (sym (here e))
stops r l (m ∷ ls) n a h = go (is_dead after) refl h (λ d. stops (line_read r after) m ls n d)
  where
    after : State
    after = next r.state (says l)

    go : (b : Bool) → is_dead after ≡ b → cond b (texts.Wrong (suc r.lines)) (judge (line_read r after) (m ∷ ls)) ≡ texts.Wrong n
        → (is_dead after ≡ false → judge (line_read r after) (m ∷ ls) ≡ texts.Wrong n → Stops (line_read r after) (m ∷ ls) n) → Stops r (l ∷ m ∷ ls) n
    go true d e ih =
        let same : suc r.lines ≡ n = wrong_same (suc r.lines) n e in
        let line : n ≡ suc (r.lines + 0) = omega (arith, same) in
        record {
          lines = [];
          part = l;
          more = m ∷ ls;
          parts = refl;
          alive = a;
          line = line;
          wrong = λ p. told_wrong r.state (says l) after refl (p + suc (length l)) (suc (r.lines + 0)) (tell after (p + suc (length l)) (suc (r.lines + 0)) (m ∷ ls)) d ∙ ap Wrong (sym line);
        }
    go false d e ih =
        let w = ih d e in
        let far : suc r.lines + length w.lines ≡ r.lines + suc (length w.lines) = omega arith in
        record {
          lines = l ∷ w.lines;
          part = w.part;
          more = w.more;
          parts = ap (l ∷◌) w.parts;
          alive = w.alive;
          line = w.line ∙ ap suc far;
          wrong = λ p. ap (λ k. tell (come after (map says w.lines)) p k (w.part ∷ w.more)) (sym far) ∙ w.wrong p;
        }

whole_front : (ls : List (List ℕ)) (q : List ℕ) (qs : List (List ℕ)) → take (length ls) (whole (ls ++ (q ∷ qs))) ≡ ls
whole_front [] q qs = refl
whole_front (l ∷ []) q qs = refl
whole_front (l ∷ m ∷ ls) q qs = ap (l ∷◌) (whole_front (m ∷ ls) q qs)

-- A TEXT THAT IS JUDGED WRONG tells the stretches that end before the wrong line, and then that line
pub wrong_told : (s : List ℕ) (n : ℕ) → judged s ≡ texts.Wrong n → OneByOne s front (stretches (Heading 0) (map says (take (n - 1) (whole (lines_of s))))) (Wrong n)
wrong_told s n h =
    let (l, ls, e) = fields_some newline s in
    let w = stops (reading (Heading 0) 0 0 0) l ls n refl (ap (judge (reading (Heading 0) 0 0 0)) (sym e) ∙ h) in
    let d = lines_told s w.part w.more w.lines (Heading 0) 0 0 (omega arith) (omega arith) (e ∙ w.parts) w.alive front (told_in_order s front (Heading 0) refl (omega arith) (omega arith)) in
    let many : n - 1 ≡ length w.lines = omega (arith, w.line) in
    let before : w.lines ≡ take (n - 1) (whole (lines_of s))
    = sym (whole_front w.lines w.part w.more) ∙ (λ i. take (sym many i) (whole (sym (e ∙ w.parts) i))) in
    subst (λ xs. OneByOne s front (stretches (Heading 0) (map says xs)) (Wrong n)) before
    (subst (OneByOne s front (stretches (Heading 0) (map says w.lines))) (w.wrong d.place) d.each)
