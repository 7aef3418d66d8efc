-- A text has one answer.
use mathlib.Core.Path.{◌≡◌, sym, ap, ◌∙◌}
use mathlib.Core.List.{List, [], ◌∷◌, ◌++◌}
use Prim.Native.Nat.{ℕ}
use Rattle.std.specs.Prelude.{Ok, Err}
use Rattle.waveform.specs.declared.stretches.Bookmark.{Bookmark}
use Rattle.waveform.specs.declared.stretches.Stretch.{Stretch}
use Rattle.waveform.specs.declared.stretches.Told.{Told}
use Rattle.waveform.specs.Texts.{Outcome}
use Rattle.waveform.specs.Telling.{OneByOne}
use Rattle.waveform.proofs.OneByOne.{next_is_first, over_is_last}
use Rattle.showing.specs.declared.Shown.{Shown}
use Rattle.showing.specs.Texts.{line_of, lines_of}
use Rattle.showing.specs.Answers.{AnswerTo}

stretches_once : (s : List ℕ) (xs ys : List Stretch) (b l m : Bookmark) → OneByOne s b xs (Told.Over l) → OneByOne s b ys (Told.Over m) → xs ≡ ys
stretches_once s [] ys b l m o p = sym (over_is_last s b m ys l p o).0
stretches_once s (x ∷ xs) ys b l m (c, h, o) p =
    let (zs, e, q) = next_is_first s b m ys x c p h in
    ap (x ∷◌) (stretches_once s xs zs c l m o q) ∙ sym e

pub answer_once : (s : List ℕ) (o : Outcome) (a b : List ℕ) → AnswerTo s o a → AnswerTo s o b → a ≡ b
answer_once s (Err wrong) a b p q = p ∙ sym q
answer_once s (Ok run) a b (xs, l, o, p) (ys, m, r, q) =
    p ∙ ap (λ zs. line_of (Shown.Start run.start) ++ (lines_of zs ++ line_of (Shown.End run.end))) (stretches_once s xs ys _ l m o r) ∙ sym q
