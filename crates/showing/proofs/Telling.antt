-- Laws on an answer that is told line by line.
use mathlib.Core.Path.{◌≡◌, refl, sym, ap, subst, ◌∙◌}
use mathlib.Core.Logic.{◌⊎◌, inl, inr}
use mathlib.Core.List.{List, [], ◌∷◌, ◌++◌, append_assoc, append-nil}
use Prim.Native.Nat.{ℕ}
use lib.ListN.{take}
use Rattle.text.specs.Put.{Put}
use Rattle.text.proofs.Texts.{put_front}
use Rattle.waveform.specs.declared.stretches.Bookmark.{Bookmark}
use Rattle.waveform.specs.declared.stretches.Stretch.{Stretch}
use Rattle.waveform.specs.declared.stretches.Told.{Told}
use Rattle.waveform.specs.Texts.{Well, Wrong, judged}
use Rattle.waveform.specs.Telling.{front, next_told, OneByOne}
use Rattle.waveform.proofs.OneByOne.{stretches_in, well_told, next_is_first}
use Rattle.showing.specs.declared.Shown.{Shown}
use Rattle.showing.specs.Texts.{line_of, lines_of}
use Rattle.showing.specs.Answers.{AnswerTo, SoFar, Kept, Added, Listed, RunTold, Answered}

-- nothing is told where nothing is written and nothing waits
pub none_yet : (out : List ℕ) → SoFar [] out 0
none_yet out = record { written = []; whole = refl }

-- what waited is written
pub all_written : (out : List ℕ) (at : ℕ) → Kept out at 0
all_written out at told s = record { written = told; whole = sym (append-nil told) }

-- what is told so far stays where a line finds its place
pub kept_in_place : {P Q : Type 0} (out : List ℕ) (at to : ℕ) → (to ≡ at × P) ⊎ (to ≡ 0 × Q) → Kept out at to
kept_in_place out at to (inl e) told s = subst (SoFar told out) (sym e.0) s
kept_in_place out at to (inr e) told s = subst (SoFar told out) (sym e.0) (all_written out at told s)

-- a line is put behind what waits
pub line_added : {out new : List ℕ} {at m to : ℕ} {bytes : List ℕ} → Kept out at m → Put out new m to bytes → Added out new at to bytes
line_added {out} {new} {at} {m} {to} {bytes} k p told s =
    let w = k told s in
    record {
      written = w.written;
      whole = ap (◌++ bytes) w.whole ∙ append_assoc w.written (take m out) bytes ∙ ap (w.written ++◌) (sym (put_front p));
    }

-- WHAT IS LEFT TO TELL from a bookmark on: the stretches that are told from there; with what is told so far it is all that is to be told
pub record Left (s : List ℕ) (last : Bookmark) (all out : List ℕ) (at : ℕ) (mark : Bookmark) : Type 0 where
  pub stretches : List Stretch
  pub each : OneByOne s mark stretches (Told.Over last)
  pub told : List ℕ
  pub so_far : SoFar told out at
  pub same : all ≡ told ++ lines_of stretches

-- after one stretch more
pub left_next : (s : List ℕ) (last : Bookmark) (all : List ℕ) {out new : List ℕ} {at to : ℕ} (mark on : Bookmark) (x : Stretch)
    → next_told s mark ≡ Told.Next x on → Added out new at to (line_of (Shown.Ran x)) → Left s last all out at mark → Left s last all new to on
unfolding lines_of
left_next s last all {out} {new} {at} {to} mark on x h a l =
    let (ys, e, o) = next_is_first s mark last l.stretches x on l.each h in
    record {
      stretches = ys;
      each = o;
      told = l.told ++ line_of (Shown.Ran x);
      so_far = a l.told l.so_far;
      same = l.same ∙ ap (λ zs. l.told ++ lines_of zs) e ∙ sym (append_assoc l.told (line_of (Shown.Ran x)) (lines_of ys));
    }

-- where no stretch is told any more, all is told
pub left_none : (s : List ℕ) (last : Bookmark) (all out : List ℕ) (at : ℕ) (mark : Bookmark)
    → ((x : Stretch) (on : Bookmark) → next_told s mark ≡ Told.Next x on → ⊥) → Left s last all out at mark → SoFar all out at
unfolding lines_of
left_none s last all out at mark never l = go l.stretches l.each l.same
  where
    go : (xs : List Stretch) → OneByOne s mark xs (Told.Over last) → all ≡ l.told ++ lines_of xs → SoFar all out at
    go [] o e = record { written = l.so_far.written; whole = e ∙ append-nil l.told ∙ l.so_far.whole }
    go (x ∷ xs) (on, h, o) e = absurd (never x on h)

-- WHAT IS TOLD FROM THE FRONT UP TO A BOOKMARK leaves the rest, whatever is to be told
abbrev pub Onward : List ℕ → List ℕ → ℕ → List ℕ → ℕ → Bookmark → Type 0
Onward s out at new to mark = (last : Bookmark) (all : List ℕ) → Left s last all out at front → Left s last all new to mark

-- and where no stretch is told any more, all are
pub listed : (s out : List ℕ) (at : ℕ) (new : List ℕ) (to : ℕ) (mark : Bookmark) → Onward s out at new to mark
    → ((x : Stretch) (on : Bookmark) → next_told s mark ≡ Told.Next x on → ⊥) → Listed s out new at to
listed s out at new to mark g never xs last o told so =
    left_none s last (told ++ lines_of xs) new to mark never (g last (told ++ lines_of xs) (record { stretches = xs; each = o; told = told; so_far = so; same = refl }))

-- the start, the stretches and the end, one after another
pub run_told : (s : List ℕ) {a b c d : List ℕ} {x y z : ℕ} (start end : ℕ)
    → Added a b 0 x (line_of (Shown.Start start)) → Listed s b c x y → Added c d y z (line_of (Shown.End end)) → RunTold s d start end z
run_told s {a} {b} {c} {d} {x} {y} {z} start end first each last xs over o =
    let w = last (line_of (Shown.Start start) ++ lines_of xs) (each xs over o (line_of (Shown.Start start)) (first [] (none_yet a))) in
    record { written = w.written; whole = sym (append_assoc (line_of (Shown.Start start)) (lines_of xs) (line_of (Shown.End end))) ∙ w.whole }

-- the answer to a text that is judged wrong
pub answered_wrong : (s out : List ℕ) (at line : ℕ) → judged s ≡ Wrong line → SoFar (line_of (Shown.Wrong line)) out at → Answered s out at
answered_wrong s out at line h t = (line_of (Shown.Wrong line), subst (λ o. AnswerTo s o (line_of (Shown.Wrong line))) (sym h) refl, t)

-- and to one that is judged well
pub answered_well : (s out : List ℕ) (at start end count : ℕ) → judged s ≡ Well start end count → RunTold s out start end at → Answered s out at
answered_well s out at start end count h t =
    let w = well_told s start end count h in
    let answer = line_of (Shown.Start start) ++ (lines_of (stretches_in s) ++ line_of (Shown.End end)) in
    (answer, subst (λ o. AnswerTo s o answer) (sym h) (stretches_in s, w.last, w.each, refl), t (stretches_in s) w.last w.each)
