-- What is told from any bookmark of any text gets on: a stretch that is told is not empty, the bookmark behind it stands further on, and
-- where it is over nothing is left.
use mathlib.Core.Path.{◌≡◌, refl, sym, ap, subst, ◌∙◌}
use mathlib.Core.Bool.{Bool, true, false, cond}
use mathlib.Core.List.{List, [], ◌∷◌}
use Prim.Native.Nat.{ℕ, suc, ◌+◌, ◌-◌, ◌≤◌, ◌<◌}
use native.Mathlib.Omega.{arith}
use native.Mathlib.Decide.{ℕ_discrete}
use lib.Dec.{leb}
use lib.ListN.{length, take, drop, length-drop}
use lib.Seq.{length-take-le, drop-drop}
use borrow.Author.Tests.{leb-true}
use Rattle.std.specs.Prelude.{Option, Some, None}
use Rattle.lists.proofs.Tests.{both}
use Rattle.ticks.specs.Ticks.{last_instant}
use Rattle.text.specs.Fields.{newline, found_in, lines_of}
use Rattle.text.proofs.Fields.{cut_at, cut_nowhere}
use Rattle.waveform.specs.declared.State.{State}
use Rattle.waveform.specs.declared.stretches.Bookmark.{Bookmark}
use Rattle.waveform.specs.declared.stretches.Stretch.{Stretch}
use Rattle.waveform.specs.declared.stretches.Told.{Told}
use Rattle.waveform.specs.declared.stretches.Told.TheVariants.{Disorder, Wrong, Next, Over}
use Rattle.waveform.specs.Reading.{who_by, next, done}
use Rattle.waveform.specs.Bytes.{says}
use Rattle.waveform.specs.Texts.{is_dead, is_nothing, end_in, ends_one}
use Rattle.waveform.specs.Telling.{in_order, stands_at, behind, line_told, tell, next_told}
use Rattle.waveform.proofs.Texts.{rejoined, parted_rejoined}
use Rattle.waveform.proofs.Telling.{ends_here, told_wrong, told_ended, told_on}

-- BEHIND A WHOLE LINE the other parts are left
pub record Behind (x l : List ℕ) (ps : List (List ℕ)) : Type 0 where
  pub inside : suc (length l) ≤ length x
  pub left : lines_of (drop (suc (length l)) x) ≡ ps

pub line_behind : (x l m : List ℕ) (ls : List (List ℕ)) → lines_of x ≡ l ∷ m ∷ ls → Behind x l (m ∷ ls)
line_behind x l m ls h = go (found_in newline 0 x) refl
  where
    go : (r : Option ℕ) → found_in newline 0 x ≡ r → Behind x l (m ∷ ls)
    go (Some k) e =
        let c = cut_at newline x 0 k e in
        let line : l ≡ take (k - 0) x = cc c.fields in
        let rest : m ∷ ls ≡ lines_of (drop (k + 1) x) = cc c.fields in
        let long : length l ≡ k = ap length line ∙ length-take-le (k - 0) x (omega (arith, c.inside)) ∙ omega arith in
        let far : suc (length l) ≡ k + 1 = omega (arith, long) in
        record { inside = omega (arith, long, c.inside); left = ap (λ n. lines_of (drop n x)) far ∙ sym rest }
    go None e =
        let z : ◌≡◌ {A = ℕ} 0 1 = cc (cut_nowhere newline x 0 e) in
        absurd (omega arith)

-- and from a place of a text on
pub record Past (s l : List ℕ) (p : ℕ) (ps : List (List ℕ)) : Type 0 where
  pub inside : p + suc (length l) ≤ length s
  pub left : lines_of (drop (p + suc (length l)) s) ≡ ps

pub line_past : (s : List ℕ) (p : ℕ) (l m : List ℕ) (ls : List (List ℕ)) → p ≤ length s → lines_of (drop p s) ≡ l ∷ m ∷ ls → Past s l p (m ∷ ls)
line_past s p l m ls h e =
    let b = line_behind (drop p s) l m ls e in
    record {
      inside = omega (arith, b.inside, length-drop p s, h);
      left = ap lines_of (sym (drop-drop (suc (length l)) p s)) ∙ b.left;
    }

-- where nothing is left, the text is at its end
pub at_end_lem : (s : List ℕ) (p : ℕ) → p ≤ length s → lines_of (drop p s) ≡ [] ∷ [] → p ≡ length s
at_end_lem s p h e =
    let none : drop p s ≡ [] = sym (parted_rejoined (drop p s)) ∙ ap rejoined e in
    omega (arith, length-drop p s, ap length none, h)

-- A STRETCH THAT IS TOLD, AND THE BOOKMARK BEHIND IT
pub record GetsOn (s : List ℕ) (p : ℕ) (x : Stretch) (c : Bookmark) : Type 0 where
  pub longer : x.from < x.to
  pub within : x.to ≤ last_instant
  pub mark : x.to ≡ c.at
  pub who : x.who ≡ who_by c.job c.feed
  pub further : p < c.place
  pub inside : c.place ≤ length s
  pub lines : c.lines ≤ c.place

-- from a place and so many lines on: a wrong line is past those lines, a stretch gets on, and where it is over nothing is left
abbrev Fits : List ℕ → ℕ → ℕ → Told → Type 0
Fits s p k Disorder = Unit {0}
Fits s p k (Wrong n) = k < n
Fits s p k (Next x c) = GetsOn s p x c
Fits s p k (Over c) = c.place ≡ length s

-- what fits behind a line fits before it
fits_before : (s : List ℕ) (p q k : ℕ) → p ≤ q → (t : Told) → Fits s q (suc k) t → Fits s p k t
fits_before s p q k h Disorder f = tt
fits_before s p q k h (Wrong n) f = omega (arith, f)
fits_before s p q k h (Next x c) f =
    record { longer = f.longer; within = f.within; mark = f.mark; who = f.who; further = omega (arith, h, f.further); inside = f.inside; lines = f.lines }
fits_before s p q k h (Over c) f = f

tell_fits : (s : List ℕ) (ps : List (List ℕ)) (n : State) (p k : ℕ) → k ≤ p → p ≤ length s → lines_of (drop p s) ≡ ps → Fits s p k (tell n p k ps)
unfolding tell
tell_fits s [] n p k h i e = omega arith
tell_fits s (l ∷ []) n p k h i e = go l e (done n)
  where
    go : (m : List ℕ) → lines_of (drop p s) ≡ m ∷ [] → (d : Bool) → Fits s p k (cond (is_nothing m) (cond d (Over (behind n p k)) (Wrong (suc k))) (Wrong (suc k)))
    go [] e true = at_end_lem s p i e
    go [] e false = omega arith
    go (b ∷ m) e d = omega arith
tell_fits s (l ∷ m ∷ ls) n p k h i e = go (is_dead after) refl (ℕ_discrete (ends_one after) 1) (tell_fits s (m ∷ ls) after place (suc k) (omega (arith, h)) past.inside past.left)
  where
    after : State
    after = next n (says l)

    place : ℕ
    place = p + suc (length l)

    past : Past s l p (m ∷ ls)
    past = line_past s p l m ls i e

    on : Told
    on = tell after place (suc k) (m ∷ ls)

    go : (d : Bool) → is_dead after ≡ d → Dec (ends_one after ≡ 1) → Fits s place (suc k) on → Fits s p k (line_told n (says l) place (suc k) on)
    go true d q f = subst (Fits s p k) (sym (told_wrong n (says l) after refl place (suc k) on d)) (omega arith)
    go false d (no q) f = subst (Fits s p k) (sym (told_on n (says l) after refl place (suc k) on d q)) (fits_before s p place k (omega arith) on f)
    go false d (yes q) f =
        let here = ends_here n (says l) d q in
        let to : end_in after ≡ here.to = ap end_in here.after in
        subst (Fits s p k) (sym (told_ended n (says l) after refl place (suc k) on d q))
        (record {
          longer = omega (arith, here.longer, to);
          within = omega (arith, here.within, to);
          mark = refl;
          who = refl;
          further = omega arith;
          inside = past.inside;
          lines = omega (arith, h);
        })

-- FROM ANY BOOKMARK OF ANY TEXT
told_fits : (s : List ℕ) (b : Bookmark) → Fits s b.place b.lines (next_told s b)
told_fits s b = go (in_order (length s) b) refl
  where
    go : (o : Bool) → in_order (length s) b ≡ o → Fits s b.place b.lines (cond o (tell (stands_at b) b.place b.lines (lines_of (drop b.place s))) Disorder)
    go true o =
        let w = both (leb b.lines b.place) (leb b.place (length s)) o in
        tell_fits s (lines_of (drop b.place s)) (stands_at b) b.place b.lines (leb-true _ _ w.0) (leb-true _ _ w.1) refl
    go false o = tt

module _ (s : List ℕ) (b : Bookmark) where
  pub next_gets_on : (x : Stretch) (c : Bookmark) → next_told s b ≡ Next x c → GetsOn s b.place x c
  next_gets_on x c e = subst (Fits s b.place b.lines) e (told_fits s b)

  pub over_at_end : (c : Bookmark) → next_told s b ≡ Over c → c.place ≡ length s
  over_at_end c e = subst (Fits s b.place b.lines) e (told_fits s b)

  pub wrong_line_past : (n : ℕ) → next_told s b ≡ Wrong n → b.lines < n
  wrong_line_past n e = subst (Fits s b.place b.lines) e (told_fits s b)
