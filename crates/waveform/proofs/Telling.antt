-- What is told of a text, line by line.
use mathlib.Core.Path.{◌≡◌, refl, sym, ap, ◌∙◌}
use mathlib.Core.Bool.{Bool, true, false, cond, ◌&&◌, and-false}
use mathlib.Core.List.{List, [], ◌∷◌}
use Prim.Native.Nat.{ℕ, suc, ◌+◌, ◌-◌, ◌≤◌, ◌<◌}
use native.Mathlib.Omega.{arith}
use lib.Dec.{leb, ltb}
use lib.ListN.{length, take, drop, length-drop}
use lib.Seq.{length-take-le}
use borrow.Author.Tests.{le-leb, lt-leb, leb-true, ltb-true}
use Rattle.std.specs.Prelude.{Some, None}
use Rattle.lists.proofs.Tests.{both, both_made, false_not_true}
use Rattle.ticks.specs.Ticks.{last_instant}
use Rattle.text.specs.Fields.{newline, found_in, parted, lines_of}
use Rattle.text.proofs.Fields.{Cut, cut_at, cut_nowhere, fields_some}
use Rattle.waveform.specs.declared.Token.{Token}
use Rattle.waveform.specs.declared.Token.TheVariants as token
use Rattle.waveform.specs.declared.State.{State}
use Rattle.waveform.specs.declared.State.TheVariants.{Heading, Opened, Jobbed, Going, Marked, Halfway, Dead}
use Rattle.waveform.specs.declared.stretches.Bookmark.{Bookmark}
use Rattle.waveform.specs.declared.stretches.Told.{Told}
use Rattle.waveform.specs.declared.stretches.Told.TheVariants.{Disorder, Wrong, Next, Over}
use Rattle.waveform.specs.Reading.{alone, who_by, goes_to, next, done}
use Rattle.waveform.specs.Bytes.{says}
use Rattle.waveform.specs.Stretches.{stretch, ended_by}
use Rattle.waveform.specs.Texts.{is_dead, is_nothing, ends_one}
use Rattle.waveform.specs.Telling.{behind, since_in, ending_at, end_told, or_on, stands_at, line_told, tell, next_told}
use Rattle.waveform.proofs.Texts.{ends_as_said}

-- A LINE THAT ENDS A STRETCH is a mark that goes on: the stretch is the one that went to it
pub record EndsHere (s : State) (x : Token) : Type 0 where
  pub to : ℕ
  pub job : ℕ
  pub feed : ℕ
  pub after : next s x ≡ Marked to job feed
  pub ended : ended_by s x ≡ stretch (since_in s) to (who_by job feed) ∷ []
  pub longer : since_in s < to
  pub within : to ≤ last_instant

-- a test that leads to a state that is not dead
not_dead : (b : Bool) (s : State) → is_dead (cond b s Dead) ≡ false → (b ≡ true) × (cond b s Dead ≡ s)
not_dead true s e = (refl, refl)
not_dead false s e = absurd (false_not_true (sym e))

-- a mark that goes on
mark_on : (t u j f : ℕ) → is_dead (goes_to t j f u) ≡ false → (goes_to t j f u ≡ Marked u j f) × (t < u) × (u ≤ last_instant)
mark_on t u j f e =
    let on = not_dead (ltb t u && leb u last_instant) (Marked u j f) e in
    let b = both (ltb t u) (leb u last_instant) on.0 in
    (on.1, ltb-true _ _ b.0, leb-true _ _ b.1)

pub ends_here : (s : State) (x : Token) → is_dead (next s x) ≡ false → ends_one (next s x) ≡ 1 → EndsHere s x
ends_here s x e h = go s x e (sym (ends_as_said s x e) ∙ h)
  where
    go : (s : State) (x : Token) → is_dead (next s x) ≡ false → length (ended_by s x) ≡ 1 → EndsHere s x
    go (Heading k) x e h = absurd (omega (arith, h))
    go (Opened t) x e h = absurd (omega (arith, h))
    go (Jobbed t j) x e h = absurd (omega (arith, h))
    go (Going t j f) (token.Head i) e h = absurd (omega (arith, h))
    go (Going t j f) (token.Mark u) e h =
        let on = mark_on t u j f e in
        record { to = u; job = j; feed = f; after = on.0; ended = refl; longer = on.1; within = on.2 }
    go (Going t j f) (token.Job i) e h = absurd (omega (arith, h))
    go (Going t j f) (token.Feed g) e h = absurd (omega (arith, h))
    go (Going t j f) token.Other e h = absurd (omega (arith, h))
    go (Marked t j f) x e h = absurd (omega (arith, h))
    go (Halfway t j f) (token.Head i) e h = absurd (omega (arith, h))
    go (Halfway t j f) (token.Mark u) e h =
        let one = not_dead (alone j f) (goes_to t j f u) e in
        let on = mark_on t u j f (ap is_dead (sym one.1) ∙ e) in
        record { to = u; job = j; feed = f; after = one.1 ∙ on.0; ended = refl; longer = on.1; within = on.2 }
    go (Halfway t j f) (token.Job i) e h = absurd (omega (arith, h))
    go (Halfway t j f) (token.Feed g) e h = absurd (omega (arith, h))
    go (Halfway t j f) token.Other e h = absurd (omega (arith, h))
    go Dead x e h = absurd (omega (arith, h))

-- and every other line ends none
pub ends_none : (s : State) (x : Token) → is_dead (next s x) ≡ false → (ends_one (next s x) ≡ 1 → ⊥) → ended_by s x ≡ []
ends_none s x e h = go s x (λ k. h (ends_as_said s x e ∙ k))
  where
    go : (s : State) (x : Token) → (length (ended_by s x) ≡ 1 → ⊥) → ended_by s x ≡ []
    go (Heading k) x h = refl
    go (Opened t) x h = refl
    go (Jobbed t j) x h = refl
    go (Going t j f) (token.Head i) h = refl
    go (Going t j f) (token.Mark u) h = absurd (h refl)
    go (Going t j f) (token.Job i) h = refl
    go (Going t j f) (token.Feed g) h = refl
    go (Going t j f) token.Other h = refl
    go (Marked t j f) x h = refl
    go (Halfway t j f) (token.Head i) h = refl
    go (Halfway t j f) (token.Mark u) h = absurd (h refl)
    go (Halfway t j f) (token.Job i) h = refl
    go (Halfway t j f) (token.Feed g) h = refl
    go (Halfway t j f) token.Other h = refl
    go Dead x h = refl

-- WHAT A LINE TELLS, by the state after it
module _ (s : State) (x : Token) (n : State) (after : n ≡ next s x) (p k : ℕ) (on : Told) where
  pub told_wrong : is_dead n ≡ true → line_told s x p k on ≡ Wrong k
  told_wrong d = ap (λ b. cond b (Wrong k) (or_on (ended_by s x) (behind (next s x) p k) on)) (ap is_dead (sym after) ∙ d)

  -- a text that goes on tells what the line ends, or what comes after it
  pub goes_on : is_dead n ≡ false → line_told s x p k on ≡ or_on (ended_by s x) (behind (next s x) p k) on
  goes_on d = ap (λ b. cond b (Wrong k) (or_on (ended_by s x) (behind (next s x) p k) on)) (ap is_dead (sym after) ∙ d)

  pub told_ended : is_dead n ≡ false → ends_one n ≡ 1 → line_told s x p k on ≡ Next (ending_at (behind n p k) (since_in s)) (behind n p k)
  told_ended d h =
      let e = ends_here s x (ap is_dead (sym after) ∙ d) (ap ends_one (sym after) ∙ h) in
      goes_on d
      ∙ ap (λ l. or_on l (behind (next s x) p k) on) e.ended
      ∙ (λ i. Next (ending_at (behind (sym e.after i) p k) (since_in s)) (behind (next s x) p k))
      ∙ (λ i. Next (ending_at (behind (sym after i) p k) (since_in s)) (behind (sym after i) p k))

  pub told_on : is_dead n ≡ false → (ends_one n ≡ 1 → ⊥) → line_told s x p k on ≡ on
  told_on d h = goes_on d ∙ ap (λ l. or_on l (behind (next s x) p k) on) (ends_none s x (ap is_dead (sym after) ∙ d) (λ q. h (ap ends_one after ∙ q)))

-- WHAT IS LEFT OF A TEXT
module _ (s : State) where
  -- a whole line, and what is left
  pub tell_line : (p k : ℕ) (l x : List ℕ) → tell s p k (l ∷ lines_of x) ≡ line_told s (says l) (p + suc (length l)) (suc k) (tell (next s (says l)) (p + suc (length l)) (suc k) (lines_of x))
  unfolding tell
  tell_line p k l x =
      let (f, fs, e) = fields_some newline x in
      ap (λ ps. tell s p k (l ∷ ps)) e ∙ ap (λ ps. line_told s (says l) (p + suc (length l)) (suc k) (tell (next s (says l)) (p + suc (length l)) (suc k) ps)) (sym e)

  module _ (text : List ℕ) (p k : ℕ) where
    tell_cut : (e : ℕ) → Cut newline text p e
        → tell s p k (lines_of (drop p text))
        ≡ line_told s (says (take (e - p) (drop p text))) (e + 1) (suc k) (tell (next s (says (take (e - p) (drop p text)))) (e + 1) (suc k) (lines_of (drop (e + 1) text)))
    tell_cut e c =
        let l = take (e - p) (drop p text) in
        let past : p + suc (length (take (e - p) (drop p text))) ≡ e + 1 = omega (arith, length-take-le (e - p) (drop p text) (omega (arith, length-drop p text, c.inside)), length-drop p text, c.after, c.inside) in
        ap (tell s p k) c.fields
        ∙ tell_line p k l (drop (e + 1) text)
        ∙ ap (λ q. line_told s (says l) q (suc k) (tell (next s (says l)) q (suc k) (lines_of (drop (e + 1) text)))) past

    -- by the state after it: no text of a run goes on so; it ended a stretch; or what comes after it is told
    module _ (e : ℕ) (found : found_in newline p (drop p text) ≡ Some e) (n : State) (after : n ≡ next s (says (take (e - p) (drop p text)))) where
      abbrev rest : Told
      rest = tell (next s (says (take (e - p) (drop p text)))) (e + 1) (suc k) (lines_of (drop (e + 1) text))

      pub tell_wrong : is_dead n ≡ true → tell s p k (lines_of (drop p text)) ≡ Wrong (suc k)
      tell_wrong d = tell_cut e (cut_at newline text p e found) ∙ told_wrong s (says (take (e - p) (drop p text))) n after (e + 1) (suc k) rest d

      pub tell_ended : is_dead n ≡ false → ends_one n ≡ 1
          → tell s p k (lines_of (drop p text)) ≡ Next (ending_at (behind n (e + 1) (suc k)) (since_in s)) (behind n (e + 1) (suc k))
      tell_ended d h = tell_cut e (cut_at newline text p e found) ∙ told_ended s (says (take (e - p) (drop p text))) n after (e + 1) (suc k) rest d h

      pub tell_on : is_dead n ≡ false → ends_one n ≡ 0 → tell s p k (lines_of (drop p text)) ≡ tell n (e + 1) (suc k) (lines_of (drop (e + 1) text))
      tell_on d h =
          tell_cut e (cut_at newline text p e found)
          ∙ told_on s (says (take (e - p) (drop p text))) n after (e + 1) (suc k) rest d (λ q. omega (arith, q, h))
          ∙ ap (λ m. tell m (e + 1) (suc k) (lines_of (drop (e + 1) text))) (sym after)

    -- no newline is left, but something stands there
    pub tell_tail : p < length text → found_in newline p (drop p text) ≡ None → tell s p k (lines_of (drop p text)) ≡ Wrong (suc k)
    unfolding tell
    tell_tail l h = ap (tell s p k) (cut_nowhere newline text p h) ∙ go (drop p text) (omega (arith, length-drop p text, l))
      where
        go : (x : List ℕ) → 0 < length x → cond (is_nothing x) (end_told s p k) (Wrong (suc k)) ≡ Wrong (suc k)
        go [] q = absurd (omega arith)
        go (b ∷ x) q = refl

  -- nothing is left: the text is over, or something is missing
  tell_end : (p k : ℕ) (x : List ℕ) → x ≡ [] → tell s p k (lines_of x) ≡ end_told s p k
  unfolding tell parted
  tell_end p k x e = ap (λ y. tell s p k (lines_of y)) e

  pub tell_over : (p k : ℕ) (x : List ℕ) → x ≡ [] → done s ≡ true → tell s p k (lines_of x) ≡ Over (behind s p k)
  tell_over p k x e d = tell_end p k x e ∙ ap (λ b. cond b (Over (behind s p k)) (Wrong (suc k))) d

  pub tell_short : (p k : ℕ) (x : List ℕ) → x ≡ [] → done s ≡ false → tell s p k (lines_of x) ≡ Wrong (suc k)
  tell_short p k x e d = tell_end p k x e ∙ ap (λ b. cond b (Over (behind s p k)) (Wrong (suc k))) d

-- FROM A BOOKMARK ON
module _ (text : List ℕ) (b : Bookmark) where
  pub told_in_order : (s : State) → s ≡ stands_at b → b.lines ≤ b.place → b.place ≤ length text → next_told text b ≡ tell s b.place b.lines (lines_of (drop b.place text))
  told_in_order s e l m =
      ap (λ x. cond x (tell (stands_at b) b.place b.lines (lines_of (drop b.place text))) Disorder) (both_made (leb b.lines b.place) (leb b.place (length text)) (le-leb _ _ l) (le-leb _ _ m))
      ∙ ap (λ n. tell n b.place b.lines (lines_of (drop b.place text))) (sym e)

  pub too_many_lines : b.place < b.lines → next_told text b ≡ Disorder
  too_many_lines l = ap (λ x. cond (x && leb b.place (length text)) (tell (stands_at b) b.place b.lines (lines_of (drop b.place text))) Disorder) (lt-leb _ _ l)

  pub past_the_end : length text < b.place → next_told text b ≡ Disorder
  past_the_end l =
      ap (λ x. cond x (tell (stands_at b) b.place b.lines (lines_of (drop b.place text))) Disorder)
      (ap (λ y. leb b.lines b.place && y) (lt-leb _ _ l) ∙ and-false (leb b.lines b.place))
