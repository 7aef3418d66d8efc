-- The stretches of a text that is judged well, taken one after another from the front, are all there are; spread over the ticks, they are
-- the names of its run.
use mathlib.Core.Path.{◌≡◌, refl, sym, ap, subst, ◌∙◌}
use mathlib.Core.Bool.{true, false, cond}
use mathlib.Core.List.{List, [], ◌∷◌, ◌++◌, map}
use Prim.Native.Nat.{ℕ, suc, ◌+◌, ◌≤◌}
use native.Mathlib.Omega.{arith}
use native.Mathlib.Decide.{ℕ_discrete}
use lib.ListN.{length, drop, length-map}
use borrow.Author.Tests.{ne_eqb}
use Rattle.answers.specs.declared.Who.{Who}
use Rattle.text.specs.Fields.{lines_of}
use Rattle.waveform.specs.declared.State.{State}
use Rattle.waveform.specs.declared.State.TheVariants.{Heading, Marked}
use Rattle.waveform.specs.Texts as texts
use Rattle.waveform.specs.declared.stretches.Bookmark.{Bookmark}
use Rattle.waveform.specs.declared.stretches.Stretch.{Stretch}
use Rattle.waveform.specs.declared.stretches.Told.{Told}
use Rattle.waveform.specs.declared.stretches.Told.TheVariants.{Disorder, Wrong, Next, Over}
use Rattle.waveform.specs.Runs.{told, Run}
use Rattle.waveform.specs.Reading.{next, come, done}
use Rattle.waveform.specs.Bytes.{written, says}
use Rattle.waveform.specs.Stretches.{stretches, spread}
use Rattle.waveform.specs.Texts.{lines_in, text_of, is_dead, end_in, ends_one, judged}
use Rattle.waveform.specs.Telling.{front, stands_at, job_in, feed_in, behind, or_on, line_told, tell, next_told, OneByOne}
use Rattle.waveform.proofs.Written.{end_of, told_read, ends_done}
use Rattle.waveform.proofs.Names.{told_names}
use Rattle.waveform.proofs.Plain.{told_plain}
use Rattle.waveform.proofs.Texts.{done_alive, alive_before, said_again, whole, text_parted, all_clean, end_is, OfARun, well_is_a_run}
use Rattle.waveform.proofs.Telling.{ends_here, ends_none, goes_on, told_on, tell_line, told_in_order}
use Rattle.waveform.proofs.Onward.{Past, line_past, at_end_lem}

-- LINES THAT CAN GO ON: the stretches that they end are told, and then whatever is told behind them
pub record Reached (s : List ℕ) (b : Bookmark) (n : State) (k : ℕ) (ls ps : List (List ℕ)) : Type 0 where
  pub place : ℕ
  pub inside : place ≤ length s
  pub left : lines_of (drop place s) ≡ ps
  pub each : OneByOne s b (stretches n (map says ls)) (tell (come n (map says ls)) place (k + length ls) ps)

module _ (s q : List ℕ) (qs : List (List ℕ)) where
  past_one : (p : ℕ) (l : List ℕ) (ls : List (List ℕ)) → p ≤ length s → lines_of (drop p s) ≡ l ∷ (ls ++ (q ∷ qs)) → Past s l p (ls ++ (q ∷ qs))
  past_one p l [] h e = line_past s p l q qs h e
  past_one p l (m ∷ ls) h e = line_past s p l m (ls ++ (q ∷ qs)) h e

  pub lines_told : (ls : List (List ℕ)) (n : State) (p k : ℕ) → k ≤ p → p ≤ length s → lines_of (drop p s) ≡ ls ++ (q ∷ qs) → is_dead (come n (map says ls)) ≡ false
      → (b : Bookmark) → next_told s b ≡ tell n p k (lines_of (drop p s)) → Reached s b n k ls (q ∷ qs)
  unfolding come stretches
  lines_told [] n p k h i e a b t =
      let none : k ≡ k + 0 = omega arith in
      record { place = p; inside = i; left = e; each = t ∙ (λ j. tell n p (none j) (e j)) }
  lines_told (l ∷ ls) n p k h i e a b t =
      go (ℕ_discrete (ends_one after) 1) (λ c u. lines_told ls after place (suc k) (omega (arith, h)) past.inside past.left a c u)
    where
      after : State
      after = next n (says l)

      place : ℕ
      place = p + suc (length l)

      past : Past s l p (ls ++ (q ∷ qs))
      past = past_one p l ls i e

      alive : is_dead after ≡ false
      alive = alive_before after (map says ls) a

      on : Told
      on = tell after place (suc k) (lines_of (drop place s))

      told_so : next_told s b ≡ line_told n (says l) place (suc k) on
      told_so = t ∙ ap (tell n p k) (e ∙ ap (l ∷◌) (sym past.left)) ∙ tell_line n p k l (drop place s)

      count : suc k + length ls ≡ k + suc (length ls)
      count = omega arith

      go : Dec (ends_one after ≡ 1) → ((c : Bookmark) → next_told s c ≡ on → Reached s c after (suc k) ls (q ∷ qs)) → Reached s b n k (l ∷ ls) (q ∷ qs)
      go (no w) ih =
          let r = ih b (told_so ∙ told_on n (says l) after refl place (suc k) on alive w) in
          record {
            place = r.place;
            inside = r.inside;
            left = r.left;
            each = subst (λ ys. OneByOne s b (ys ++ stretches after (map says ls)) (tell (come after (map says ls)) r.place (k + suc (length ls)) (q ∷ qs))) (sym (ends_none n (says l) alive w))
                (subst (λ j. OneByOne s b (stretches after (map says ls)) (tell (come after (map says ls)) r.place j (q ∷ qs))) count r.each);
          }
      go (yes w) ih =
          let c = behind after place (suc k) in
          let here = ends_here n (says l) alive w in
          let stands : after ≡ stands_at c
          = here.after
          ∙ ap (λ y. Marked (end_in y) (job_in y) (feed_in y)) (sym here.after)
          ∙ sym (ap (λ z. cond z (Heading 0) (Marked (end_in after) (job_in after) (feed_in after))) (ne_eqb place 0 (λ z. omega (arith, z)))) in
          let r = ih c (told_in_order s c after stands (omega (arith, h)) past.inside) in
          record {
            place = r.place;
            inside = r.inside;
            left = r.left;
            each = subst (λ ys. OneByOne s b (ys ++ stretches after (map says ls)) (tell (come after (map says ls)) r.place (k + suc (length ls)) (q ∷ qs))) (sym here.ended) (
              c,
              told_so ∙ goes_on n (says l) after refl place (suc k) on alive ∙ ap (λ ys. or_on ys c on) here.ended,
              subst (λ j. OneByOne s c (stretches after (map says ls)) (tell (come after (map says ls)) r.place j (q ∷ qs))) count r.each,
            );
          }

-- nothing is left, and the text may end
end_told_lem : (n : State) (p k : ℕ) → done n ≡ true → tell n p k ([] ∷ []) ≡ Over (behind n p k)
unfolding tell
end_told_lem n p k d = ap (λ b. cond b (Over (behind n p k)) (Wrong (suc k))) d

-- THE TEXT OF A RUN tells its stretches one after another, and then it is over: at the end of the text, and of the run
pub run_told : (t : ℕ) (ws : List Who) → Run t ws
    → OneByOne (text_of t ws) front (stretches (Heading 0) (told t ws)) (Over (behind (end_of t ws) (length (text_of t ws)) (length (told t ws))))
run_told t ws r =
    let parts : lines_of (text_of t ws) ≡ lines_in t ws ++ ([] ∷ []) = text_parted (lines_in t ws) (all_clean (told t ws)) in
    let again : map says (lines_in t ws) ≡ told t ws = said_again (told t ws) (told_plain t ws r) in
    let state : come (Heading 0) (map says (lines_in t ws)) ≡ end_of t ws = ap (come (Heading 0)) again ∙ told_read t ws r in
    let d = lines_told (text_of t ws) [] [] (lines_in t ws) (Heading 0) 0 0 (omega arith) (omega arith) parts (ap is_dead state ∙ done_alive (end_of t ws) (ends_done t ws)) front (told_in_order (text_of t ws) front (Heading 0) refl (omega arith) (omega arith)) in
    let place : d.place ≡ length (text_of t ws) = at_end_lem (text_of t ws) d.place d.inside d.left in
    let many : 0 + length (lines_in t ws) ≡ length (told t ws) = omega (arith, length-map (told t ws) written) in
    subst (λ xs. OneByOne (text_of t ws) front (stretches (Heading 0) xs) (Over (behind (end_of t ws) (length (text_of t ws)) (length (told t ws))))) again
    (subst (OneByOne (text_of t ws) front (stretches (Heading 0) (map says (lines_in t ws))))
    ((λ i. tell (state i) (place i) (many i) ([] ∷ [])) ∙ end_told_lem (end_of t ws) (length (text_of t ws)) (length (told t ws)) (ends_done t ws))
    d.each)

-- THE STRETCHES OF A TEXT: those of its whole lines
abbrev pub stretches_in : List ℕ → List Stretch
stretches_in s = stretches (Heading 0) (map says (whole (lines_of s)))

whole_lines : (ls : List (List ℕ)) → whole (ls ++ ([] ∷ [])) ≡ ls
whole_lines [] = refl
whole_lines (l ∷ []) = refl
whole_lines (l ∷ m ∷ ls) = ap (l ∷◌) (whole_lines (m ∷ ls))

pub run_stretches : (t : ℕ) (ws : List Who) → Run t ws → stretches_in (text_of t ws) ≡ stretches (Heading 0) (told t ws)
run_stretches t ws r =
    ap (λ ps. stretches (Heading 0) (map says (whole ps))) (text_parted (lines_in t ws) (all_clean (told t ws)))
    ∙ ap (λ ls. stretches (Heading 0) (map says ls)) (whole_lines (lines_in t ws))
    ∙ ap (stretches (Heading 0)) (said_again (told t ws) (told_plain t ws r))

-- A TEXT THAT IS JUDGED WELL tells its stretches one after another, as many as it was judged to have, and then it is over: at the end of
-- the text, and of the run; spread over the ticks they are the run's names
pub record WellTold (s : List ℕ) (start end many : ℕ) : Type 0 where
  pub run : OfARun s start end many
  pub last : Bookmark
  pub each : OneByOne s front (stretches_in s) (Over last)
  pub names : spread (stretches_in s) ≡ run.names
  pub count : length (stretches_in s) ≡ many
  pub place : last.place ≡ length s
  pub instant : last.at ≡ end

pub well_told : (s : List ℕ) (a b c : ℕ) → judged s ≡ texts.Well a b c → WellTold s a b c
well_told s a b c h =
    let r = well_is_a_run s a b c h in
    let same : stretches_in s ≡ stretches (Heading 0) (told a r.names) = ap stretches_in r.text ∙ run_stretches a r.names r.run in
    let last = behind (end_of a r.names) (length (text_of a r.names)) (length (told a r.names)) in
    record {
      run = r;
      last = last;
      each = subst (λ xs. OneByOne s front xs (Over last)) (sym same)
          (subst (λ x. OneByOne x front (stretches (Heading 0) (told a r.names)) (Over last)) (sym r.text) (run_told a r.names r.run));
      names = ap spread same ∙ told_names a r.names r.run;
      count = ap length same ∙ sym r.count;
      place = ap length (sym r.text);
      instant = end_is a r.names ∙ sym r.last;
    }

-- what is told is one thing
wrong_not_next : (n : ℕ) (x : Stretch) (c : Bookmark) → Wrong n ≡ Next x c → ⊥
wrong_not_next n x c e = let z : ◌≡◌ {A = ℕ} 0 1 = cc in omega arith

over_not_next : (b : Bookmark) (x : Stretch) (c : Bookmark) → Over b ≡ Next x c → ⊥
over_not_next b x c e = let z : ◌≡◌ {A = ℕ} 0 1 = cc in omega arith

wrong_not_over : (n : ℕ) (c : Bookmark) → Wrong n ≡ Over c → ⊥
wrong_not_over n c e = let z : ◌≡◌ {A = ℕ} 0 1 = cc in omega arith

disorder_not_over : (c : Bookmark) → Disorder ≡ Over c → ⊥
disorder_not_over c e = let z : ◌≡◌ {A = ℕ} 0 1 = cc in omega arith

disorder_not_next : (x : Stretch) (c : Bookmark) → Disorder ≡ Next x c → ⊥
disorder_not_next x c e = let z : ◌≡◌ {A = ℕ} 0 1 = cc in omega arith

-- ONE STEP, from a bookmark from which these are told one after another, until it is over
module _ (s : List ℕ) (b : Bookmark) (last : Bookmark) where
  -- a stretch that is told is the first of them, and from the bookmark behind it the others are told
  pub next_is_first : (xs : List Stretch) (x : Stretch) (c : Bookmark) → OneByOne s b xs (Over last) → next_told s b ≡ Next x c → (ys : List Stretch) × (xs ≡ x ∷ ys) × OneByOne s c ys (Over last)
  next_is_first [] x c o e = absurd (over_not_next last x c (sym o ∙ e))
  next_is_first (y ∷ ys) x c (d, t, o) e =
      let same : Next y d ≡ Next x c = sym t ∙ e in
      let first : y ≡ x = cc in
      let on : d ≡ c = cc in
      (ys, ap (◌∷ ys) first, subst (λ m. OneByOne s m ys (Over last)) on o)

  -- where it is over, none is left
  pub over_is_last : (xs : List Stretch) (c : Bookmark) → OneByOne s b xs (Over last) → next_told s b ≡ Over c → (xs ≡ []) × (c ≡ last)
  over_is_last [] c o e = let same : Over c ≡ Over last = sym e ∙ o in (refl, cc)
  over_is_last (y ∷ ys) c (d, t, o) e = absurd (over_not_next c y d (sym e ∙ t))

  -- nothing else is told
  pub never_wrong : (xs : List Stretch) (n : ℕ) → OneByOne s b xs (Over last) → next_told s b ≡ Wrong n → ⊥
  never_wrong [] n o e = wrong_not_over n last (sym e ∙ o)
  never_wrong (y ∷ ys) n (d, t, o) e = wrong_not_next n y d (sym e ∙ t)

  pub never_disorder : (xs : List Stretch) → OneByOne s b xs (Over last) → next_told s b ≡ Disorder → ⊥
  never_disorder [] o e = disorder_not_over last (sym e ∙ o)
  never_disorder (y ∷ ys) (d, t, o) e = disorder_not_next y d (sym e ∙ t)
