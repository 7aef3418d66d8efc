-- A text in parts: the lines that are due are those that fit and those that are due after them.
use mathlib.Core.Path.{◌≡◌, refl, sym, ap, ◌∙◌}
use mathlib.Core.Bool.{Bool, true, false, cond}
use mathlib.Core.List.{List, [], ◌∷◌, ◌++◌, map, append_assoc, append-nil}
use Prim.Native.Nat.{ℕ, suc, ◌-◌, ◌≤◌, ◌<◌}
use native.Mathlib.Omega.{arith}
use borrow.Author.Tests.{le-leb, lt-leb}
use lib.ListN.{length, drop, length-append}
use Rattle.lists.proofs.Tests.{leb_elim}
use Rattle.text.specs.Fields.{newline}
use Rattle.waveform.specs.declared.Token.{Token}
use Rattle.waveform.specs.declared.cursor.Cursor.{Cursor}
use Rattle.waveform.specs.Texts.{as_line, as_text}
use Rattle.waveform.specs.Bytes.{written}
use Rattle.waveform.specs.Cursors.{any_due, first_due, due_lines, wrote}
use Rattle.waveform.specs.Parts.{bytes_of, fitting, wrote_all, due_fitting}
use Rattle.waveform.proofs.Lengths.{line_length}
use Rattle.waveform.proofs.Cursors.{due_first, due_none}

minus_zero : (n : ℕ) → n ≡ n - 0
minus_zero n = omega arith

-- a line that is due
some_due : (c : Cursor) {l : Token} {ls : List Token} → due_lines c ≡ l ∷ ls → any_due c.due ≡ true
some_due c {l} {ls} e = go (any_due c.due) refl
  where
    go : (b : Bool) → any_due c.due ≡ b → b ≡ true
    go true h = refl
    go false h = let n : 0 ≡ suc (length ls) = ap length (sym (due_none c h) ∙ e) in absurd (omega (arith, n))

-- the bytes of lines, one after another
pub bytes_append : (ks ls : List Token) → bytes_of (ks ++ ls) ≡ bytes_of ks ++ bytes_of ls
unfolding bytes_of
bytes_append [] ls = refl
bytes_append (k ∷ ks) ls = ap (as_line k ++◌) (bytes_append ks ls) ∙ sym (append_assoc (as_line k) (bytes_of ks) (bytes_of ls))

pub bytes_one : (l : Token) → bytes_of (l ∷ []) ≡ as_line l
unfolding bytes_of
bytes_one l = append-nil (as_line l)

-- no bytes are no lines
pub bytes_none : (ls : List Token) → length (bytes_of ls) ≡ 0 → ls ≡ []
unfolding bytes_of
bytes_none [] h = refl
bytes_none (l ∷ ls) h = absurd (omega (arith, h, length-append (as_line l) (bytes_of ls), line_length l))

-- they are the text of the lines
pub bytes_as_text : (ls : List Token) → bytes_of ls ≡ as_text (map written ls)
unfolding bytes_of as_text as_line
bytes_as_text [] = refl
bytes_as_text (l ∷ ls) = append_assoc (written l) (newline ∷ []) (bytes_of ls) ∙ ap (λ s. written l ++ (newline ∷ s)) (bytes_as_text ls)

-- the cursor once lines are written, one after another
pub wrote_append : (ks ls : List Token) (c : Cursor) → wrote_all (ks ++ ls) c ≡ wrote_all ls (wrote_all ks c)
unfolding wrote_all
wrote_append [] ls c = refl
wrote_append (k ∷ ks) ls c = wrote_append ks ls (wrote c)

pub wrote_one : (l : Token) (c : Cursor) → wrote_all (l ∷ []) c ≡ wrote c
unfolding wrote_all
wrote_one l c = refl

-- a line that fits, and one that does not
pub fits_first : (room : ℕ) (l : Token) (ls : List Token) → length (as_line l) ≤ room → fitting room (l ∷ ls) ≡ l ∷ fitting (room - length (as_line l)) ls
unfolding fitting
fits_first room l ls h = rw (le-leb _ _ h)

pub fits_not : (room : ℕ) (l : Token) (ls : List Token) → room < length (as_line l) → fitting room (l ∷ ls) ≡ []
unfolding fitting
fits_not room l ls h = rw (lt-leb _ _ h)

-- the lines that are due by the first of them
module _ (room : ℕ) (c : Cursor) where
  pub due_fits : any_due c.due ≡ true → length (as_line (first_due c)) ≤ room → due_fitting room c ≡ first_due c ∷ due_fitting (room - length (as_line (first_due c))) (wrote c)
  due_fits e h = ap (fitting room) (due_first c e) ∙ fits_first room (first_due c) (due_lines (wrote c)) h

  pub due_fits_not : any_due c.due ≡ true → room < length (as_line (first_due c)) → due_fitting room c ≡ []
  due_fits_not e h = ap (fitting room) (due_first c e) ∙ fits_not room (first_due c) (due_lines (wrote c)) h

  pub none_fits : any_due c.due ≡ false → due_fitting room c ≡ []
  unfolding fitting
  none_fits e = ap (fitting room) (due_none c e)

-- what fits in front of other lines: where not all of it fits, none of them does; else they have the room behind it
pub short_before : (room : ℕ) (ks ls : List Token) → length (fitting room ks) < length ks → fitting room (ks ++ ls) ≡ fitting room ks
unfolding fitting
short_before room [] ls = λ h. absurd (omega arith)
short_before room (k ∷ ks) ls =
    let w = length (as_line k) in
    let on = fitting (room - w) in
    leb_elim (λ b. length (cond b (k ∷ on ks) []) < suc (length ks) → cond b (k ∷ on (ks ++ ls)) [] ≡ cond b (k ∷ on ks) []) w room
    (λ y h. ap (k ∷◌) (short_before (room - w) ks ls (omega (arith, h))))
    (λ n h. refl)

pub whole_before : (room : ℕ) (ks ls : List Token) → length (fitting room ks) ≡ length ks → fitting room (ks ++ ls) ≡ ks ++ fitting (room - length (bytes_of ks)) ls
unfolding fitting bytes_of
whole_before room [] ls = λ h. ap (λ n. fitting n ls) (minus_zero room)
whole_before room (k ∷ ks) ls =
    let w = length (as_line k) in
    let on = fitting (room - w) in
    let far : room - w - length (bytes_of ks) ≡ room - length (as_line k ++ bytes_of ks) = omega (arith, length-append (as_line k) (bytes_of ks)) in
    leb_elim (λ b. length (cond b (k ∷ on ks) []) ≡ suc (length ks) → cond b (k ∷ on (ks ++ ls)) [] ≡ k ∷ (ks ++ fitting (room - length (as_line k ++ bytes_of ks)) ls)) w room
    (λ y h. ap (k ∷◌) (whole_before (room - w) ks ls (omega (arith, h)) ∙ ap (λ n. ks ++ fitting n ls) far))
    (λ n h. absurd (omega (arith, h)))

-- THE LINES THAT ARE DUE are those that fit and those that are due after them
left_of : (ls : List Token) (c : Cursor) (room : ℕ) → due_lines c ≡ ls → ls ≡ fitting room ls ++ due_lines (wrote_all (fitting room ls) c)
unfolding fitting wrote_all
left_of [] c room e = sym e
left_of (l ∷ ls) c room e =
    let w = length (as_line l) in
    let on = fitting (room - w) ls in
    let due : any_due c.due ≡ true = some_due c e in
    let rest : due_lines (wrote c) ≡ ls = ap (drop 1) (sym (due_first c due) ∙ e) in
    leb_elim (λ b. l ∷ ls ≡ cond b (l ∷ on) [] ++ due_lines (wrote_all (cond b (l ∷ on) []) c)) w room
    (λ y. ap (l ∷◌) (left_of ls (wrote c) (room - w) rest))
    (λ n. sym e)

pub due_left : (room : ℕ) (c : Cursor) → due_lines c ≡ due_fitting room c ++ due_lines (wrote_all (due_fitting room c) c)
due_left room c = left_of (due_lines c) c room refl
