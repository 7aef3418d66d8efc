-- `waveform::parts::write_end` meets its contract: what is due, then the mark at the end.
use mathlib.Core.Path.{◌≡◌, refl, sym, ap, subst, ◌∙◌}
use mathlib.Core.Bool.{Bool}
use mathlib.Core.List.{List, [], ◌∷◌, ◌++◌}
use Prim.Native.Nat.{ℕ, ◌-◌}
use native.Mathlib.Omega.{arith}
use borrow.Author.Tests.{not-true, not-false}
use lib.ListN.{length}
use Rattle.text.specs.Put.{Put}
use Rattle.text.proofs.Texts.{put_nothing, put_after, put_length}
use Rattle.waveform.specs.declared.Token.{Token}
use Rattle.waveform.specs.declared.Token.TheVariants as token
use Rattle.waveform.specs.declared.cursor.Cursor.{Cursor}
use Rattle.waveform.specs.Cursors.{any_due}
use Rattle.waveform.specs.Parts.{bytes_of, wrote_all, due_fitting, closing_fitting, after_closing}
use Rattle.waveform.proofs.Fitting.{bytes_append, bytes_one}
use Rattle.waveform.proofs.Closing.{Closes, closes_none, closes_short, closes_still, closes_unmarked, closes_marked}
use Rattle.waveform.proofs.parts.write_end.Goals as goal

-- the lines that are put and the cursor are those that closing has
ended : {room : ℕ} {c : Cursor} {fit : List Token} {after : Cursor} {d e : List ℕ} {to : ℕ} {r : Cursor}
    → Closes room c fit after → Put d e 0 to (bytes_of fit) → r ≡ after → Put d e 0 to (bytes_of (closing_fitting room c)) × (r ≡ after_closing (closing_fitting room c) c)
ended {d = d} {e = e} {to = to} k p h = (subst (λ ls. Put d e 0 to (bytes_of ls)) (sym k.lines) p, h ∙ sym k.cursor)

-- the lines that are due, from the front on
from_front : (room : ℕ) (c : Cursor) {d e : List ℕ} {at : ℕ} {r : Cursor}
    → Put d e 0 at (bytes_of (due_fitting (room - 0) c)) × (r ≡ wrote_all (due_fitting (room - 0) c) c)
    → Put d e 0 at (bytes_of (due_fitting room c)) × (r ≡ wrote_all (due_fitting room c) c)
from_front room c {d} {e} {at} {r} h =
    let z : room - 0 ≡ room = omega arith in
    subst (λ n. Put d e 0 at (bytes_of (due_fitting n c)) × (r ≡ wrote_all (due_fitting n c) c)) z h

-- whether a line is left that does not fit
due : (room : ℕ) (c : Cursor) {d e : List ℕ} {at : ℕ} {r : Cursor} {b : Bool}
    → Put d e 0 at (bytes_of (due_fitting room c)) × (r ≡ wrote_all (due_fitting room c) c)
    → b ≡ any_due r.due → any_due (wrote_all (due_fitting room c) c).due ≡ b
due room c h e = sym (e ∙ ap (λ x. any_due x.due) h.1)

pub returns-then-is_none : goal.returns-then-is_none
unfolding bytes_of
returns-then-is_none c =
    let a = c.args in
    ended (closes_none (length a.out.now) a.cursor (sym c.is_none.ensures ∙ c.if-is_none.true)) (put_nothing a.out.now 0 (omega arith)) refl

pub returns-then-any : goal.returns-then-any
returns-then-any c =
    let a = c.args in
    let n = length a.out.now in
    let p = from_front n a.cursor c.write_due-page.ensures in
    let live = sym c.is_none.ensures ∙ c.if-is_none.false in
    ended (closes_short n a.cursor live (due n a.cursor p c.any.ensures ∙ c.if-any.true)) p.0 p.1

pub returns-then-not-cursor : goal.returns-then-not-cursor
returns-then-not-cursor c =
    let a = c.args in
    let n = length a.out.now in
    let p = from_front n a.cursor c.write_due-page.ensures in
    let live = sym c.is_none.ensures ∙ c.if-is_none.false in
    ended (closes_still n a.cursor live (due n a.cursor p c.any.ensures ∙ c.if-any.false) (not-true _ c.if-not-cursor.true)) p.0 refl

pub returns-then-out-page : goal.returns-then-out-page
returns-then-out-page c =
    let a = c.args in
    let n = length a.out.now in
    let p = from_front n a.cursor c.write_due-page.ensures in
    let live = sym c.is_none.ensures ∙ c.if-is_none.false in
    ended
    (closes_unmarked n a.cursor live (due n a.cursor p c.any.ensures ∙ c.if-any.false) (not-false _ c.if-not-cursor.false)
    (omega (arith, c.if-out-page.true, c.width.ensures, p.0.next, put_length p.0)))
    p.0
    p.1

pub returns : goal.returns
returns c =
    let a = c.args in
    let n = length a.out.now in
    let fit = due_fitting n a.cursor in
    let p = from_front n a.cursor c.write_due-page.ensures in
    let live = sym c.is_none.ensures ∙ c.if-is_none.false in
    let end = token.Mark a.cursor.clock in
    let bytes = ap (bytes_of fit ++◌) (sym (bytes_one end)) ∙ sym (bytes_append fit (end ∷ [])) in
    ended
    (closes_marked n a.cursor live (due n a.cursor p c.any.ensures ∙ c.if-any.false) (not-false _ c.if-not-cursor.false)
    (omega (arith, c.if-out-page.false, c.width.ensures, p.0.next, put_length p.0)))
    (subst (Put a.out.now _ 0 _) bytes (put_after p.0 c.line.ensures))
    refl
