-- `waveform::parts::write_due` meets its contract: before each turn some of the lines that fit are put, and the others are left.
use mathlib.Core.Path.{◌≡◌, refl, sym, ap, subst, ◌∙◌}
use mathlib.Core.Bool.{true}
use mathlib.Core.List.{List, [], ◌∷◌, ◌++◌, append_assoc, append-nil}
use Prim.Native.Nat.{ℕ, ◌-◌, ◌≤◌}
use native.Mathlib.Omega.{arith}
use lib.ListN.{length}
use Rattle.text.specs.Put.{Put}
use Rattle.text.proofs.Texts.{put_nothing, put_after, put_length}
use Rattle.waveform.specs.declared.Token.{Token}
use Rattle.waveform.specs.declared.cursor.Cursor.{Cursor}
use Rattle.waveform.specs.Texts.{as_line}
use Rattle.waveform.specs.Cursors.{any_due, first_due, due_lines, wrote}
use Rattle.waveform.specs.Parts.{bytes_of, wrote_all, due_fitting}
use Rattle.waveform.proofs.Cursors.{due_first, first_some, first_none}
use Rattle.waveform.proofs.Fitting.{bytes_append, bytes_one, wrote_append, wrote_one, due_fits, due_fits_not, none_fits}
use Rattle.waveform.proofs.parts.write_due.Invariants.{Going}
use Rattle.waveform.proofs.parts.write_due.Goals as goal

module _ {d : List ℕ} {from : ℕ} {b c : Cursor} {e : List ℕ} {at : ℕ} (g : Going d from b c e at) where
  inside : at ≤ length e
  inside = omega (arith, g.put.room, g.put.next, put_length g.put)

  -- where no other line fits, the part is whole
  whole : due_fitting (length d - at) c ≡ [] → Put d e from at (bytes_of (due_fitting (length d - from) b)) × (c ≡ wrote_all (due_fitting (length d - from) b) b)
  whole h =
      let all : g.done ≡ due_fitting (length d - from) b = sym (g.left ∙ ap (g.done ++◌) h ∙ append-nil g.done) in
      (subst (λ ls. Put d e from at (bytes_of ls)) all g.put, g.cursor ∙ ap (λ ls. wrote_all ls b) all)

  -- one line more
  more : {f : List ℕ} {to : ℕ} {l : Token} {a : Cursor} → l ≡ first_due c → a ≡ wrote c → any_due c.due ≡ true → Put e f at to (as_line l) → Going d from b a f to
  more {f} {to} {l} {a} el ea due p =
      let w : length (as_line (first_due c)) ≡ length (as_line l) = ap (λ x. length (as_line x)) (sym el) in
      let long : length e ≡ length d = put_length g.put in
      let fits : length (as_line (first_due c)) ≤ length d - at = omega (arith, p.room, w, long) in
      let rest : length d - at - length (as_line (first_due c)) ≡ length d - to = omega (arith, p.next, w) in
      record {
        done = g.done ++ (l ∷ []);
        put = subst (Put d f from to) (ap (bytes_of g.done ++◌) (sym (bytes_one l)) ∙ sym (bytes_append g.done (l ∷ []))) (put_after g.put p);
        cursor = ea ∙ ap wrote g.cursor ∙ sym (wrote_one l (wrote_all g.done b)) ∙ sym (wrote_append g.done (l ∷ []) b);
        left = g.left
            ∙ ap (g.done ++◌) (due_fits (length d - at) c due fits ∙ (λ i. sym el i ∷ due_fitting (rest i) (sym ea i)))
            ∙ sym (append_assoc g.done (l ∷ []) (due_fitting (length d - to) a));
      }

pub loop-line-init : goal.loop-line-init
unfolding bytes_of wrote_all
loop-line-init c = record { done = []; put = put_nothing c.args.out.now c.args.at c.requires; cursor = refl; left = refl }

pub loop-line-smaller : goal.loop-line-smaller
loop-line-smaller c =
    let b = c.loop-line.cursor in
    let due : any_due b.due ≡ true = (first_some b (sym c.in-Some.is ∙ c.first.ensures)).0 in
    let one : length (due_lines b) ≡ length (first_due b ∷ due_lines c.wrote-cursor.result) = ap length (due_first b due ∙ ap (λ a. first_due b ∷ due_lines a) (sym c.wrote-cursor.ensures)) in
    omega (arith, one)

pub loop-line-preserved : goal.loop-line-preserved
loop-line-preserved c =
    let f = first_some c.loop-line.cursor (sym c.in-Some.is ∙ c.first.ensures) in
    more c.loop-line.invariant f.1 c.wrote-cursor.ensures f.0 c.line-at.ensures

pub returns-in_default : goal.returns-in_default
returns-in_default c =
    whole c.loop-line.invariant (none_fits _ c.loop-line.cursor (first_none c.loop-line.cursor (sym c.in_default.is ∙ c.first.ensures)))

pub returns-then-out-at : goal.returns-then-out-at
returns-then-out-at c =
    let l = c.loop-line in
    let f = first_some l.cursor (sym c.in-Some.is ∙ c.first.ensures) in
    let w : c.width.result ≡ length (as_line (first_due l.cursor)) = c.width.ensures ∙ ap (λ x. length (as_line x)) f.1 in
    whole l.invariant (due_fits_not _ l.cursor f.0 (omega (arith, w, c.if-out-at.true, put_length l.invariant.put)))
