-- A run that is being written: the lines that are due begin with the first of them, and what is left is due after it.
use mathlib.Core.Path.{◌≡◌, refl, ap, sym, ◌∙◌}
use mathlib.Core.Bool.{Bool, true, false, cond, not, ◌||◌}
use mathlib.Core.List.{[], ◌∷◌}
use Prim.Native.Nat.{ℕ, suc, ◌+◌, ◌-◌, ◌≤◌, ◌<◌}
use native.Mathlib.Numerals.{add-one}
use native.Mathlib.Omega.{arith}
use borrow.Author.Tests.{ltb-true, ltb-false}
use lib.Dec.{ltb, eqb}
use Rattle.std.specs.Prelude.{Some, None}
use Rattle.answers.specs.declared.Who.{Who}
use Rattle.waveform.specs.declared.Token.{Token}
use Rattle.waveform.specs.declared.Token.TheVariants as token
use Rattle.waveform.specs.declared.cursor.Due.{Due}
use Rattle.waveform.specs.declared.cursor.Cursor.{Cursor}
use Rattle.waveform.specs.Runs.{head_count, heads_from, job_wire, feed_wire}
use Rattle.waveform.specs.Cursors.{due_lines, any_due, first_due, one_less, wrote, told_by, since_by, due_after, stepped}
use Rattle.waveform.proofs.Options.{if_some, if_none}

-- the lines in front that are left: their first, and the others
heads_first : (k : ℕ) → k < head_count → heads_from (head_count - k) k ≡ token.Head k ∷ heads_from (head_count - (k + 1)) (k + 1)
unfolding heads_from
heads_first k h =
    let e : head_count - k ≡ suc (head_count - (k + 1)) = omega (arith, h) in
    ap (λ m. heads_from m k) e ∙ ap (λ n. token.Head k ∷ heads_from (head_count - (k + 1)) n) (sym (add-one k))

pub heads_past : (k : ℕ) → head_count ≤ k → heads_from (head_count - k) k ≡ []
unfolding heads_from
heads_past k h = let e : head_count - k ≡ 0 = omega (arith, h) in ap (λ m. heads_from m k) e

-- THE FIRST OF THEM, AND WHAT IS LEFT
pub due_first : (c : Cursor) → any_due c.due ≡ true → due_lines c ≡ first_due c ∷ due_lines (wrote c)
unfolding due_lines any_due first_due one_less
due_first c e = go (ltb c.due.heads head_count) refl c.due.mark refl c.due.job refl c.due.feed refl e
  where
    go : (h : Bool) → ltb c.due.heads head_count ≡ h → (m : Bool) → c.due.mark ≡ m → (j : Bool) → c.due.job ≡ j → (f : Bool) → c.due.feed ≡ f → h || (m || (j || f)) ≡ true → due_lines c ≡ first_due c ∷ due_lines (wrote c)
    go true hh m mm j jj f ff e = rw (hh, heads_first c.due.heads (ltb-true _ _ hh))
    go false hh true mm j jj f ff e = rw (hh, mm, heads_past c.due.heads (ltb-false _ _ hh))
    go false hh false mm true jj f ff e = rw (hh, mm, jj, heads_past c.due.heads (ltb-false _ _ hh))
    go false hh false mm false jj true ff e = rw (hh, mm, jj, ff, heads_past c.due.heads (ltb-false _ _ hh))
    go false hh false mm false jj false ff e = let z : ◌≡◌ {A = ℕ} 0 1 = cc in absurd (omega arith)

-- whether there is a first
module _ (c : Cursor) where
  pub first_some : {l : Token} → Some l ≡ cond (any_due c.due) (Some (first_due c)) None → (any_due c.due ≡ true) × (l ≡ first_due c)
  first_some = if_some (any_due c.due) (first_due c)

  pub first_none : None ≡ cond (any_due c.due) (Some (first_due c)) None → any_due c.due ≡ false
  first_none = if_none (any_due c.due) (first_due c)

-- nothing due is no line
pub due_none : (c : Cursor) → any_due c.due ≡ false → due_lines c ≡ []
unfolding due_lines any_due
due_none c e = go (ltb c.due.heads head_count) refl c.due.mark refl c.due.job refl c.due.feed refl e
  where
    go : (h : Bool) → ltb c.due.heads head_count ≡ h → (m : Bool) → c.due.mark ≡ m → (j : Bool) → c.due.job ≡ j → (f : Bool) → c.due.feed ≡ f → h || (m || (j || f)) ≡ false → due_lines c ≡ []
    go false hh false mm false jj false ff e = rw (mm, jj, ff, heads_past c.due.heads (ltb-false _ _ hh))
    go true hh m mm j jj f ff e = let z : ◌≡◌ {A = ℕ} 0 1 = cc in absurd (omega arith)
    go false hh true mm j jj f ff e = let z : ◌≡◌ {A = ℕ} 0 1 = cc in absurd (omega arith)
    go false hh false mm true jj f ff e = let z : ◌≡◌ {A = ℕ} 0 1 = cc in absurd (omega arith)
    go false hh false mm false jj true ff e = let z : ◌≡◌ {A = ℕ} 0 1 = cc in absurd (omega arith)

-- A STEP, by its parts
pub stepped_made : (c : Cursor) (v : Who) {n p s : ℕ} {d : Due}
    → n ≡ job_wire v
    → p ≡ feed_wire v
    → d ≡ told_by c.due c.ran (not (eqb n c.number)) (not (eqb p c.position))
    → s ≡ since_by c d
    → ◌≡◌ {A = Cursor} (record { ran = true; due = d; since = s; clock = c.clock + 1; number = n; position = p }) (stepped c v)
stepped_made c v {n} {p} {s} {d} en ep ed es =
    let dd : d ≡ due_after c v = ed ∙ (λ i. told_by c.due c.ran (not (eqb (en i) c.number)) (not (eqb (ep i) c.position))) in
    let ss : s ≡ since_by c (due_after c v) = es ∙ ap (since_by c) dd in
    λ i. record { ran = true; due = dd i; since = ss i; clock = c.clock + 1; number = en i; position = ep i }
