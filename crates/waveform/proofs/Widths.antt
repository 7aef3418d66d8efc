-- The longest line of a run has 36 bytes with its newline: a value of 32 bits.
use mathlib.Core.Path.{◌≡◌, refl, sym, ap, subst, ◌∙◌}
use mathlib.Core.Bool.{Bool, true, false, cond, ◌&&◌}
use mathlib.Core.List.{List, [], ◌∷◌, ◌++◌}
use Prim.Native.Nat.{ℕ, zero, suc, ◌-◌, ◌≤◌, ◌<◌}
use native.Mathlib.Omega.{arith}
use borrow.Author.Tests.{ne_eqb}
use lib.Dec.{eqb, ltb, lit≤}
use lib.ListN.{length, get_or}
use Rattle.ticks.specs.Ticks.{last_instant}
use Rattle.feeds.specs.Feeds.{most_feeds}
use Rattle.text.specs.Numbers.{Base, digits, bits}
use Rattle.text.proofs.Numbers.{digits_most}
use Rattle.waveform.specs.declared.Token.{Token}
use Rattle.waveform.specs.declared.Token.TheVariants as token
use Rattle.waveform.specs.declared.cursor.Cursor.{Cursor}
use Rattle.waveform.specs.Runs.{head_count, most_number}
use Rattle.waveform.specs.Bytes.{bang, quote, head_lines}
use Rattle.waveform.specs.Texts.{as_line}
use Rattle.waveform.specs.Cursors.{flagged, due_lines, any_due, first_due}
use Rattle.waveform.specs.Order.{ordered, is_none}
use Rattle.waveform.specs.Parts.{fitting, stuck, closing_lines, closing_fitting}
use Rattle.waveform.proofs.Lengths.{line_length, value_length}
use Rattle.waveform.proofs.Cursors.{due_first, due_none}
use Rattle.waveform.proofs.Fitting.{fits_first}
use Rattle.waveform.proofs.Orders.{ordered_clock, ordered_live, ordered_before_lem, ordered_after_lem}

-- the longest line
abbrev pub longest : ℕ
longest = 36

two : Base 2
two = record { two = lit≤ tt; ten = lit≤ tt }

ten : Base 10
ten = record { two = lit≤ tt; ten = lit≤ tt }

head_narrow : (k : ℕ) → length (as_line (token.Head k)) ≤ longest
head_narrow k = let n : length (get_or head_lines k []) ≤ 23 = go k in omega (arith, line_length (token.Head k), n)
  where
    go : (k : ℕ) → length (get_or head_lines k []) ≤ 23
    go zero = lit≤ tt
    go (suc zero) = lit≤ tt
    go (suc (suc zero)) = lit≤ tt
    go (suc (suc (suc zero))) = lit≤ tt
    go (suc (suc (suc (suc zero)))) = lit≤ tt
    go (suc (suc (suc (suc (suc zero))))) = lit≤ tt
    go (suc (suc (suc (suc (suc (suc k)))))) = lit≤ tt

pub mark_narrow : (t : ℕ) → t ≤ last_instant → length (as_line (token.Mark t)) ≤ longest
mark_narrow t h = let n : length (digits t) ≤ 13 = digits_most 10 ten 12 t (omega (arith, h)) in omega (arith, line_length (token.Mark t), n)

job_narrow : (n : ℕ) → n ≤ most_number → length (as_line (token.Job n)) ≤ longest
job_narrow n h = let k : length (bits n) ≤ 32 = digits_most 2 two 31 n (omega (arith, h)) in omega (arith, line_length (token.Job n), value_length bang n, k)

feed_narrow : (n : ℕ) → n ≤ most_number → length (as_line (token.Feed n)) ≤ longest
feed_narrow n h = let k : length (bits n) ≤ 32 = digits_most 2 two 31 n (omega (arith, h)) in omega (arith, line_length (token.Feed n), value_length quote n, k)

-- since when the same one runs is no later than the clock, and its position is one of sixteen
since_low : (c : Cursor) → ordered c ≡ true → (c.since ≤ last_instant) × (c.position ≤ most_number)
since_low c h = go c.ran refl
  where
    go : (r : Bool) → c.ran ≡ r → (c.since ≤ last_instant) × (c.position ≤ most_number)
    go false e =
        let s : c.since ≡ c.clock = (ordered_before_lem c h e).since in
        let p : c.position ≡ 0 = (ordered_before_lem c h e).feed in
        (omega (arith, s, ordered_clock c h), omega (arith, p))
    go true e =
        let s : c.since < c.clock = (ordered_after_lem c h e).since in
        let p : c.position ≤ most_feeds = (ordered_after_lem c h e).feed in
        (omega (arith, s, ordered_clock c h), omega (arith, p))

-- THE FIRST LINE THAT IS DUE
pub first_narrow : (c : Cursor) → ordered c ≡ true → c.number ≤ most_number → length (as_line (first_due c)) ≤ longest
unfolding first_due
first_narrow c h n = go (ltb c.due.heads head_count) c.due.mark c.due.job c.due.feed
  where
    go : (a m j f : Bool) → length (as_line (cond a (token.Head c.due.heads) (cond m (token.Mark c.since) (cond j (token.Job c.number) (cond f (token.Feed c.position) token.Other))))) ≤ longest
    go true m j f = head_narrow c.due.heads
    go false true j f = mark_narrow c.since (since_low c h).0
    go false false true f = job_narrow c.number n
    go false false false true = feed_narrow c.position (since_low c h).1
    go false false false false = omega (arith, line_length token.Other)

-- the lines that close a run that is being written
live_lines : (c : Cursor) → is_none c ≡ false → closing_lines c ≡ due_lines c ++ flagged c.ran (token.Mark c.clock)
unfolding closing_lines
live_lines c e = rw e

-- THE FIRST LINE THAT CLOSES A RUN fits into as many bytes, so closing gets on
pub closing_fits : (room : ℕ) (c : Cursor) → longest ≤ room → ordered c ≡ true → c.number ≤ most_number → stuck (closing_lines c) (closing_fitting room c) ≡ false
unfolding stuck closing_lines fitting
closing_fits room c wide h n = by_lines (closing_lines c) refl
  where
    first_of : (k : Token) (ks : List Token) → due_lines c ++ flagged c.ran (token.Mark c.clock) ≡ k ∷ ks → length (as_line k) ≤ longest
    first_of k ks e = by_due (any_due c.due) refl
      where
        by_due : (b : Bool) → any_due c.due ≡ b → length (as_line k) ≤ longest
        by_due true d =
            let same : first_due c ≡ k = ap (λ xs. get_or xs 0 token.Other) (ap (◌++ flagged c.ran (token.Mark c.clock)) (sym (due_first c d)) ∙ e) in
            subst (λ x. length (as_line x) ≤ longest) same (first_narrow c h n)
        by_due false d = by_mark c.ran (ap (◌++ flagged c.ran (token.Mark c.clock)) (sym (due_none c d)) ∙ e)
          where
            by_mark : (r : Bool) → flagged r (token.Mark c.clock) ≡ k ∷ ks → length (as_line k) ≤ longest
            by_mark true q = let same : token.Mark c.clock ≡ k = ap (λ xs. get_or xs 0 token.Other) q in subst (λ x. length (as_line x) ≤ longest) same (mark_narrow c.clock (ordered_clock c h))
            by_mark false q = let z : 0 ≡ suc (length ks) = ap length q in absurd (omega (arith, z))

    by_lines : (ls : List Token) → closing_lines c ≡ ls → eqb (length (fitting room ls)) 0 && ltb 0 (length ls) ≡ false
    by_lines [] e = refl
    by_lines (k ∷ ks) e =
        let k_narrow : length (as_line k) ≤ longest = first_of k ks (sym (live_lines c (ordered_live c h)) ∙ e) in
        let fit : fitting room (k ∷ ks) ≡ k ∷ fitting (room - length (as_line k)) ks = fits_first room k ks (omega (arith, k_narrow, wide)) in
        ap (λ xs. eqb (length xs) 0 && ltb 0 (suc (length ks))) fit
        ∙ ap (λ b. b && ltb 0 (suc (length ks))) (ne_eqb (suc (length (fitting (room - length (as_line k)) ks))) 0 (λ z. absurd (omega (arith, z))))
