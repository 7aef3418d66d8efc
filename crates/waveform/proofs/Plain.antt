-- The lines of a run can be read again, and what is read can be written.
use mathlib.Core.Path.{◌≡◌, refl}
use mathlib.Core.Bool.{Bool, true, false, cond, ◌&&◌}
use mathlib.Core.List.{List, [], ◌∷◌}
use Prim.Native.Nat.{ℕ, zero, suc, ◌+◌, ◌-◌, ◌≤◌, ◌<◌, ◌^◌}
use native.Mathlib.Omega.{arith}
use lib.Dec.{leb, eqb}
use lib.ListN.{length, get_or, take}
use Rattle.std.specs.Prelude.{Option, Some, None}
use Rattle.lists.specs.Lists.{Each}
use Rattle.lists.proofs.Lists.{each_append}
use Rattle.ticks.specs.Ticks.{last_instant}
use Rattle.answers.specs.declared.Who.{Who}
use Rattle.answers.specs.declared.Who.TheVariants.{Job, Feed, Idle}
use Rattle.text.specs.Numbers.{most_bits, number_of, bits_of}
use Rattle.text.proofs.Numbers.{binary, number_bounded}
use Rattle.waveform.specs.declared.Token.TheVariants as token
use Rattle.waveform.specs.Runs.{head_count, heads_from, job_wire, feed_wire, Nameable, changed_by, changes, body, told, Run}
use Rattle.waveform.specs.Reading.{Writable}
use Rattle.waveform.specs.Bytes.{hash, bee, bang, quote, head_lines, head_in, mark_by, Narrow, value_by, value_of, says}
use Rattle.waveform.proofs.Bytes.{Plain}

-- the values of whom a tick may go to
job_plain : (w : Who) → Nameable w → job_wire w < 2 ^ 32
job_plain (Job n) h = omega (arith, h.1)
job_plain (Feed p) h = omega arith
job_plain Idle h = omega arith

feed_plain : (w : Who) → Nameable w → feed_wire w < 2 ^ 32
feed_plain (Job n) h = omega arith
feed_plain (Feed p) h = omega (arith, h.1)
feed_plain Idle h = omega arith

changed_plain : (x y : Bool) (t : ℕ) (v : Who) → t ≤ last_instant → Nameable v → Each Plain (changed_by x y t v)
changed_plain true true t v l n = tt
changed_plain true false t v l n = (omega (arith, l), (feed_plain v n, tt))
changed_plain false true t v l n = (omega (arith, l), (job_plain v n, tt))
changed_plain false false t v l n = (omega (arith, l), (job_plain v n, (feed_plain v n, tt)))

changes_plain : (t : ℕ) (w : Who) (vs : List Who) → t + length vs ≤ last_instant → Each Nameable vs → Each Plain (changes t w vs)
unfolding changes
changes_plain t w [] l n = (omega (arith, l), tt)
changes_plain t w (v ∷ vs) l n =
    each_append Plain (changed_by (eqb (job_wire v) (job_wire w)) (eqb (feed_wire v) (feed_wire w)) t v) (changes (suc t) v vs)
    (changed_plain (eqb (job_wire v) (job_wire w)) (eqb (feed_wire v) (feed_wire w)) t v (omega (arith, l)) n.0)
    (changes_plain (suc t) v vs (omega (arith, l)) n.1)

body_plain : (t : ℕ) (ws : List Who) → Run t ws → Each Plain (body t ws)
unfolding body
body_plain t [] r = tt
body_plain t (w ∷ ws) r = (job_plain w r.names.0, (feed_plain w r.names.0, changes_plain (suc t) w ws (omega (arith, r.within)) r.names.1))

heads_plain : (m k : ℕ) → k + m ≤ head_count → Each Plain (heads_from m k)
unfolding heads_from
heads_plain zero k h = tt
heads_plain (suc m) k h = (omega (arith, h), heads_plain m (suc k) (omega (arith, h)))

-- EVERY LINE OF A RUN IS PLAIN
pub told_plain : (t : ℕ) (ws : List Who) → Run t ws → Each Plain (told t ws)
unfolding told
told_plain t ws r =
    each_append Plain (heads_from head_count 0) (token.Mark t ∷ body t ws) (heads_plain head_count 0 (omega arith)) (omega (arith, r.within), body_plain t ws r)

-- WHAT IS READ OF A LINE CAN BE WRITTEN
value_writable : (wire : ℕ) (s : List ℕ) (m : Option ℕ) → bits_of s ≡ m → Writable (value_by wire m)
value_writable wire s (Some n) e = go (eqb wire bang) (eqb wire quote)
  where
    go : (x y : Bool) → Writable (cond x (token.Job n) (cond y (token.Feed n) token.Other))
    go true y = omega (arith, number_bounded 2 binary most_bits n s e)
    go false true = tt
    go false false = tt
value_writable wire s None e = tt

-- binary digits are a number of 32 bits
pub bits_narrow : (s : List ℕ) → Narrow (bits_of s)
bits_narrow s = go (bits_of s) refl
  where
    go : (m : Option ℕ) → bits_of s ≡ m → Narrow m
    go (Some n) e = number_bounded 2 binary most_bits n s e
    go None e = tt

mark_writable : (m : Option ℕ) → Writable (mark_by m)
mark_writable (Some t) = tt
mark_writable None = tt

head_writable : (ls : List (List ℕ)) (k : ℕ) (s : List ℕ) → Writable (head_in ls k s)
unfolding head_in
head_writable [] k s = tt
head_writable (l ∷ ls) k s = go (Rattle.text.specs.Fields.same s l) (head_writable ls (suc k) s)
  where
    go : (x : Bool) → Writable (head_in ls (suc k) s) → Writable (cond x (token.Head k) (head_in ls (suc k) s))
    go true h = tt
    go false h = h

pub says_writable : (s : List ℕ) → Writable (says s)
unfolding says value_of
says_writable [] = tt
says_writable (b ∷ s) = go (eqb b hash) (eqb b bee)
  where
    value : (x : Bool) → Writable (cond x (value_by (get_or s (length s - 1) 0) (bits_of (take (length s - 2) s))) token.Other)
    value true = value_writable (get_or s (length s - 1) 0) (take (length s - 2) s) (bits_of (take (length s - 2) s)) refl
    value false = tt

    go : (x y : Bool) → Writable (cond x (mark_by (number_of s)) (cond y (value_of s) (head_in head_lines 0 (b ∷ s))))
    go true y = mark_writable (number_of s)
    go false true = value (leb 2 (length s) && eqb (get_or s (length s - 2) 0) Rattle.text.specs.Fields.space)
    go false false = head_writable head_lines 0 (b ∷ s)
