-- Laws on finding a byte, on the fields of a line, and on words that are the same.
use mathlib.Core.Path.{◌≡◌, refl, sym, ap, ◌∙◌, subst}
use mathlib.Core.Bool.{Bool, true, false}
use mathlib.Core.List.{List, [], ◌∷◌}
use Prim.Native.Nat.{ℕ, zero, suc, ◌+◌, ◌-◌, ◌≤◌, ◌<◌, zero-le, suc-le-suc}
use native.Mathlib.Nat.{le_of_suc-le-suc, le_refl}
use native.Mathlib.Decide.{ℕ_discrete}
use native.Mathlib.Omega.{arith}
use borrow.Author.Tests.{eq-eqb, ne_eqb}
use lib.Dec.{eqb}
use lib.ListN.{length, get_or, take, drop, length-drop, drop_of_length-le}
use lib.Seq.{drop-drop, get_or-drop, take_all}
use Rattle.std.specs.Prelude.{Option, Some, None, cond}
use Rattle.std.specs.List.{position_from}
use Rattle.std.specs.Option.{option_map}
use Rattle.std.specs.Cmp.Lexicographic.{same_text}
use Rattle.text.specs.Fields.{same, found_in, grown, parted}

module _ (byte i : ℕ) (b : ℕ) (s : List ℕ) where
  pub found_here : b ≡ byte → found_in byte i (b ∷ s) ≡ Some i
  unfolding found_in
  found_here h = rw (eq-eqb b byte h)

  pub found_past : (b ≡ byte → ⊥) → found_in byte i (b ∷ s) ≡ found_in byte (suc i) s
  unfolding found_in
  found_past h = rw (ne_eqb b byte h)

pub found_empty : (byte i : ℕ) → found_in byte i [] ≡ None
unfolding found_in
found_empty byte i = refl

-- nothing is found past the end
pub found_past_end : (byte from : ℕ) (s : List ℕ) → length s ≤ from → found_in byte from (drop from s) ≡ None
unfolding found_in
found_past_end byte from s h = rw (drop_of_length-le s h) refl

-- what is found is so far behind where the list begins as it is in the list
pub found_behind : (byte i : ℕ) (s : List ℕ) → found_in byte i s ≡ option_map (λ k. i + k) (position_from (λ b. eqb b byte) 0 s)
unfolding found_in
found_behind byte i s = ap (λ n. found_in byte n s) (omega arith) ∙ go s 0
  where
    go : (s : List ℕ) (j : ℕ) → found_in byte (i + j) s ≡ option_map (λ k. i + k) (position_from (λ b. eqb b byte) j s)
    go [] j = refl
    go (b ∷ s) j = at_byte (eqb b byte) (go s (j + 1))
      where
        at_byte : (x : Bool) → found_in byte (i + (j + 1)) s ≡ option_map (λ k. i + k) (position_from (λ b. eqb b byte) (j + 1) s)
            → cond x (Some (i + j)) (found_in byte (suc (i + j)) s) ≡ option_map (λ k. i + k) (cond x (Some j) (position_from (λ b. eqb b byte) (j + 1) s))
        at_byte true h = refl
        at_byte false h = ap (λ n. found_in byte n s) (omega arith) ∙ h

-- the byte stands at the place j of the list, and at none before it
record First (byte j : ℕ) (s : List ℕ) : Type 0 where
  inside : j < length s
  holds : get_or s j 0 ≡ byte
  none : (m : ℕ) → m < j → get_or s m 0 ≡ byte → ⊥

abbrev Absent : ℕ → List ℕ → Type 0
Absent byte s = (m : ℕ) → m < length s → get_or s m 0 ≡ byte → ⊥

-- what holds of no byte of the rest holds of none where the first is not it
absent_more : (byte b : ℕ) (s : List ℕ) → (b ≡ byte → ⊥) → Absent byte s → Absent byte (b ∷ s)
absent_more byte b s p h zero l e = p e
absent_more byte b s p h (suc m) l e = h m (le_of_suc-le-suc l) e

first_more : (byte b j : ℕ) (s : List ℕ) → (b ≡ byte → ⊥) → First byte j s → First byte (suc j) (b ∷ s)
first_more byte b j s p f = record { inside = suc-le-suc f.inside; holds = f.holds; none = none }
  where
    none : (m : ℕ) → m < suc j → get_or (b ∷ s) m 0 ≡ byte → ⊥
    none zero l e = p e
    none (suc m) l e = f.none m (le_of_suc-le-suc l) e

-- what is found is the first
found_first : (byte i k : ℕ) (s : List ℕ) → found_in byte i s ≡ Some k → (j : ℕ) × (k ≡ i + j) × First byte j s
found_first byte i k [] e =
    cc (found_empty byte i)
found_first byte i k (b ∷ s) e = go (ℕ_discrete b byte) (found_first byte (suc i) k s)
  where
    go : Dec (b ≡ byte) → (found_in byte (suc i) s ≡ Some k → (j : ℕ) × (k ≡ suc i + j) × First byte j s)
        → (j : ℕ) × (k ≡ i + j) × First byte j (b ∷ s)
    go (yes p) ih =
        let here : i ≡ k = cc (found_here byte i b s p) in
        (0, omega arith, record { inside = suc-le-suc zero-le; holds = p; none = λ m l. absurd (omega arith) })
    go (no p) ih =
        let r = ih (sym (found_past byte i b s p) ∙ e) in
        (suc r.0, omega (arith, r.1), first_more byte b r.0 s p r.2)

-- where nothing is found the byte stands nowhere
found_nothing : (byte i : ℕ) (s : List ℕ) → found_in byte i s ≡ None → Absent byte s
found_nothing byte i [] e = λ m l h. omega arith
found_nothing byte i (b ∷ s) e = go (ℕ_discrete b byte) (found_nothing byte (suc i) s)
  where
    go : Dec (b ≡ byte) → (found_in byte (suc i) s ≡ None → Absent byte s) → Absent byte (b ∷ s)
    go (yes p) ih =
        cc (found_here byte i b s p)
    go (no p) ih = absent_more byte b s p (ih (sym (found_past byte i b s p) ∙ e))

-- the byte stands at the place k, and at none from `from` up to it
pub record Stands (byte : ℕ) (s : List ℕ) (from k : ℕ) : Type 0 where
  pub after : from ≤ k
  pub inside : k < length s
  pub holds : get_or s k 0 ≡ byte
  pub none : (m : ℕ) → from ≤ m → m < k → get_or s m 0 ≡ byte → ⊥

-- what stands at a place of the rest
at_rest : (s : List ℕ) (from m : ℕ) → from ≤ m → get_or (drop from s) (m - from) 0 ≡ get_or s m 0
at_rest s from m h =
    let e : from + (m - from) ≡ m = omega arith in
    get_or-drop from s (m - from) 0 ∙ ap (λ n. get_or s n 0) e

pub found_at : (byte : ℕ) (s : List ℕ) (from k : ℕ) → found_in byte from (drop from s) ≡ Some k → Stands byte s from k
found_at byte s from k e =
    let f = found_first byte from k (drop from s) e in
    let there : k ≡ from + f.0 = f.1 in
    let within : f.0 < length s - from = subst (λ n. f.0 < n) (length-drop from s) f.2.inside in
    let far : k - from ≡ f.0 = omega arith in
    record {
      after = omega arith;
      inside = omega arith;
      holds = sym (at_rest s from k (omega arith)) ∙ ap (λ n. get_or (drop from s) n 0) far ∙ f.2.holds;
      none = λ m h l g. f.2.none (m - from) (omega arith) (at_rest s from m h ∙ g);
    }

pub found_nowhere : (byte : ℕ) (s : List ℕ) (from : ℕ) → found_in byte from (drop from s) ≡ None
    → (m : ℕ) → from ≤ m → m < length s → get_or s m 0 ≡ byte → ⊥
found_nowhere byte s from e m h l g =
    let n : length (drop from s) ≡ length s - from = length-drop from s in
    found_nothing byte from (drop from s) e (m - from) (omega arith) (at_rest s from m h ∙ g)

-- a text is cut at the first place of a byte
fields_first : (byte j : ℕ) (s : List ℕ) → First byte j s → parted byte s ≡ take j s ∷ parted byte (drop (suc j) s)
unfolding parted
fields_first byte j [] f = absurd (omega (arith, f.inside))
fields_first byte zero (b ∷ s) f = rw (eq-eqb b byte f.holds)
fields_first byte (suc j) (b ∷ s) f =
    rw (ne_eqb b byte (f.none 0 (suc-le-suc zero-le)))
    (ap (grown b)
    (fields_first byte j s
    (record { inside = le_of_suc-le-suc f.inside; holds = f.holds; none = λ m l. f.none (suc m) (suc-le-suc l) })))

-- one without it is one part
fields_whole : (byte : ℕ) (s : List ℕ) → Absent byte s → parted byte s ≡ s ∷ []
unfolding parted
fields_whole byte [] h = refl
fields_whole byte (b ∷ s) h =
    rw (ne_eqb b byte (h 0 (suc-le-suc zero-le))) (ap (grown b) (fields_whole byte s (λ m l. h (suc m) (suc-le-suc l))))

-- the part from `from` on ends before the byte at k
pub record Cut (byte : ℕ) (s : List ℕ) (from k : ℕ) : Type 0 where
  pub after : from ≤ k
  pub inside : k < length s
  pub fields : parted byte (drop from s) ≡ take (k - from) (drop from s) ∷ parted byte (drop (k + 1) s)

pub cut_at : (byte : ℕ) (s : List ℕ) (from k : ℕ) → found_in byte from (drop from s) ≡ Some k → Cut byte s from k
cut_at byte s from k e =
    let f = found_first byte from k (drop from s) e in
    let place = found_at byte s from k e in
    let there : k ≡ from + f.0 = f.1 in
    let far : k - from ≡ f.0 = omega arith in
    let past : from + suc f.0 ≡ k + 1 = omega arith in
    record {
      after = place.after;
      inside = place.inside;
      fields = rw far
          (fields_first byte f.0 (drop from s) f.2
          ∙ ap (λ l. take f.0 (drop from s) ∷ parted byte l) (drop-drop (suc f.0) from s ∙ ap (λ n. drop n s) past));
    }

pub cut_nowhere : (byte : ℕ) (s : List ℕ) (from : ℕ) → found_in byte from (drop from s) ≡ None → parted byte (drop from s) ≡ drop from s ∷ []
cut_nowhere byte s from e = fields_whole byte (drop from s) (found_nothing byte from (drop from s) e)

-- there is a first part
pub fields_some : (byte : ℕ) (s : List ℕ) → (f : List ℕ) × (fs : List (List ℕ)) × (parted byte s ≡ f ∷ fs)
fields_some byte s = go (found_in byte 0 s) refl
  where
    go : (r : Option ℕ) → found_in byte 0 s ≡ r → (f : List ℕ) × (fs : List (List ℕ)) × (parted byte s ≡ f ∷ fs)
    go (Some k) e = (_, _, (cut_at byte s 0 k e).fields)
    go None e = (_, _, cut_nowhere byte s 0 e)

-- words that are the same are equal
pub same_is : (s t : List ℕ) → same s t ≡ true → s ≡ t
unfolding same
same_is s t h = same_text s t (sym h)

-- the part from a place to the end
pub rest_part : (s : List ℕ) (from : ℕ) → take (length s - from) (drop from s) ≡ drop from s
rest_part s from = take_all (length s - from) (drop from s) (rw length-drop (le_refl (length s - from)))
