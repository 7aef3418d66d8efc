-- What is written is what is said, and the other way round.
use mathlib.Core.Path.{◌≡◌, refl, sym, ap, ◌∙◌}
use mathlib.Core.Bool.{Bool, true, false, cond, ◌&&◌}
use mathlib.Core.List.{List, [], ◌∷◌, ◌++◌}
use Prim.Native.Nat.{ℕ, zero, suc, ◌+◌, ◌-◌, ◌≤◌, ◌<◌, ◌^◌}
use native.Mathlib.Omega.{arith}
use native.Mathlib.Numerals.{add-one}
use lib.Dec.{leb, eqb}
use lib.ListN.{length, get_or, take, drop, length-append, take-append-drop, drop_of_length-le}
use lib.Seq.{drop-cons, take-append_seam, get_or-append_seam, get_or-append-add}
use borrow.Author.Tests.{le-leb, leb-true, eqb-true, eq-eqb, ne_eqb}
use Rattle.std.specs.Prelude.{Option, Some, None}
use Rattle.lists.proofs.Tests.{both_made}
use Rattle.text.specs.Numbers.{most_digits, most_bits, number_of, bits_of, bits}
use Rattle.text.specs.Fields.{space, same}
use Rattle.text.proofs.Numbers.{decimal, binary, number_digits, number_written}
use Rattle.text.proofs.Fields.{same_is}
use Rattle.waveform.specs.declared.Token.{Token}
use Rattle.waveform.specs.declared.Token.TheVariants as token
use Rattle.waveform.specs.Runs.{head_count}
use Rattle.waveform.specs.Bytes.{hash, bee, bang, quote, head_lines, value_line, written, head_in, mark_by, value_by, value_of, says}

-- a line that can be read again: one of those in front, or with numbers that are not too long
abbrev pub Plain : Token → Type 0
Plain (token.Head k) = k < head_count
Plain (token.Mark t) = t < 10 ^ 13
Plain (token.Job n) = n < 2 ^ 32
Plain (token.Feed n) = n < 2 ^ 32
Plain token.Other = ⊥

-- a line by its first byte, of which an empty one has none
module _ (s : List ℕ) where
  says_first : says s ≡ cond (eqb (get_or s 0 0) hash) (mark_by (number_of (drop 1 s))) (cond (eqb (get_or s 0 0) bee) (value_of (drop 1 s)) (head_in head_lines 0 s))
  unfolding says head_in same
  says_first = go s
    where
      go : (s : List ℕ) → says s ≡ cond (eqb (get_or s 0 0) hash) (mark_by (number_of (drop 1 s))) (cond (eqb (get_or s 0 0) bee) (value_of (drop 1 s)) (head_in head_lines 0 s))
      go [] = refl
      go (b ∷ s) = refl

  pub says_mark : get_or s 0 0 ≡ hash → mark_by (number_of (drop 1 s)) ≡ says s
  says_mark h = sym (says_first ∙ ap (λ b. cond b (mark_by (number_of (drop 1 s))) (cond (eqb (get_or s 0 0) bee) (value_of (drop 1 s)) (head_in head_lines 0 s))) (eq-eqb _ _ h))

  pub says_value : get_or s 0 0 ≡ bee → value_of (drop 1 s) ≡ says s
  says_value h =
      sym
      (says_first
      ∙ (λ i. cond (eqb (h i) hash) (mark_by (number_of (drop 1 s))) (cond (eqb (h i) bee) (value_of (drop 1 s)) (head_in head_lines 0 s))))

  pub says_head : (get_or s 0 0 ≡ hash → ⊥) → (get_or s 0 0 ≡ bee → ⊥) → head_in head_lines 0 s ≡ says s
  says_head h g =
      sym
      (says_first
      ∙ (λ i. cond (ne_eqb (get_or s 0 0) hash h i) (mark_by (number_of (drop 1 s))) (cond (ne_eqb (get_or s 0 0) bee g i) (value_of (drop 1 s)) (head_in head_lines 0 s))))

-- WHAT IS WRITTEN IS SAID
value_said : (wire n : ℕ) → n < 2 ^ 32 → value_of (bits n ++ (space ∷ wire ∷ [])) ≡ value_by wire (Some n)
unfolding value_of
value_said wire n h =
    let xs = bits n in
    let s = bits n ++ (space ∷ wire ∷ []) in
    let many : length (bits n ++ (space ∷ wire ∷ [])) ≡ length (bits n) + 2 = length-append (bits n) (space ∷ wire ∷ []) in
    let two : length (bits n ++ (space ∷ wire ∷ [])) - 2 ≡ length (bits n) = omega (arith, many) in
    let one : length (bits n ++ (space ∷ wire ∷ [])) - 1 ≡ length (bits n) + 1 = omega (arith, many) in
    let gap : get_or (bits n ++ (space ∷ wire ∷ [])) (length (bits n ++ (space ∷ wire ∷ [])) - 2) 0 ≡ space
    = ap (λ k. get_or (bits n ++ (space ∷ wire ∷ [])) k 0) two ∙ get_or-append_seam (bits n) space (wire ∷ []) 0 in
    let end : get_or (bits n ++ (space ∷ wire ∷ [])) (length (bits n ++ (space ∷ wire ∷ [])) - 1) 0 ≡ wire
    = ap (λ k. get_or (bits n ++ (space ∷ wire ∷ [])) k 0) one ∙ get_or-append-add (bits n) (space ∷ wire ∷ []) 1 0 in
    let front : take (length (bits n ++ (space ∷ wire ∷ [])) - 2) (bits n ++ (space ∷ wire ∷ [])) ≡ bits n
    = ap (λ k. take k (bits n ++ (space ∷ wire ∷ []))) two ∙ take-append_seam (bits n) (space ∷ wire ∷ []) in
    let test = both_made (leb 2 (length s)) (eqb (get_or s (length s - 2) 0) space) (le-leb 2 (length s) (omega (arith, many))) (eq-eqb _ _ gap) in
    ap (λ b. cond b (value_by (get_or s (length s - 1) 0) (bits_of (take (length s - 2) s))) token.Other) test
    ∙ (λ i. value_by (end i) (bits_of (front i)))
    ∙ ap (value_by wire) (number_digits 2 binary 31 n h)

head_said : (k : ℕ) → k < head_count → says (get_or head_lines k []) ≡ token.Head k
unfolding says head_in same
head_said zero h = refl
head_said (suc zero) h = refl
head_said (suc (suc zero)) h = refl
head_said (suc (suc (suc zero))) h = refl
head_said (suc (suc (suc (suc zero)))) h = refl
head_said (suc (suc (suc (suc (suc zero))))) h = refl
head_said (suc (suc (suc (suc (suc (suc k)))))) h = absurd (omega arith)

pub says_written : (x : Token) → Plain x → says (written x) ≡ x
unfolding says
says_written (token.Head k) h = head_said k h
says_written (token.Mark t) h = ap mark_by (number_digits 10 decimal 12 t h)
says_written (token.Job n) h = value_said bang n h
says_written (token.Feed n) h = value_said quote n h
says_written token.Other h = absurd h

-- AND BACK: a line that says something is written so
abbrev Says : List ℕ → Token → Type 0
Says s x = (x ≡ token.Other → ⊥) → written x ≡ s

-- the last two bytes of a list
last_two : (s : List ℕ) → 2 ≤ length s → take (length s - 2) s ++ (get_or s (length s - 2) 0 ∷ get_or s (length s - 1) 0 ∷ []) ≡ s
last_two s h =
    let k = length s - 2 in
    let next : suc (length s - 2) ≡ length s - 1 = omega (arith, h) in
    let all : suc (length s - 1) ≡ length s = omega (arith, h) in
    let none : drop (suc (length s - 1)) s ≡ [] = ap (λ n. drop n s) all ∙ drop_of_length-le s {i = length s} (omega arith) in
    let rest : drop (length s - 2) s ≡ get_or s (length s - 2) 0 ∷ get_or s (length s - 1) 0 ∷ []
    = drop-cons s (length s - 2) 0 (omega (arith, h))
    ∙ ap (λ n. get_or s (length s - 2) 0 ∷ drop n s) next
    ∙ ap (get_or s (length s - 2) 0 ∷◌) (drop-cons s (length s - 1) 0 (omega (arith, h)) ∙ ap (get_or s (length s - 1) 0 ∷◌) none) in
    ap (take (length s - 2) s ++◌) (sym rest) ∙ take-append-drop (length s - 2) s

mark_written : (s : List ℕ) (n : Option ℕ) → number_of s ≡ n → Says (hash ∷ s) (mark_by n)
mark_written s (Some t) e o = ap (hash ∷◌) (number_written 10 decimal most_digits t s e)
mark_written s None e o = absurd (o refl)

value_written : (s : List ℕ) → Says (bee ∷ s) (value_of s)
unfolding value_of
value_written s = go (leb 2 (length s)) refl (eqb (get_or s (length s - 2) 0) space) refl
  where
    wire : ℕ
    wire = get_or s (length s - 1) 0

    front : List ℕ
    front = take (length s - 2) s

    put : leb 2 (length s) ≡ true → eqb (get_or s (length s - 2) 0) space ≡ true → (n : ℕ) → bits n ≡ take (length s - 2) s → (w : ℕ) → get_or s (length s - 1) 0 ≡ w → value_line w n ≡ bee ∷ s
    put h g n b w e = ap (bee ∷◌) ((λ i. b i ++ (sym (eqb-true (get_or s (length s - 2) 0) space g) i ∷ sym e i ∷ [])) ∙ last_two s (leb-true 2 (length s) h))

    by_wire : leb 2 (length s) ≡ true → eqb (get_or s (length s - 2) 0) space ≡ true → (n : ℕ) → bits n ≡ take (length s - 2) s → (x : Bool) → eqb (get_or s (length s - 1) 0) bang ≡ x → (y : Bool) → eqb (get_or s (length s - 1) 0) quote ≡ y
        → Says (bee ∷ s) (cond x (token.Job n) (cond y (token.Feed n) token.Other))
    by_wire h g n b true e y f o = put h g n b bang (eqb-true _ bang e)
    by_wire h g n b false e true f o = put h g n b quote (eqb-true _ quote f)
    by_wire h g n b false e false f o = absurd (o refl)

    by_bits : leb 2 (length s) ≡ true → eqb (get_or s (length s - 2) 0) space ≡ true → (m : Option ℕ) → bits_of (take (length s - 2) s) ≡ m → Says (bee ∷ s) (value_by (get_or s (length s - 1) 0) m)
    by_bits h g (Some n) e = by_wire h g n (number_written 2 binary most_bits n (take (length s - 2) s) e) (eqb (get_or s (length s - 1) 0) bang) refl (eqb (get_or s (length s - 1) 0) quote) refl
    by_bits h g None e = λ o. absurd (o refl)

    go : (x : Bool) → leb 2 (length s) ≡ x → (y : Bool) → eqb (get_or s (length s - 2) 0) space ≡ y
        → Says (bee ∷ s) (cond (x && y) (value_by (get_or s (length s - 1) 0) (bits_of (take (length s - 2) s))) token.Other)
    go true h true g = by_bits h g (bits_of (take (length s - 2) s)) refl
    go true h false g = λ o. absurd (o refl)
    go false h y g = λ o. absurd (o refl)

-- the lines in front, one after the other
module _ (k : ℕ) (s : List ℕ) (h : k < head_count) where
  head_next : head_in (drop k head_lines) k s ≡ cond (same s (get_or head_lines k [])) (token.Head k) (head_in (drop (suc k) head_lines) (suc k) s)
  unfolding head_in
  head_next = ap (λ ls. head_in ls k s) (drop-cons head_lines k [] h)

  pub head_here : same s (get_or head_lines k []) ≡ true → head_in (drop k head_lines) k s ≡ token.Head k
  head_here e = head_next ∙ ap (λ b. cond b (token.Head k) (head_in (drop (suc k) head_lines) (suc k) s)) e

  pub head_past : same s (get_or head_lines k []) ≡ false → head_in (drop k head_lines) k s ≡ head_in (drop (k + 1) head_lines) (k + 1) s
  head_past e =
      head_next
      ∙ ap (λ b. cond b (token.Head k) (head_in (drop (suc k) head_lines) (suc k) s)) e
      ∙ ap (λ n. head_in (drop n head_lines) n s) (sym (add-one k))

pub head_none : (k : ℕ) (s : List ℕ) → head_count ≤ k → head_in (drop k head_lines) k s ≡ token.Other
unfolding head_in
head_none k s h = ap (λ ls. head_in ls k s) (drop_of_length-le head_lines h)

-- the lines in front, from the k-th on
head_written : (ls : List (List ℕ)) (k : ℕ) (s : List ℕ) → ((i : ℕ) → i < length ls → get_or ls i [] ≡ get_or head_lines (k + i) []) → Says s (head_in ls k s)
unfolding head_in
head_written [] k s h = λ o. absurd (o refl)
head_written (l ∷ ls) k s h =
    go (same s l) refl
    (head_written ls (suc k) s (λ i j. let there : k + suc i ≡ suc k + i = omega arith in h (suc i) (omega (arith, j)) ∙ ap (λ n. get_or head_lines n []) there))
  where
    go : (x : Bool) → same s l ≡ x → Says s (head_in ls (suc k) s) → Says s (cond x (token.Head k) (head_in ls (suc k) s))
    go true e ih = λ o.
        let here : k ≡ k + 0 = omega arith in
        ap (λ n. get_or head_lines n []) here ∙ sym (h 0 (omega arith)) ∙ sym (same_is s l e)
    go false e ih = ih

pub written_says : (s : List ℕ) → (says s ≡ token.Other → ⊥) → written (says s) ≡ s
unfolding says
written_says [] = λ o. absurd (o refl)
written_says (b ∷ s) = go (eqb b hash) refl (eqb b bee) refl
  where
    go : (x : Bool) → eqb b hash ≡ x → (y : Bool) → eqb b bee ≡ y → Says (b ∷ s) (cond x (mark_by (number_of s)) (cond y (value_of s) (head_in head_lines 0 (b ∷ s))))
    go true e y f = λ o. mark_written s (number_of s) refl o ∙ ap (◌∷ s) (sym (eqb-true b hash e))
    go false e true f = λ o. value_written s o ∙ ap (◌∷ s) (sym (eqb-true b bee f))
    go false e false f = head_written head_lines 0 (b ∷ s) (λ i j. let same : i ≡ 0 + i = omega arith in ap (λ n. get_or head_lines n []) same)
