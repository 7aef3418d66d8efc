-- Laws on what a line says: its fields as numbers.
use mathlib.Core.Path.{◌≡◌, refl, sym, ap, ◌∙◌}
use mathlib.Core.Bool.{false, ◌&&◌, and-false}
use Rattle.std.proofs.Math.Bool.{and-true}
use Rattle.std.proofs.lemmas.Bool.Decides.{nat_tests}
use mathlib.Core.List.{List, [], ◌∷◌}
use Prim.Native.Nat.{ℕ, ◌+◌, ◌-◌, ◌<◌}
use native.Mathlib.Nat.{sub-zero}
use lib.Seq.{length-take-le}
use lib.ListN.{take, drop, length, get_or}
use lib.Dec.{eqb}
use native.Mathlib.Omega.{arith}
use borrow.Author.Tests.{ne_eqb}
use Rattle.std.specs.Prelude.{Option, Some, None}
use Rattle.text.specs.Numbers.{most_digits, is_digit, number_of}
use Rattle.text.specs.Fields.{space, same, found_in, fields_of}
use Rattle.words.specs.declared.Word.{Word}
use Rattle.words.specs.declared.Line.{Line}
use Rattle.words.specs.Small.{small_of}
use Rattle.words.specs.Lines.{one_of, all_three, three_of, and_three, four_of, going, go_of, said_of}
use Rattle.text.proofs.Fields.{found_at, cut_at, cut_nowhere, fields_some, rest_part}
use Rattle.text.proofs.Numbers.{digits_other, number_other}

-- what stands before the first space, and the fields after it
pub space_inside : (s : List ℕ) (k : ℕ) → found_in space 0 s ≡ Some k → k < length s
space_inside s k e = (cut_at space s 0 k e).inside

pub before_space : (s : List ℕ) (k : ℕ) → found_in space 0 s ≡ Some k → length (take k s) ≡ k
before_space s k e = length-take-le k s (omega (arith, space_inside s k e))

pub fields_cut : (s : List ℕ) (k : ℕ) → found_in space 0 s ≡ Some k → fields_of s ≡ take k s ∷ fields_of (take (length s - (k + 1)) (drop (k + 1) s))
fields_cut s k e = (cut_at space s 0 k e).fields ∙ (λ i. take (sub-zero k i) s ∷ fields_of (sym (rest_part s (k + 1)) i))

-- where there is none
pub fields_whole : (s : List ℕ) → found_in space 0 s ≡ None → fields_of s ≡ s ∷ []
fields_whole s e = cut_nowhere space s 0 e

pub ruleset cutting = (space_inside, before_space, fields_cut, fields_whole)

one_whole : (f : List ℕ) → one_of (f ∷ []) ≡ number_of f
unfolding one_of
one_whole f = refl

one_many : (f : List ℕ) (fs : List (List ℕ)) → (g : List ℕ) × (gs : List (List ℕ)) × (fs ≡ g ∷ gs) → one_of (f ∷ fs) ≡ None
unfolding one_of
one_many f fs h = ap (λ l. one_of (f ∷ l)) h.2

space_no_digit : (b : ℕ) → b ≡ space → is_digit 10 b ≡ false
unfolding is_digit
space_no_digit b e = rw e

-- the fields are one number where the bytes are: no number has a space in it
pub one_number : (s : List ℕ) → one_of (fields_of s) ≡ number_of s
one_number s = go (found_in space 0 s) refl
  where
    go : (r : Option ℕ) → found_in space 0 s ≡ r → one_of (fields_of s) ≡ number_of s
    go (Some k) e =
        let p = found_at space s 0 k e in
        ap one_of (cut_at space s 0 k e).fields
        ∙ one_many _ _ (fields_some space (drop (k + 1) s))
        ∙ number_other 10 most_digits s (digits_other 10 s k p.inside (space_no_digit _ p.holds))
    go None e = ap one_of (cut_nowhere space s 0 e) ∙ one_whole s

-- too few fields
pub third_missing : (a b : Option ℕ) → all_three a b (small_of (one_of [])) ≡ None
unfolding small_of one_of
third_missing (Some a) (Some b) = refl
third_missing (Some a) None = refl
third_missing None b = refl

pub others_missing : (a : Option ℕ) → and_three a (three_of []) ≡ None
unfolding three_of
others_missing (Some a) = refl
others_missing None = refl

pub charge_missing : (start : Option ℕ) → going start (small_of (one_of [])) ≡ Line.Bad
unfolding small_of one_of
charge_missing (Some n) = refl
charge_missing None = refl

-- a word alone says nothing
pub said_alone : (w : Word) → said_of w [] ≡ Line.Bad
unfolding said_of three_of four_of go_of one_of small_of
said_alone Word.Feed = refl
said_alone Word.Go = refl
said_alone Word.Ask = refl
said_alone Word.End = refl
said_alone Word.Rest = refl
said_alone Word.Run = refl
said_alone Word.Other = refl

-- whether bytes are those of a short word: by how many there are, and by each
module _ (a b : ℕ) where
  pub same_two : (s : List ℕ) → same s (a ∷ b ∷ []) ≡ (eqb (length s) 2 && (eqb (get_or s 0 0) a && eqb (get_or s 1 0) b))
  unfolding same
  same_two [] = refl
  same_two (x ∷ []) = simp and-false refl
  same_two (x ∷ y ∷ []) = simp and-true refl
  same_two (x ∷ y ∷ z ∷ s) = rw (ne_eqb (length (x ∷ y ∷ z ∷ s)) 2 (λ e. omega (arith, e))) (simp and-false refl)

  module _ (c : ℕ) where
    pub same_three : (s : List ℕ) → same s (a ∷ b ∷ c ∷ []) ≡ (eqb (length s) 3 && (eqb (get_or s 0 0) a && (eqb (get_or s 1 0) b && eqb (get_or s 2 0) c)))
    unfolding same
    same_three [] = refl
    same_three (x ∷ []) = simp and-false refl
    same_three (x ∷ y ∷ []) = simp and-false refl
    same_three (x ∷ y ∷ z ∷ []) = simp and-true refl
    same_three (x ∷ y ∷ z ∷ v ∷ s) = rw (ne_eqb (length (x ∷ y ∷ z ∷ v ∷ s)) 3 (λ e. omega (arith, e))) (simp and-false refl)

    pub same_four : (d : ℕ) (s : List ℕ) → same s (a ∷ b ∷ c ∷ d ∷ []) ≡ (eqb (length s) 4 && (eqb (get_or s 0 0) a && (eqb (get_or s 1 0) b && (eqb (get_or s 2 0) c && eqb (get_or s 3 0) d))))
    unfolding same
    same_four d [] = refl
    same_four d (x ∷ []) = simp and-false refl
    same_four d (x ∷ y ∷ []) = simp and-false refl
    same_four d (x ∷ y ∷ z ∷ []) = simp and-false refl
    same_four d (x ∷ y ∷ z ∷ v ∷ []) = simp and-true refl
    same_four d (x ∷ y ∷ z ∷ v ∷ w ∷ s) = rw (ne_eqb (length (x ∷ y ∷ z ∷ v ∷ w ∷ s)) 4 (λ e. omega (arith, e))) (simp and-false refl)

pub ruleset spelling = (nat_tests, same_two, same_three, same_four)
