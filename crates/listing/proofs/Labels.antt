-- Looking up a record of the job labels, and parts of the lent lists.
use mathlib.Core.Path.{◌≡◌, refl, sym, ap, subst, ◌∙◌}
use mathlib.Core.Logic.{◌⊎◌, inl, inr, ⊎_elim}
use mathlib.Core.Bool.{Bool, true, false, cond, ◌&&◌}
use mathlib.Core.List.{List}
use Prim.Native.Nat.{ℕ, zero, suc, ◌+◌, ◌*◌, ◌-◌, ◌≤◌, ◌<◌}
use native.Mathlib.Nat.{mul-div-le, eq-or-lt_of_le}
use native.Mathlib.Omega.{arith}
use lib.Dec.{eqb, leb}
use native.Mathlib.Numerals.{add-one}
use lib.ListN.{length, get_or, take, drop}
use lib.Seq.{drop-drop, get_or-take, get_or-drop}
use Rattle.std.specs.List.{position_from}
use Rattle.std.specs.Simd.{first_chunks}
use denote.Ref.{Bor}
use borrow.Author.Tests.{eqb-true, eqb-false}
use Rattle.lists.proofs.Tests.{leb_elim}
use Rattle.answers.specs.declared.Who.{Who}
use Rattle.answers.specs.declared.Who.TheVariants.{Job, Feed, Idle}
use Rattle.std.specs.Prelude.{Option, Some, None}
use Rattle.listing.specs.declared.Lent.TheVariants.{Jobs, Feeds}
use Rattle.listing.specs.declared.Part.{Part}
use Rattle.listing.specs.Labels.{label_bytes, record_bytes, big_endian, record_number, record_from, whole, record_of, place, nowhere, job_place, label_of, lent, PartAt}

-- the records that are looked up are the chunks of the bytes
pub record_chunks : (m : ℕ) (s : List ℕ) (n k : ℕ) → record_from m s n k ≡ position_from (λ r. eqb (big_endian r 0) n) k (first_chunks record_bytes m (drop (record_bytes * k) s))
unfolding record_from
record_chunks zero s n k = refl
record_chunks (suc m) s n k = λ i. cond (eqb (here i) n) (Some k) (behind (record_chunks m s n (k + 1)) i)
  where
    byte : (i : ℕ) → i < record_bytes → get_or s (record_bytes * k + i) 0 ≡ get_or (take record_bytes (drop (record_bytes * k) s)) i 0
    byte i l = sym (get_or-take record_bytes (drop (record_bytes * k) s) i 0 l ∙ get_or-drop (record_bytes * k) s i 0)

    here : record_number s k ≡ big_endian (take record_bytes (drop (record_bytes * k) s)) 0
    here =
        let at : record_bytes * k ≡ record_bytes * k + 0 = omega arith in
        let first = ap (λ a. get_or s a 0) at ∙ byte 0 (omega arith) in
        λ i. ((first i * 256 + byte 1 (omega arith) i) * 256 + byte 2 (omega arith) i) * 256 + byte 3 (omega arith) i

    behind :
        record_from m s n (k + 1) ≡ position_from (λ r. eqb (big_endian r 0) n) (k + 1) (first_chunks record_bytes m (drop (record_bytes * (k + 1)) s)) →
        record_from m s n (suc k) ≡ position_from (λ r. eqb (big_endian r 0) n) (k + 1) (first_chunks record_bytes m (drop record_bytes (drop (record_bytes * k) s)))
    behind ih =
        let at : record_bytes * (k + 1) ≡ record_bytes * k + record_bytes = omega arith in
        ap (record_from m s n) (sym (add-one k))
        ∙ ih
        ∙ ap (λ xs. position_from (λ r. eqb (big_endian r 0) n) (k + 1) (first_chunks record_bytes m xs)) (ap (λ a. drop a s) at ∙ sym (drop-drop record_bytes (record_bytes * k) s))

-- the record i has the number, and none of those from k up to it
pub record FirstRecord (s : List ℕ) (n k i : ℕ) : Type 0 where
  pub from : k ≤ i
  pub number : record_number s i ≡ n
  pub none : (h : ℕ) → k ≤ h → h < i → record_number s h ≡ n → ⊥

found_from : (m : ℕ) (s : List ℕ) (n k i : ℕ) → record_from m s n k ≡ Some i → (i < k + m) × FirstRecord s n k i
unfolding record_from
found_from zero s n k i e = absurd (let z : ◌≡◌ {A = ℕ} 0 1 = cc in omega arith)
found_from (suc m) s n k i e = go (eqb (record_number s k) n) refl (found_from m s n (suc k) i) e
  where
    go :
        (b : Bool) → eqb (record_number s k) n ≡ b →
        (record_from m s n (suc k) ≡ Some i → (i < suc k + m) × FirstRecord s n (suc k) i) →
        cond b (Some k) (record_from m s n (suc k)) ≡ Some i → (i < k + suc m) × FirstRecord s n k i
    go true t ih f =
        let same : k ≡ i = cc in
        (omega arith, record { from = omega arith; number = ap (record_number s) (sym same) ∙ eqb-true (record_number s k) n t; none = λ h p q r. absurd (omega arith) })
    go false t ih f =
        let r = ih f in
        let other : record_number s k ≡ n → ⊥ = eqb-false (record_number s k) n t in (
          omega (arith, r.0),
          record { from = omega (arith, r.1.from); number = r.1.number; none = λ h p q e. ⊎_elim (λ same. other (ap (record_number s) same ∙ e)) (λ later. r.1.none h later q e) (eq-or-lt_of_le p) },
        )

-- the record that is found is wholly there
pub record_inside : (s : List ℕ) (n k : ℕ) → record_of s n ≡ Some k → record_bytes * k + record_bytes ≤ length s
record_inside s n k e = omega (arith, (found_from (whole s) s n 0 k e).0, mul-div-le (length s) record_bytes)

-- the first whole record with the number
pub record_first : (s : List ℕ) (n k : ℕ) → record_of s n ≡ Some k → FirstRecord s n 0 k
record_first s n k e = (found_from (whole s) s n 0 k e).1

nothing_from : (m : ℕ) (s : List ℕ) (n k : ℕ) → record_from m s n k ≡ None → (h : ℕ) → k ≤ h → h < k + m → record_number s h ≡ n → ⊥
unfolding record_from
nothing_from zero s n k e h p q r = omega arith
nothing_from (suc m) s n k e h p q r = go (eqb (record_number s k) n) refl e (λ f l. nothing_from m s n (suc k) f h l (omega arith) r)
  where
    go :
        (b : Bool) → eqb (record_number s k) n ≡ b → cond b (Some k) (record_from m s n (suc k)) ≡ None →
        (record_from m s n (suc k) ≡ None → k < h → ⊥) → ⊥
    go true t f ih = let z : ◌≡◌ {A = ℕ} 0 1 = cc in omega arith
    go false t f ih =
        ⊎_elim (λ same. eqb-false (record_number s k) n t (ap (record_number s) same ∙ r)) (λ later. ih f later) (eq-or-lt_of_le p)

-- where none is found, no whole record has the number
pub record_nowhere : (s : List ℕ) (n k : ℕ) → record_of s n ≡ None → k < whole s → record_number s k ≡ n → ⊥
record_nowhere s n k e h = nothing_from (whole s) s n 0 e k (omega arith) (omega arith)

-- a place lies wholly in the list that it names
abbrev pub Inside : Part → List ℕ → List ℕ → Type 0
Inside p s f = ((p.list ≡ Jobs) × (p.from + p.size ≤ length s)) ⊎ ((p.list ≡ Feeds) × (p.from + p.size ≤ length f))

pub label_inside : (w : Who) (s f : List ℕ) → Inside (label_of w s f) s f
label_inside (Job n) s f = go (record_of s n) refl
  where
    go : (r : Option ℕ) → record_of s n ≡ r → Inside (job_place r) s f
    go (Some k) e = inl (refl, omega (arith, record_inside s n k e))
    go None e = inl (refl, omega arith)
label_inside (Feed p) s f =
    let there = place Feeds (label_bytes * (p - 1)) label_bytes in
    leb_elim (λ a. Inside (cond (a && leb (label_bytes * p) (length f)) there nowhere) s f) 1 p
    (λ h. leb_elim (λ b. Inside (cond b there nowhere) s f) (label_bytes * p) (length f) (λ l. inr (refl, omega arith)) (λ l. inl (refl, omega arith)))
    (λ h. inl (refl, omega arith))
label_inside Idle s f = inl (refl, omega arith)

-- the bytes of a place in the list that it names are that part of it
pub part_of :
    (p q : Part) (s f l : Bor (List ℕ)) (e : ℕ) → p ≡ q → lent p.list s f ≡ l → e ≡ p.from + p.size →
    PartAt q s f (record { ref_ptr = (l.ref_ptr.0, p.from + l.ref_ptr.1); now = take (e - p.from) (drop p.from l.now) })
part_of p q s f l e same list long =
    let size : e - p.from ≡ p.size = omega arith in
    subst (λ r. PartAt r s f (record { ref_ptr = (l.ref_ptr.0, p.from + l.ref_ptr.1); now = take (e - p.from) (drop p.from l.now) })) same
    (record {
      text = λ i. take (size i) (drop p.from (sym list i).now);
      block = λ i. (sym list i).ref_ptr.0;
      offset = λ i. p.from + (sym list i).ref_ptr.1;
    })
