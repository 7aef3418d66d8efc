-- Laws on text that is put into a buffer.
use mathlib.Core.Path.{◌≡◌, refl, sym, ap, ◌∙◌}
use mathlib.Core.List.{List, [], ◌∷◌, ◌++◌, append_assoc}
use Prim.Native.Nat.{ℕ, ◌+◌, ◌≤◌, ◌<◌}
use native.Mathlib.Numerals.{add-one}
use native.Mathlib.Omega.{arith}
use lib.ListN.{length, take, drop, set, length-append, length-take, length-drop, take-append-drop}
use lib.Seq.{take_at, drop_at, drop-drop, set_split}
use Rattle.text.specs.Put.{Put}

-- nothing put is nothing changed
pub put_nothing : (d : List ℕ) (at : ℕ) → at ≤ length d → Put d d at at []
put_nothing d at h =
    let e : at + 0 ≡ at = omega arith in
    record { room = omega arith; bytes = rw e (sym (take-append-drop at d)); next = omega arith }

pub put_one : (d : List ℕ) (at b : ℕ) → at < length d → Put d (set d at b) at (at + 1) (b ∷ [])
put_one d at b h = record { room = omega arith; bytes = rw add-one (set_split d at b h); next = refl }

module _ {d e : List ℕ} {at to : ℕ} {text : List ℕ} (p : Put d e at to text) where
  head_length : length (take at d ++ text) ≡ to
  head_length = simp (length-append, length-take) (omega (arith, p.room, p.next))

  regrouped : e ≡ (take at d ++ text) ++ drop (at + length text) d
  regrouped = p.bytes ∙ sym (append_assoc (take at d) text (drop (at + length text) d))

  -- the buffer is as long as it was
  pub put_length : length e ≡ length d
  put_length =
      ap length p.bytes
      ∙ simp (length-append, length-take, length-drop) (omega (arith, p.room))

  -- up to the end of the text: what was there, and the text
  pub put_front : take to e ≡ take at d ++ text
  put_front = ap (take to) regrouped ∙ take_at (take at d ++ text) (drop (at + length text) d) to head_length

  -- what stands after the text is what stood there
  pub put_kept : drop to e ≡ drop to d
  put_kept =
      ap (drop to) regrouped
      ∙ drop_at (take at d ++ text) (drop (at + length text) d) to head_length
      ∙ ap (λ n. drop n d) (sym p.next)

-- two texts, one after the other
pub put_after : {d e f : List ℕ} {at m to : ℕ} {x y : List ℕ} → Put d e at m x → Put e f m to y → Put d f at to (x ++ y)
put_after {d} {e} {f} {at} {m} {to} {x} {y} p q =
    let n : length (x ++ y) ≡ length x + length y = length-append x y in
    let same : length e ≡ length d = put_length p in
    let there : m + length y ≡ at + length (x ++ y) = omega (arith, p.next) in
    let kept : drop (m + length y) e ≡ drop (at + length (x ++ y)) d =
    sym (drop-drop (length y) m e) ∙ ap (drop (length y)) (put_kept p) ∙ drop-drop (length y) m d ∙ ap (λ n. drop n d) there in
    record {
      room = omega (arith, q.room, p.next);
      bytes = q.bytes
          ∙ ap (λ l. l ++ (y ++ drop (m + length y) e)) (put_front p)
          ∙ ap (λ l. (take at d ++ x) ++ (y ++ l)) kept
          ∙ simp append_assoc;
      next = q.next ∙ there;
    }

-- what the buffer then holds is settled, and so is the next place
pub put_settled : {d e f : List ℕ} {at m n : ℕ} {text : List ℕ} → Put d e at m text → Put d f at n text → (e ≡ f) × (m ≡ n)
put_settled p q = (p.bytes ∙ sym q.bytes, p.next ∙ sym q.next)

-- a text at the front: it, and then what was there; it goes as far as it is long
pub put_in_front : {d e : List ℕ} {to : ℕ} {s t : List ℕ} → Put d e 0 to s → s ≡ t → e ≡ t ++ drop (length t) d
put_in_front {d} {e} {to} {s} {t} p h =
    let z : 0 + length s ≡ length s = omega arith in
    p.bytes ∙ ap (λ n. s ++ drop n d) z ∙ (λ i. h i ++ drop (length (h i)) d)

pub put_in_front_next : {d e : List ℕ} {to : ℕ} {s : List ℕ} → Put d e 0 to s → to ≡ length s
put_in_front_next p = omega (arith, p.next)

-- nothing at the front
pub front_untouched : {d : List ℕ} {t : List ℕ} → [] ≡ t → d ≡ t ++ drop (length t) d
front_untouched {d} {t} h = λ i. h i ++ drop (length (h i)) d
