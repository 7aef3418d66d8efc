-- The desk's own ties name one runner, and it is a choice by earliest deadline.
use mathlib.Core.Path.{◌≡◌, refl, sym, ◌∙◌, ap, subst}
use mathlib.Core.Logic.{◌⊎◌, inl, inr}
use mathlib.Core.Bool.{Bool, true, false, cond, ◌&&◌, ◌||◌}
use mathlib.Core.List.{List, [], ◌∷◌}
use Prim.Native.Nat.{ℕ, ◌≤◌, ◌<◌}
use native.Mathlib.Omega.{arith}
use lib.Dec.{T, leb, eqb}
use Rattle.lists.specs.Lists.{Each, Some}
use Rattle.edf.specs.Book.{Book, Who, job, feed, idle}
use Rattle.edf.specs.Pieces.{Piece, at_hand}
use Rattle.edf.specs.Step.{kind, number_of, first, sooner, goes_before, nobody, foremost, runner, Foremost, Edf}
use Rattle.lists.proofs.Lists.{each_imp, some_imp, some_both, some_get}
use Rattle.lists.proofs.Tests.{leb_elim, ltb_elim, eqb_elim}

first_elim : (P : Bool → Type 0) (a b : ℕ) (r : Bool) → (a < b → P true) → (a ≡ b → P r) → (b < a → P false) → P (first a b r)
unfolding first
first_elim P a b r lower level higher =
    ltb_elim (λ x. P (x || (eqb a b && r))) a b lower
    (λ h. eqb_elim (λ x. P (x && r)) a b level (λ n. higher (omega arith)))

first_says : (a b : ℕ) (r : Bool) → T (first a b r) → (a < b) ⊎ ((a ≡ b) × T r)
first_says a b r = first_elim (λ x. T x → (a < b) ⊎ ((a ≡ b) × T r)) a b r (λ h t. inl h) (λ e t. inr (e, t)) (λ h t. absurd t)

first_lower : (a b : ℕ) (r : Bool) → a < b → T (first a b r)
first_lower a b r h = first_elim T a b r (λ k. tt) (λ e. absurd (omega arith)) (λ k. absurd (omega arith))

first_level : (a b : ℕ) (r : Bool) → a ≡ b → T r → T (first a b r)
first_level a b r e t = first_elim T a b r (λ k. absurd (omega arith)) (λ p. t) (λ k. absurd (omega arith))

first_total : (a b : ℕ) (r s : Bool) → T r ⊎ T s → T (first a b r) ⊎ T (first b a s)
first_total a b r s d =
    first_elim (λ x. T x ⊎ T (first b a s)) a b r (λ h. inl tt) (λ e. level e d) (λ h. inr (first_lower b a s h))
  where
    level : a ≡ b → T r ⊎ T s → T r ⊎ T (first b a s)
    level e (inl t) = inl t
    level e (inr t) = inr (first_level b a s (sym e) t)

first_trans : (a b c : ℕ) (r s q : Bool) → (T r → T s → T q) → T (first a b r) → T (first b c s) → T (first a c q)
first_trans a b c r s q f x y = go (first_says a b r x) (first_says b c s y)
  where
    go : (a < b) ⊎ ((a ≡ b) × T r) → (b < c) ⊎ ((b ≡ c) × T s) → T (first a c q)
    go (inl h) (inl k) = first_lower a c q (omega arith)
    go (inl h) (inr k) = first_lower a c q (omega (arith, k.0))
    go (inr h) (inl k) = first_lower a c q (omega (arith, h.0))
    go (inr h) (inr k) = first_level a c q (h.0 ∙ k.0) (f h.1 k.1)

first_both : (a b : ℕ) (r s : Bool) → T (first a b r) → T (first b a s) → (a ≡ b) × T r × T s
first_both a b r s x y = go (first_says a b r x) (first_says b a s y)
  where
    go : (a < b) ⊎ ((a ≡ b) × T r) → (b < a) ⊎ ((b ≡ a) × T s) → (a ≡ b) × T r × T s
    go (inl h) (inl k) = absurd (omega arith)
    go (inl h) (inr k) = absurd (omega (arith, k.0))
    go (inr h) (inl k) = absurd (omega (arith, h.0))
    go (inr h) (inr k) = (h.0, h.1, k.1)

leb_says : (a b : ℕ) → T (leb a b) → a ≤ b
leb_says a b = leb_elim (λ x. T x → a ≤ b) a b (λ h t. h) (λ h t. absurd t)

leb_trans : (a b c : ℕ) → T (leb a b) → T (leb b c) → T (leb a c)
leb_trans a b c x y = leb_elim T a c (λ h. tt) (λ h. absurd (omega (arith, leb_says a b x, leb_says b c y)))

leb_total : (a b : ℕ) → T (leb a b) ⊎ T (leb b a)
leb_total a b = leb_elim (λ x. T x ⊎ T (leb b a)) a b (λ h. inl tt) (λ h. inr (leb_elim T b a (λ k. tt) (λ k. absurd (omega arith))))

-- of two pieces one goes first
pub sooner_total : (p q : Piece) → T (sooner p q) ⊎ T (sooner q p)
unfolding sooner
sooner_total p q = first_total _ _ _ _ (first_total _ _ _ _ (leb_total (number_of p.who) (number_of q.who)))

first_le : (a b : ℕ) (r : Bool) → T (first a b r) → a ≤ b
first_le a b r = first_elim (λ x. T x → a ≤ b) a b r (λ h t. omega arith) (λ e t. omega arith) (λ h t. absurd t)

pub sooner_due : (p q : Piece) → T (sooner p q) → p.due ≤ q.due
unfolding sooner
sooner_due p q t = first_le _ _ _ t

pub sooner_refl : (p : Piece) → T (sooner p p)
sooner_refl p = go (sooner_total p p)
  where
    go : T (sooner p p) ⊎ T (sooner p p) → T (sooner p p)
    go (inl t) = t
    go (inr t) = t

pub sooner_trans : (p q r : Piece) → T (sooner p q) → T (sooner q r) → T (sooner p r)
unfolding sooner
sooner_trans p q r =
    first_trans p.due q.due r.due _ _ _
    (first_trans (kind p.who) (kind q.who) (kind r.who) _ _ _
    (leb_trans (number_of p.who) (number_of q.who) (number_of r.who)))

who_is_lem : (v w : Who) → kind v ≡ kind w → number_of v ≡ number_of w → v ≡ w
who_is_lem (job m) (job n) k e = ap job e
who_is_lem (job m) (feed n) k e = absurd (omega arith)
who_is_lem (job m) idle k e = absurd (omega arith)
who_is_lem (feed m) (job n) k e = absurd (omega arith)
who_is_lem (feed m) (feed n) k e = ap feed e
who_is_lem (feed m) idle k e = absurd (omega arith)
who_is_lem idle (job n) k e = absurd (omega arith)
who_is_lem idle (feed n) k e = absurd (omega arith)
who_is_lem idle idle k e = refl

-- two that both go first are the same one's
pub sooner_both : (p q : Piece) → T (sooner p q) → T (sooner q p) → (p.who ≡ q.who) × (p.due ≡ q.due)
unfolding sooner
sooner_both p q x y =
    let d = first_both p.due q.due _ _ x y in
    let k = first_both (kind p.who) (kind q.who) _ _ d.1 d.2 in (
      who_is_lem p.who q.who k.0
          (omega (
            arith,
            leb_says (number_of p.who) (number_of q.who) k.1,
            leb_says (number_of q.who) (number_of p.who) k.2,
          )),
      d.0,
    )

goes_before_elim : (P : Bool → Type 0) (p q : Piece)
    → (0 < p.owes → q.owes ≡ 0 → P true)
    → (0 < p.owes → T (sooner p q) → P true)
    → (p.owes ≡ 0 → P false)
    → (0 < q.owes → T (sooner q p) → P false)
    → P (goes_before p q)
unfolding goes_before
goes_before_elim P p q alone leads nothing follows =
    ltb_elim (λ x. P (x && (eqb q.owes 0 || sooner p q))) 0 p.owes
    (λ h. eqb_elim (λ x. P (x || sooner p q)) q.owes 0 (alone h) (λ n. turn h (omega arith) (sooner p q) refl))
    (λ h. nothing (omega arith))
  where
    go : T (sooner p q) ⊎ T (sooner q p) → sooner p q ≡ false → T (sooner q p)
    go (inl t) e = absurd (subst T e t)
    go (inr t) e = t

    turn : 0 < p.owes → 0 < q.owes → (b : Bool) → sooner p q ≡ b → P b
    turn h k true e = leads h (subst T (sym e) tt)
    turn h k false e = follows k (go (sooner_total p q) e)

-- p is of the list and ready, and goes before all that is ready
abbrev pub Best : List Piece → Piece → Type 0
Best ps p = Some (λ x. x ≡ p) ps × (0 < p.owes) × Each (λ q. 0 < q.owes → T (sooner p q)) ps

-- nothing of the list is ready
abbrev pub Nothing : List Piece → Piece → Type 0
Nothing ps p = (p ≡ nobody) × Each (λ q. q.owes ≡ 0) ps

unready : (p : Piece) (ps : List Piece) → Each (λ q. q.owes ≡ 0) ps → Each (λ q. 0 < q.owes → T (sooner p q)) ps
unready p = each_imp (λ q. q.owes ≡ 0) (λ q. 0 < q.owes → T (sooner p q)) (λ q z h. absurd (omega arith))

pub foremost_best : (ps : List Piece) → Best ps (foremost ps) ⊎ Nothing ps (foremost ps)
unfolding foremost
foremost_best [] = inr (refl, tt)
foremost_best (p ∷ ps) = go (foremost_best ps)
  where
    r : Piece
    r = foremost ps

    Goal : Bool → Type 0
    Goal x = Best (p ∷ ps) (cond x p r) ⊎ Nothing (p ∷ ps) (cond x p r)

    go : Best ps r ⊎ Nothing ps r → Goal (goes_before p r)
    go (inl best) =
        goes_before_elim Goal p r (λ h z. absurd (omega (arith, best.1)))
        (λ h s. inl (
          inl refl,
          h,
          (
            λ k. sooner_refl p,
            each_imp (λ q. 0 < q.owes → T (sooner r q)) (λ q. 0 < q.owes → T (sooner p q)) (λ q t k. sooner_trans p r q s (t k)) ps best.2,
          ),
        ))
        (λ z. inl (inr best.0, best.1, (λ k. absurd (omega arith), best.2)))
        (λ h s. inl (inr best.0, best.1, (λ k. s, best.2)))
    go (inr none) =
        goes_before_elim Goal p r
        (λ h z. inl (inl refl, h, (λ k. sooner_refl p, unready p ps none.1)))
        (λ h s. inl (inl refl, h, (λ k. sooner_refl p, unready p ps none.1)))
        (λ z. inr (none.0, (z, none.1)))
        (λ h s. absurd (omega (arith, ap (λ x. x.owes) none.0)))

-- the runner is a choice by earliest deadline
pub runner_edf : (b : Book) → Edf b (runner b).who
unfolding Edf runner
runner_edf b = go (foremost_best (at_hand b))
  where
    r : Piece
    r = foremost (at_hand b)

    best_foremost : Best (at_hand b) r → Foremost b r
    best_foremost h =
        record {
          ready = h.1;
          earliest = each_imp (λ q. 0 < q.owes → T (sooner r q)) (λ q. 0 < q.owes → r.due ≤ q.due) (λ q t k. sooner_due r q (t k)) (at_hand b) h.2;
        }

    go : Best (at_hand b) r ⊎ Nothing (at_hand b) r
        → Some (λ p. (p.who ≡ r.who) × Foremost b p) (at_hand b) ⊎ ((r.who ≡ idle) × Each (λ q. q.owes ≡ 0) (at_hand b))
    go (inl h) =
        inl
        (some_imp (λ x. x ≡ r) (λ p. (p.who ≡ r.who) × Foremost b p)
        (λ x e. (ap (λ y. y.who) e, subst (Foremost b) (sym e) (best_foremost h)))
        (at_hand b)
        h.0)
    go (inr h) = inr (ap (λ y. y.who) h.0, h.1)

-- whatever goes before all that is ready is the runner
pub runner_unique : (b : Book) (p : Piece) → Best (at_hand b) p → (p.who ≡ (runner b).who) × (p.due ≡ (runner b).due)
unfolding runner
runner_unique b p h = go (foremost_best (at_hand b))
  where
    r : Piece
    r = foremost (at_hand b)

    -- what goes before all that is ready goes before each ready one of the list
    before : (x y : Piece) → Best (at_hand b) x → Best (at_hand b) y → T (sooner x y)
    before x y hx hy =
        some_get (λ q. (q ≡ y) × (0 < q.owes → T (sooner x q))) (T (sooner x y))
        (λ q s. subst (λ z. 0 < z.owes → T (sooner x z)) s.0 s.1 hy.1)
        (at_hand b)
        (some_both (λ q. q ≡ y) (λ q. 0 < q.owes → T (sooner x q)) (at_hand b) hy.0 hx.2)

    go : Best (at_hand b) r ⊎ Nothing (at_hand b) r → (p.who ≡ r.who) × (p.due ≡ r.due)
    go (inl k) = sooner_both p r (before p r h k) (before r p k h)
    go (inr k) =
        absurd
        (some_get (λ q. (q ≡ p) × (q.owes ≡ 0)) ⊥
        (λ q s. omega (arith, ap (λ x. x.owes) s.0, s.1, h.1))
        (at_hand b)
        (some_both (λ q. q ≡ p) (λ q. q.owes ≡ 0) (at_hand b) h.0 k.1))
