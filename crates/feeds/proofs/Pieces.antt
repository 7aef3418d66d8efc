-- What the test of a current piece says.
use mathlib.Core.Path.{◌≡◌, refl}
use mathlib.Core.Bool.{true, ◌&&◌, ◌||◌}
use Prim.Native.Nat.{ℕ, ◌≤◌, ◌<◌}
use native.Mathlib.Omega.{arith}
use borrow.Author.Tests.{leb-true, le-leb, ltb-true}
use lib.Dec.{leb, ltb, eqb}
use Rattle.lists.proofs.Tests.{leb_elim, ltb_elim, eqb_elim, both, all_of_lem, all_of_made}
use Rattle.ticks.specs.declared.Instant.{Instant}
use Rattle.ticks.specs.declared.Length.{Length}
use Rattle.plans.specs.Plans.{since}
use Rattle.feeds.specs.declared.Feed.{Feed}
use Rattle.feeds.specs.Pieces.{piece_in, PieceIn}

-- a piece that owes something has come, and its deadline is ahead
here_says : (n a t s l : ℕ) → (eqb n 0 || (leb a t && ltb s l)) ≡ true → (t < a → n ≡ 0) × (l ≤ s → n ≡ 0)
here_says n a t s l =
    eqb_elim (λ b. (b || (leb a t && ltb s l)) ≡ true → (t < a → n ≡ 0) × (l ≤ s → n ≡ 0)) n 0 (λ z e. ((λ k. z), (λ k. z)))
    (λ z e.
    let h = both (leb a t) (ltb s l) e in
    ((λ k. absurd (omega (arith, leb-true a t h.0))), (λ k. absurd (omega (arith, ltb-true s l h.1)))))

here_made : (n a t s l : ℕ) → (t < a → n ≡ 0) → (l ≤ s → n ≡ 0) → (eqb n 0 || (leb a t && ltb s l)) ≡ true
here_made n a t s l f g =
    eqb_elim (λ b. (b || (leb a t && ltb s l)) ≡ true) n 0 (λ z. refl)
    (λ z.
    leb_elim (λ b. (b && ltb s l) ≡ true) a t
    (λ h. ltb_elim (λ b. b ≡ true) s l (λ k. refl) (λ k. absurd (z (g k))))
    (λ h. absurd (z (f h))))

pub piece_in_lem : (charge : Length) (clock : Instant) (f : Feed) → piece_in charge clock f ≡ true → PieceIn charge clock f
unfolding piece_in
piece_in_lem charge clock f h =
    let t = all_of_lem _ h in
    let here = here_says f.owes.0 f.plan.offset.0 clock.0 (since f.plan clock.0) f.plan.lead.0 t.1.0 in
    record { owes = leb-true _ _ t.0; early = here.0; over = here.1 }

pub piece_in_made : (charge : Length) (clock : Instant) (f : Feed) → PieceIn charge clock f → piece_in charge clock f ≡ true
unfolding piece_in
piece_in_made charge clock f h =
    all_of_made _ (
      le-leb _ _ h.owes,
      (here_made f.owes.0 f.plan.offset.0 clock.0 (since f.plan clock.0) f.plan.lead.0 h.early h.over, tt),
    )
