-- What feeds want in stretches of ticks: no more in a shorter one; and where every piece is due when the next one comes, what the
-- round wants decides.
use mathlib.Core.Path.{◌≡◌, refl, sym, ap, subst, ◌∙◌}
use mathlib.Core.Bool.{Bool, true, false, ◌&&◌, false≢true}
use mathlib.Core.List.{List}
use Prim.Native.Nat.{ℕ, zero, suc, ◌+◌, ◌-◌, ◌*◌, ◌/◌, ◌≤◌, ◌<◌, ◌∣◌}
use native.Mathlib.Decide.{dec_le, ℕ_discrete}
use native.Mathlib.Nat.{div-le_self, mul-le-mul, mul-le-mul_left, mul-le-mul_right, le_of_mul-le-mul_right, mul-div_cancel', div-mul-le_self, div-eq_of_lt, mul-zero}
use native.Mathlib.Omega.{arith}
use borrow.Author.Tests.{leb-true, le-leb, eqb-true}
use lib.ListN.{length}
use Rattle.ticks.specs.Ticks.{most_feed, most_round, most_charge}
use Rattle.lists.specs.Lists.{every, Each}
use Rattle.lists.proofs.Lists.{each_imp, each_both, each_of_map, total_zero, total_le, total_le_all, total_scale, total_at_most}
use Rattle.lists.proofs.Numbers.{div_mono}
use Rattle.lists.proofs.Places.{each_of_every}
use Rattle.lists.proofs.Tests.{leb_elim, both, both_made}
use Rattle.ticks.specs.declared.Length.{Length}
use Rattle.plans.specs.declared.Plan.{Plan}
use Rattle.plans.specs.Plans.{PlanIn, to_the_next, charged, stretch, most_piece}
use Rattle.feeds.specs.declared.Feed.{Feed}
use Rattle.feeds.specs.Feeds.{FeedIn}
use Rattle.feeds.specs.Round.{IsRound, periods, demand, carries}

-- what the test says
pub carries_says : (c : Length) (R : ℕ) (fs : List Feed) → carries c R fs ≡ true → (L : ℕ) → 1 ≤ L → L ≤ R → demand c L fs ≤ L
unfolding carries
carries_says c zero fs h L p q = absurd (omega arith)
carries_says c (suc R) fs h L p q =
    let t = both _ _ h in
    go (ℕ_discrete L (suc R)) (leb-true (demand c (suc R) fs) (suc R) t.0) (carries_says c R fs t.1 L p)
  where
    go : Dec (L ≡ suc R) → demand c (suc R) fs ≤ suc R → (L ≤ R → demand c L fs ≤ L) → demand c L fs ≤ L
    go (yes e) here shorter = subst (λ n. demand c n fs ≤ n) (sym e) here
    go (no e) here shorter = shorter (omega arith)

pub carries_made : (c : Length) (R : ℕ) (fs : List Feed) → ((L : ℕ) → 1 ≤ L → L ≤ R → demand c L fs ≤ L) → carries c R fs ≡ true
unfolding carries
carries_made c zero fs f = refl
carries_made c (suc R) fs f =
    both_made _ _ (le-leb _ _ (f (suc R) (omega arith) (omega arith))) (carries_made c R fs (λ L p q. f L p (omega arith)))

-- a stretch that wants more than it has
pub carries_fails : (c : Length) (R : ℕ) (fs : List Feed) (L : ℕ) → 1 ≤ L → L ≤ R → L < demand c L fs → carries c R fs ≡ false
carries_fails c R fs L p q h = go (carries c R fs) refl
  where
    go : (b : Bool) → carries c R fs ≡ b → carries c R fs ≡ false
    go true e = absurd (omega (arith, carries_says c R fs e L p q))
    go false e = e

-- where the test fails there is such a stretch
pub carries_lacks : (c : Length) (R : ℕ) (fs : List Feed) → carries c R fs ≡ false → (L : ℕ) × (L < demand c L fs)
unfolding carries
carries_lacks c zero fs e = absurd (false≢true (sym e))
carries_lacks c (suc R) fs e =
    leb_elim (λ b. b && carries c R fs ≡ false → (L : ℕ) × (L < demand c L fs)) (demand c (suc R) fs) (suc R)
    (λ h k. carries_lacks c R fs k)
    (λ h k. (suc R, h))
    e

-- in a shorter stretch no more is wanted
stretch_mono : (c : Length) (L M : ℕ) (p : Plan) → L ≤ M → stretch c L p ≤ stretch c M p
stretch_mono c L M p h = mul-le-mul_left (charged c p) (div_mono p.period.0 _ _ (omega arith))

pub demand_mono : (c : Length) (L M : ℕ) (fs : List Feed) → L ≤ M → demand c L fs ≤ demand c M fs
demand_mono c L M fs h = total_le_all _ _ (λ f. stretch_mono c L M f.plan h) fs

-- where a stretch wants w, every stretch from w on has what it wants, if the longer ones have
pub enough_from : (c : Length) (fs : List Feed) (S w R : ℕ) → w ≡ demand c S fs → ((L : ℕ) → S < L → L ≤ R → demand c L fs ≤ L)
    → (L : ℕ) → w ≤ L → L ≤ R → demand c L fs ≤ L
enough_from c fs S w R e longer L h k = go (dec_le L S)
  where
    go : Dec (L ≤ S) → demand c L fs ≤ L
    go (yes p) = omega (arith, demand_mono c L S fs p)
    go (no p) = longer L (omega arith) k

-- in no ticks nothing comes that is due
stretch_none : (c : Length) (p : Plan) → PlanIn p → stretch c 0 p ≡ 0
stretch_none c p h =
    let T = p.period.0 in
    let z : (0 + (T - p.lead.0)) / T ≡ 0 = div-eq_of_lt (omega (arith, h.lead.0, h.period.0)) in
    ap (charged c p *◌) z ∙ mul-zero (charged c p)

pub demand_none : (c : Length) (fs : List Feed) → Each FeedIn fs → demand c 0 fs ≡ 0
demand_none c fs h = total_zero _ fs (each_imp FeedIn (λ f. stretch c 0 f.plan ≡ 0) (λ f k. stretch_none c f.plan k) fs h)

-- so many pieces in L ticks are at the rate of the round
stretch_rate : (c : Length) (R L : ℕ) (p : Plan) → p.lead.0 ≡ p.period.0 → p.period.0 ∣ R → stretch c L p * R ≤ stretch c R p * L
stretch_rate c R L p e d =
    let T = p.period.0 in
    let w = charged c p in
    let l : L + (T - p.lead.0) ≡ L = omega arith in
    let m : R + (T - p.lead.0) ≡ R = omega arith in
    let r : T * (R / T) ≡ R = mul-div_cancel' T d in
    omega (
      arith,
      ap (λ n. w * (n / T) * R) l,
      ap (λ n. w * (n / T) * L) m,
      ap (w * (L / T) *◌) r,
      mul-le-mul_left (w * (R / T)) (div-mul-le_self L T),
    )

-- a feed whose pieces are due when the next one comes, and one whose period goes into R
abbrev Ends : Feed → Type 0
Ends f = f.plan.lead.0 ≡ f.plan.period.0

abbrev Goes : ℕ → Feed → Type 0
Goes R f = f.plan.period.0 ∣ R

-- WHERE EVERY PIECE IS DUE WHEN THE NEXT ONE COMES, THE ROUND DECIDES
pub round_decides : (c : Length) (R : ℕ) (fs : List Feed) → IsRound R (periods fs) → every (λ f. to_the_next f.plan) fs ≡ true
    → demand c R fs ≤ R → (L : ℕ) → demand c L fs ≤ L
round_decides c R fs r e h L =
    let ends = each_of_every (λ f. to_the_next f.plan) Ends (λ f t. eqb-true f.plan.lead.0 f.plan.period.0 t) fs e in
    let goes = each_of_map (λ p. p ∣ R) (λ f. f.plan.period.0) fs r.common in
    le_of_mul-le-mul_right
    (omega (
      arith,
      total_scale (λ f. stretch c L f.plan) R fs,
      total_scale (λ f. stretch c R f.plan) L fs,
      total_le (λ f. Ends f × Goes R f) (λ f. stretch c L f.plan * R) (λ f. stretch c R f.plan * L) (λ f k. stretch_rate c R L f.plan k.0 k.1) fs
          (each_both Ends (Goes R) fs ends goes),
      mul-le-mul_right L h,
    ))
    r.some

-- a stretch that is no longer than the longest round wants so much at most of each feed, and of all of them together
stretch_at_most : (c : Length) (L : ℕ) (p : Plan) → PlanIn p → c.0 ≤ most_charge → L ≤ most_round → stretch c L p ≤ most_piece * (most_round + most_feed)
stretch_at_most c L p h k l =
    let T = p.period.0 in
    let w : charged c p ≤ most_piece = omega (arith, h.work.1) in
    let n : (L + (T - p.lead.0)) / T ≤ most_round + most_feed = omega (arith, div-le_self (L + (T - p.lead.0)) T, h.period.1) in
    mul-le-mul w n

pub demand_at_most : (c : Length) (L : ℕ) (fs : List Feed) → Each FeedIn fs → c.0 ≤ most_charge → L ≤ most_round
    → demand c L fs ≤ length fs * (most_piece * (most_round + most_feed))
demand_at_most c L fs h k l =
    total_at_most (λ f. stretch c L f.plan) (most_piece * (most_round + most_feed)) fs
    (each_imp FeedIn (λ f. stretch c L f.plan ≤ most_piece * (most_round + most_feed)) (λ f p. stretch_at_most c L f.plan p k l) fs h)
