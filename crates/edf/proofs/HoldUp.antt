-- What goes no later than a piece falls by one with each tick until nothing of it is left, and grows by what the feeds bring:
-- so it depends on nothing else, and less of it stays less.
use mathlib.Core.Path.{◌≡◌, refl, sym, ap, ◌∙◌, subst}
use mathlib.Core.Logic.{◌⊎◌, inl, inr}
use mathlib.Core.Bool.{Bool, true, false, cond}
use mathlib.Core.List.{map}
use Prim.Native.Nat.{ℕ, suc, ◌+◌, ◌-◌, ◌≤◌, ◌<◌}
use native.Mathlib.Nat.{le_refl}
use native.Mathlib.Omega.{arith}
use native.Mathlib.Decide.{dec_le}
use lib.Dec.{T, ltb, eqb}
use Rattle.lists.specs.Lists.{total, Some, Pairs}
use Rattle.lists.proofs.Tests.{false_not_true, ltb_elim, eqb_elim}
use Rattle.lists.proofs.Lists.{each, each_both, some_imp, some_both, some_get, some_of_total, total_le_all, total_same, total_eq, total_add, total_keep, total_falls, total_map}
use Rattle.lists.proofs.Pairs.{pairs_map, pairs_total}
use Rattle.edf.specs.Book.{Feed, Book, Who, job, feed, same, owing}
use Rattle.edf.specs.Releases.{since, due}
use Rattle.edf.specs.Pieces.{Piece, job_piece, current_piece, at_hand}
use Rattle.edf.specs.Step.{sooner, serve_job, serve_feed, serve, turned, turn_feed, turn, step_by, step, runner, foremost}
use Rattle.edf.specs.Order.{FeedInOrder, InOrder}
use Rattle.edf.specs.Load.{Sound}
use Rattle.edf.proofs.Names.{same_refl}
use Rattle.edf.proofs.Plans.{Kin}
use Rattle.edf.proofs.Releases.{Onward, since_suc}
use Rattle.edf.proofs.Demand.{turned_released, turned_over, turned_kept}
use Rattle.edf.proofs.Runner.{Best, Nothing, foremost_best, sooner_trans, runner_edf}
use Rattle.edf.proofs.Tick.{hand_total, serve_piece, hand_served}
use Rattle.edf.proofs.Sound.{served_due}
use Rattle.edf.proofs.Counted.{once}

-- what p owes, where it goes no later than q
unfoldable pub no_later : Piece → Piece → ℕ
no_later q p = cond (sooner p q) p.owes 0

-- all that can hold q up: what is at hand and goes no later
unfoldable pub hold_up : Piece → Book → ℕ
hold_up q b = total (no_later q) (at_hand b)

-- what a feed brings at the instant x that goes no later than q
unfoldable brings : Piece → ℕ → Feed → ℕ
brings q x f = cond (eqb (since f.plan x) 0) (no_later q (current_piece x (owing f.plan.work f))) 0

no_later_elim : (P : ℕ → Type 0) (q p : Piece) → (T (sooner p q) → P p.owes) → ((T (sooner p q) → ⊥) → P 0) → P (no_later q p)
unfolding no_later
no_later_elim P q p = go (sooner p q)
  where
    go : (s : Bool) → (T s → P p.owes) → ((T s → ⊥) → P 0) → P (cond s p.owes 0)
    go true y n = y tt
    go false y n = n (λ t. t)

-- what counts goes no later and owes something
pub no_later_some : (q p : Piece) → 1 ≤ no_later q p → T (sooner p q) × (0 < p.owes)
no_later_some q p = no_later_elim (λ n. 1 ≤ n → T (sooner p q) × (0 < p.owes)) q p (λ s h. (s, h)) (λ s h. absurd (omega arith))

pub no_later_in : (q p : Piece) → T (sooner p q) → no_later q p ≡ p.owes
no_later_in q p t = no_later_elim (λ n. n ≡ p.owes) q p (λ s. refl) (λ s. absurd (s t))

no_later_none : (q p : Piece) → p.owes ≡ 0 → no_later q p ≡ 0
no_later_none q p z = no_later_elim (λ n. n ≡ 0) q p (λ s. z) (λ s. refl)

-- a tick takes at most the one from a piece that it goes to
no_later_served : (q : Piece) (g : Who) (p : Piece) → (no_later q (serve_piece g p) ≤ no_later q p) × (no_later q p ≤ no_later q (serve_piece g p) + same g p.who)
unfolding no_later sooner
no_later_served q g p = go (sooner p q)
  where
    go : (s : Bool) → (cond s (p.owes - same g p.who) 0 ≤ cond s p.owes 0) × (cond s p.owes 0 ≤ cond s (p.owes - same g p.who) 0 + same g p.who)
    go true = (omega arith, omega arith)
    go false = (omega arith, omega arith)

-- it takes one from a piece that it goes to and that counts
no_later_gets : (q p : Piece) → T (sooner p q) → 0 < p.owes → no_later q (serve_piece p.who p) + 1 ≤ no_later q p
unfolding no_later sooner
no_later_gets q p = go (sooner p q)
  where
    go : (s : Bool) → T s → 0 < p.owes → cond s (p.owes - same p.who p.who) 0 + 1 ≤ cond s p.owes 0
    go true h k = omega (arith, same_refl p.who)
    go false h k = absurd h

-- a tick adds nothing
hold_up_served_le : (q : Piece) (b : Book) (g : Who) → hold_up q (serve g b) ≤ hold_up q b
unfolding hold_up
hold_up_served_le q b g =
    omega (
      arith,
      hand_served (no_later q) g b,
      total_le_all (λ p. no_later q (serve_piece g p)) (no_later q) (λ p. (no_later_served q g p).0) (at_hand b),
    )

-- the tick takes no more than one
pub hold_up_falls_at_most_one : (q : Piece) (b : Book) (g : Who) → InOrder b → hold_up q b ≤ hold_up q (serve g b) + 1
unfolding hold_up
hold_up_falls_at_most_one q b g o =
    omega (
      arith,
      hand_served (no_later q) g b,
      total_le_all (no_later q) (λ p. no_later q (serve_piece g p) + same g p.who) (λ p. (no_later_served q g p).1) (at_hand b),
      total_add (λ p. no_later q (serve_piece g p)) (λ p. same g p.who) (at_hand b),
      once b o g,
    )

-- it takes one where there is something to take
pub hold_up_falls : (q : Piece) (b : Book) → 1 ≤ hold_up q b → hold_up q (serve (runner b).who b) + 1 ≤ hold_up q b
unfolding hold_up runner
hold_up_falls q b h = go (foremost_best (at_hand b))
  where
    r : Piece
    r = foremost (at_hand b)

    some : Some (λ p. 1 ≤ no_later q p) (at_hand b)
    some = some_of_total (no_later q) (at_hand b) h

    go : Best (at_hand b) r ⊎ Nothing (at_hand b) r → total (no_later q) (at_hand (serve r.who b)) + 1 ≤ total (no_later q) (at_hand b)
    go (inr n) =
        absurd
        (some_get (λ p. (1 ≤ no_later q p) × (p.owes ≡ 0)) ⊥ (λ p k. omega (arith, (no_later_some q p k.0).1, k.1)) (at_hand b)
        (some_both (λ p. 1 ≤ no_later q p) (λ p. p.owes ≡ 0) (at_hand b) some n.1))
    go (inl best) =
        let soon : T (sooner r q)
        = some_get (λ p. (1 ≤ no_later q p) × (0 < p.owes → T (sooner r p))) (T (sooner r q))
        (λ p k. let s = no_later_some q p k.0 in sooner_trans r p q (k.1 s.1) s.0)
        (at_hand b)
        (some_both (λ p. 1 ≤ no_later q p) (λ p. 0 < p.owes → T (sooner r p)) (at_hand b) some best.2) in
        rw (hand_served (no_later q) r.who b)
        (total_falls (λ p. no_later q (serve_piece r.who p)) (no_later q) (at_hand b)
        (each (λ p. no_later q (serve_piece r.who p) ≤ no_later q p) (λ p. (no_later_served q r.who p).0) (at_hand b))
        (some_imp (λ x. x ≡ r) (λ p. no_later q (serve_piece r.who p) + 1 ≤ no_later q p) (λ x e. subst (λ p. no_later q (serve_piece r.who p) + 1 ≤ no_later q p) (sym e) (no_later_gets q r soon best.1)) (at_hand b) best.0))

-- WHAT HOLDS UP LESS STAYS LESS over a tick
pub hold_up_served : (q : Piece) (a b : Book) → InOrder b → hold_up q a ≤ hold_up q b → hold_up q (serve (runner a).who a) ≤ hold_up q (serve (runner b).who b)
hold_up_served q a b o h = go (dec_le 1 (hold_up q a))
  where
    go : Dec (1 ≤ hold_up q a) → hold_up q (serve (runner a).who a) ≤ hold_up q (serve (runner b).who b)
    go (yes k) = omega (arith, hold_up_falls q a k, hold_up_falls_at_most_one q b (runner b).who o)
    go (no k) = omega (arith, hold_up_served_le q a (runner a).who)

-- when a piece came has no part in it
no_later_from : (q : Piece) (w : Who) (x y due owes : ℕ) → no_later q (record { who = w; from = x; due = due; owes = owes }) ≡ no_later q (record { who = w; from = y; due = due; owes = owes })
unfolding no_later sooner
no_later_from q w x y due owes = refl

brings_now : (q : Piece) (x : ℕ) (f : Feed) → since f.plan x ≡ 0 → brings q x f ≡ no_later q (current_piece x (owing f.plan.work f))
unfolding brings
brings_now q x f h = ap (λ n. cond (eqb n 0) (no_later q (current_piece x (owing f.plan.work f))) 0) h

brings_none : (q : Piece) (x : ℕ) (f : Feed) → 1 ≤ since f.plan x → brings q x f ≡ 0
unfolding brings
brings_none q x f h =
    eqb_elim (λ s. cond s (no_later q (current_piece x (owing f.plan.work f))) 0 ≡ 0) (since f.plan x) 0 (λ e. absurd (omega arith)) (λ e. refl)

-- a feed that owes n after the tick at t, as the clock goes on: what counted counts, and what it brings comes to it
module _ (q : Piece) (t n : ℕ) (f : Feed) (h : FeedInOrder t f) (done : due f.plan t ≤ suc t → n ≡ 0) where
  abbrev Turns : Type 0
  Turns = no_later q (current_piece (suc t) (turn_feed (suc t) (owing n f))) ≡ no_later q (current_piece t (owing n f)) + brings q (suc t) f

  nothing : due f.plan t ≤ suc t → no_later q (current_piece t (owing n f)) ≡ 0
  nothing k = no_later_none q (current_piece t (owing n f)) (done k)

  goes_on : since f.plan (suc t) ≡ since f.plan t + 1 → Dec (f.plan.lead ≤ since f.plan (suc t)) → Turns
  goes_on e (yes k) =
      omega (
        arith,
        no_later_none q (current_piece (suc t) (turn_feed (suc t) (owing n f))) (turned_over (suc t) (owing n f) (omega (arith, e)) k),
        nothing (omega (arith, e)),
        brings_none q (suc t) f (omega (arith, e)),
      )
  goes_on e (no k) =
      let owes : turned (suc t) (owing n f) ≡ n = turned_kept (suc t) (owing n f) (omega (arith, e)) (omega arith) in
      let same_due : due f.plan (suc t) ≡ due f.plan t = omega (arith, e) in
      let moved : no_later q (current_piece (suc t) (turn_feed (suc t) (owing n f))) ≡ no_later q (current_piece t (owing n f))
      = (λ i. no_later q (record { who = feed f.position; from = suc t; due = same_due i; owes = owes i })) ∙ no_later_from q (feed f.position) (suc t) t (due f.plan t) n in
      omega (arith, moved, brings_none q (suc t) f (omega (arith, e)))

  turned_no_later : Turns
  turned_no_later = go (since_suc f.plan t h.plan.offset)
    where
      go : Onward f.plan t → Turns
      go (inl p) = goes_on p.1 (dec_le f.plan.lead (since f.plan (suc t)))
      go (inr p) =
          let new : no_later q (current_piece (suc t) (turn_feed (suc t) (owing n f))) ≡ no_later q (current_piece (suc t) (owing f.plan.work f))
          = ap (λ m. no_later q (current_piece (suc t) (owing m f))) (turned_released (suc t) (owing n f) p.1) in
          omega (arith, new, brings_now q (suc t) f p.1, nothing (omega (arith, p.0, h.plan.short)))

-- WHAT HOLDS UP AFTER A STEP is what the tick left and what the feeds bring
hold_up_stepped : (q : Piece) (b : Book) → Sound b
    → hold_up q (step b) ≡ hold_up q (serve (runner b).who b) + total (brings q (suc b.clock)) b.feeds
unfolding hold_up step step_by turn serve
hold_up_stepped q b s =
    omega (
      arith,
      hand_total (no_later q) (step b),
      hand_total (no_later q) (serve g b),
      total_keep (λ j. no_later q (job_piece (suc t) j)) (λ j. ltb 0 j.owes) (map (serve_job g) b.jobs)
          (each (λ j. ltb 0 j.owes ≡ false → no_later q (job_piece (suc t) j) ≡ 0) (λ j e. no_later_none q (job_piece (suc t) j) (none j.owes e)) (map (serve_job g) b.jobs)),
      total_same (λ j. no_later q (job_piece (suc t) j)) (λ j. no_later q (job_piece t j)) (map (serve_job g) b.jobs)
          (each (λ j. no_later q (job_piece (suc t) j) ≡ no_later q (job_piece t j)) (λ j. no_later_from q (job j.number) (suc t) t j.due j.owes) (map (serve_job g) b.jobs)),
      total_map (λ f. no_later q (current_piece (suc t) f)) (turn_feed (suc t)) (map (serve_feed g) b.feeds),
      total_map (λ f. no_later q (current_piece (suc t) (turn_feed (suc t) f))) (serve_feed g) b.feeds,
      total_map (λ f. no_later q (current_piece t f)) (serve_feed g) b.feeds,
      total_add (λ f. no_later q (current_piece t (serve_feed g f))) (brings q (suc t)) b.feeds,
      total_eq (λ f. FeedInOrder t f × Done f)
          (λ f. no_later q (current_piece (suc t) (turn_feed (suc t) (serve_feed g f))))
          (λ f. no_later q (current_piece t (serve_feed g f)) + brings q (suc t) f)
          (λ f h. turned_no_later q t (f.owes - same g (feed f.position)) f h.0 h.1)
          b.feeds
          (each_both (FeedInOrder t) Done b.feeds s.order.feeds (served_due b g s (runner_edf b)).1),
    )
  where
    t : ℕ
    t = b.clock

    g : Who
    g = (runner b).who

    Done : Feed → Type 0
    Done f = due f.plan t ≤ suc t → f.owes - same g (feed f.position) ≡ 0

    none : (n : ℕ) → ltb 0 n ≡ false → n ≡ 0
    none n = ltb_elim (λ r. r ≡ false → n ≡ 0) 0 n (λ h e. absurd (false_not_true (sym e))) (λ h e. omega arith)

-- two books of one instant and one list of feeds, the first with no more that holds anything up
pub record Lighter (a b : Book) : Type 0 where
  pub clock : a.clock ≡ b.clock
  pub feeds : Pairs Kin a.feeds b.feeds
  pub less : (q : Piece) → hold_up q a ≤ hold_up q b

kin_brings : (q : Piece) (x : ℕ) (f g : Feed) → Kin f g → brings q x f ≤ brings q x g
unfolding brings
kin_brings q x f g k = rw (k.0, k.1) (le_refl (brings q x g))

-- LIGHTER STAYS LIGHTER over a step of each
pub lighter_step : (a b : Book) → Sound a → Sound b → Lighter a b → Lighter (step a) (step b)
unfolding step step_by turn serve
lighter_step a b sa sb l =
    record {
      clock = ap suc l.clock;
      feeds =
          pairs_map Kin (turn_feed (suc a.clock)) (turn_feed (suc b.clock)) (map (serve_feed (runner a).who) a.feeds) (map (serve_feed (runner b).who) b.feeds)
          (pairs_map Kin (serve_feed (runner a).who) (serve_feed (runner b).who) a.feeds b.feeds l.feeds);
      less = λ q. omega (
        arith,
        hold_up_stepped q a sa,
        hold_up_stepped q b sb,
        hold_up_served q a b sb.order (l.less q),
        pairs_total Kin (brings q (suc a.clock)) (brings q (suc a.clock)) (kin_brings q (suc a.clock)) a.feeds b.feeds l.feeds,
        ap (λ x. total (brings q (suc x)) b.feeds) l.clock,
      );
    }
