-- A tick by earliest deadline keeps room, whatever the ties.
use mathlib.Core.Path.{◌≡◌, refl, sym, ◌∙◌, ap, ap₂}
use mathlib.Core.Logic.{◌⊎◌, inl, inr}
use mathlib.Core.List.{map}
use Prim.Native.Nat.{ℕ, zero, suc, ◌+◌, ◌-◌, ◌≤◌, ◌<◌}
use native.Mathlib.Omega.{arith}
use lib.Dec.{ltb}
use Rattle.lists.specs.Lists.{total, Each, Some}
use Rattle.edf.specs.Book.{Book, Who, same, plans}
use Rattle.edf.specs.Pieces.{Piece, job_piece, current_piece, at_hand}
use Rattle.edf.specs.Owed.{by_then, due_by, later_by, owed_by}
use Rattle.edf.specs.Step.{serve_job, serve_feed, serve, turn_feed, turn, Foremost, Edf}
use Rattle.edf.specs.Order.{PlanInOrder}
use Rattle.edf.specs.Load.{stretch, Light}
use Rattle.lists.proofs.Lists.{each, each_map, each_of_map, each_append, each_left, each_right, some_imp, some_both, some_get, some_or_each, total_mono, total_le, total_zero, total_add, total_append, total_map, total_keep_le, total_falls}
use Rattle.edf.proofs.Names.{same_refl}
use Rattle.edf.proofs.Plans.{serve_keeps_plans}
use Rattle.edf.proofs.Demand.{by_then_in, by_then_due, by_then_less, later_by_le_stretch, feed_owes, turn_feed_owes}

-- a sum over what is at hand, jobs and feeds apart
pub hand_total : (F : Piece → ℕ) (b : Book)
    → total F (at_hand b) ≡ total (λ j. F (job_piece b.clock j)) b.jobs + total (λ f. F (current_piece b.clock f)) b.feeds
hand_total F b =
    total_append F (map (job_piece b.clock) b.jobs) (map (current_piece b.clock) b.feeds)
    ∙ ap₂ ◌+◌ (total_map F (job_piece b.clock) b.jobs) (total_map F (current_piece b.clock) b.feeds)

-- a statement over what is at hand, from one over the jobs and one over the feeds
pub hand_each : (P : Piece → Type 0) (b : Book)
    → Each (λ j. P (job_piece b.clock j)) b.jobs
    → Each (λ f. P (current_piece b.clock f)) b.feeds
    → Each P (at_hand b)
hand_each P b js fs =
    each_append P (map (job_piece b.clock) b.jobs) (map (current_piece b.clock) b.feeds)
    (each_map P (job_piece b.clock) b.jobs js)
    (each_map P (current_piece b.clock) b.feeds fs)

-- and back
pub hand_jobs : (P : Piece → Type 0) (b : Book) → Each P (at_hand b) → Each (λ j. P (job_piece b.clock j)) b.jobs
hand_jobs P b ps =
    each_of_map P (job_piece b.clock) b.jobs
    (each_left P (map (job_piece b.clock) b.jobs) (map (current_piece b.clock) b.feeds) ps)

pub hand_feeds : (P : Piece → Type 0) (b : Book) → Each P (at_hand b) → Each (λ f. P (current_piece b.clock f)) b.feeds
hand_feeds P b ps =
    each_of_map P (current_piece b.clock) b.feeds
    (each_right P (map (job_piece b.clock) b.jobs) (map (current_piece b.clock) b.feeds) ps)

-- what is owed by D: each job, and each feed with all its pieces
pub owed_by_split : (b : Book) (D : ℕ)
    → owed_by b D ≡ total (λ j. due_by D (job_piece b.clock j)) b.jobs + total (feed_owes b.clock D) b.feeds
unfolding owed_by
owed_by_split b D =
    omega (
      arith,
      hand_total (due_by D) b,
      total_map (later_by b.clock D) (λ f. f.plan) b.feeds,
      total_add (λ f. due_by D (current_piece b.clock f)) (λ f. later_by b.clock D f.plan) b.feeds,
    )

-- the piece after a tick that went to g
abbrev pub serve_piece : Who → Piece → Piece
serve_piece g p = record { who = p.who; from = p.from; due = p.due; owes = p.owes - same g p.who }

pub hand_served : (F : Piece → ℕ) (g : Who) (b : Book)
    → total F (at_hand (serve g b)) ≡ total (λ p. F (serve_piece g p)) (at_hand b)
unfolding serve
hand_served F g b =
    hand_total F (serve g b)
    ∙ ap₂ ◌+◌
    (total_map (λ j. F (job_piece b.clock j)) (serve_job g) b.jobs)
    (total_map (λ f. F (current_piece b.clock f)) (serve_feed g) b.feeds)
    ∙ sym (hand_total (λ p. F (serve_piece g p)) b)

pub owed_by_served : (g : Who) (b : Book) (D : ℕ)
    → owed_by (serve g b) D ≡ total (λ p. due_by D (serve_piece g p)) (at_hand b) + total (later_by b.clock D) (plans b.feeds)
unfolding owed_by serve
owed_by_served g b D =
    ap₂ ◌+◌ (hand_served (due_by D) g b) (ap (total (later_by b.clock D)) (serve_keeps_plans g b))

-- as the clock goes on, no more is owed by any instant than was owed after the tick
pub owed_by_turn : (b : Book) (D : ℕ) → Each (λ p. (p.offset < p.period) × (p.lead ≤ p.period)) (plans b.feeds)
    → owed_by (turn b) D ≤ owed_by b D
unfolding turn
owed_by_turn b D h =
    omega (
      arith,
      owed_by_split (turn b) D,
      owed_by_split b D,
      total_keep_le (λ j. by_then D j.due j.owes) (λ j. ltb 0 j.owes) b.jobs,
      total_map (feed_owes (suc b.clock) D) (turn_feed (suc b.clock)) b.feeds,
      total_le (λ f. (f.plan.offset < f.plan.period) × (f.plan.lead ≤ f.plan.period)) (λ f. feed_owes (suc b.clock) D (turn_feed (suc b.clock) f)) (feed_owes b.clock D)
          (λ f k. turn_feed_owes b.clock D f k.0 k.1)
          b.feeds
          (each_of_map (λ p. (p.offset < p.period) × (p.lead ≤ p.period)) (λ f. f.plan) b.feeds h),
    )

-- where something at hand is due by D, the tick goes to something due by D
edf_due : (b : Book) (g : Who) (D : ℕ) → Edf b g → Some (λ p. 1 ≤ due_by D p) (at_hand b)
    → Some (λ p. due_by D (serve_piece g p) + 1 ≤ due_by D p) (at_hand b)
unfolding Edf
edf_due b g D (inl s) d = some_imp (λ p. (p.who ≡ g) × Foremost b p) (λ p. due_by D (serve_piece g p) + 1 ≤ due_by D p) falls (at_hand b) s
  where
    soon : (p : Piece) → Foremost b p → p.due ≤ D
    soon p m =
        some_get (λ q. (1 ≤ due_by D q) × (0 < q.owes → p.due ≤ q.due)) (p.due ≤ D)
        (λ q r. let e = by_then_due D q.due q.owes r.0 in omega (arith, e.0, r.1 e.1))
        (at_hand b)
        (some_both (λ q. 1 ≤ due_by D q) (λ q. 0 < q.owes → p.due ≤ q.due) (at_hand b) d m.earliest)

    falls : (p : Piece) → (p.who ≡ g) × Foremost b p → due_by D (serve_piece g p) + 1 ≤ due_by D p
    falls p m =
        let one : same g p.who ≡ 1 = rw m.0 (same_refl g) in
        omega (
          arith,
          one,
          m.1.ready,
          by_then_in D p.due p.owes (soon p m.1),
          by_then_in D p.due (p.owes - same g p.who) (soon p m.1),
        )
edf_due b g D (inr s) d =
    absurd
    (some_get (λ q. (1 ≤ due_by D q) × (q.owes ≡ 0)) ⊥
    (λ q r. omega (arith, (by_then_due D q.due q.owes r.0).1, r.1))
    (at_hand b)
    (some_both (λ q. 1 ≤ due_by D q) (λ q. q.owes ≡ 0) (at_hand b) d s.1))

one_or_none : (n : ℕ) → (1 ≤ n) ⊎ (n ≡ 0)
one_or_none zero = inr refl
one_or_none (suc n) = inl (omega arith)

served_le : (g : Who) (D : ℕ) (p : Piece) → due_by D (serve_piece g p) ≤ due_by D p
served_le g D p = by_then_less D p.due (p.owes - same g p.who) p.owes (omega arith)

-- THE TICK: by earliest deadline it takes a tick from what is owed by D, or else nothing at hand is due by D, and what is owed are
-- pieces that come later
pub tick_owes : (b : Book) (g : Who) → Edf b g → Each PlanInOrder (plans b.feeds) → (D : ℕ)
    → (owed_by (serve g b) D + 1 ≤ owed_by b D) ⊎ (owed_by (serve g b) D ≤ total (stretch (D - suc b.clock)) (plans b.feeds))
unfolding owed_by
tick_owes b g e order D =
    go (some_or_each (λ p. 1 ≤ due_by D p) (λ p. due_by D p ≡ 0) (λ p. one_or_none (due_by D p)) (at_hand b))
  where
    no_more : Each (λ p. due_by D (serve_piece g p) ≤ due_by D p) (at_hand b)
    no_more = each (λ p. due_by D (serve_piece g p) ≤ due_by D p) (served_le g D) (at_hand b)

    go : Some (λ p. 1 ≤ due_by D p) (at_hand b) ⊎ Each (λ p. due_by D p ≡ 0) (at_hand b)
        → (owed_by (serve g b) D + 1 ≤ owed_by b D) ⊎ (owed_by (serve g b) D ≤ total (stretch (D - suc b.clock)) (plans b.feeds))
    go (inl s) =
        inl (omega (arith, owed_by_served g b D, total_falls (λ p. due_by D (serve_piece g p)) (due_by D) (at_hand b) no_more (edf_due b g D e s)))
    go (inr z) =
        inr
        (omega (
          arith,
          owed_by_served g b D,
          total_mono (λ p. due_by D (serve_piece g p)) (due_by D) (at_hand b) no_more,
          total_zero (due_by D) (at_hand b) z,
          total_le PlanInOrder (later_by b.clock D) (stretch (D - suc b.clock)) (later_by_le_stretch b.clock D) (plans b.feeds) order,
        ))

-- so what is owed by any instant is at most the time that is left from the next
pub tick_leaves_room : (b : Book) (g : Who) → Edf b g → Light (plans b.feeds) → Each PlanInOrder (plans b.feeds)
    → ((D : ℕ) → owed_by b D ≤ D - b.clock)
    → (D : ℕ) → owed_by (serve g b) D ≤ D - suc b.clock
unfolding Light
tick_leaves_room b g e light order room D = go (tick_owes b g e order D)
  where
    go : (owed_by (serve g b) D + 1 ≤ owed_by b D) ⊎ (owed_by (serve g b) D ≤ total (stretch (D - suc b.clock)) (plans b.feeds))
        → owed_by (serve g b) D ≤ D - suc b.clock
    go (inl h) = omega (arith, h, room D)
    go (inr h) = omega (arith, h, light (D - suc b.clock))
