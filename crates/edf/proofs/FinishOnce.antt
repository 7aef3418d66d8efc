-- Work finishes once: what gets its last tick was to do until then and is not to do any more.
use mathlib.Core.Path.{◌≡◌, ◌∙◌, ap, subst, refl, sym}
use mathlib.Core.Logic.{◌⊎◌, inl, inr}
use mathlib.Core.Bool.{true}
use mathlib.Core.List.{map}
use Prim.Native.Nat.{ℕ, zero, suc, ◌-◌, ◌≤◌, ◌+◌}
use native.Mathlib.Decide.{dec_le}
use native.Mathlib.Omega.{arith}
use lib.Dec.{ltb}
use Rattle.lists.specs.Lists.{Some, keep}
use Rattle.edf.specs.Book.{Feed, Book, Who, idle, same}
use Rattle.edf.specs.Releases.{since, later_from}
use Rattle.edf.specs.Pieces.{Piece, job_piece, current_piece, later_piece, at_hand}
use Rattle.edf.specs.Step.{runner, step, serve_job, serve_feed, serve, turned, turn_feed, turn, step_by}
use Rattle.edf.specs.Steps.{steps}
use Rattle.edf.specs.Order.{FeedInOrder, InOrder}
use Rattle.edf.specs.Load.{Sound}
use Rattle.edf.specs.Finish.{WorkOf, Wanted, Finishes}
use Rattle.lists.proofs.Lists.{each_at, some_imp, some_pick, some_of_map, some_of_keep}
use Rattle.edf.proofs.Names.{same_refl}
use Rattle.edf.proofs.Releases.{Onward, since_suc}
use Rattle.edf.proofs.Sound.{step_is_sound}
use Rattle.edf.proofs.Follow.{ran_now, runner_is}
use Rattle.edf.proofs.Demand.{turned_released, turned_over, turned_kept}
use Rattle.edf.proofs.Wanted.{hand_either, hand_of_jobs, hand_of_feeds, hand_busy, runner_at_hand, not_both, finishes_after}

-- the work is at hand and still owes after the tick, or it is yet to come
abbrev Outlasts : Who → ℕ → Book → Type 0
Outlasts w D b =
    Some (λ p. WorkOf w D p × (1 ≤ p.owes - ran_now b p.who)) (at_hand b)
    ⊎ ((k : ℕ) × Some (λ f. WorkOf w D (later_piece b.clock k f) × (1 ≤ f.plan.work)) b.feeds)

module _ (b : Book) (w : Who) (D : ℕ) (o : InOrder b) where
  abbrev g : Who
  g = (runner b).who

  abbrev t' : ℕ
  t' = suc b.clock

  abbrev Left : Piece → Type 0
  Left p = WorkOf w D p × (1 ≤ p.owes - ran_now b p.who)

  abbrev Comes : ℕ → Feed → Type 0
  Comes k f = WorkOf w D (later_piece b.clock k f) × (1 ≤ f.plan.work)

  -- the piece that a feed has after the step
  current_before : (f : Feed) → FeedInOrder b.clock f → Some (λ x. x ≡ f) b.feeds → WorkOf w D (current_piece t' f) → 1 ≤ turned t' (serve_feed g f) → Outlasts w D b
  current_before f h m e n = go (since_suc f.plan b.clock h.plan.offset) (dec_le f.plan.lead (since f.plan t'))
    where
      go : Onward f.plan b.clock → Dec (f.plan.lead ≤ since f.plan t') → Outlasts w D b
      go (inl q) (yes over) = absurd (omega (arith, turned_over t' (serve_feed g f) (omega (arith, q.1)) over))
      go (inl q) (no over) =
          let left : Left (current_piece b.clock f)
          = (record { who = e.who; due = omega (arith, e.due, q.1) }, omega (arith, turned_kept t' (serve_feed g f) (omega (arith, q.1)) (omega arith))) in
          inl
          (hand_of_feeds Left b
          (some_imp (λ x. x ≡ f) (λ x. Left (current_piece b.clock x)) (λ x d. subst (λ x. Left (current_piece b.clock x)) (sym d) left) b.feeds m))
      go (inr q) d =
          let comes : Comes 0 f
          = (record { who = e.who; due = omega (arith, e.due, q.0, q.1) }, omega (arith, turned_released t' (serve_feed g f) q.1)) in
          inr (0, some_imp (λ x. x ≡ f) (Comes 0) (λ x d. subst (Comes 0) (sym d) comes) b.feeds m)

  later_before : (k : ℕ) (f : Feed) → FeedInOrder b.clock f → Some (λ x. x ≡ f) b.feeds → WorkOf w D (later_piece t' k f) → 1 ≤ f.plan.work → Outlasts w D b
  later_before k f h m e n = go (since_suc f.plan b.clock h.plan.offset)
    where
      made : (i : ℕ) → later_from f.plan b.clock i ≡ later_from f.plan t' k → Outlasts w D b
      made i d =
          let comes : Comes i f = (record { who = e.who; due = ap (λ x. x + f.plan.lead) d ∙ e.due }, n) in
          inr (i, some_imp (λ x. x ≡ f) (Comes i) (λ x c. subst (Comes i) (sym c) comes) b.feeds m)

      go : Onward f.plan b.clock → Outlasts w D b
      go (inl q) = made k (omega (arith, q.0, q.1))
      go (inr q) = made (suc k) (omega (arith, q.0, q.1))

  -- WHAT IS TO DO AFTER A STEP was to do before it, and the tick was not its last
  wanted_before : Wanted w D (step b) → Outlasts w D b
  unfolding Wanted step step_by turn serve
  wanted_before (inl x) = go (hand_either Is (step b) x)
    where
      Is : Piece → Type 0
      Is p = WorkOf w D p × (1 ≤ p.owes)

      go : Some (λ j. Is (job_piece t' j)) (keep (λ j. ltb 0 j.owes) (map (serve_job g) b.jobs)) ⊎ Some (λ f. Is (current_piece t' f)) (map (turn_feed t') (map (serve_feed g) b.feeds))
          → Outlasts w D b
      go (inl s) =
          inl
          (hand_of_jobs Left b
          (some_imp (λ j. Is (job_piece t' (serve_job g j)) × (ltb 0 (serve_job g j).owes ≡ true)) (λ j. Left (job_piece b.clock j))
          (λ j h. (record { who = h.0.0.who; due = h.0.0.due }, h.0.1))
          b.jobs
          (some_of_map (λ j. Is (job_piece t' j) × (ltb 0 j.owes ≡ true)) (serve_job g) b.jobs
          (some_of_keep (λ j. Is (job_piece t' j)) (λ j. ltb 0 j.owes) (map (serve_job g) b.jobs) s))))
      go (inr s) =
          let (f, e, m) = some_pick (λ f. Is (current_piece t' (turn_feed t' (serve_feed g f)))) b.feeds
          (some_of_map (λ f. Is (current_piece t' (turn_feed t' f))) (serve_feed g) b.feeds
          (some_of_map (λ f. Is (current_piece t' f)) (turn_feed t') (map (serve_feed g) b.feeds) s)) in
          current_before f (each_at (FeedInOrder b.clock) f b.feeds o.feeds m) m (record { who = e.0.who; due = e.0.due }) e.1
  wanted_before (inr (k, x)) =
      let (f, e, m) = some_pick (λ f. WorkOf w D (later_piece t' k f) × (1 ≤ f.plan.work)) b.feeds
      (some_of_map (λ f. WorkOf w D (later_piece t' k f) × (1 ≤ f.plan.work)) (serve_feed g) b.feeds
      (some_of_map (λ f. WorkOf w D (later_piece t' k f) × (1 ≤ f.plan.work)) (turn_feed t') (map (serve_feed g) b.feeds) x)) in
      later_before k f (each_at (FeedInOrder b.clock) f b.feeds o.feeds m) m e.0 e.1

  wanted_back : Wanted w D (step b) → Wanted w D b
  unfolding Wanted
  wanted_back x = go (wanted_before x)
    where
      go : Outlasts w D b → Wanted w D b
      go (inl s) = inl (some_imp Left (λ p. WorkOf w D p × (1 ≤ p.owes)) (λ p h. (h.0, omega (arith, h.1))) (at_hand b) s)
      go (inr s) = inr s

  -- what gets its last tick is at hand
  last_is_wanted : Finishes w D 0 b → Wanted w D b
  unfolding Wanted steps
  last_is_wanted f =
      inl
      (some_imp (λ x. x ≡ runner b) (λ p. WorkOf w D p × (1 ≤ p.owes)) (λ p e. (subst (WorkOf w D) (sym e) f.work, omega (arith, ap (λ x. x.owes) e, f.last))) (at_hand b)
      (runner_at_hand b (omega (arith, f.last))))

  -- and is not to do any more
  last_is_done : Finishes w D 0 b → Wanted w D (step b) → ⊥
  unfolding steps
  last_is_done f x = go (wanted_before x)
    where
      here : Some (λ x. x ≡ runner b) (at_hand b)
      here = runner_at_hand b (omega (arith, f.last))

      go : Outlasts w D b → ⊥
      go (inl s) =
          let (p, e, m) = some_pick Left (at_hand b) s in
          let who : (runner b).who ≡ p.who = f.work.who ∙ sym e.0.who in
          let is : runner b ≡ p = (runner_is b p o m (each_at (λ p. p.who ≡ idle → ⊥) p (at_hand b) (hand_busy b) m) who).0 in
          omega (arith, e.1, f.last, ap (λ x. x.owes) is, ap (λ v. same v p.who) who, same_refl p.who)
      go (inr (k, s)) =
          not_both b w D k o (some_imp (λ x. x ≡ runner b) (WorkOf w D) (λ p e. subst (WorkOf w D) (sym e) f.work) (at_hand b) here)
          (some_imp (Comes k) (λ f. WorkOf w D (later_piece b.clock k f)) (λ f h. h.0) b.feeds s)

-- WHAT FINISHES WAS TO DO
pub finishes_is_wanted : (k : ℕ) (b : Book) (w : Who) (D : ℕ) → Sound b → Finishes w D k b → Wanted w D b
finishes_is_wanted zero b w D s f = last_is_wanted b w D s.order f
finishes_is_wanted (suc k) b w D s f = wanted_back b w D s.order (finishes_is_wanted k (step b) w D (step_is_sound b s) (finishes_after w D k b f))

-- IT FINISHES ONCE
pub finishes_once : (i k : ℕ) (b : Book) (w : Who) (D : ℕ) → Sound b → Finishes w D i b → Finishes w D k b → i ≡ k
finishes_once zero zero b w D s e f = refl
finishes_once zero (suc k) b w D s e f = absurd (last_is_done b w D s.order e (finishes_is_wanted k (step b) w D (step_is_sound b s) (finishes_after w D k b f)))
finishes_once (suc i) zero b w D s e f = absurd (last_is_done b w D s.order f (finishes_is_wanted i (step b) w D (step_is_sound b s) (finishes_after w D i b e)))
finishes_once (suc i) (suc k) b w D s e f = ap suc (finishes_once i k (step b) w D (step_is_sound b s) (finishes_after w D i b e) (finishes_after w D k b f))
