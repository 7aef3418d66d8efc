-- A sound book is in order and has room, and its feeds alone are no trouble: a step by earliest deadline keeps it so.
use mathlib.Core.Path.{◌≡◌, refl, sym, ◌∙◌, subst}
use mathlib.Core.Bool.{Bool, true}
use mathlib.Core.List.{map}
use Prim.Native.Nat.{ℕ, suc, ◌-◌, ◌≤◌, ◌<◌}
use native.Mathlib.Nat.{le_refl, le_trans}
use native.Mathlib.Decide.{dec_le}
use native.Mathlib.Omega.{arith}
use lib.Dec.{ltb}
use Rattle.lists.specs.Lists.{eq, total, Each}
use Rattle.edf.specs.Book.{Feed, Job, Book, Who, job, feed, same, owing, plans}
use Rattle.edf.specs.Releases.{due}
use Rattle.edf.specs.Pieces.{job_piece}
use Rattle.edf.specs.Owed.{by_then, due_by, owed_by, Room}
use Rattle.edf.specs.Step.{serve_job, serve_feed, serve, turn_feed, turn, step_by, step, runner, Edf}
use Rattle.edf.specs.Order.{PlanInOrder, FeedInOrder, JobInOrder, InOrder}
use Rattle.edf.specs.Load.{Light, Sound}
use Rattle.lists.proofs.Lists.{each_imp, each_map, each_keep, each_of_total_zero, total_zero, total_map, total_keep_le}
use Rattle.lists.proofs.Tests.{ltb_says}
use Rattle.edf.proofs.Releases.{since_early}
use Rattle.edf.proofs.Plans.{serve_keeps_plans, step_by_keeps_plans}
use Rattle.edf.proofs.Demand.{by_then_elim, by_then_in, by_then_out, later_by_past, feed_owes, turned_elim, turned_over}
use Rattle.edf.proofs.Tick.{owed_by_split, owed_by_turn, tick_leaves_room}
use Rattle.edf.proofs.Runner.{runner_edf}

pub plans_in_order : (b : Book) → InOrder b → Each PlanInOrder (plans b.feeds)
plans_in_order b o =
    each_map PlanInOrder (λ f. f.plan) b.feeds
    (each_imp (FeedInOrder b.clock) (λ f. PlanInOrder f.plan) (λ f h. h.plan) b.feeds o.feeds)

-- a piece in order owes nothing by an instant that is past
feed_past : (t D : ℕ) (f : Feed) → FeedInOrder t f → D ≤ t → feed_owes t D f ≡ 0
feed_past t D f h k =
    let z : by_then D (due f.plan t) f.owes ≡ 0
    = by_then_elim (λ n. n ≡ 0) D (due f.plan t) f.owes (λ p. h.over (omega arith)) (λ p. refl) in
    omega (arith, z, later_by_past t D f.plan h.plan.offset (omega arith))

-- in order, nothing is owed by an instant that is past
pub owed_by_past : (b : Book) (D : ℕ) → InOrder b → D ≤ b.clock → owed_by b D ≡ 0
owed_by_past b D o k =
    omega (
      arith,
      owed_by_split b D,
      total_zero (λ j. due_by D (job_piece b.clock j)) b.jobs
          (each_imp (JobInOrder b.clock) (λ j. due_by D (job_piece b.clock j) ≡ 0)
          (λ j h. by_then_out D j.due j.owes (omega (arith, h.ahead)))
          b.jobs
          o.jobs),
      total_zero (feed_owes b.clock D) b.feeds
          (each_imp (FeedInOrder b.clock) (λ f. feed_owes b.clock D f ≡ 0) (λ f h. feed_past b.clock D f h k) b.feeds o.feeds),
    )

-- so room by the instants to come is room by all
pub room_always : (b : Book) → InOrder b → Room b → (D : ℕ) → owed_by b D ≤ D - b.clock
unfolding Room
room_always b o r D = go (dec_le D b.clock)
  where
    go : Dec (D ≤ b.clock) → owed_by b D ≤ D - b.clock
    go (yes p) = omega (arith, owed_by_past b D o p)
    go (no p) = r D (omega arith)

-- after the tick and before the clock goes on
pub served_room : (b : Book) (g : Who) → Sound b → Edf b g → (D : ℕ) → owed_by (serve g b) D ≤ D - suc b.clock
served_room b g s e = tick_leaves_room b g e s.light (plans_in_order b s.order) (room_always b s.order s.room)

-- what is due by the next instant owes nothing after the tick
pub served_due : (b : Book) (g : Who) → Sound b → Edf b g
    → Each (λ j. j.due ≤ suc b.clock → j.owes - same g (job j.number) ≡ 0) b.jobs
    × Each (λ f. due f.plan b.clock ≤ suc b.clock → f.owes - same g (feed f.position) ≡ 0) b.feeds
unfolding serve
served_due b g s e = (jobs_done, feeds_done)
  where
    t : ℕ
    t = suc b.clock

    zero_jobs : total (λ j. due_by t (job_piece b.clock (serve_job g j))) b.jobs ≡ 0
    zero_jobs =
        omega (
          arith,
          owed_by_split (serve g b) t,
          served_room b g s e t,
          total_map (λ j. due_by t (job_piece b.clock j)) (serve_job g) b.jobs,
        )

    zero_feeds : total (λ f. feed_owes b.clock t (serve_feed g f)) b.feeds ≡ 0
    zero_feeds =
        omega (
          arith,
          owed_by_split (serve g b) t,
          served_room b g s e t,
          total_map (feed_owes b.clock t) (serve_feed g) b.feeds,
        )

    jobs_done : Each (λ j. j.due ≤ t → j.owes - same g (job j.number) ≡ 0) b.jobs
    jobs_done =
        each_imp (λ j. due_by t (job_piece b.clock (serve_job g j)) ≡ 0) (λ j. j.due ≤ t → j.owes - same g (job j.number) ≡ 0)
        (λ j z h. sym (by_then_in t j.due (j.owes - same g (job j.number)) h) ∙ z)
        b.jobs
        (each_of_total_zero (λ j. due_by t (job_piece b.clock (serve_job g j))) b.jobs zero_jobs)

    feeds_done : Each (λ f. due f.plan b.clock ≤ t → f.owes - same g (feed f.position) ≡ 0) b.feeds
    feeds_done =
        each_imp (λ f. feed_owes b.clock t (serve_feed g f) ≡ 0) (λ f. due f.plan b.clock ≤ t → f.owes - same g (feed f.position) ≡ 0)
        (λ f z h. omega (arith, by_then_in t (due f.plan b.clock) (f.owes - same g (feed f.position)) h, z))
        b.feeds
        (each_of_total_zero (λ f. feed_owes b.clock t (serve_feed g f)) b.feeds zero_feeds)

-- a feed stays in order over a tick
turned_in_order : (t n : ℕ) (f : Feed) → FeedInOrder t f → n ≤ f.owes → FeedInOrder (suc t) (turn_feed (suc t) (owing n f))
turned_in_order t n f h k =
    record {
      plan = h.plan;
      owes = turned_elim (λ m. m ≤ f.plan.work) (suc t) (owing n f) (λ z. le_refl f.plan.work) (λ p q. omega arith) (λ p q. omega (arith, h.owes));
      early = λ e. turned_elim (λ m. m ≡ 0) (suc t) (owing n f)
          (λ z. absurd (omega (arith, since_early f.plan (suc t) h.plan.offset e, h.plan.offset)))
          (λ p q. refl)
          (λ p q. omega (arith, h.early (omega arith)));
      over = λ e. turned_over (suc t) (owing n f) (omega (arith, h.plan.lead)) e;
    }

-- the step's book is in order, whoever got the tick by earliest deadline
pub step_keeps_order : (b : Book) (g : Who) → Sound b → Edf b g → InOrder (step_by g b)
unfolding step_by turn serve
step_keeps_order b g s e =
    record {
      feeds =
          each_map (FeedInOrder t') (turn_feed t') (map (serve_feed g) b.feeds)
          (each_map (λ f. FeedInOrder t' (turn_feed t' f)) (serve_feed g) b.feeds
          (each_imp (FeedInOrder t) (λ f. FeedInOrder t' (turn_feed t' (serve_feed g f)))
          (λ f h. turned_in_order t (f.owes - same g (feed f.position)) f h (omega arith))
          b.feeds
          s.order.feeds));
      jobs =
          each_keep (JobInOrder t') owes (map (serve_job g) b.jobs)
          (each_map (λ j. owes j ≡ true → JobInOrder t' j) (serve_job g) b.jobs
          (each_imp (λ j. j.due ≤ t' → j.owes - same g (job j.number) ≡ 0) (λ j. owes (serve_job g j) ≡ true → JobInOrder t' (serve_job g j))
          (λ j z e. stays j z (ltb_says 0 (j.owes - same g (job j.number)) e))
          b.jobs
          (served_due b g s e).0));
      positions = λ n. omega (
        arith,
        total_map (λ f. eq n f.position) (turn_feed t') (map (serve_feed g) b.feeds),
        total_map (λ f. eq n f.position) (serve_feed g) b.feeds,
        s.order.positions n,
      );
      numbers = λ n. omega (
        arith,
        total_keep_le (λ j. eq n j.number) owes (map (serve_job g) b.jobs),
        total_map (λ j. eq n j.number) (serve_job g) b.jobs,
        s.order.numbers n,
      );
    }
  where
    t : ℕ
    t = b.clock

    t' : ℕ
    t' = suc t

    owes : Job → Bool
    owes j = ltb 0 j.owes

    stays : (j : Job) → (j.due ≤ t' → j.owes - same g (job j.number) ≡ 0) → 0 < j.owes - same g (job j.number) → JobInOrder t' (serve_job g j)
    stays j z h = record { owes = h; ahead = late (dec_le j.due t') }
      where
        late : Dec (j.due ≤ t') → t' < j.due
        late (yes p) = absurd (omega (arith, z p))
        late (no p) = omega arith

-- as the clock goes on, no more is owed than after the tick
pub step_owes : (b : Book) (g : Who) → InOrder b → (D : ℕ) → owed_by (step_by g b) D ≤ owed_by (serve g b) D
unfolding step_by
step_owes b g o D =
    owed_by_turn (serve g b) D
    (subst (Each (λ p. (p.offset < p.period) × (p.lead ≤ p.period))) (sym (serve_keeps_plans g b))
    (each_imp PlanInOrder (λ p. (p.offset < p.period) × (p.lead ≤ p.period)) (λ p h. (h.offset, h.short)) (plans b.feeds) (plans_in_order b o)))

pub step_keeps_room : (b : Book) (g : Who) → Sound b → Edf b g → Room (step_by g b)
unfolding step_by turn serve Room
step_keeps_room b g s e D k = le_trans (step_owes b g s.order D) (served_room b g s e D)

-- KEPT BY A STEP: by any choice of earliest deadline, whatever the ties
pub step_by_edf_is_sound : (b : Book) (g : Who) → Sound b → Edf b g → Sound (step_by g b)
step_by_edf_is_sound b g s e =
    record { order = step_keeps_order b g s e; room = step_keeps_room b g s e; light = subst Light (sym (step_by_keeps_plans g b)) s.light }

pub step_is_sound : (b : Book) → Sound b → Sound (step b)
unfolding step
step_is_sound b s = step_by_edf_is_sound b (runner b).who s (runner_edf b)
