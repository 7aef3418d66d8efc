-- Whatever a sound book has still to do is finished before its deadline.
use mathlib.Core.Path.{◌≡◌, ◌∙◌, ap, subst}
use mathlib.Core.Logic.{◌⊎◌, inl, inr}
use mathlib.Core.List.{map}
use Prim.Native.Nat.{ℕ, zero, suc, ◌+◌, ◌-◌, ◌≤◌, ◌<◌}
use native.Mathlib.Decide.{dec_le, dec_lt}
use native.Mathlib.Omega.{arith}
use Rattle.lists.specs.Lists.{Some, eq, Each}
use Rattle.edf.specs.Book.{Feed, Job, Book, Who, job, feed, idle}
use Rattle.edf.specs.Releases.{since, due, later_from}
use Rattle.edf.specs.Pieces.{Piece, job_piece, current_piece, later_piece, at_hand}
use Rattle.edf.specs.Step.{runner, step, foremost, number_of}
use Rattle.edf.specs.Steps.{steps}
use Rattle.edf.specs.Order.{PlanInOrder, FeedInOrder, JobInOrder, InOrder}
use Rattle.edf.specs.Load.{Sound}
use Rattle.edf.specs.Kept.{LiveJob, Live, AtPiece, Current}
use Rattle.edf.specs.Finish.{WorkOf, Wanted, Finishes}
use Rattle.lists.proofs.Lists.{each_at, some_imp, some_pick, some_left, some_right, some_append, some_map, some_of_map, each, some_both, some_get, some_once}
use Rattle.lists.proofs.Tests.{eq_refl}
use Rattle.edf.proofs.Names.{same_le, same_is}
use Rattle.edf.proofs.Plans.{Kin, kin}
use Rattle.edf.proofs.Releases.{Onward, since_lt, since_suc}
use Rattle.edf.proofs.Sound.{step_is_sound}
use Rattle.edf.proofs.Follow.{Free, ran_now, runner_is, job_step, feed_step, feed_due, job_busy, feed_busy, hand_job, hand_feed, live_here, current_here}
use Rattle.edf.proofs.Service.{step_clock, Has, has_step, released_step, fresh_piece}
use Rattle.edf.proofs.Runner.{Best, Nothing, foremost_best}
use Rattle.edf.proofs.Tick.{hand_each}

-- something at hand is a job's or a feed's
pub hand_either : (P : Piece → Type 0) (b : Book) → Some P (at_hand b)
    → Some (λ j. P (job_piece b.clock j)) b.jobs ⊎ Some (λ f. P (current_piece b.clock f)) b.feeds
hand_either P b s = go (some_append P (map (job_piece b.clock) b.jobs) (map (current_piece b.clock) b.feeds) s)
  where
    go : Some P (map (job_piece b.clock) b.jobs) ⊎ Some P (map (current_piece b.clock) b.feeds)
        → Some (λ j. P (job_piece b.clock j)) b.jobs ⊎ Some (λ f. P (current_piece b.clock f)) b.feeds
    go (inl r) = inl (some_of_map P (job_piece b.clock) b.jobs r)
    go (inr r) = inr (some_of_map P (current_piece b.clock) b.feeds r)

-- and the other way
pub hand_of_jobs : (P : Piece → Type 0) (b : Book) → Some (λ j. P (job_piece b.clock j)) b.jobs → Some P (at_hand b)
hand_of_jobs P b s = some_left P (map (job_piece b.clock) b.jobs) (map (current_piece b.clock) b.feeds) (some_map P (job_piece b.clock) b.jobs s)

pub hand_of_feeds : (P : Piece → Type 0) (b : Book) → Some (λ f. P (current_piece b.clock f)) b.feeds → Some P (at_hand b)
hand_of_feeds P b s = some_right P (map (job_piece b.clock) b.jobs) (map (current_piece b.clock) b.feeds) (some_map P (current_piece b.clock) b.feeds s)

pub live_is_wanted : (b : Book) (n d o : ℕ) → 1 ≤ o → Live n d o b → Wanted (job n) d b
unfolding Wanted
live_is_wanted b n d o h l =
    inl
    (hand_of_jobs (λ p. WorkOf (job n) d p × (1 ≤ p.owes)) b
    (some_imp (LiveJob n d o) (λ j. WorkOf (job n) d (job_piece b.clock j) × (1 ≤ j.owes))
    (λ j e. (record { who = ap job e.0; due = e.1 }, omega (arith, e.2)))
    b.jobs
    l))

pub current_is_wanted : (b : Book) (p d o : ℕ) → 1 ≤ o → Current p d o b → Wanted (feed p) d b
unfolding Wanted
current_is_wanted b p d o h l =
    inl
    (hand_of_feeds (λ x. WorkOf (feed p) d x × (1 ≤ x.owes)) b
    (some_imp (AtPiece b.clock p d o) (λ f. WorkOf (feed p) d (current_piece b.clock f) × (1 ≤ f.owes))
    (λ f e. (record { who = ap feed e.0; due = e.1 }, omega (arith, e.2)))
    b.feeds
    l))

pub later_is_wanted : (b : Book) (f : Feed) (D k : ℕ) → Has f b → 1 ≤ f.plan.work → later_from f.plan b.clock k + f.plan.lead ≡ D
    → Wanted (feed f.position) D b
unfolding Wanted
later_is_wanted b f D k m h e =
    inr (
      k,
      some_imp (λ g. Kin g f) (λ g. WorkOf (feed f.position) D (later_piece b.clock k g) × (1 ≤ g.plan.work))
          (λ g x. (record { who = ap feed x.0; due = ap (λ q. later_from q b.clock k + q.lead) x.1 ∙ e }, omega (arith, ap (λ q. q.work) x.1)))
          b.feeds
          m,
    )

-- what is at hand and owes all that the tick gives it finishes with this tick
pub finishes_now : (b : Book) (p : Piece) → InOrder b → Some (λ x. x ≡ p) (at_hand b) → (p.who ≡ idle → ⊥) → 1 ≤ p.owes → p.owes ≤ ran_now b p.who
    → Finishes p.who p.due 0 b
unfolding steps
finishes_now b p o s busy h z =
    let who : (runner b).who ≡ p.who = same_is (runner b).who p.who (omega arith) in
    let is : runner b ≡ p = (runner_is b p o s busy who).0 in
    record {
      work = record { who = who; due = ap (λ x. x.due) is };
      last = omega (arith, ap (λ x. x.owes) is, same_le (runner b).who p.who);
    }

pub finishes_later : (w : Who) (D k : ℕ) (b : Book) → Finishes w D k (step b) → Finishes w D (suc k) b
unfolding steps
finishes_later w D k b f = record { work = f.work; last = f.last }

pub finishes_after : (w : Who) (D k : ℕ) (b : Book) → Finishes w D (suc k) b → Finishes w D k (step b)
unfolding steps
finishes_after w D k b f = record { work = f.work; last = f.last }

-- one tick later the work is finished or still to do
abbrev Onwards : Who → ℕ → Book → Type 0
Onwards w D b = Finishes w D 0 b ⊎ Wanted w D (step b)

job_onwards : (b : Book) (j : Job) → Sound b → Some (λ k. k ≡ j) b.jobs → Onwards (job j.number) j.due b
job_onwards b j s m = go (job_step b j.number j.due j.owes s.order (live_here b j m))
  where
    left : ℕ
    left = j.owes - ran_now b (job j.number)

    go : Live j.number j.due left (step b) ⊎ (Free j.number (step b) × (j.owes ≡ ran_now b (job j.number))) → Onwards (job j.number) j.due b
    go (inl l) =
        let (k, e, r) = some_pick (LiveJob j.number j.due left) (step b).jobs l in
        inr (live_is_wanted (step b) j.number j.due left (omega (arith, (each_at (JobInOrder (step b).clock) k (step b).jobs (step_is_sound b s).order.jobs r).owes, e.2)) l)
    go (inr z) =
        inl (finishes_now b (job_piece b.clock j) s.order (hand_job b j m) (job_busy j.number) (each_at (JobInOrder b.clock) j b.jobs s.order.jobs m).owes (omega (arith, z.1)))

piece_onwards : (b : Book) (f : Feed) → Sound b → Some (λ g. g ≡ f) b.feeds → 1 ≤ f.owes → Onwards (feed f.position) (due f.plan b.clock) b
piece_onwards b f s m h = go (dec_lt (suc b.clock) d) (dec_le o (ran_now b (feed p)))
  where
    p : ℕ
    p = f.position

    d : ℕ
    d = due f.plan b.clock

    o : ℕ
    o = f.owes

    now : o ≤ ran_now b (feed p) → Onwards (feed p) d b
    now z = inl (finishes_now b (current_piece b.clock f) s.order (hand_feed b f m) (feed_busy p) h z)

    go : Dec (suc b.clock < d) → Dec (o ≤ ran_now b (feed p)) → Onwards (feed p) d b
    go k (yes z) = now z
    go (yes k) (no z) = inr (current_is_wanted (step b) p d (o - ran_now b (feed p)) (omega arith) (feed_step b p d o s.order (current_here b f m) k))
    go (no k) (no z) = now (omega (arith, feed_due b p d o s (current_here b f m) (omega arith)))

later_onwards : (b : Book) (f : Feed) (k : ℕ) → Some (λ g. g ≡ f) b.feeds → PlanInOrder f.plan → 1 ≤ f.plan.work
    → Wanted (feed f.position) (later_from f.plan b.clock k + f.plan.lead) (step b)
later_onwards b f k m o h = go k (since_suc f.plan b.clock o.offset)
  where
    p : ℕ
    p = f.position

    t' : (step b).clock ≡ suc b.clock
    t' = step_clock b

    has : Has f b
    has = some_imp (λ g. g ≡ f) (λ g. Kin g f) (λ g. kin g f) b.feeds m

    go : (i : ℕ) → Onward f.plan b.clock → Wanted (feed p) (later_from f.plan b.clock i + f.plan.lead) (step b)
    go i (inl q) = later_is_wanted (step b) f (later_from f.plan b.clock i + f.plan.lead) i (has_step b f has) h (rw t' (omega (arith, q.1, q.0)))
    go zero (inr q) =
        let e : (step b).clock + f.plan.lead ≡ later_from f.plan b.clock 0 + f.plan.lead = omega (arith, t', q.0) in
        let z : since f.plan (step b).clock ≡ 0 = rw t' q.1 in
        subst (λ D. Wanted (feed p) D (step b)) e
        (current_is_wanted (step b) p ((step b).clock + f.plan.lead) f.plan.work h (fresh_piece (step b) f z (released_step b f has q.1)))
    go (suc i) (inr q) = later_is_wanted (step b) f (later_from f.plan b.clock (suc i) + f.plan.lead) i (has_step b f has) h (rw t' (omega (arith, q.1, q.0)))

as_told : (P : Who → ℕ → Type 0) (w : Who) (D : ℕ) (p : Piece) → WorkOf w D p → P p.who p.due → P w D
as_told P w D p e x = subst (P w) e.due (subst (λ v. P v p.due) e.who x)

-- ONE TICK ON, work that was to do has finished with that tick or is still to do
pub wanted_step : (b : Book) (w : Who) (D : ℕ) → Sound b → Wanted w D b → Onwards w D b
unfolding Wanted
wanted_step b w D s (inl x) = go (hand_either Is b x)
  where
    Is : Piece → Type 0
    Is p = WorkOf w D p × (1 ≤ p.owes)

    go : Some (λ j. Is (job_piece b.clock j)) b.jobs ⊎ Some (λ f. Is (current_piece b.clock f)) b.feeds → Onwards w D b
    go (inl y) =
        let (j, e, m) = some_pick (λ j. Is (job_piece b.clock j)) b.jobs y in
        as_told (λ v E. Onwards v E b) w D (job_piece b.clock j) e.0 (job_onwards b j s m)
    go (inr y) =
        let (f, e, m) = some_pick (λ f. Is (current_piece b.clock f)) b.feeds y in
        as_told (λ v E. Onwards v E b) w D (current_piece b.clock f) e.0 (piece_onwards b f s m e.1)
wanted_step b w D s (inr (k, x)) =
    let (f, e, m) = some_pick (λ f. WorkOf w D (later_piece b.clock k f) × (1 ≤ f.plan.work)) b.feeds x in
    inr
    (as_told (λ v E. Wanted v E (step b)) w D (later_piece b.clock k f) e.0
    (later_onwards b f k m (each_at (FeedInOrder b.clock) f b.feeds s.order.feeds m).plan e.1))

-- its deadline is ahead
pub wanted_ahead : (b : Book) (w : Who) (D : ℕ) → InOrder b → Wanted w D b → b.clock < D
unfolding Wanted
wanted_ahead b w D o (inl x) = go (hand_either Is b x)
  where
    Is : Piece → Type 0
    Is p = WorkOf w D p × (1 ≤ p.owes)

    not_over : (f : Feed) → FeedInOrder b.clock f → 1 ≤ f.owes → Dec (f.plan.lead ≤ since f.plan b.clock) → since f.plan b.clock < f.plan.lead
    not_over f k h (yes d) = absurd (omega (arith, k.over d))
    not_over f k h (no d) = omega arith

    go : Some (λ j. Is (job_piece b.clock j)) b.jobs ⊎ Some (λ f. Is (current_piece b.clock f)) b.feeds → b.clock < D
    go (inl y) =
        let (j, e, m) = some_pick (λ j. Is (job_piece b.clock j)) b.jobs y in
        omega (arith, (each_at (JobInOrder b.clock) j b.jobs o.jobs m).ahead, e.0.due)
    go (inr y) =
        let (f, e, m) = some_pick (λ f. Is (current_piece b.clock f)) b.feeds y in
        let k : FeedInOrder b.clock f = each_at (FeedInOrder b.clock) f b.feeds o.feeds m in
        omega (arith, not_over f k e.1 (dec_le f.plan.lead (since f.plan b.clock)), e.0.due)
wanted_ahead b w D o (inr (k, x)) =
    let (f, e, m) = some_pick (λ f. WorkOf w D (later_piece b.clock k f) × (1 ≤ f.plan.work)) b.feeds x in
    omega (arith, e.0.due, since_lt f.plan b.clock (each_at (FeedInOrder b.clock) f b.feeds o.feeds m).plan.offset)

-- EVERYBODY FINISHES: on a sound book whatever is to do gets its last tick before its deadline
pub everybody_finishes : (b : Book) (w : Who) (D : ℕ) → Sound b → Wanted w D b → (k : ℕ) × (b.clock + k < D) × Finishes w D k b
everybody_finishes b w D s x = run D b s x (omega arith)
  where
    run : (m : ℕ) (c : Book) → Sound c → Wanted w D c → D ≤ c.clock + m → (k : ℕ) × (c.clock + k < D) × Finishes w D k c
    run zero c s x h = absurd (omega (arith, wanted_ahead c w D s.order x))
    run (suc m) c s x h = go (wanted_step c w D s x) (λ y. run m (step c) (step_is_sound c s) y (omega (arith, step_clock c)))
      where
        go : Onwards w D c → (Wanted w D (step c) → (k : ℕ) × ((step c).clock + k < D) × Finishes w D k (step c)) → (k : ℕ) × (c.clock + k < D) × Finishes w D k c
        go (inl f) ih = (0, omega (arith, wanted_ahead c w D s.order x), f)
        go (inr y) ih = let (k, l, f) = ih y in (suc k, omega (arith, step_clock c), finishes_later w D k c f)

pub hand_busy : (b : Book) → Each (λ p. p.who ≡ idle → ⊥) (at_hand b)
hand_busy b =
    hand_each (λ p. p.who ≡ idle → ⊥) b
    (each (λ j. job j.number ≡ idle → ⊥) (λ j. job_busy j.number) b.jobs)
    (each (λ f. feed f.position ≡ idle → ⊥) (λ f. feed_busy f.position) b.feeds)

pub runner_at_hand : (b : Book) → 1 ≤ (runner b).owes → Some (λ x. x ≡ runner b) (at_hand b)
unfolding runner
runner_at_hand b h = go (foremost_best (at_hand b))
  where
    go : Best (at_hand b) (foremost (at_hand b)) ⊎ Nothing (at_hand b) (foremost (at_hand b)) → Some (λ x. x ≡ foremost (at_hand b)) (at_hand b)
    go (inl best) = best.0
    go (inr n) = absurd (omega (arith, ap (λ y. y.owes) n.0))

-- a piece yet to come is none that is at hand
pub not_both : (b : Book) (w : Who) (D k : ℕ) → InOrder b → Some (WorkOf w D) (at_hand b) → Some (λ f. WorkOf w D (later_piece b.clock k f)) b.feeds → ⊥
not_both b w D k o x y = go (hand_either (WorkOf w D) b x)
  where
    Comes : Feed → Type 0
    Comes f = WorkOf w D (later_piece b.clock k f)

    Here : Feed → Type 0
    Here f = WorkOf w D (current_piece b.clock f)

    weight : (f : Feed) → feed f.position ≡ w → 1 ≤ eq (number_of w) f.position
    weight f e = omega (arith, ap (λ v. eq (number_of v) f.position) e, eq_refl f.position)

    a_job : (n : ℕ) (f : Feed) → job n ≡ w → feed f.position ≡ w → ⊥
    a_job n f d e = let z : ◌≡◌ {A = ℕ} 0 1 = cc in omega arith

    go : Some (λ j. WorkOf w D (job_piece b.clock j)) b.jobs ⊎ Some Here b.feeds → ⊥
    go (inl s) =
        let (j, d, m) = some_pick (λ j. WorkOf w D (job_piece b.clock j)) b.jobs s in
        let (f, e, l) = some_pick Comes b.feeds y in
        a_job j.number f d.who e.who
    go (inr s) =
        some_get (λ f. (Here f × Comes f) × FeedInOrder b.clock f) ⊥
        (λ f h. omega (arith, h.0.0.due, h.0.1.due, since_lt f.plan b.clock h.1.plan.offset))
        b.feeds
        (some_both (λ f. Here f × Comes f) (FeedInOrder b.clock) b.feeds
        (some_once (λ f. eq (number_of w) f.position) Here Comes (λ f h. weight f h.who) (λ f h. weight f h.who) b.feeds (o.positions (number_of w)) s y)
        o.feeds)
