-- From a sound book, running on by steps alone, each job and each piece is named exactly as often as it owes, in its own
-- ticks.
use mathlib.Core.Path.{◌≡◌, refl, sym, ◌∙◌, ap}
use mathlib.Core.Logic.{◌⊎◌, inl, inr}
use mathlib.Core.List.{map}
use Prim.Native.Nat.{ℕ, zero, suc, ◌+◌, ◌-◌, ◌*◌, ◌≤◌}
use native.Mathlib.Nat.{add-zero, add-sub_cancel_left}
use native.Mathlib.Omega.{arith}
use lib.Dec.{ltb}
use Rattle.lists.specs.Lists.{eq, Each, Some}
use Rattle.edf.specs.Instants.{during}
use Rattle.edf.specs.Book.{Feed, Job, Book, Who, job, feed, same}
use Rattle.edf.specs.Releases.{since, due, later_from}
use Rattle.edf.specs.Pieces.{Piece, job_piece, current_piece, later_piece, at_hand}
use Rattle.edf.specs.Fits.{Name, Choice, goes_to, gets, Served, Fits}
use Rattle.edf.specs.Step.{number_of, runner, serve_job, serve_feed, serve, turned, turn_feed, turn, step_by, step, foremost}
use Rattle.edf.specs.Steps.{steps}
use Rattle.edf.specs.Order.{FeedInOrder, JobInOrder}
use Rattle.lists.proofs.Lists.{each_imp, each_both, each_self, each_at, some_imp, some_get, some_pick, some_append, some_map, some_of_map, some_le_total, total_map, total_keep_le}
use Rattle.lists.proofs.Tests.{eq_refl}
use Rattle.edf.proofs.Names.{same_not}
use Rattle.edf.proofs.Plans.{Kin, kin}
use Rattle.edf.proofs.Releases.{since_lt, since_later}
use Rattle.edf.proofs.Demand.{turned_released}
use Rattle.edf.proofs.Runner.{Best, Nothing, foremost_best}
use Rattle.edf.specs.Load.{Sound}
use Rattle.edf.proofs.Sound.{step_is_sound}
use Rattle.edf.proofs.Tick.{hand_each}
use Rattle.edf.specs.Kept.{LiveJob, Live, AtPiece, Current}
use Rattle.edf.proofs.Follow.{Free, ran_now, job_named, feed_named, job_step, feed_step, feed_due, job_busy, live_here, current_here}

abbrev pub name_of : Piece → Name
name_of p = record { who = p.who; due = p.due }

-- each tick goes to the runner of its instant
unfoldable pub by_desk : Book → Choice
by_desk b x = name_of (runner (steps (x - b.clock) b))

-- the choice c is what the steps from b on name
abbrev pub Follows : Choice → Book → Type 0
Follows c b = (i : ℕ) → c (b.clock + i) ≡ name_of (runner (steps i b))

-- the tick x goes to the piece of w that is due at d
abbrev pub hits : Choice → Who → ℕ → ℕ → ℕ
hits c w d x = same (c x).who w * eq (c x).due d

pub step_clock : (b : Book) → (step b).clock ≡ suc b.clock
unfolding step step_by turn serve
step_clock b = refl

pub by_desk_follows : (b : Book) → Follows (by_desk b) b
unfolding by_desk
by_desk_follows b i = ap (λ n. name_of (runner (steps n b))) (add-sub_cancel_left b.clock i)

follows_now : (c : Choice) (b : Book) → Follows c b → c b.clock ≡ name_of (runner b)
unfolding steps
follows_now c b f = ap c (sym (add-zero b.clock)) ∙ f 0

follows_step : (c : Choice) (b : Book) → Follows c b → Follows c (step b)
unfolding steps
follows_step c b f i =
    let e : (step b).clock + i ≡ b.clock + suc i = omega (arith, step_clock b) in
    ap c e ∙ f (suc i)

-- a free number stays free and is not named
free_step : (b : Book) (n : ℕ) → Free n b → Free n (step b)
unfolding step step_by turn serve
free_step b n z =
    omega (
      arith,
      total_keep_le (λ j. eq n j.number) (λ j. ltb 0 j.owes) (map (serve_job (runner b).who) b.jobs),
      total_map (λ j. eq n j.number) (serve_job (runner b).who) b.jobs,
      z,
    )

pub free_unnamed : (b : Book) (n : ℕ) → Free n b → ran_now b (job n) ≡ 0
unfolding runner
free_unnamed b n z = same_not (foremost (at_hand b)).who (job n) (λ e. go e (foremost_best (at_hand b)))
  where
    r : Piece
    r = foremost (at_hand b)

    at_hand_lem : r.who ≡ job n → Some (λ x. x ≡ r) (at_hand b) → ⊥
    at_hand_lem e s = split (some_append (λ x. x ≡ r) (map (job_piece b.clock) b.jobs) (map (current_piece b.clock) b.feeds) s)
      where
        a_job : (j : Job) → job_piece b.clock j ≡ r → 1 ≤ eq n j.number
        a_job j k =
            let q : j.number ≡ n = ap (λ x. number_of x.who) k ∙ ap number_of e in
            rw q (omega (arith, eq_refl n))

        a_feed : (f : Feed) → current_piece b.clock f ≡ r → ⊥
        a_feed f k =
            let q : feed f.position ≡ job n = ap (λ x. x.who) k ∙ e in
            let no_way : ◌≡◌ {A = ℕ} 0 1 = cc in
            omega arith

        split : Some (λ x. x ≡ r) (map (job_piece b.clock) b.jobs) ⊎ Some (λ x. x ≡ r) (map (current_piece b.clock) b.feeds) → ⊥
        split (inl s) =
            omega (
              arith,
              z,
              some_le_total (λ j. eq n j.number) 1 b.jobs
                  (some_imp (λ j. job_piece b.clock j ≡ r) (λ j. 1 ≤ eq n j.number) a_job b.jobs (some_of_map (λ x. x ≡ r) (job_piece b.clock) b.jobs s)),
            )
        split (inr s) =
            some_get (λ f. current_piece b.clock f ≡ r) ⊥ a_feed b.feeds (some_of_map (λ x. x ≡ r) (current_piece b.clock) b.feeds s)

    go : r.who ≡ job n → Best (at_hand b) r ⊎ Nothing (at_hand b) r → ⊥
    go e (inl h) = at_hand_lem e h.0
    go e (inr h) = job_busy n (sym e ∙ ap (λ x. x.who) h.0)

hits_now : (c : Choice) (b : Book) (w : Who) (d : ℕ) → Follows c b → hits c w d b.clock ≡ ran_now b w * eq (runner b).due d
hits_now c b w d f = ap (λ k. same k.who w * eq k.due d) (follows_now c b f)

free_unserved : (m : ℕ) (c : Choice) (b : Book) (n d : ℕ) → Follows c b → Free n b → during (hits c (job n) d) b.clock m ≡ 0
free_unserved zero c b n d f z = refl
free_unserved (suc m) c b n d f z =
    let ih = free_unserved m c (step b) n d (follows_step c b f) (free_step b n z) in
    let ih' : during (hits c (job n) d) (suc b.clock) m ≡ 0 = rw step_clock at ih in
    let now : ran_now b (job n) * eq (runner b).due d ≡ 0 = rw (free_unnamed b n z) (omega arith) in
    omega (arith, ih', now, hits_now c b (job n) d f)

-- a live job is named exactly as often as it owes, before its deadline
pub job_served_lem : (m : ℕ) (c : Choice) (b : Book) (n d o : ℕ) → Sound b → Follows c b → Live n d o b → d ≡ b.clock + m
    → during (hits c (job n) d) b.clock m ≡ o
job_served_lem zero c b n d o s f l e =
    let (j, h, k) = some_pick (LiveJob n d o) b.jobs l in
    absurd (omega (arith, (each_at (JobInOrder b.clock) j b.jobs s.order.jobs k).ahead, h.1, e))
job_served_lem (suc m) c b n d o s f l e =
    go
    (λ k. rw step_clock at
    (job_served_lem m c (step b) n d (o - ran_now b (job n)) (step_is_sound b s) (follows_step c b f) k (omega (arith, step_clock b, e))))
    (job_step b n d o s.order l)
  where
    now : hits c (job n) d b.clock ≡ ran_now b (job n)
    now = hits_now c b (job n) d f ∙ (job_named b n d o s.order l).0

    go : (Live n d (o - ran_now b (job n)) (step b) → during (hits c (job n) d) (suc b.clock) m ≡ o - ran_now b (job n))
        → Live n d (o - ran_now b (job n)) (step b) ⊎ (Free n (step b) × (o ≡ ran_now b (job n)))
        → hits c (job n) d b.clock + during (hits c (job n) d) (suc b.clock) m ≡ o
    go ih (inl k) = omega (arith, now, ih k, (job_named b n d o s.order l).1)
    go ih (inr k) =
        let none : during (hits c (job n) d) (suc b.clock) m ≡ 0
        = rw step_clock at (free_unserved m c (step b) n d (follows_step c b f) k.0) in
        omega (arith, now, none, k.1)

-- a piece is named exactly as often as it owes, before its deadline
pub piece_served : (m : ℕ) (c : Choice) (b : Book) (p d o : ℕ) → Sound b → Follows c b → Current p d o b → d ≡ b.clock + suc m
    → during (hits c (feed p) d) b.clock (suc m) ≡ o
piece_served zero c b p d o s f l e =
    omega (
      arith,
      hits_now c b (feed p) d f ∙ (feed_named b p d o s.order l).0,
      feed_due b p d o s l (omega arith),
    )
piece_served (suc m) c b p d o s f l e =
    let ih : during (hits c (feed p) d) (suc b.clock) (suc m) ≡ o - ran_now b (feed p)
    = rw step_clock at
    (piece_served m c (step b) p d (o - ran_now b (feed p)) (step_is_sound b s) (follows_step c b f)
    (feed_step b p d o s.order l (omega arith))
    (omega (arith, step_clock b, e))) in
    omega (arith, hits_now c b (feed p) d f ∙ (feed_named b p d o s.order l).0, ih, (feed_named b p d o s.order l).1)

piece_served_in : (k : ℕ) (c : Choice) (b : Book) (p d o : ℕ) → 1 ≤ k → Sound b → Follows c b → Current p d o b → d ≡ b.clock + k
    → during (hits c (feed p) d) b.clock k ≡ o
piece_served_in zero c b p d o h s f l e = absurd (omega arith)
piece_served_in (suc m) c b p d o h s f l e = piece_served m c b p d o s f l e

-- the feed is one of the book's
abbrev pub Has : Feed → Book → Type 0
Has f b = Some (λ g. Kin g f) b.feeds

-- and its current piece owes the whole work
abbrev pub Fresh : Feed → Book → Type 0
Fresh f b = Some (λ g. Kin g f × (g.owes ≡ f.plan.work)) b.feeds

pub has_step : (b : Book) (f : Feed) → Has f b → Has f (step b)
unfolding step step_by turn serve
has_step b f h =
    some_map (λ g. Kin g f) (turn_feed (suc b.clock)) (map (serve_feed (runner b).who) b.feeds)
    (some_map (λ g. Kin g f) (serve_feed (runner b).who) b.feeds h)

-- the step to a release has the new piece owe the whole work
pub released_step : (b : Book) (f : Feed) → Has f b → since f.plan (suc b.clock) ≡ 0 → Fresh f (step b)
unfolding step step_by turn serve
released_step b f h z =
    some_map (λ g. Kin g f × (g.owes ≡ f.plan.work)) (turn_feed t') (map (serve_feed (runner b).who) b.feeds)
    (some_map (λ g. Kin g f × (turned t' g ≡ f.plan.work)) (serve_feed (runner b).who) b.feeds
    (some_imp (λ g. Kin g f) (λ g. Kin g f × (turned t' (serve_feed (runner b).who g) ≡ f.plan.work)) new b.feeds h))
  where
    t' : ℕ
    t' = suc b.clock

    new : (g : Feed) → Kin g f → Kin g f × (turned t' (serve_feed (runner b).who g) ≡ f.plan.work)
    new g e = (e, turned_released t' (serve_feed (runner b).who g) (ap (λ p. since p t') e.1 ∙ z) ∙ ap (λ p. p.work) e.1)

-- a feed's piece that comes now, as it is followed from here
pub fresh_piece : (b : Book) (f : Feed) → since f.plan b.clock ≡ 0 → Fresh f b
    → Current f.position (b.clock + f.plan.lead) f.plan.work b
fresh_piece b f z =
    some_imp (λ g. Kin g f × (g.owes ≡ f.plan.work)) (AtPiece b.clock f.position (b.clock + f.plan.lead) f.plan.work)
    (λ g h. (h.0.0, ap (λ p. due p b.clock) h.0.1 ∙ omega (arith, z), h.1))
    b.feeds

-- the piece that a feed releases m + 1 ticks from now is named exactly as often as its work, before its deadline
pub later_served : (m : ℕ) (c : Choice) (b : Book) (f : Feed) → Sound b → Follows c b → Has f b → 1 ≤ f.plan.lead → since f.plan (b.clock + suc m) ≡ 0
    → during (hits c (feed f.position) (b.clock + suc m + f.plan.lead)) (b.clock + suc m) f.plan.lead ≡ f.plan.work
later_served zero c b f s w h k z =
    let t : (step b).clock ≡ b.clock + 1 = omega (arith, step_clock b) in
    let z' : since f.plan (step b).clock ≡ 0 = rw t z in
    rw t at
    (piece_served_in f.plan.lead c (step b) f.position ((step b).clock + f.plan.lead) f.plan.work k (step_is_sound b s) (follows_step c b w)
    (fresh_piece (step b) f z' (released_step b f h (rw step_clock at z')))
    refl)
later_served (suc m) c b f s w h k z =
    let t : (step b).clock + suc m ≡ b.clock + suc (suc m) = omega (arith, step_clock b) in
    rw t at (later_served m c (step b) f (step_is_sound b s) (follows_step c b w) (has_step b f h) k (rw t z))

module _ (b : Book) (s : Sound b) where
  -- what is at hand gets exactly what it owes
  pub desk_serves_hand : Each (λ p. gets (by_desk b) p ≡ p.owes) (at_hand b)
  unfolding gets goes_to
  desk_serves_hand =
      hand_each (λ p. gets (by_desk b) p ≡ p.owes) b
      (each_imp (λ j. JobInOrder b.clock j × Some (λ k. k ≡ j) b.jobs) (λ j. gets (by_desk b) (job_piece b.clock j) ≡ j.owes) a_job b.jobs
      (each_both (JobInOrder b.clock) (λ j. Some (λ k. k ≡ j) b.jobs) b.jobs s.order.jobs (each_self b.jobs)))
      (each_imp (λ f. FeedInOrder b.clock f × Some (λ k. k ≡ f) b.feeds) (λ f. gets (by_desk b) (current_piece b.clock f) ≡ f.owes) a_feed b.feeds
      (each_both (FeedInOrder b.clock) (λ f. Some (λ k. k ≡ f) b.feeds) b.feeds s.order.feeds (each_self b.feeds)))
    where
      a_job : (j : Job) → JobInOrder b.clock j × Some (λ k. k ≡ j) b.jobs → gets (by_desk b) (job_piece b.clock j) ≡ j.owes
      a_job j h =
          job_served_lem (j.due - b.clock) (by_desk b) b j.number j.due j.owes s (by_desk_follows b)
          (live_here b j h.1)
          (omega (arith, h.0.ahead))

      a_feed : (f : Feed) → FeedInOrder b.clock f × Some (λ k. k ≡ f) b.feeds → gets (by_desk b) (current_piece b.clock f) ≡ f.owes
      a_feed f h = go (d - b.clock) refl
        where
          d : ℕ
          d = due f.plan b.clock

          go : (n : ℕ) → d - b.clock ≡ n → during (hits (by_desk b) (feed f.position) d) b.clock (d - b.clock) ≡ f.owes
          go zero e = rw e (sym (h.0.over (omega arith)))
          go (suc n) e =
              rw e
              (piece_served n (by_desk b) b f.position d f.owes s (by_desk_follows b)
              (current_here b f h.1)
              (omega arith))

  -- each later piece gets exactly its feed's work
  pub desk_serves_later : (k : ℕ) → Each (λ f. gets (by_desk b) (later_piece b.clock k f) ≡ f.plan.work) b.feeds
  unfolding gets goes_to
  desk_serves_later k =
      each_imp (λ f. FeedInOrder b.clock f × Some (λ g. g ≡ f) b.feeds) (λ f. gets (by_desk b) (later_piece b.clock k f) ≡ f.plan.work) a_feed b.feeds
      (each_both (FeedInOrder b.clock) (λ f. Some (λ g. g ≡ f) b.feeds) b.feeds s.order.feeds (each_self b.feeds))
    where
      a_feed : (f : Feed) → FeedInOrder b.clock f × Some (λ g. g ≡ f) b.feeds → gets (by_desk b) (later_piece b.clock k f) ≡ f.plan.work
      a_feed f h =
          let x : ℕ = later_from f.plan b.clock k in
          let m : ℕ = x - suc b.clock in
          let e : b.clock + suc m ≡ x = omega (arith, since_lt f.plan b.clock h.0.plan.offset) in
          let w : x + f.plan.lead - x ≡ f.plan.lead = add-sub_cancel_left x f.plan.lead in
          let got : during (hits (by_desk b) (feed f.position) (b.clock + suc m + f.plan.lead)) (b.clock + suc m) f.plan.lead ≡ f.plan.work
          = later_served m (by_desk b) b f s (by_desk_follows b)
          (some_imp (λ g. g ≡ f) (λ g. Kin g f) (λ g. kin g f) b.feeds h.1)
          h.0.plan.lead
          (rw e (since_later f.plan b.clock h.0.plan.offset k)) in
          rw w (rw e at got)

-- ROOM FITS: from a sound book the desk's own steps are a choice that serves everything, to any instant
pub room_fits : (b : Book) → Sound b → Fits b
unfolding Fits
room_fits b s F h = (
  by_desk b,
  record {
    hand = each_imp (λ p. gets (by_desk b) p ≡ p.owes) (Served F (by_desk b)) (λ p e d. omega arith) (at_hand b) (desk_serves_hand b s);
    later = λ k. each_imp (λ f. gets (by_desk b) (later_piece b.clock k f) ≡ f.plan.work) (λ f. Served F (by_desk b) (later_piece b.clock k f)) (λ f e d. omega arith) b.feeds (desk_serves_later b s k);
  },
)
