-- Nobody finishes later for less load.
use mathlib.Core.Path.{◌≡◌, sym, ap, ◌∙◌, subst}
use mathlib.Core.Logic.{◌⊎◌, inl, inr}
use mathlib.Core.Bool.{Bool, true, false, cond}
use Prim.Native.Nat.{ℕ, zero, suc, ◌+◌, ◌≤◌, ◌<◌}
use native.Mathlib.Nat.{le_refl}
use native.Mathlib.Omega.{arith}
use native.Mathlib.Decide.{dec_le}
use lib.Dec.{T}
use Rattle.lists.specs.Lists.{total, Each, Some}
use Rattle.edf.specs.Book.{Feed, Job, Book, Who, job, feed, idle, same}
use Rattle.edf.specs.Releases.{due, later_from}
use Rattle.edf.specs.Pieces.{Piece, job_piece, current_piece, later_piece, at_hand}
use Rattle.edf.specs.Step.{sooner, serve, step, runner, foremost}
use Rattle.edf.specs.Steps.{steps}
use Rattle.edf.specs.Order.{InOrder}
use Rattle.edf.specs.Load.{Sound, FeedLess, JobLess}
use Rattle.edf.specs.Finish.{LessAlike, WorkOf, Wanted, Finishes, FinishesWithin}
use Rattle.lists.proofs.Lists.{each_imp, each_both, each_at, some_imp, some_both, some_get, some_pick, some_once, some_of_total, each_of_total_zero}
use Rattle.lists.proofs.Pairs.{pairs_imp, pairs_total, pairs_some}
use Rattle.edf.proofs.Names.{same_refl}
use Rattle.edf.proofs.Plans.{Kin}
use Rattle.edf.proofs.Runner.{Best, Nothing, foremost_best, sooner_refl, sooner_both}
use Rattle.edf.proofs.Tick.{hand_total, serve_piece, hand_served}
use Rattle.edf.proofs.LessLoad.{matched}
use Rattle.edf.proofs.Sound.{step_is_sound}
use Rattle.edf.proofs.Counted.{once}
use Rattle.edf.proofs.Follow.{ran_now}
use Rattle.edf.proofs.Wanted.{finishes_now, finishes_later, finishes_after, wanted_step, hand_busy, runner_at_hand, not_both, hand_either, hand_of_jobs, hand_of_feeds, everybody_finishes}
use Rattle.edf.proofs.HoldUp.{no_later, hold_up, no_later_some, no_later_in, hold_up_served, Lighter, lighter_step}

-- a piece of the same owner and deadline goes no later
sooner_same : (p q : Piece) → p.who ≡ q.who → p.due ≡ q.due → T (sooner p q)
unfolding sooner
sooner_same p q w d =
    subst (λ x. T (sooner x q)) (λ i. record { who = sym w i; from = p.from; due = sym d i; owes = p.owes }) (sooner_refl q)

-- THE LAST TICK of the runner leaves nothing that goes no later than it
last_tick : (b : Book) → InOrder b → (runner b).owes ≡ 1 → hold_up (runner b) (serve (runner b).who b) ≡ 0
unfolding hold_up runner sooner
last_tick b o one = go (foremost_best (at_hand b))
  where
    r : Piece
    r = foremost (at_hand b)

    Left : Piece → Type 0
    Left x = (x.who ≡ r.who) × (1 ≤ no_later r (serve_piece r.who x))

    alike : (x : Piece) → (1 ≤ no_later r (serve_piece r.who x)) × (0 < x.owes → T (sooner r x)) → Left x
    alike x k =
        let c = no_later_some r (serve_piece r.who x) k.0 in
        ((sooner_both x r c.0 (k.1 (omega (arith, c.1)))).0, k.0)

    never : (x : Piece) → Left x × (x ≡ r) → ⊥
    never x k =
        let c = no_later_some r (serve_piece r.who x) k.0.1 in
        omega (arith, c.1, ap (λ y. y.owes) k.1, one, ap (same r.who) k.0.0, same_refl r.who)

    weight : (x : Piece) → x.who ≡ r.who → 1 ≤ same r.who x.who
    weight x h = omega (arith, ap (same r.who) h, same_refl r.who)

    none : Best (at_hand b) r → Some (λ x. 1 ≤ no_later r (serve_piece r.who x)) (at_hand b) → ⊥
    none best h =
        some_get (λ x. Left x × (x ≡ r)) ⊥ never (at_hand b)
        (some_once (λ x. same r.who x.who) Left (λ x. x ≡ r) (λ x k. weight x k.0) (λ x k. weight x (ap (λ y. y.who) k)) (at_hand b) (once b o r.who)
        (some_imp (λ x. (1 ≤ no_later r (serve_piece r.who x)) × (0 < x.owes → T (sooner r x))) Left alike (at_hand b)
        (some_both (λ x. 1 ≤ no_later r (serve_piece r.who x)) (λ x. 0 < x.owes → T (sooner r x)) (at_hand b) h best.2))
        best.0)

    settle : Best (at_hand b) r → Dec (1 ≤ total (λ x. no_later r (serve_piece r.who x)) (at_hand b)) → total (no_later r) (at_hand (serve r.who b)) ≡ 0
    settle best (yes h) = absurd (none best (some_of_total (λ x. no_later r (serve_piece r.who x)) (at_hand b) h))
    settle best (no h) = omega (arith, hand_served (no_later r) r.who b)

    go : Best (at_hand b) r ⊎ Nothing (at_hand b) r → total (no_later r) (at_hand (serve r.who b)) ≡ 0
    go (inl best) = settle best (dec_le 1 (total (λ x. no_later r (serve_piece r.who x)) (at_hand b)))
    go (inr h) = absurd (omega (arith, one, ap (λ y. y.owes) h.0))

-- where after the tick nothing goes no later than q, a piece of q's owner and deadline has got all that it owed
none_left : (q : Piece) (g : Who) (b : Book) → hold_up q (serve g b) ≡ 0 → Each (λ p. p.who ≡ q.who → p.due ≡ q.due → p.owes ≤ same g p.who) (at_hand b)
unfolding hold_up sooner
none_left q g b z =
    each_imp (λ p. no_later q (serve_piece g p) ≡ 0) (λ p. p.who ≡ q.who → p.due ≡ q.due → p.owes ≤ same g p.who)
    (λ p k w d. omega (arith, no_later_in q (serve_piece g p) (sooner_same p q w d), k))
    (at_hand b)
    (each_of_total_zero (λ p. no_later q (serve_piece g p)) (at_hand b) (sym (hand_served (no_later q) g b) ∙ z))

-- where the heavier gives a piece of work its last tick, the lighter that has it to do gives it its last tick too
finishes_with : (a b : Book) (w : Who) (D : ℕ) → InOrder a → InOrder b → Lighter a b → Wanted w D a → Finishes w D 0 b → Finishes w D 0 a
unfolding Wanted steps
finishes_with a b w D oa ob l (inl x) f =
    let done : hold_up (runner b) (serve (runner a).who a) ≡ 0 = omega (arith, last_tick b ob f.last, hold_up_served (runner b) a b ob (l.less (runner b))) in
    let (p, e, m) = some_pick (λ p. WorkOf w D p × (1 ≤ p.owes)) (at_hand a) x in
    let all : p.owes ≤ ran_now a p.who
    = each_at (λ p. p.who ≡ (runner b).who → p.due ≡ (runner b).due → p.owes ≤ same (runner a).who p.who) p (at_hand a) (none_left (runner b) (runner a).who a done) m
    (e.0.who ∙ sym f.work.who)
    (e.0.due ∙ sym f.work.due) in
    let now = finishes_now a p oa m (each_at (λ p. p.who ≡ idle → ⊥) p (at_hand a) (hand_busy a) m) e.1 all in
    record { work = record { who = now.work.who ∙ e.0.who; due = now.work.due ∙ e.0.due }; last = now.last }
finishes_with a b w D oa ob l (inr (k, x)) f =
    absurd
    (not_both b w D k ob
    (some_imp (λ p. p ≡ runner b) (WorkOf w D) (λ p e. subst (WorkOf w D) (sym e) f.work) (at_hand b) (runner_at_hand b (omega (arith, f.last))))
    (pairs_some Kin (λ g. WorkOf w D (later_piece a.clock k g) × (1 ≤ g.plan.work)) (λ g. WorkOf w D (later_piece b.clock k g))
    (λ g h r e. record { who = ap feed (sym r.0) ∙ e.0.who; due = (λ i. later_from (sym r.1 i) (sym l.clock i) k + (sym r.1 i).lead) ∙ e.0.due })
    a.feeds
    b.feeds
    l.feeds
    x))

-- a piece of the same owner and deadline that owes no more counts for no more
no_later_less : (q p r : Piece) → p.who ≡ r.who → p.due ≡ r.due → p.owes ≤ r.owes → no_later q p ≤ no_later q r
unfolding no_later sooner
no_later_less q p r w d h =
    subst (λ x. no_later q x ≤ no_later q r) (λ i. record { who = sym w i; from = p.from; due = sym d i; owes = p.owes }) (go (sooner r q))
  where
    go : (s : Bool) → cond s p.owes 0 ≤ cond s r.owes 0
    go true = h
    go false = le_refl 0

feed_less : (q : Piece) (t : ℕ) (f g : Feed) → FeedLess f g → no_later q (current_piece t f) ≤ no_later q (current_piece t g)
feed_less q t f g h = no_later_less q (current_piece t f) (current_piece t g) (ap feed h.position) (ap (λ p. due p t) h.plan) h.owes

-- LESS LOAD IS LIGHTER
less_is_lighter : (a b : Book) → InOrder a → LessAlike a b → Lighter a b
unfolding hold_up
less_is_lighter a b o h =
    record {
      clock = h.less.clock;
      feeds = pairs_imp FeedLess Kin (λ f g k. (k.position, k.plan)) a.feeds b.feeds h.less.feeds;
      less = λ q. omega (
        arith,
        hand_total (no_later q) a,
        hand_total (no_later q) b,
        jobs_less q,
        pairs_total FeedLess (λ f. no_later q (current_piece b.clock f)) (λ f. no_later q (current_piece b.clock f)) (feed_less q b.clock) a.feeds b.feeds h.less.feeds,
        ap (λ t. total (λ j. no_later q (job_piece t j)) a.jobs) h.less.clock,
        ap (λ t. total (λ f. no_later q (current_piece t f)) a.feeds) h.less.clock,
      );
    }
  where
    match : (q : Piece) (j k : Job) → JobLess j k → (j.number ≡ k.number → j.due ≡ k.due)
        → (j.number ≡ k.number) × (no_later q (job_piece b.clock j) ≤ no_later q (job_piece b.clock k))
    match q j k m due = (m.number, no_later_less q (job_piece b.clock j) (job_piece b.clock k) (ap job m.number) (due m.number) m.owes)

    jobs_less : (q : Piece) → total (λ j. no_later q (job_piece b.clock j)) a.jobs ≤ total (λ j. no_later q (job_piece b.clock j)) b.jobs
    jobs_less q =
        matched (λ j. no_later q (job_piece b.clock j)) (λ j. no_later q (job_piece b.clock j)) a.jobs b.jobs o.numbers
        (each_imp (λ j. Some (JobLess j) b.jobs × Each (λ k. j.number ≡ k.number → j.due ≡ k.due) b.jobs)
        (λ j. Some (λ k. (j.number ≡ k.number) × (no_later q (job_piece b.clock j) ≤ no_later q (job_piece b.clock k))) b.jobs)
        (λ j s. some_imp (λ k. JobLess j k × (j.number ≡ k.number → j.due ≡ k.due)) (λ k. (j.number ≡ k.number) × (no_later q (job_piece b.clock j) ≤ no_later q (job_piece b.clock k)))
        (λ k m. match q j k m.0 m.1)
        b.jobs
        (some_both (JobLess j) (λ k. j.number ≡ k.number → j.due ≡ k.due) b.jobs s.0 s.1))
        a.jobs
        (each_both (λ j. Some (JobLess j) b.jobs) (λ j. Each (λ k. j.number ≡ k.number → j.due ≡ k.due) b.jobs) a.jobs h.less.jobs h.due))

-- a lighter book stays a lighter one to the step that finishes
lighter_finishes : (k : ℕ) (a b : Book) (w : Who) (D : ℕ) → Sound a → Sound b → Lighter a b → Wanted w D a → Finishes w D k b → FinishesWithin w D k a
unfolding FinishesWithin
lighter_finishes zero a b w D sa sb l x f = (0, le_refl 0, finishes_with a b w D sa.order sb.order l x f)
lighter_finishes (suc k) a b w D sa sb l x f =
    go (wanted_step a w D sa x) (λ y. lighter_finishes k (step a) (step b) w D (step_is_sound a sa) (step_is_sound b sb) (lighter_step a b sa sb l) y (finishes_after w D k b f))
  where
    go : Finishes w D 0 a ⊎ Wanted w D (step a) → (Wanted w D (step a) → (i : ℕ) × (i ≤ k) × Finishes w D i (step a)) → (i : ℕ) × (i ≤ suc k) × Finishes w D i a
    go (inl now) ih = (0, omega arith, now)
    go (inr y) ih = let (i, h, e) = ih y in (suc i, omega arith, finishes_later w D i a e)

-- NOBODY FINISHES LATER for less load: what the lighter book has to do finishes there no later than on the heavier
pub nobody_finishes_later : (a b : Book) → Sound a → Sound b → LessAlike a b
    → (w : Who) (D k : ℕ) → Wanted w D a → Finishes w D k b → FinishesWithin w D k a
nobody_finishes_later a b sa sb h w D k = lighter_finishes k a b w D sa sb (less_is_lighter a b sa.order h)

-- what the lighter has to do, the heavier has to do
pub less_wants_less : (a b : Book) → LessAlike a b → (w : Who) (D : ℕ) → Wanted w D a → Wanted w D b
unfolding Wanted
less_wants_less a b h w D (inl x) = inl (go (hand_either Is a x))
  where
    Is : Piece → Type 0
    Is p = WorkOf w D p × (1 ≤ p.owes)

    go : Some (λ j. Is (job_piece a.clock j)) a.jobs ⊎ Some (λ f. Is (current_piece a.clock f)) a.feeds → Some Is (at_hand b)
    go (inl s) =
        let (j, e, m) = some_pick (λ j. Is (job_piece a.clock j)) a.jobs s in
        hand_of_jobs Is b
        (some_imp (λ k. JobLess j k × (j.number ≡ k.number → j.due ≡ k.due)) (λ k. Is (job_piece b.clock k))
        (λ k l. (record { who = ap job (sym l.0.number) ∙ e.0.who; due = sym (l.1 l.0.number) ∙ e.0.due }, omega (arith, e.1, l.0.owes)))
        b.jobs
        (some_both (JobLess j) (λ k. j.number ≡ k.number → j.due ≡ k.due) b.jobs (each_at (λ j. Some (JobLess j) b.jobs) j a.jobs h.less.jobs m)
        (each_at (λ j. Each (λ k. j.number ≡ k.number → j.due ≡ k.due) b.jobs) j a.jobs h.due m)))
    go (inr s) =
        hand_of_feeds Is b
        (pairs_some FeedLess (λ f. Is (current_piece a.clock f)) (λ g. Is (current_piece b.clock g))
        (λ f g l e. (record { who = ap feed (sym l.position) ∙ e.0.who; due = (λ i. due (sym l.plan i) (sym h.less.clock i)) ∙ e.0.due }, omega (arith, e.1, l.owes)))
        a.feeds
        b.feeds
        h.less.feeds
        s)
less_wants_less a b h w D (inr (k, x)) =
    inr (
      k,
      pairs_some FeedLess (λ f. WorkOf w D (later_piece a.clock k f) × (1 ≤ f.plan.work)) (λ g. WorkOf w D (later_piece b.clock k g) × (1 ≤ g.plan.work))
          (λ f g l e. (
            record { who = ap feed (sym l.position) ∙ e.0.who; due = (λ i. later_from (sym l.plan i) (sym h.less.clock i) k + (sym l.plan i).lead) ∙ e.0.due },
            omega (arith, e.1, ap (λ p. p.work) l.plan),
          ))
          a.feeds
          b.feeds
          h.less.feeds
          x,
    )

-- so all that the lighter has to do finishes on both before its deadline, and on the lighter no later
pub finishes_on_both : (a b : Book) → Sound a → Sound b → LessAlike a b → (w : Who) (D : ℕ) → Wanted w D a
    → (k : ℕ) × (b.clock + k < D) × Finishes w D k b × FinishesWithin w D k a
finishes_on_both a b sa sb h w D x =
    let (k, early, f) = everybody_finishes b w D sb (less_wants_less a b h w D x) in
    (k, early, f, nobody_finishes_later a b sa sb h w D k x f)
