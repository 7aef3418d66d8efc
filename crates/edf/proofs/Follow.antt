-- One job and one piece followed over a step: what it owes after the step and whether the step named it add up to what it
-- owed before.
use mathlib.Core.Path.{◌≡◌, refl, sym, ◌∙◌, ap, subst}
use mathlib.Core.Logic.{◌⊎◌, inl, inr}
use mathlib.Core.Bool.{true}
use mathlib.Core.List.{map}
use Prim.Native.Nat.{ℕ, suc, ◌-◌, ◌*◌, ◌≤◌, ◌<◌}
use native.Mathlib.Decide.{dec_le}
use native.Mathlib.Omega.{arith}
use lib.Dec.{ltb}
use Rattle.lists.specs.Lists.{eq, total, Each, Some}
use Rattle.edf.specs.Book.{Feed, Job, Book, Who, job, feed, idle, same}
use Rattle.edf.specs.Releases.{due}
use Rattle.edf.specs.Pieces.{Piece, job_piece, current_piece, at_hand}
use Rattle.edf.specs.Step.{foremost, runner, serve_job, serve_feed, serve, turn_feed, turn, step_by, step}
use Rattle.edf.specs.Order.{FeedInOrder, InOrder}
use Rattle.edf.specs.Kept.{LiveJob, Live, AtPiece, Current}
use Rattle.lists.proofs.Lists.{each_at, some_imp, some_both, some_get, some_left, some_right, some_map, some_of_map, some_keep, some_of_keep, some_once, some_pick, some_or_each, total_zero}
use Rattle.lists.proofs.Tests.{ltb_says, ltb-true, eq_elim, eq_refl}
use Rattle.edf.proofs.Names.{same_elim, same_refl}
use Rattle.edf.proofs.Releases.{Onward, since_suc}
use Rattle.edf.proofs.Demand.{turned_kept}
use Rattle.edf.proofs.Runner.{Best, Nothing, foremost_best, runner_edf}
use Rattle.edf.specs.Load.{Sound}
use Rattle.edf.proofs.Sound.{served_due}
use Rattle.edf.proofs.Counted.{once}

-- the runner, where it is the owner of a piece at hand, is that piece, and ready
pub runner_is : (b : Book) (p : Piece) → InOrder b → Some (λ x. x ≡ p) (at_hand b) → (p.who ≡ idle → ⊥)
    → (runner b).who ≡ p.who → (runner b ≡ p) × (0 < p.owes)
unfolding runner
runner_is b p o s busy e = go (foremost_best (at_hand b))
  where
    r : Piece
    r = foremost (at_hand b)

    weight : (q : Piece) → q.who ≡ p.who → (x : Piece) → x ≡ q → 1 ≤ same p.who x.who
    weight q f x g = rw (ap (λ y. y.who) g ∙ f) (omega (arith, same_refl p.who))

    go : Best (at_hand b) r ⊎ Nothing (at_hand b) r → (r ≡ p) × (0 < p.owes)
    go (inl h) =
        let z : r ≡ p
        = some_get (λ x. (x ≡ r) × (x ≡ p)) (r ≡ p) (λ x k. sym k.0 ∙ k.1) (at_hand b)
        (some_once (λ x. same p.who x.who) (λ x. x ≡ r) (λ x. x ≡ p) (weight r e) (weight p refl) (at_hand b) (once b o p.who) h.0 s) in
        (z, subst (λ x. 0 < x.owes) z h.1)
    go (inr h) = absurd (busy (sym e ∙ ap (λ x. x.who) h.0))

-- the tick names a piece by owner alone as often as by owner and deadline, and never more often than it owes
pub named_once : (b : Book) (p : Piece) → InOrder b → Some (λ x. x ≡ p) (at_hand b) → (p.who ≡ idle → ⊥)
    → (same (runner b).who p.who * eq (runner b).due p.due ≡ same (runner b).who p.who)
    × (same (runner b).who p.who ≤ p.owes)
named_once b p o s busy =
    same_elim (λ k. (k * eq (runner b).due p.due ≡ k) × (k ≤ p.owes)) (runner b).who p.who
    (λ e. let z = runner_is b p o s busy e in (omega (arith, one z.0), z.1))
    (λ e. (omega arith, omega arith))
  where
    one : runner b ≡ p → eq (runner b).due p.due ≡ 1
    one z = rw (ap (λ x. x.due) z) (eq_refl p.due)

pub job_busy : (n : ℕ) → job n ≡ idle → ⊥
job_busy n e = let k : ◌≡◌ {A = ℕ} 0 1 = cc in omega arith

pub feed_busy : (n : ℕ) → feed n ≡ idle → ⊥
feed_busy n e = let k : ◌≡◌ {A = ℕ} 0 1 = cc in omega arith

pub hand_job : (b : Book) (j : Job) → Some (λ k. k ≡ j) b.jobs → Some (λ x. x ≡ job_piece b.clock j) (at_hand b)
hand_job b j s =
    some_left (λ x. x ≡ job_piece b.clock j) (map (job_piece b.clock) b.jobs) (map (current_piece b.clock) b.feeds)
    (some_map (λ x. x ≡ job_piece b.clock j) (job_piece b.clock) b.jobs
    (some_imp (λ k. k ≡ j) (λ k. job_piece b.clock k ≡ job_piece b.clock j) (λ k e. ap (job_piece b.clock) e) b.jobs s))

pub hand_feed : (b : Book) (f : Feed) → Some (λ g. g ≡ f) b.feeds → Some (λ x. x ≡ current_piece b.clock f) (at_hand b)
hand_feed b f s =
    some_right (λ x. x ≡ current_piece b.clock f) (map (job_piece b.clock) b.jobs) (map (current_piece b.clock) b.feeds)
    (some_map (λ x. x ≡ current_piece b.clock f) (current_piece b.clock) b.feeds
    (some_imp (λ g. g ≡ f) (λ g. current_piece b.clock g ≡ current_piece b.clock f) (λ g e. ap (current_piece b.clock) e) b.feeds s))

-- a job of the book is live as it stands, and a feed's piece is current
pub live_here : (b : Book) (j : Job) → Some (λ k. k ≡ j) b.jobs → Live j.number j.due j.owes b
live_here b j =
    some_imp (λ k. k ≡ j) (LiveJob j.number j.due j.owes) (λ k e. (ap (λ x. x.number) e, ap (λ x. x.due) e, ap (λ x. x.owes) e)) b.jobs

pub current_here : (b : Book) (f : Feed) → Some (λ g. g ≡ f) b.feeds → Current f.position (due f.plan b.clock) f.owes b
current_here b f =
    some_imp (λ g. g ≡ f) (AtPiece b.clock f.position (due f.plan b.clock) f.owes) (λ g e. (ap (λ x. x.position) e, ap (λ x. due x.plan b.clock) e, ap (λ x. x.owes) e)) b.feeds

-- the number is free
abbrev pub Free : ℕ → Book → Type 0
Free n b = total (λ j. eq n j.number) b.jobs ≡ 0

-- what the step names: 1 for its runner
abbrev pub ran_now : Book → Who → ℕ
ran_now b w = same (runner b).who w

-- of a piece as it is followed, by owner, deadline and what it owes
named_as : (b : Book) (p : Piece) (w : Who) (d o : ℕ) → p.who ≡ w → p.due ≡ d → p.owes ≡ o → (w ≡ idle → ⊥) → InOrder b → Some (λ x. x ≡ p) (at_hand b)
    → (ran_now b w * eq (runner b).due d ≡ ran_now b w) × (ran_now b w ≤ o)
named_as b p w d o x y z busy ord m = rw (sym x, sym y, sym z) (named_once b p ord m (λ e. busy (sym x ∙ e)))

pub job_named : (b : Book) (n d o : ℕ) → InOrder b → Live n d o b
    → (ran_now b (job n) * eq (runner b).due d ≡ ran_now b (job n)) × (ran_now b (job n) ≤ o)
job_named b n d o ord l =
    let (j, e, m) = some_pick (LiveJob n d o) b.jobs l in
    named_as b (job_piece b.clock j) (job n) d o (ap job e.0) e.1 e.2 (job_busy n) ord (hand_job b j m)

pub feed_named : (b : Book) (p d o : ℕ) → InOrder b → Current p d o b
    → (ran_now b (feed p) * eq (runner b).due d ≡ ran_now b (feed p)) × (ran_now b (feed p) ≤ o)
feed_named b p d o ord l =
    let (f, e, m) = some_pick (AtPiece b.clock p d o) b.feeds l in
    named_as b (current_piece b.clock f) (feed p) d o (ap feed e.0) e.1 e.2 (feed_busy p) ord (hand_feed b f m)

-- one that owes all that the tick gives leaves, and its number is free
left_is_free : (b : Book) (n d o : ℕ) → InOrder b → Live n d o b → o ≡ ran_now b (job n) → Free n (step b)
unfolding step step_by turn serve
left_is_free b n d o ord l z =
    go (some_or_each (λ j. j.number ≡ n) (λ j. eq n j.number ≡ 0) number_or_not (step b).jobs)
  where
    number_or_not : (j : Job) → (j.number ≡ n) ⊎ (eq n j.number ≡ 0)
    number_or_not j = eq_elim (λ k. (j.number ≡ n) ⊎ (k ≡ 0)) n j.number (λ e. inl (sym e)) (λ e. inr refl)

    Stays : Job → Type 0
    Stays j = (j.number ≡ n) × (1 ≤ j.owes - same (runner b).who (job j.number))

    stayed : Some (λ j. j.number ≡ n) (step b).jobs → Some Stays b.jobs
    stayed s =
        some_imp (λ j. (j.number ≡ n) × (ltb 0 (j.owes - same (runner b).who (job j.number)) ≡ true)) Stays
        (λ j h. (h.0, ltb_says 0 (j.owes - same (runner b).who (job j.number)) h.1))
        b.jobs
        (some_of_map (λ j. (j.number ≡ n) × (ltb 0 j.owes ≡ true)) (serve_job (runner b).who) b.jobs
        (some_of_keep (λ j. j.number ≡ n) (λ j. ltb 0 j.owes) (map (serve_job (runner b).who) b.jobs) s))

    weight : (j : Job) → j.number ≡ n → 1 ≤ eq n j.number
    weight j e = rw e (omega (arith, eq_refl n))

    none : (j : Job) → LiveJob n d o j × Stays j → ⊥
    none j h = omega (arith, h.1.1, h.0.2, z, ap (λ k. same (runner b).who (job k)) h.0.0)

    go : Some (λ j. j.number ≡ n) (step b).jobs ⊎ Each (λ j. eq n j.number ≡ 0) (step b).jobs → Free n (step b)
    go (inl s) =
        absurd
        (some_get (λ j. LiveJob n d o j × Stays j) ⊥ none b.jobs
        (some_once (λ j. eq n j.number) (LiveJob n d o) Stays (λ j h. weight j h.0) (λ j h. weight j h.0) b.jobs (ord.numbers n) l (stayed s)))
    go (inr h) = total_zero (λ j. eq n j.number) (step b).jobs h

-- a job over a step: it stays with what it then owes, or this step gave its last tick and it has left
pub job_step : (b : Book) (n d o : ℕ) → InOrder b → Live n d o b
    → Live n d (o - ran_now b (job n)) (step b) ⊎ (Free n (step b) × (o ≡ ran_now b (job n)))
unfolding step step_by turn serve
job_step b n d o ord l = go (dec_le 1 (o - ran_now b (job n)))
  where
    g : Who
    g = (runner b).who

    served : (j : Job) → LiveJob n d o j → 1 ≤ o - ran_now b (job n) → LiveJob n d (o - ran_now b (job n)) (serve_job g j) × (ltb 0 (serve_job g j).owes ≡ true)
    served j e h =
        let z : j.owes - same g (job j.number) ≡ o - same g (job n) = rw (e.0, e.2) refl in
        ((e.0, e.1, z), rw z (ltb-true 0 (o - same g (job n)) h))

    go : Dec (1 ≤ o - ran_now b (job n)) → Live n d (o - ran_now b (job n)) (step b) ⊎ (Free n (step b) × (o ≡ ran_now b (job n)))
    go (yes h) =
        inl
        (some_keep (LiveJob n d (o - ran_now b (job n))) (λ j. ltb 0 j.owes) (map (serve_job g) b.jobs)
        (some_map (λ j. LiveJob n d (o - ran_now b (job n)) j × (ltb 0 j.owes ≡ true)) (serve_job g) b.jobs
        (some_imp (LiveJob n d o) (λ j. LiveJob n d (o - ran_now b (job n)) (serve_job g j) × (ltb 0 (serve_job g j).owes ≡ true)) (λ j e. served j e h) b.jobs l)))
    go (no h) =
        let z : o ≡ ran_now b (job n) = omega (arith, (job_named b n d o ord l).1) in
        inr (left_is_free b n d o ord l z, z)

-- a piece over a step that its deadline is beyond
pub feed_step : (b : Book) (p d o : ℕ) → InOrder b → Current p d o b → suc b.clock < d → Current p d (o - ran_now b (feed p)) (step b)
unfolding step step_by turn serve
feed_step b p d o ord l h =
    some_map (AtPiece t' p d o') (turn_feed t') (map (serve_feed g) b.feeds)
    (some_map (λ f. AtPiece t' p d o' (turn_feed t' f)) (serve_feed g) b.feeds
    (some_imp (λ f. AtPiece b.clock p d o f × FeedInOrder b.clock f) (λ f. AtPiece t' p d o' (turn_feed t' (serve_feed g f))) moves b.feeds
    (some_both (AtPiece b.clock p d o) (FeedInOrder b.clock) b.feeds l ord.feeds)))
  where
    g : Who
    g = (runner b).who

    t' : ℕ
    t' = suc b.clock

    o' : ℕ
    o' = o - ran_now b (feed p)

    moves : (f : Feed) → AtPiece b.clock p d o f × FeedInOrder b.clock f → AtPiece t' p d o' (turn_feed t' (serve_feed g f))
    moves f (e, k) = go (since_suc f.plan b.clock k.plan.offset)
      where
        go : Onward f.plan b.clock → AtPiece t' p d o' (turn_feed t' (serve_feed g f))
        go (inl q) =
            let z : f.owes - same g (feed f.position) ≡ o' = rw (e.0, e.2) refl in
            (e.0, omega (arith, e.1, q.1), turned_kept t' (serve_feed g f) (omega (arith, q.1)) (omega (arith, e.1, q.1)) ∙ z)
        go (inr q) = absurd (omega (arith, e.1, q.0, k.plan.short))

-- a piece over the step that ends at its deadline has got its last tick
pub feed_due : (b : Book) (p d o : ℕ) → Sound b → Current p d o b → d ≤ suc b.clock → o ≡ ran_now b (feed p)
feed_due b p d o s l h =
    let (f, e, m) = some_pick (AtPiece b.clock p d o) b.feeds l in
    let z = each_at (λ k. due k.plan b.clock ≤ suc b.clock → k.owes - same (runner b).who (feed k.position) ≡ 0) f b.feeds
    (served_due b (runner b).who s (runner_edf b)).1
    m
    (omega (arith, e.1)) in
    let y : f.owes - same (runner b).who (feed f.position) ≡ o - ran_now b (feed p) = rw (e.0, e.2) refl in
    omega (arith, z, y, (feed_named b p d o s.order l).1)
