-- One job and one piece followed over a move: what it owes after the move and the ticks that the move names it for add up to
-- what it owed before.
use mathlib.Core.Path.{◌≡◌, refl, sym, ◌∙◌, ap}
use mathlib.Core.Logic.{◌⊎◌, inl, inr}
use mathlib.Core.Bool.{true, not, cond}
use mathlib.Core.List.{[], ◌∷◌}
use Prim.Native.Nat.{ℕ, zero, suc, ◌+◌, ◌-◌, ◌*◌, ◌≤◌, ◌<◌}
use native.Mathlib.Decide.{dec_lt, ℕ_discrete}
use native.Mathlib.Omega.{arith}
use lib.Dec.{eqb}
use Rattle.lists.specs.Lists.{eq}
use Rattle.edf.specs.Book.{Feed, Job, Book, Who, job, feed, idle, same}
use Rattle.edf.specs.Pieces.{job_piece, current_piece}
use Rattle.edf.specs.Step.{runner, step}
use Rattle.edf.specs.Steps.{steps}
use Rattle.edf.specs.Order.{JobInOrder, InOrder}
use Rattle.edf.specs.Calls.{taking, ending, rest_feed, resting}
use Rattle.edf.specs.Load.{Sound}
use Rattle.edf.specs.Kept.{NotLive}
use Rattle.edf.specs.Runs.{Came}
use Rattle.edf.specs.Kept.{LiveJob, Live, AtPiece, Current}
use Rattle.lists.proofs.Lists.{each_imp, each_at, each_of_total_zero, some_imp, some_pick, some_left, some_map, some_keep}
use Rattle.lists.proofs.Tests.{eqb_elim, eq_refl}
use Rattle.edf.proofs.Names.{same_elim, same_le}
use Rattle.edf.proofs.Sound.{step_is_sound}
use Rattle.edf.proofs.Follow.{Free, ran_now, runner_is, job_step, feed_step, feed_due, hand_job, hand_feed, job_busy, feed_busy}
use Rattle.edf.proofs.Service.{step_clock}
use Rattle.edf.proofs.Moves.{Move, stays, takes, goes, ends, rests, moved, AllTo, OneRunner, Right, gives, Names, steps_clock}

pub still_ahead : (b : Book) (n d o : ℕ) → InOrder b → Live n d o b → (b.clock < d) × (1 ≤ o)
still_ahead b n d o ord l =
    let (j, e, m) = some_pick (LiveJob n d o) b.jobs l in
    let k = each_at (JobInOrder b.clock) j b.jobs ord.jobs m in
    (omega (arith, k.ahead, e.1), omega (arith, k.owes, e.2))

free_not_live : (n : ℕ) (b : Book) → Free n b → NotLive n b
unfolding NotLive
free_not_live n b z =
    each_imp (λ j. eq n j.number ≡ 0) (λ j. j.number ≡ n → ⊥)
    (λ j k e. omega (arith, k, ap (eq n) e, eq_refl n))
    b.jobs
    (each_of_total_zero (λ j. eq n j.number) b.jobs z)

-- the runner that is a live job owes what the job owes, and so with a current piece
job_runner : (b : Book) (n d o : ℕ) → InOrder b → Live n d o b → (runner b).who ≡ job n → (runner b).owes ≡ o
job_runner b n d o ord l w =
    let (j, e, m) = some_pick (LiveJob n d o) b.jobs l in
    ap (λ x. x.owes) (runner_is b (job_piece b.clock j) ord (hand_job b j m) (job_busy j.number) (w ∙ ap job (sym e.0))).0 ∙ e.2

feed_runner : (b : Book) (p d o : ℕ) → InOrder b → Current p d o b → (runner b).who ≡ feed p → (runner b).owes ≡ o
feed_runner b p d o ord l w =
    let (f, e, m) = some_pick (AtPiece b.clock p d o) b.feeds l in
    ap (λ x. x.owes) (runner_is b (current_piece b.clock f) ord (hand_feed b f m) (feed_busy f.position) (w ∙ ap feed (sym e.0))).0 ∙ e.2

-- ticks that all go to one piece never name anyone for longer than he owes
within : (k : ℕ) (b : Book) (w : Who) (o : ℕ) → OneRunner k b → (w ≡ idle → ⊥) → ((runner b).who ≡ w → (runner b).owes ≡ o) → same (runner b).who w * k ≤ o
within k b w o r busy is =
    same_elim (λ x. x * k ≤ o) (runner b).who w
    (λ e. omega (arith, r.owed (λ i. busy (sym e ∙ i)), is e))
    (λ e. omega arith)

-- the ticks after the first go to the same
all_later : (k : ℕ) (w : Who) (b : Book) → AllTo (suc k) w b → AllTo k w (step b)
unfolding steps
all_later k w b a i h = a (suc i) (omega arith)

now_to : (k : ℕ) (w : Who) (b : Book) → AllTo (suc k) w b → (runner b).who ≡ w
unfolding steps
now_to k w b a = a 0 (omega arith)

-- a job that owed o, in the book after a move that named it for g ticks: it is live with the rest, or the last of them was
-- its last and it is out, in time
pub data JobThen (g : ℕ) (b : Book) (n d o : ℕ) : Type 0 where
  live : (o' : ℕ) → Live n d o' b → o' + g ≡ o → JobThen g b n d o
  out : NotLive n b → g ≡ o → b.clock ≤ d → JobThen g b n d o

-- a piece that owed o: it is current with the rest, or its deadline has come and it was named for all it owed
pub data PieceThen (g : ℕ) (b : Book) (p d o : ℕ) : Type 0 where
  current : (o' : ℕ) → Current p d o' b → b.clock < d → o' + g ≡ o → PieceThen g b p d o
  served : d ≤ b.clock → g ≡ o → PieceThen g b p d o

job_over : (k : ℕ) (b : Book) (w : Who) (n d o : ℕ) → Sound b → AllTo k w b → same w (job n) * k ≤ o → Live n d o b
    → JobThen (same w (job n) * k) (steps k b) n d o
unfolding steps
job_over zero b w n d o s a h l = live o l (omega arith)
job_over (suc k) b w n d o s a h l =
    go (λ l'. job_over k (step b) w n d (o - ran_now b (job n)) (step_is_sound b s) (all_later k w b a) (omega (arith, one)) l') (job_step b n d o s.order l)
  where
    one : ran_now b (job n) ≡ same w (job n)
    one = ap (λ v. same v (job n)) (now_to k w b a)

    more : JobThen (same w (job n) * k) (steps k (step b)) n d (o - ran_now b (job n)) → JobThen (same w (job n) * suc k) (steps k (step b)) n d o
    more (live o' l' e) = live o' l' (omega (arith, one))
    more (out f e t) = out f (omega (arith, one)) t

    go : (Live n d (o - ran_now b (job n)) (step b) → JobThen (same w (job n) * k) (steps k (step b)) n d (o - ran_now b (job n)))
        → Live n d (o - ran_now b (job n)) (step b) ⊎ (Free n (step b) × (o ≡ ran_now b (job n)))
        → JobThen (same w (job n) * suc k) (steps k (step b)) n d o
    go ih (inl l') = more (ih l')
    go ih (inr z) =
        let ahead = still_ahead b n d o s.order l in
        let it : same w (job n) ≡ 1 = omega (arith, ahead.1, z.1, one, same_le w (job n)) in
        let none : k ≡ 0 = omega (arith, rw it at h, z.1, one, it) in
        rw none (out (free_not_live n (step b) z.0) (omega (arith, one, z.1)) (omega (arith, step_clock b, ahead.0)))

-- a piece over ticks that all go to w: where its deadline lies among them, it owes nothing after as many as it is named for
piece_over : (k : ℕ) (b : Book) (w : Who) (p d o : ℕ) → Sound b → AllTo k w b → same w (feed p) * k ≤ o → Current p d o b → b.clock < d
    → PieceThen (same w (feed p) * k) (steps k b) p d o
unfolding steps
piece_over zero b w p d o s a h l t = current o l t (omega arith)
piece_over (suc k) b w p d o s a h l t =
    go (dec_lt (suc b.clock) d)
    (λ q. piece_over k (step b) w p d (o - ran_now b (feed p)) (step_is_sound b s) (all_later k w b a) (omega (arith, one)) (feed_step b p d o s.order l q) (omega (arith, step_clock b)))
  where
    one : ran_now b (feed p) ≡ same w (feed p)
    one = ap (λ v. same v (feed p)) (now_to k w b a)

    more : PieceThen (same w (feed p) * k) (steps k (step b)) p d (o - ran_now b (feed p)) → PieceThen (same w (feed p) * suc k) (steps k (step b)) p d o
    more (current o' l' q e) = current o' l' q (omega (arith, one))
    more (served q e) = served q (omega (arith, one))

    go : Dec (suc b.clock < d) → (suc b.clock < d → PieceThen (same w (feed p) * k) (steps k (step b)) p d (o - ran_now b (feed p)))
        → PieceThen (same w (feed p) * suc k) (steps k (step b)) p d o
    go (yes q) ih = more (ih q)
    go (no q) ih =
        let all : o ≡ ran_now b (feed p) = feed_due b p d o s l (omega arith) in
        served (omega (arith, steps_clock k (step b), step_clock b)) (omega (arith, all, one, h))

live_taking : (n d o : ℕ) (b : Book) (j : Job) → Live n d o b → Live n d o (taking j b)
unfolding taking
live_taking n d o b j l = some_left (LiveJob n d o) b.jobs (j ∷ []) l

live_ending : (n d o m : ℕ) (b : Book) → (n ≡ m → ⊥) → Live n d o b → Live n d o (ending m b)
unfolding ending
live_ending n d o m b h l =
    some_keep (LiveJob n d o) (λ j. not (eqb m j.number)) b.jobs
    (some_imp (LiveJob n d o) (λ j. LiveJob n d o j × (not (eqb m j.number) ≡ true)) stand b.jobs l)
  where
    stand : (j : Job) → LiveJob n d o j → LiveJob n d o j × (not (eqb m j.number) ≡ true)
    stand j e = (e, eqb_elim (λ x. not x ≡ true) m j.number (λ p. absurd (h (sym (p ∙ e.0)))) (λ p. refl))

current_resting : (p d o q : ℕ) (b : Book) → (p ≡ q → ⊥) → Current p d o b → Current p d o (resting q b)
unfolding resting
current_resting p d o q b h l =
    some_map (AtPiece b.clock p d o) (rest_feed q) b.feeds
    (some_imp (AtPiece b.clock p d o) (λ f. AtPiece b.clock p d o (rest_feed q f)) stand b.feeds l)
  where
    stand : (f : Feed) → AtPiece b.clock p d o f → AtPiece b.clock p d o (rest_feed q f)
    stand f e = (e.0, e.1, eqb_elim (λ x. cond x 0 f.owes ≡ o) q f.position (λ z. absurd (h (sym (z ∙ e.0)))) (λ z. e.2))

-- A JOB OVER ANY MOVE, but one that ends it
pub job_moved : (m : Move) (b : Book) (n d o : ℕ) → Sound b → Right m b → Live n d o b → JobThen (gives m b (job n)) (moved m b) n d o ⊎ (m ≡ ends n)
unfolding moved Right gives resting
job_moved stays b n d o s r l = inl (live o l (omega arith))
job_moved (takes j) b n d o s r l = inl (live o (live_taking n d o b j l) (omega arith))
job_moved (goes k) b n d o s r l =
    inl (job_over k b (runner b).who n d o s r.same (within k b (job n) o r (job_busy n) (job_runner b n d o s.order l)) l)
job_moved (ends m) b n d o s r l = go (ℕ_discrete n m)
  where
    go : Dec (n ≡ m) → JobThen 0 (ending m b) n d o ⊎ (ends m ≡ ends n)
    go (yes e) = inr (ap ends (sym e))
    go (no e) = inl (live o (live_ending n d o m b e l) (omega arith))
job_moved (rests p) b n d o s r l = inl (live o l (omega arith))

-- A PIECE OVER ANY MOVE, but one that rests it
pub piece_moved : (m : Move) (b : Book) (p d o : ℕ) → Sound b → Right m b → Current p d o b → b.clock < d
    → PieceThen (gives m b (feed p)) (moved m b) p d o ⊎ (m ≡ rests p)
unfolding moved Right gives taking ending resting
piece_moved stays b p d o s r l t = inl (current o l t (omega arith))
piece_moved (takes j) b p d o s r l t = inl (current o l t (omega arith))
piece_moved (goes k) b p d o s r l t =
    inl (piece_over k b (runner b).who p d o s r.same (within k b (feed p) o r (feed_busy p) (feed_runner b p d o s.order l)) l t)
piece_moved (ends m) b p d o s r l t = inl (current o l t (omega arith))
piece_moved (rests q) b p d o s r l t = go (ℕ_discrete p q)
  where
    go : Dec (p ≡ q) → PieceThen 0 (resting q b) p d o ⊎ (rests q ≡ rests p)
    go (yes e) = inr (ap rests (sym e))
    go (no e) = inl (current o (current_resting p d o q b e l) t (omega arith))

-- WHAT IS TOLD AS STILL OWED, with the ticks just named for, is what was owed before them
told : {S : Type 0} (m : Move) (b : Book) (c : Came S) (w : Who) (o : ℕ) → Right m b → Names m b c → (w ≡ idle → ⊥) → ((runner b).who ≡ w → (runner b).owes ≡ o)
    → c.who ≡ w → 1 ≤ c.ticks → c.owes + c.ticks ≡ o
unfolding Right Names
told stays b c w o r e busy is v h = absurd (omega arith)
told (takes j) b c w o r e busy is v h = absurd (omega arith)
told (goes k) b c w o r e busy is v h =
    let i : (runner b).who ≡ w = sym e.1 ∙ v in
    omega (arith, e.0, e.2, r.owed (λ z. busy (sym i ∙ z)), is i)
told (ends n) b c w o r e busy is v h = absurd (omega arith)
told (rests p) b c w o r e busy is v h = absurd (omega arith)

pub job_told : {S : Type 0} (m : Move) (b : Book) (c : Came S) (n d o : ℕ) → Sound b → Right m b → Names m b c → Live n d o b
    → c.who ≡ job n → 1 ≤ c.ticks → c.owes + c.ticks ≡ o
job_told m b c n d o s r e l = told m b c (job n) o r e (job_busy n) (job_runner b n d o s.order l)

pub piece_told : {S : Type 0} (m : Move) (b : Book) (c : Came S) (p d o : ℕ) → Sound b → Right m b → Names m b c → Current p d o b
    → c.who ≡ feed p → 1 ≤ c.ticks → c.owes + c.ticks ≡ o
piece_told m b c p d o s r e l = told m b c (feed p) o r e (feed_busy p) (feed_runner b p d o s.order l)
