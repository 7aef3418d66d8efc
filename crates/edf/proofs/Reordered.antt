-- The order of the jobs is not seen: not by what is owed, not by fits, not by the choice, not by the step, nor by any other
-- call.
use mathlib.Core.Path.{◌≡◌, refl, sym, ap, subst, ◌∙◌}
use mathlib.Core.Logic.{◌⊎◌, inl, inr}
use mathlib.Core.Bool.{not}
use mathlib.Core.List.{List, [], ◌∷◌, map}
use Prim.Native.Nat.{ℕ, suc, ◌+◌, ◌-◌, ◌≤◌, ◌<◌}
use native.Mathlib.Omega.{arith}
use lib.Dec.{T, ltb, eqb}
use Rattle.lists.specs.Lists.{eq, total, Each, Some, keep, SameElements}
use Rattle.lists.proofs.Tests.{eq_refl, eq_is, eq_le}
use Rattle.lists.proofs.Lists.{each_at}
use Rattle.lists.proofs.Same.{some_same, each_same, same_sym, same_append, same_map, same_keep}
use Rattle.edf.specs.Book.{Job, Book, idle}
use Rattle.edf.specs.Pieces.{Piece, job_piece, current_piece, at_hand}
use Rattle.edf.specs.Fits.{Fits, Served}
use Rattle.edf.specs.Owed.{due_by, owed_by, Room}
use Rattle.edf.specs.Step.{sooner, runner, foremost, serve_job, serve_feed, serve, turn_feed, turn, step_by, step}
use Rattle.edf.specs.Calls.{taking, ending, rest_feed, resting}
use Rattle.edf.specs.Order.{JobInOrder, InOrder}
use Rattle.edf.specs.Load.{Sound}
use Rattle.edf.specs.Margin.{FirstOverbooked, Tightest, Telling}
use Rattle.edf.specs.Kept.{LiveJob, Live, NotLive, Current}
use Rattle.edf.specs.Reordered.{Reordered}
use Rattle.edf.proofs.Tick.{hand_each, hand_jobs, hand_feeds, owed_by_split}
use Rattle.edf.proofs.Runner.{Best, Nothing, foremost_best, runner_unique}
use Rattle.edf.proofs.Follow.{runner_is}
use Rattle.edf.proofs.Wanted.{hand_either, hand_of_jobs, hand_of_feeds, hand_busy}

-- jobs are told apart by all that is said of them: 1 where number, owes and due are the same, 0 otherwise
is_job : Job → Job → ℕ
is_job j k = eq j.number k.number + eq j.owes k.owes + eq j.due k.due - 2

own_job : (j : Job) → 1 ≤ is_job j j
unfolding is_job
own_job j = omega (arith, eq_refl j.number, eq_refl j.owes, eq_refl j.due)

same_job : (j k : Job) → 1 ≤ is_job j k → k ≡ j
unfolding is_job
same_job j k h =
    let a = eq_le j.number k.number in
    let b = eq_le j.owes k.owes in
    let c = eq_le j.due k.due in
    λ i. record {
      number = sym (eq_is j.number k.number (omega (arith, h, a, b, c))) i;
      owes = sym (eq_is j.owes k.owes (omega (arith, h, a, b, c))) i;
      due = sym (eq_is j.due k.due (omega (arith, h, a, b, c))) i;
    }

module _ (b : Book) (js : List Job) (e : SameElements b.jobs js) where
  -- the book with these jobs
  abbrev c : Book
  c = record { clock = b.clock; feeds = b.feeds; jobs = js }

  each_job : (P : Job → Type 0) → Each P b.jobs → Each P js
  each_job P = each_same is_job own_job same_job P b.jobs js e

  some_job : (P : Job → Type 0) → Some P b.jobs → Some P js
  some_job P = some_same is_job own_job same_job P b.jobs js e

  -- what is at hand
  each_at_hand : (P : Piece → Type 0) → Each P (at_hand b) → Each P (at_hand c)
  each_at_hand P h = hand_each P c (each_job (λ j. P (job_piece b.clock j)) (hand_jobs P b h)) (hand_feeds P b h)

  some_at_hand : (P : Piece → Type 0) → Some P (at_hand b) → Some P (at_hand c)
  some_at_hand P h = go (hand_either P b h)
    where
      go : Some (λ j. P (job_piece b.clock j)) b.jobs ⊎ Some (λ f. P (current_piece b.clock f)) b.feeds → Some P (at_hand c)
      go (inl s) = hand_of_jobs P c (some_job (λ j. P (job_piece b.clock j)) s)
      go (inr s) = hand_of_feeds P c s

  owed_same : (D : ℕ) → owed_by b D ≡ owed_by c D
  owed_same D = omega (arith, owed_by_split b D, owed_by_split c D, e (λ j. due_by D (job_piece b.clock j)))

  order_same : InOrder b → InOrder c
  order_same o =
      record {
        feeds = o.feeds;
        jobs = each_job (JobInOrder b.clock) o.jobs;
        positions = o.positions;
        numbers = λ n. omega (arith, e (λ j. eq n j.number), o.numbers n);
      }

  sound_same : Sound b → Sound c
  unfolding Room
  sound_same s = record { order = order_same s.order; room = λ D h. omega (arith, owed_same D, s.room D h); light = s.light }

  fits_same : Fits b → Fits c
  unfolding Fits
  fits_same f F h =
      let (choice, serves) = f F h in
      (choice, record { hand = each_at_hand (Served F choice) serves.hand; later = serves.later })

  -- the runner is at hand in both, and goes before all that is ready
  runner_same : InOrder b → runner c ≡ runner b
  unfolding runner
  runner_same o = go (foremost_best (at_hand b)) (foremost_best (at_hand c))
    where
      r : Piece
      r = foremost (at_hand b)

      q : Piece
      q = foremost (at_hand c)

      go : Best (at_hand b) r ⊎ Nothing (at_hand b) r → Best (at_hand c) q ⊎ Nothing (at_hand c) q → q ≡ r
      go (inl h) k =
          let there = some_at_hand (λ x. x ≡ r) h.0 in
          let best : Best (at_hand c) r = (there, h.1, each_at_hand (λ x. 0 < x.owes → T (sooner r x)) h.2) in
          (runner_is c r (order_same o) there (each_at (λ x. x.who ≡ idle → ⊥) r (at_hand c) (hand_busy c) there) (sym (runner_unique c r best).0)).0
      go (inr h) (inl k) = absurd (omega (arith, k.1, each_at (λ x. x.owes ≡ 0) q (at_hand c) (each_at_hand (λ x. x.owes ≡ 0) h.1) k.0))
      go (inr h) (inr k) = k.0 ∙ sym h.0

-- a book that is another but for the order of its jobs has that one's clock and feeds
reads : (b c : Book) → Reordered b c → record { clock = b.clock; feeds = b.feeds; jobs = c.jobs } ≡ c
reads b c r = λ i. record { clock = r.clock i; feeds = r.feeds i; jobs = c.jobs }

pub reordered_refl : (b : Book) → Reordered b b
reordered_refl b = record { clock = refl; feeds = refl; jobs = λ f. refl }

pub reordered_sym : (b c : Book) → Reordered b c → Reordered c b
reordered_sym b c r = record { clock = sym r.clock; feeds = sym r.feeds; jobs = same_sym b.jobs c.jobs r.jobs }

pub reordered_trans : (a b c : Book) → Reordered a b → Reordered b c → Reordered a c
reordered_trans a b c r s = record { clock = r.clock ∙ s.clock; feeds = r.feeds ∙ s.feeds; jobs = λ f. r.jobs f ∙ s.jobs f }

pub reordered_is : (b c : Book) → b ≡ c → Reordered b c
reordered_is b c e = subst (Reordered b) e (reordered_refl b)

module _ (b c : Book) (r : Reordered b c) where
  abbrev read : record { clock = b.clock; feeds = b.feeds; jobs = c.jobs } ≡ c
  read = reads b c r

  -- WHAT IS OWED, IN ORDER, SOUND, FITS
  pub reordered_owed : (D : ℕ) → owed_by b D ≡ owed_by c D
  reordered_owed D = owed_same b c.jobs r.jobs D ∙ ap (λ x. owed_by x D) read

  pub reordered_order : InOrder b → InOrder c
  reordered_order o = subst InOrder read (order_same b c.jobs r.jobs o)

  pub reordered_sound : Sound b → Sound c
  reordered_sound s = subst Sound read (sound_same b c.jobs r.jobs s)

  pub reordered_fits : Fits b → Fits c
  reordered_fits f = subst Fits read (fits_same b c.jobs r.jobs f)

  -- THE INSTANT THAT A CUSTOMER IS TOLD OF
  pub reordered_overbooked : (D : ℕ) → FirstOverbooked b D → FirstOverbooked c D
  reordered_overbooked D t =
      record {
        after = omega (arith, t.after, r.clock);
        short = omega (arith, t.short, r.clock, reordered_owed D);
        before = λ E h l. omega (arith, t.before E (omega (arith, h, r.clock)) l, r.clock, reordered_owed E);
      }

  pub reordered_tightest : (D : ℕ) → Tightest b D → Tightest c D
  unfolding Room
  reordered_tightest D t =
      record {
        after = omega (arith, t.after, r.clock);
        room = λ E h. omega (arith, t.room E (omega (arith, h, r.clock)), r.clock, reordered_owed E);
        least = λ E h. omega (arith, t.least E (omega (arith, h, r.clock)), reordered_owed E, reordered_owed D);
        first = λ E h l. omega (arith, t.first E (omega (arith, h, r.clock)) l, reordered_owed E, reordered_owed D);
      }

  pub reordered_telling : (D : ℕ) → Telling b D → Telling c D
  reordered_telling D (inl t) = inl (reordered_overbooked D t)
  reordered_telling D (inr t) = inr (reordered_tightest D t)

  -- A JOB THAT IS LIVE, A NUMBER THAT IS FREE, A CURRENT PIECE
  pub reordered_live : (n d o : ℕ) → Live n d o b → Live n d o c
  reordered_live n d o l = some_job b c.jobs r.jobs (LiveJob n d o) l

  pub reordered_not_live : (n : ℕ) → NotLive n b → NotLive n c
  unfolding NotLive
  reordered_not_live n l = each_job b c.jobs r.jobs (λ j. j.number ≡ n → ⊥) l

  pub reordered_current : (p d o : ℕ) → Current p d o b → Current p d o c
  reordered_current p d o l = subst (Current p d o) read l

  -- THE CHOICE AND THE STEP
  pub reordered_runner : InOrder b → runner c ≡ runner b
  reordered_runner o = ap runner (sym read) ∙ runner_same b c.jobs r.jobs o

  pub reordered_step : InOrder b → Reordered (step b) (step c)
  unfolding step step_by turn serve
  reordered_step o =
      let who = ap (λ p. p.who) (reordered_runner o) in
      record {
        clock = ap suc r.clock;
        feeds = λ i. map (turn_feed (suc (r.clock i))) (map (serve_feed (sym who i)) (r.feeds i));
        jobs = λ f. same_keep (λ j. ltb 0 j.owes) (map (serve_job (runner b).who) b.jobs) (map (serve_job (runner b).who) c.jobs) (same_map (serve_job (runner b).who) b.jobs c.jobs r.jobs) f
            ∙ ap (λ g. total f (keep (λ j. ltb 0 j.owes) (map (serve_job g) c.jobs))) (sym who);
      }

  -- THE OTHER CALLS
  pub reordered_taking : (j : Job) → Reordered (taking j b) (taking j c)
  unfolding taking
  reordered_taking j = record { clock = r.clock; feeds = r.feeds; jobs = same_append b.jobs c.jobs (j ∷ []) r.jobs }

  pub reordered_ending : (n : ℕ) → Reordered (ending n b) (ending n c)
  unfolding ending
  reordered_ending n = record { clock = r.clock; feeds = r.feeds; jobs = same_keep (λ j. not (eqb n j.number)) b.jobs c.jobs r.jobs }

  pub reordered_resting : (p : ℕ) → Reordered (resting p b) (resting p c)
  unfolding resting
  reordered_resting p = record { clock = r.clock; feeds = ap (map (rest_feed p)) r.feeds; jobs = r.jobs }
