-- A job taken, a job ended and a feed rested leave a sound book sound.
use mathlib.Core.Path.{◌≡◌, sym, subst}
use mathlib.Core.Bool.{true, not, cond}
use mathlib.Core.List.{[], ◌∷◌}
use Prim.Native.Nat.{ℕ, ◌+◌, ◌≤◌}
use native.Mathlib.Nat.{le_refl, le_trans}
use native.Mathlib.Omega.{arith}
use lib.Dec.{eqb}
use Rattle.lists.specs.Lists.{eq, total}
use Rattle.edf.specs.Book.{Feed, Job, Book}
use Rattle.edf.specs.Releases.{due}
use Rattle.edf.specs.Pieces.{job_piece}
use Rattle.edf.specs.Fits.{Fits}
use Rattle.edf.specs.Owed.{owed_by, due_by, Room}
use Rattle.edf.specs.Order.{FeedInOrder, JobInOrder, InOrder}
use Rattle.edf.specs.Calls.{taking, ending, rest_feed, resting, Askable}
use Rattle.lists.proofs.Lists.{each_imp, each_append, each_map, each_keep, total_le_all, total_append, total_map, total_keep_le}
use Rattle.lists.proofs.Tests.{eqb_elim, eq_elim}
use Rattle.edf.proofs.Demand.{by_then_less, feed_owes}
use Rattle.edf.proofs.Tick.{owed_by_split}
use Rattle.edf.specs.Load.{Light, Sound}
use Rattle.edf.proofs.Plans.{resting_keeps_plans}
use Rattle.edf.proofs.Counted.{fits_has_room}

pub taking_in_order : (b : Book) (j : Job) → InOrder b → Askable b j → InOrder (taking j b)
unfolding taking
taking_in_order b j o a =
    record {
      feeds = o.feeds;
      jobs = each_append (JobInOrder b.clock) b.jobs (j ∷ []) o.jobs (a.sound, tt);
      positions = o.positions;
      numbers = λ n. omega (arith, total_append (λ k. eq n k.number) b.jobs (j ∷ []), free n);
    }
  where
    -- a number that two may have is the new one's, and that one was free
    free : (n : ℕ) → total (λ k. eq n k.number) b.jobs + eq n j.number ≤ 1
    free n =
        eq_elim (λ e. total (λ k. eq n k.number) b.jobs + e ≤ 1) n j.number
        (λ p. rw p (omega (arith, a.free)))
        (λ p. omega (arith, o.numbers n))

pub taking_is_sound : (b : Book) (j : Job) → Sound b → Askable b j → Fits (taking j b) → Sound (taking j b)
unfolding taking
taking_is_sound b j s a f =
    record { order = taking_in_order b j s.order a; room = fits_has_room (taking j b) (taking_in_order b j s.order a) f; light = s.light }

-- an end and a rest leave no more owed by any instant
pub ending_owes : (b : Book) (n D : ℕ) → owed_by (ending n b) D ≤ owed_by b D
unfolding ending
ending_owes b n D =
    omega (
      arith,
      owed_by_split (ending n b) D,
      owed_by_split b D,
      total_keep_le (λ j. due_by D (job_piece b.clock j)) (λ j. not (eqb n j.number)) b.jobs,
    )

pub ending_is_sound : (b : Book) (n : ℕ) → Sound b → Sound (ending n b)
unfolding ending Room
ending_is_sound b n s =
    record {
      order = record {
        feeds = s.order.feeds;
        jobs = each_keep (JobInOrder b.clock) (λ j. not (eqb n j.number)) b.jobs (each_imp (JobInOrder b.clock) (λ j. not (eqb n j.number) ≡ true → JobInOrder b.clock j) (λ j h e. h) b.jobs s.order.jobs);
        positions = s.order.positions;
        numbers = λ m. le_trans (total_keep_le (λ j. eq m j.number) (λ j. not (eqb n j.number)) b.jobs) (s.order.numbers m);
      };
      room = λ D h. omega (arith, ending_owes b n D, s.room D h);
      light = s.light;
    }

rested_le : (p : ℕ) (f : Feed) → (rest_feed p f).owes ≤ f.owes
rested_le p f = eqb_elim (λ b. cond b 0 f.owes ≤ f.owes) p f.position (λ e. omega arith) (λ e. le_refl f.owes)

rested_in_order : (t p : ℕ) (f : Feed) → FeedInOrder t f → FeedInOrder t (rest_feed p f)
rested_in_order t p f h =
    record {
      plan = h.plan;
      owes = le_trans (rested_le p f) h.owes;
      early = λ e. omega (arith, rested_le p f, h.early e);
      over = λ e. omega (arith, rested_le p f, h.over e);
    }

pub resting_owes : (b : Book) (p D : ℕ) → owed_by (resting p b) D ≤ owed_by b D
unfolding resting
resting_owes b p D =
    omega (
      arith,
      owed_by_split (resting p b) D,
      owed_by_split b D,
      total_map (feed_owes b.clock D) (rest_feed p) b.feeds,
      total_le_all (λ f. feed_owes b.clock D (rest_feed p f)) (feed_owes b.clock D)
          (λ f. omega (arith, by_then_less D (due f.plan b.clock) (rest_feed p f).owes f.owes (rested_le p f)))
          b.feeds,
    )

pub resting_is_sound : (b : Book) (p : ℕ) → Sound b → Sound (resting p b)
unfolding resting Room
resting_is_sound b p s =
    record {
      order = record {
        feeds = each_map (FeedInOrder b.clock) (rest_feed p) b.feeds (each_imp (FeedInOrder b.clock) (λ f. FeedInOrder b.clock (rest_feed p f)) (rested_in_order b.clock p) b.feeds s.order.feeds);
        jobs = s.order.jobs;
        positions = λ n. omega (arith, total_map (λ f. eq n f.position) (rest_feed p) b.feeds, s.order.positions n);
        numbers = s.order.numbers;
      };
      room = λ D h. omega (arith, resting_owes b p D, s.room D h);
      light = subst Light (sym (resting_keeps_plans p b)) s.light;
    }
