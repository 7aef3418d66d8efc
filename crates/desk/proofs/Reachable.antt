-- What a call hands back on a state in order whose book is sound is such a state again.
use mathlib.Core.Path.{◌≡◌, refl, sym, ◌∙◌, ap, subst}
use mathlib.Core.Bool.{Bool, true, false, not, cond}
use mathlib.Core.List.{List, [], ◌∷◌, ◌++◌, map, map-map}
use Prim.Native.Nat.{ℕ, suc, ◌+◌, ◌≤◌, ◌<◌}
use native.Mathlib.Omega.{arith}
use lib.Dec.{ltb, eqb}
use lib.ListN.{length, length-map, length-append}
use Rattle.lists.specs.Lists.{eq, Each, keep}
use Rattle.lists.proofs.Lists.{each_imp, each_append, each_map, each_keep, total_map}
use Rattle.lists.proofs.Places.{length_filled}
use Rattle.ticks.specs.declared.Instant.{Instant}
use Rattle.ticks.specs.declared.Length.{Length}
use Rattle.ticks.specs.Ticks.{last_instant, most_charge, instant, ticks}
use Rattle.feeds.specs.declared.Feed.{Feed}
use Rattle.feeds.specs.Feeds.{most_feeds, no_feed, FeedIn, in_use, feeds_of}
use Rattle.feeds.specs.Lines.{Passing, FeedsIn}
use Rattle.feeds.specs.Pieces.{PieceIn}
use Rattle.feeds.proofs.Passing.{in_use_of, tidy_of}
use Rattle.feeds.proofs.Lines.{passing_none}
use Rattle.jobs.specs.declared.Job.{Job}
use Rattle.jobs.specs.Jobs.{most_jobs, no_job, live}
use Rattle.lists.proofs.Same.{same_length}
use Rattle.jobs.specs.Figures.{figured}
use Rattle.jobs.specs.Sorted.{Sorted, sorted}
use Rattle.jobs.proofs.Figures.{length_figured}
use Rattle.jobs.proofs.Sorted.{sorted_same, sorted_alike, sorted_left}
use Rattle.jobs.proofs.Places.{live_count}
use Rattle.jobs.proofs.Places as jobs
use Rattle.edf.specs.Book as edf
use Rattle.edf.specs.Step.{runner, serve_job, serve, turn, step_by, step}
use Rattle.edf.specs.Order.{PlanInOrder}
use Rattle.edf.specs.Calls.{taking, ending, resting, Askable}
use Rattle.edf.specs.Load.{opened, Sound}
use Rattle.edf.proofs.Loads.{Opens}
use Rattle.edf.proofs.Plans as plans
use Rattle.edf.proofs.Opening.{opening_is_sound}
use Rattle.ledger.specs.declared.Ledger.{Ledger}
use Rattle.ledger.specs.State.{Sized, InOrder}
use Rattle.ledger.specs.Books.{book_feeds, book_job, job_of, owing_as, rewritten, InTableOrder, JobHeld, SameFeeds, Held}
use Rattle.ledger.proofs.Books.{length_owing_as, book_of_rewritten, book_of_rewritten_own}
use Rattle.edf.proofs.Reordered.{reordered_sound}
use Rattle.ledger.proofs.InOrder as ledger
use Rattle.desk.specs.declared.Desk.{Desk}
use Rattle.desk.specs.State as state
use Rattle.desk.specs.State.{book, Good, empty}
use Rattle.desk.specs.Opening.{laid, opened_desk, Fresh}
use Rattle.desk.specs.Asking.{with_job, Admissible}
use Rattle.desk.proofs.InOrder.{Beside, in_order_lem, in_order_beside, in_order_made}

-- a state that a book is written into has as many places as before
pub rewritten_sized : (l : Ledger) (b : edf.Book) → InOrder l → length b.jobs ≤ most_jobs → Sized (rewritten l b)
rewritten_sized l b o few =
    let many : length (map job_of b.jobs) ≡ length b.jobs = length-map b.jobs job_of in
    let fs = in_use l.feeds in
    record {
      feeds = length_filled most_feeds no_feed (owing_as b.feeds fs) (omega (arith, length_owing_as b.feeds fs, o.feeds.passing.few));
      jobs = length_filled most_jobs no_job (figured (sorted (map job_of b.jobs)))
          (omega (arith, length_figured (sorted (map job_of b.jobs)), same_length (sorted (map job_of b.jobs)) (map job_of b.jobs) (sorted_same (map job_of b.jobs))));
    }

-- a state that a book can be written into, which is then in order and read as that book
module _ (l : Ledger) (b : edf.Book) (o : InOrder l) (h : Held l b) where
  pub good_rewritten : (d : Desk) → d.ledger ≡ rewritten l b → Beside d → Sound b → Good d
  good_rewritten d e k s =
      subst Good (λ i. state.with d (sym e i))
      (record {
        sized = rewritten_sized l b o h.few;
        order = in_order_made (state.with d (rewritten l b)) (record { share = k.share; previous = k.previous }) (ledger.rewritten_in_order l b o h);
        sound = reordered_sound _ _ (book_of_rewritten l b h.feeds) s;
      })

pub good_order : (d : Desk) → Good d → InOrder d.ledger
good_order d g = in_order_lem d g.sized g.order

pub good_beside : (d : Desk) → Good d → Beside d
good_beside d g = in_order_beside d g.order

pub good_held : (d : Desk) → Good d → Held d.ledger (book d)
good_held d g = ledger.state_held d.ledger (good_order d g)

length_keep : (t : edf.Job → Bool) (js : List edf.Job) → length (keep t js) ≤ length js
length_keep t [] = omega arith
length_keep t (j ∷ js) = go (t j) (length_keep t js)
  where
    go : (b : Bool) → length (keep t js) ≤ length js → length (cond b (j ∷ keep t js) (keep t js)) ≤ suc (length js)
    go true ih = omega arith
    go false ih = omega arith

-- a step, an end and a rest leave the jobs in the order of the table
pub step_in_table_order : (b : edf.Book) → InTableOrder b → InTableOrder (step b)
unfolding step step_by turn serve
step_in_table_order b o =
    sorted_left job_of (λ j. ltb 0 j.owes) (map (serve_job (runner b).who) b.jobs)
    (subst Sorted (sym (map-map job_of (serve_job (runner b).who) b.jobs)) (sorted_alike job_of (λ j. job_of (serve_job (runner b).who j)) (λ j. refl) (λ j. refl) b.jobs o))

pub ending_in_table_order : (b : edf.Book) (n : ℕ) → InTableOrder b → InTableOrder (ending n b)
unfolding ending
ending_in_table_order b n o = sorted_left job_of (λ j. not (eqb n j.number)) b.jobs o

pub resting_in_table_order : (b : edf.Book) (p : ℕ) → InTableOrder b → InTableOrder (resting p b)
unfolding resting
resting_in_table_order b p o = o

-- a step takes no job in
pub step_few : (b : edf.Book) → length (step b).jobs ≤ length b.jobs
unfolding step step_by turn serve
step_few b =
    let g : edf.Who = (runner b).who in
    let many : length (map (serve_job g) b.jobs) ≡ length b.jobs = length-map b.jobs (serve_job g) in
    omega (arith, length_keep (λ j. ltb 0 j.owes) (map (serve_job g) b.jobs))

module _ (l : Ledger) (b : edf.Book) (h : Held l b) where
  -- feeds that stay at their positions and by their plans
  same_feeds : (fs : List edf.Feed) (clock : ℕ) (js : List edf.Job) → edf.positions fs ≡ edf.positions b.feeds → edf.plans fs ≡ edf.plans b.feeds
      → SameFeeds l (record { clock = clock; feeds = fs; jobs = js })
  same_feeds fs clock js p q = record { positions = p ∙ h.feeds.positions; plans = q ∙ h.feeds.plans }

  -- A STEP keeps what the state can hold
  pub held_step : Sound (step b) → b.clock < last_instant → Held l (step b)
  unfolding step step_by turn serve
  held_step s lt =
      let g : edf.Who = (runner b).who in
      let t' : ℕ = suc b.clock in
      record {
        order = s.order;
        clock = lt;
        feeds = same_feeds _ _ _ (plans.step_keeps_positions b) (plans.step_keeps_plans b);
        few = omega (arith, step_few b, h.few);
        jobs = each_keep (JobHeld l.charge t') (λ j. ltb 0 j.owes) (map (serve_job g) b.jobs)
            (each_map (λ j. ltb 0 j.owes ≡ true → JobHeld l.charge t' j) (serve_job g) b.jobs
            (each_imp (JobHeld l.charge b.clock) (λ j. ltb 0 (serve_job g j).owes ≡ true → JobHeld l.charge t' (serve_job g j))
            (λ j k e. record { number = k.number; owes = omega (arith, k.owes); near = omega (arith, k.near); within = k.within })
            b.jobs
            h.jobs));
      }

  pub held_ending : (n : ℕ) → Sound (ending n b) → Held l (ending n b)
  unfolding ending
  held_ending n s =
      record {
        order = s.order;
        clock = h.clock;
        feeds = same_feeds _ _ _ refl refl;
        few = omega (arith, length_keep (λ j. not (eqb n j.number)) b.jobs, h.few);
        jobs = each_keep (JobHeld l.charge b.clock) (λ j. not (eqb n j.number)) b.jobs
            (each_imp (JobHeld l.charge b.clock) (λ j. not (eqb n j.number) ≡ true → JobHeld l.charge b.clock j) (λ j k e. k) b.jobs h.jobs);
      }

  pub held_resting : (p : ℕ) → Sound (resting p b) → Held l (resting p b)
  unfolding resting
  held_resting p s =
      record {
        order = s.order;
        clock = h.clock;
        feeds = same_feeds _ _ _ (plans.resting_keeps_positions p b) (plans.resting_keeps_plans p b);
        few = h.few;
        jobs = h.jobs;
      }

-- a request that no other line stops may be asked for
pub admissible_askable : (d : Desk) (j : Job) → Admissible d j → Askable (book d) (book_job j)
unfolding eq
admissible_askable d j a =
    record {
      sound = record { owes = a.job.owed.0; ahead = a.job.ahead };
      free = total_map (λ k. eq j.number k.number) book_job (live d.ledger.table) ∙ a.free;
    }

pub held_taking : (d : Desk) (j : Job) → Held d.ledger (book d) → Sound (with_job d j) → Admissible d j → Held d.ledger (with_job d j)
unfolding taking
held_taking d j h s a =
    let js = live d.ledger.table in
    let o = in_order_lem d a.sized a.order in
    let many : length (map book_job js) ≡ length js = length-map js book_job in
    let more : length (map book_job js ++ (book_job j ∷ [])) ≡ length (map book_job js) + 1 = length-append (map book_job js) (book_job j ∷ []) in
    record {
      order = s.order;
      clock = h.clock;
      feeds = record { positions = h.feeds.positions; plans = h.feeds.plans };
      few = omega (arith, a.space, live_count d.ledger.table o.tidy_table);
      jobs = each_append (JobHeld d.ledger.charge d.ledger.clock.0) (map book_job js) (book_job j ∷ []) h.jobs
          (record { number = a.job.number; owes = a.job.owed.1; near = a.job.near; within = a.job.within }, tt);
    }

plans_in : (c : Length) (k : ℕ) (fs : List Feed) → Each FeedIn fs → Each PlanInOrder (edf.plans (book_feeds c k fs))
plans_in c k [] h = tt
plans_in c k (f ∷ fs) h = (record { offset = h.0.offset; lead = h.0.lead.0; short = h.0.lead.1 }, plans_in c (suc k) fs h.1)

-- feeds that pass are feeds that an opening accepts
pub passing_opens : (c : Length) (fs : List Feed) → Passing c fs → Opens (book_feeds c 1 fs)
passing_opens c fs p = record { each = plans_in c 1 fs p.within; positions = λ n. ledger.positions_once c n 1 fs; light = ledger.book_light c 1 fs p }

pub opened_sound : (c : Length) (start : ℕ) (fs : List Feed) → Passing c fs → Sound (opened start (book_feeds c 1 fs))
opened_sound c start fs p = opening_is_sound start (book_feeds c 1 fs) (passing_opens c fs p)

-- a desk with feeds that pass and of which no piece has come is in order
laid_in_order : (fs : List Feed) (c : Length) (clock : Instant) → Passing c fs → Fresh fs → c.0 ≤ most_charge → clock.0 ≤ last_instant
    → InOrder (laid fs c clock).ledger
laid_in_order fs c clock p z low l =
    let pieces : Each (PieceIn c clock) fs
    = each_imp (λ f. f.owes.0 ≡ 0) (PieceIn c clock) (λ f e. record { owes = omega (arith, e); early = λ k. e; over = λ k. e }) fs z in
    record {
      clock = l;
      charge = low;
      feeds = subst (FeedsIn c clock) (sym (in_use_of fs)) (record { passing = p; pieces = pieces });
      jobs = record { few = omega arith; each = tt; once = λ n. omega arith; order = tt; figures = tt };
      tidy_feeds = tidy_of fs p.few;
      tidy_table = jobs.tidy_of [] (omega arith);
    }

-- AN OPENING: feeds that pass, at an instant within the clock's limits
pub opened_is_good : (fs : List Feed) (c : Length) (clock : Instant) → Passing c fs → Fresh fs → c.0 ≤ most_charge → clock.0 ≤ last_instant
    → Good (opened_desk fs c clock)
unfolding opened
opened_is_good fs c clock p z low l =
    let b = opened clock.0 (book_feeds c 1 fs) in
    let s = opened_sound c clock.0 fs p in
    let same : book_feeds c 1 (in_use (feeds_of fs)) ≡ book_feeds c 1 fs = ap (book_feeds c 1) (in_use_of fs) in
    good_rewritten (laid fs c clock).ledger b (laid_in_order fs c clock p z low l)
    (record {
      order = s.order;
      clock = l;
      feeds = record {
        positions = plans.opened_keeps_positions clock.0 (book_feeds c 1 fs) ∙ ap edf.positions (sym same);
        plans = plans.opened_keeps_plans clock.0 (book_feeds c 1 fs) ∙ ap edf.plans (sym same);
      };
      few = omega arith;
      jobs = tt;
    })
    (opened_desk fs c clock)
    refl
    (record { share = refl; previous = omega arith })
    s

-- its book is the one that the mathematics opens
pub opened_book : (fs : List Feed) (c : Length) (clock : Instant) → book (opened_desk fs c clock) ≡ opened clock.0 (book_feeds c 1 fs)
unfolding opened
opened_book fs c clock =
    let same : book_feeds c 1 (in_use (feeds_of fs)) ≡ book_feeds c 1 fs = ap (book_feeds c 1) (in_use_of fs) in
    book_of_rewritten_own (laid fs c clock).ledger (opened clock.0 (book_feeds c 1 fs))
    (record {
      positions = plans.opened_keeps_positions clock.0 (book_feeds c 1 fs) ∙ ap edf.positions (sym same);
      plans = plans.opened_keeps_plans clock.0 (book_feeds c 1 fs) ∙ ap edf.plans (sym same);
    })
    tt

-- THE EMPTY STATE is in order and its book is sound
pub empty_is_good : Good empty
unfolding opened
empty_is_good =
    let o = laid_in_order [] (ticks 0) (instant 0) (passing_none (ticks 0)) tt (omega arith) (omega arith) in
    record {
      sized = record { feeds = length_filled most_feeds no_feed [] (omega arith); jobs = length_filled most_jobs no_job [] (omega arith) };
      order = in_order_made empty (record { share = refl; previous = omega arith }) o;
      sound = opened_sound (ticks 0) 0 [] (passing_none (ticks 0));
    }
