-- A state in order is read as a book in order that can be written into it, and such a book makes a state in order.
use mathlib.Core.Path.{◌≡◌, refl, sym, ap, subst, ◌∙◌}
use mathlib.Core.Bool.{true}
use mathlib.Core.List.{List, [], ◌∷◌, map}
use Prim.Native.Nat.{ℕ, suc, ◌+◌, ◌-◌, ◌*◌, ◌/◌, ◌≤◌, ◌<◌, ◌∣◌}
use native.Mathlib.Nat.{le_refl}
use native.Mathlib.Omega.{arith}
use lib.Dec.{eqb}
use lib.ListN.{length, length-map}
use borrow.Author.Tests.{leb-true, le-leb}
use Rattle.lists.specs.Lists.{bit, eq, total, Each}
use Rattle.lists.proofs.Lists.{each_imp, each_both, each_map, total_map}
use Rattle.lists.proofs.Tests.{eq_elim, all_of_lem, all_of_made}
use Rattle.ticks.specs.declared.Instant.{Instant}
use Rattle.ticks.specs.declared.Length.{Length}
use Rattle.ticks.specs.Ticks.{instant}
use Rattle.plans.specs.declared.Plan.{Plan}
use Rattle.plans.specs.Plans as plans
use Rattle.plans.specs.Plans.{PlanIn}
use Rattle.feeds.specs.declared.Feed.{Feed}
use Rattle.feeds.specs.Feeds.{FeedIn, in_use}
use Rattle.feeds.specs.Round.{periods, round_of, demand}
use Rattle.feeds.specs.Lines.{Passing, FeedsIn}
use Rattle.feeds.specs.Pieces.{PieceIn}
use Rattle.feeds.proofs.Passing.{feeds_pass_lem, feeds_tidy, in_use_of, tidy_of, feeds_pass_of}
use Rattle.feeds.proofs.Same.{same_passing}
use Rattle.jobs.specs.declared.Job.{Job}
use Rattle.jobs.specs.Jobs.{JobIn, JobsIn, live, table_of}
use Rattle.lists.proofs.Same.{same_length}
use Rattle.jobs.specs.Figures.{figured}
use Rattle.jobs.specs.Sorted.{sorted}
use Rattle.jobs.proofs.Sorted.{sorted_same, sorted_sorted, each_sorted}
use Rattle.jobs.proofs.Limits.{table_in_lem, table_in_made}
use Rattle.jobs.proofs.Places as jobs
use Rattle.edf.specs.Book as edf
use Rattle.edf.specs.Order.{FeedInOrder, JobInOrder, InOrder as BookInOrder}
use Rattle.edf.specs.Load.{stretch, Light}
use Rattle.edf.proofs.Loads.{Round}
use Rattle.edf.proofs.Rounds.{round_carried, short_stretches_are_light}
use Rattle.ledger.specs.declared.Ledger.{Ledger}
use Rattle.ledger.specs.State.{in_order, Sized, InOrder}
use Rattle.ledger.specs.Books.{book_plan, book_feed, book_feeds, book_job, book_at, book_of, job_of, owing_as, rewritten, JobHeld, Held}
use Rattle.ledger.proofs.Books.{owing_as_plans, read_owing_as}
use Rattle.ledger.proofs.Pieces.{since_read}

-- THE TEST OF A STATE, AS FACTS
pub in_order_lem : (l : Ledger) → Sized l → in_order l ≡ true → InOrder l
unfolding in_order
in_order_lem l s h =
    let t = all_of_lem _ h in
    let fs = feeds_pass_lem l.charge l.clock l.feeds t.1.1.0 in
    let js = table_in_lem l.charge l.clock l.table t.1.1.1.0 in
    record {
      clock = leb-true _ _ t.0;
      charge = leb-true _ _ t.1.0;
      feeds = fs.feeds;
      jobs = jobs.jobs_in l.charge l.clock l.table s.jobs js;
      tidy_feeds = feeds_tidy l.charge l.clock l.feeds s.feeds fs;
      tidy_table = jobs.tidy_in l.charge l.clock l.table s.jobs js;
    }

-- and back
pub in_order_made : (l : Ledger) → InOrder l → in_order l ≡ true
unfolding in_order
in_order_made l h =
    let c = l.charge in
    let fs = ap (λ s. Rattle.feeds.specs.Lines.feeds_pass c l.clock s) h.tidy_feeds.filled ∙ feeds_pass_of (in_use l.feeds) c l.clock h.feeds in
    let js = ap (λ t. Rattle.jobs.specs.Jobs.table_in c l.clock t) h.tidy_table.filled
    ∙ table_in_made c l.clock (table_of (live l.table)) (jobs.jobs_in_table c l.clock (live l.table) h.jobs) in
    all_of_made _ (le-leb _ _ h.clock, (le-leb _ _ h.charge, (fs, (js, tt))))

-- a feed in order at its place
feed_in_order : (c : Length) (clock : Instant) (k : ℕ) (f : Feed) → FeedIn f → PieceIn c clock f → FeedInOrder clock.0 (book_feed c k f)
feed_in_order c clock k f h p =
    record {
      plan = record { offset = h.offset; lead = h.lead.0; short = h.lead.1 };
      owes = p.owes;
      early = p.early;
      over = λ l. p.over (subst (f.plan.lead.0 ≤◌) (sym (since_read c f.plan clock.0)) l);
    }

feeds_in_order : (c : Length) (clock : Instant) (k : ℕ) (fs : List Feed) → Each FeedIn fs → Each (PieceIn c clock) fs
    → Each (FeedInOrder clock.0) (book_feeds c k fs)
feeds_in_order c clock k [] h p = tt
feeds_in_order c clock k (f ∷ fs) h p =
    (feed_in_order c clock k f h.0 p.0, feeds_in_order c clock (suc k) fs h.1 p.1)

-- no position below the first, and none twice
none_before : (c : Length) (n k : ℕ) (fs : List Feed) → n < k → total (λ f. eq n f.position) (book_feeds c k fs) ≡ 0
none_before c n k [] h = refl
none_before c n k (f ∷ fs) h =
    omega (arith, none_before c n (suc k) fs (omega arith), eq_elim (λ e. e ≡ 0) n k (λ p. absurd (omega arith)) (λ p. refl))

pub positions_once : (c : Length) (n k : ℕ) (fs : List Feed) → total (λ f. eq n f.position) (book_feeds c k fs) ≤ 1
positions_once c n k [] = omega arith
positions_once c n k (f ∷ fs) =
    eq_elim (λ e. e + total (λ g. eq n g.position) (book_feeds c (suc k) fs) ≤ 1) n k
    (λ p. omega (arith, none_before c n (suc k) fs (omega arith)))
    (λ p. omega (arith, positions_once c n (suc k) fs))

-- the round of the feeds carries them
common_of : (c : Length) (R k : ℕ) (fs : List Feed) → Each (λ p. p ∣ R) (periods fs) → Each (λ p. p.period ∣ R) (edf.plans (book_feeds c k fs))
common_of c R k [] h = tt
common_of c R k (f ∷ fs) h = (h.0, common_of c R (suc k) fs h.1)

-- what a stretch wants, here and in the mathematics
stretch_of : (c : Length) (L : ℕ) (p : Plan) → PlanIn p → stretch L (book_plan c p) ≡ plans.stretch c L p
stretch_of c L p h =
    let n : L + p.period.0 - p.lead.0 ≡ L + (p.period.0 - p.lead.0) = omega (arith, h.lead.1) in
    ap (λ m. plans.charged c p * (m / p.period.0)) n

pub demand_of : (c : Length) (L k : ℕ) (fs : List Feed) → Each FeedIn fs → total (stretch L) (edf.plans (book_feeds c k fs)) ≡ demand c L fs
demand_of c L k [] h = refl
demand_of c L k (f ∷ fs) h = λ i. stretch_of c L f.plan h.0 i + demand_of c L (suc k) fs h.1 i

leads_of : (c : Length) (k : ℕ) (fs : List Feed) → Each FeedIn fs → Each (λ p. (1 ≤ p.period) × (p.lead ≤ p.period)) (edf.plans (book_feeds c k fs))
leads_of c k [] h = tt
leads_of c k (f ∷ fs) h = ((h.0.period.0, h.0.lead.1), leads_of c (suc k) fs h.1)

-- FEEDS THAT PASS ARE LIGHT, and their round is a round of the mathematics
module _ (c : Length) (k : ℕ) (fs : List Feed) (h : Passing c fs) where
  R : ℕ
  R = round_of (periods fs)

  short : (L : ℕ) → L ≤ R → total (stretch L) (edf.plans (book_feeds c k fs)) ≤ L
  unfolding R
  short L l = subst (◌≤ L) (sym (demand_of c L k fs h.within)) (h.carried L l)

  pub book_round : Round (round_of (periods fs)) (edf.plans (book_feeds c k fs))
  unfolding R
  book_round =
      record {
        positive = h.round.some;
        common = common_of c (round_of (periods fs)) k fs h.round.common;
        carried = round_carried (round_of (periods fs)) (edf.plans (book_feeds c k fs))
            (each_imp (λ p. (1 ≤ p.period) × (p.lead ≤ p.period)) (λ p. p.lead ≤ p.period) (λ p l. l.1) (edf.plans (book_feeds c k fs)) (leads_of c k fs h.within))
            (short (round_of (periods fs)) (le_refl _));
      }

  pub book_light : Light (edf.plans (book_feeds c k fs))
  unfolding R
  book_light = short_stretches_are_light (round_of (periods fs)) (edf.plans (book_feeds c k fs)) book_round (leads_of c k fs h.within) (λ L l. short L (omega arith))

-- IN ORDER, READ AS A BOOK
pub book_in_order : (c : Length) (clock : Instant) (fs : List Feed) (js : List Job) → FeedsIn c clock fs → JobsIn c clock js
    → BookInOrder (book_at c clock fs js)
unfolding eq
book_in_order c clock fs js h j =
    record {
      feeds = feeds_in_order c clock 1 fs h.passing.within h.pieces;
      jobs = each_map (JobInOrder clock.0) book_job js
          (each_imp (JobIn c clock) (λ k. JobInOrder clock.0 (book_job k)) (λ k i. record { owes = i.owed.0; ahead = i.ahead }) js j.each);
      positions = λ n. positions_once c n 1 fs;
      numbers = λ n. subst (◌≤ 1) (sym (total_map (λ k. eq n k.number) book_job js)) (j.once n);
    }

pub state_in_order : (l : Ledger) → InOrder l → BookInOrder (book_of l)
state_in_order l h = book_in_order l.charge l.clock (in_use l.feeds) (live l.table) h.feeds h.jobs

pub state_light : (l : Ledger) → InOrder l → Light (edf.plans (book_of l).feeds)
state_light l h = book_light l.charge 1 (in_use l.feeds) h.feeds.passing

pub state_held : (l : Ledger) → InOrder l → Held l (book_of l)
state_held l h =
    let js = live l.table in
    let many : length (map book_job js) ≡ length js = length-map js book_job in
    record {
      order = state_in_order l h;
      clock = h.clock;
      feeds = record { positions = refl; plans = refl };
      few = omega (arith, h.jobs.few);
      jobs = each_map (JobHeld l.charge l.clock.0) book_job js
          (each_imp (JobIn l.charge l.clock) (λ j. JobHeld l.charge l.clock.0 (book_job j))
          (λ j k. record { number = k.number; owes = k.owed.1; near = k.near; within = k.within })
          js
          h.jobs.each);
    }

-- the current pieces of feeds in the book
pieces_written : (c : Length) (t k : ℕ) (fs : List Feed) → Each (FeedInOrder t) (book_feeds c k fs) → Each (PieceIn c (instant t)) fs
pieces_written c t k [] h = tt
pieces_written c t k (f ∷ fs) h = (
  record { owes = h.0.owes; early = h.0.early; over = λ l. h.0.over (subst (f.plan.lead.0 ≤◌) (since_read c f.plan t) l) },
  pieces_written c t (suc k) fs h.1,
)

-- the jobs of a book that a table can hold
jobs_written : (c : Length) (b : edf.Book) → BookInOrder b → length b.jobs ≤ Rattle.jobs.specs.Jobs.most_jobs
    → Each (JobHeld c b.clock) b.jobs → JobsIn c (instant b.clock) (figured (sorted (map job_of b.jobs)))
unfolding eq
jobs_written c b o few h =
    let js = map job_of b.jobs in
    let many : length (sorted js) ≡ length b.jobs = same_length (sorted js) js (sorted_same js) ∙ length-map b.jobs job_of in
    let once : (n : ℕ) → total (λ j. bit (eqb n j.number)) js ≤ 1 = λ n. subst (◌≤ 1) (sym (total_map (λ j. bit (eqb n j.number)) job_of b.jobs)) (o.numbers n) in
    jobs.jobs_in_figured c (instant b.clock) (sorted js) (omega arith)
    (each_sorted (JobIn c (instant b.clock)) js
    (each_map (JobIn c (instant b.clock)) job_of b.jobs
    (each_imp (λ j. JobInOrder b.clock j × JobHeld c b.clock j) (λ j. JobIn c (instant b.clock) (job_of j))
    (λ j k. record {
      number = k.1.number;
      owed = (k.0.owes, k.1.owes);
      ahead = k.0.ahead;
      near = k.1.near;
      within = k.1.within;
    })
    b.jobs
    (each_both (JobInOrder b.clock) (JobHeld c b.clock) b.jobs o.jobs h))))
    (λ n. omega (arith, sorted_same js (λ j. bit (eqb n j.number)), once n))
    (sorted_sorted js once)

-- AND BACK: a book that can be written into a state in order makes a state in order
pub rewritten_in_order : (l : Ledger) (b : edf.Book) → InOrder l → Held l b → InOrder (rewritten l b)
rewritten_in_order l b o h =
    let fs = in_use l.feeds in
    let gs = owing_as b.feeds fs in
    let js = figured (sorted (map job_of b.jobs)) in
    let c = l.charge in
    let passing : Passing c gs = same_passing fs gs (sym (owing_as_plans b.feeds fs)) c o.feeds.passing in
    let read : book_feeds c 1 gs ≡ b.feeds = read_owing_as c 1 b.feeds fs h.feeds.positions h.feeds.plans in
    let pieces = pieces_written c b.clock 1 gs (subst (Each (FeedInOrder b.clock)) (sym read) h.order.feeds) in
    let table = jobs_written c b h.order h.few h.jobs in
    record {
      clock = h.clock;
      charge = o.charge;
      feeds = subst (FeedsIn c (instant b.clock)) (sym (in_use_of gs)) (record { passing = passing; pieces = pieces });
      jobs = subst (JobsIn c (instant b.clock)) (sym (jobs.live_of js)) table;
      tidy_feeds = tidy_of gs passing.few;
      tidy_table = jobs.tidy_of js table.few;
    }
