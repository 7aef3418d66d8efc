-- The tick given and the pieces come are the step of the mathematics, written into the state.
use mathlib.Core.Path.{◌≡◌, refl, sym, ap, subst, ◌∙◌}
use mathlib.Core.List.{List, [], ◌∷◌, map}
use Prim.Native.Nat.{ℕ, suc}
use native.Mathlib.Numerals.{add-one}
use native.Mathlib.Omega.{arith}
use lib.ListN.{length, length-map}
use Rattle.lists.specs.Lists.{Each}
use Rattle.lists.proofs.Lists.{each_imp}
use Rattle.ticks.specs.declared.Length.{Length}
use Rattle.ticks.specs.Ticks.{instant, next}
use Rattle.feeds.specs.declared.Feed.{Feed}
use Rattle.feeds.specs.Feeds.{FeedIn, in_use, feeds_of, Tidy}
use Rattle.feeds.specs.Pieces.{arrived}
use Rattle.feeds.proofs.Passing.{in_use_of, tidy_of}
use Rattle.feeds.proofs.Same.{same_length, same_within}
use Rattle.jobs.specs.Jobs.{JobIn, live, table_of}
use Rattle.jobs.specs.Figures.{figured}
use Rattle.jobs.specs.Sorted.{sorted}
use Rattle.jobs.specs.Served.{Owing}
use Rattle.answers.specs.declared.Who.{Who}
use Rattle.edf.specs.Step.{serve, turn_feed, turn, step_by, step, runner}
use Rattle.ledger.specs.declared.Ledger.{Ledger}
use Rattle.ledger.specs.State.{moved, InOrder}
use Rattle.ledger.specs.Books.{book_feeds, book_of, job_of, owing_as, rewritten, who_of}
use Rattle.ledger.proofs.Books.{owing_as_alike}
use Rattle.ledger.proofs.Pieces.{arrived_turned}
use Rattle.serving.specs.Tick.{served_feeds, served_jobs}
use Rattle.serving.proofs.Given.{feeds_given, given_plans, jobs_given}

length_read : (c : Length) (k : ℕ) (fs : List Feed) → length (book_feeds c k fs) ≡ length fs
length_read c k [] = refl
length_read c k (f ∷ fs) = ap suc (length_read c (suc k) fs)

-- the state after the tick went to w, and at the next instant
abbrev pub given : Ledger → Who → Ledger
given l w =
    moved l (next l.clock) (feeds_of (map (arrived l.charge (next l.clock)) (served_feeds w (in_use l.feeds))))
    (table_of (figured (served_jobs w (live l.table))))

module _ (l : Ledger) (o : InOrder l) where
  -- live jobs owe something
  pub owing_jobs : Each Owing (live l.table)
  owing_jobs = each_imp (JobIn l.charge l.clock) Owing (λ j h. h.owed.0) (live l.table) o.jobs.each

  -- the feeds after a tick are within their limits, and in their places
  given_within : (w : Who) → Each FeedIn (served_feeds w (in_use l.feeds))
  given_within w =
      let fs = in_use l.feeds in
      same_within fs (served_feeds w fs) (sym (given_plans w fs)) o.feeds.passing.within

  pub given_feeds : (w : Who) → Tidy (feeds_of (served_feeds w (in_use l.feeds))) × Each FeedIn (in_use (feeds_of (served_feeds w (in_use l.feeds))))
  given_feeds w =
      let gs = served_feeds w (in_use l.feeds) in
      let many = same_length gs (in_use l.feeds) (given_plans w (in_use l.feeds)) in
      (tidy_of gs (omega (arith, o.feeds.passing.few)), subst (Each FeedIn) (sym (in_use_of gs)) (given_within w))

  feeds_stepped : (w : Who) → (runner (book_of l)).who ≡ who_of w
      → map (arrived l.charge (instant (suc l.clock.0))) (served_feeds w (in_use l.feeds)) ≡ owing_as (step (book_of l)).feeds (in_use l.feeds)
  unfolding step step_by turn serve
  feeds_stepped w e =
      let fs = in_use l.feeds in
      let gs = served_feeds w fs in
      let x = suc l.clock.0 in
      arrived_turned l.charge (instant x) 1 gs
      ∙ owing_as_alike (map (turn_feed x) (book_feeds l.charge 1 gs)) gs fs (length-map (book_feeds l.charge 1 gs) (turn_feed x) ∙ length_read l.charge 1 gs) (given_plans w fs)
      ∙ ap (λ ks. owing_as (map (turn_feed x) ks) fs) (feeds_given l.charge w fs)
      ∙ ap (λ g. owing_as (step_by g (book_of l)).feeds fs) (sym e)

  jobs_stepped : (w : Who) → (runner (book_of l)).who ≡ who_of w → figured (served_jobs w (live l.table)) ≡ figured (sorted (map job_of (step (book_of l)).jobs))
  unfolding step step_by turn serve
  jobs_stepped w e = jobs_given w (live l.table) owing_jobs o.jobs.order ∙ ap (λ g. figured (sorted (map job_of (step_by g (book_of l)).jobs))) (sym e)

  -- THE STATE AFTER A STEP
  pub given_stepped : (w : Who) → (runner (book_of l)).who ≡ who_of w → given l w ≡ rewritten l (step (book_of l))
  unfolding step step_by turn serve
  given_stepped w e =
      let fs = in_use l.feeds in
      let js = live l.table in
      (λ i. moved l (instant (add-one l.clock.0 i)) (feeds_of (map (arrived l.charge (instant (add-one l.clock.0 i))) (served_feeds w fs))) (table_of (figured (served_jobs w js))))
      ∙ (λ i. moved l (instant (suc l.clock.0)) (feeds_of (feeds_stepped w e i)) (table_of (jobs_stepped w e i)))
