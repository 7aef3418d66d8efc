-- Laws of how far ahead one has to look.
use mathlib.Core.Path.{◌≡◌, ap, subst}
use mathlib.Core.Bool.{cond}
use mathlib.Core.List.{List, [], ◌∷◌}
use Prim.Native.Nat.{ℕ, suc, ◌+◌, ◌≤◌, ◌<◌}
use native.Mathlib.Nat.{le_refl, le_trans}
use native.Mathlib.Omega.{arith}
use lib.ListN.{length, get_or, drop}
use Rattle.lists.specs.Lists.{Each}
use Rattle.lists.proofs.Lists.{each_imp, each_map}
use Rattle.lists.proofs.Places as places
use Rattle.lists.proofs.Tests.{ltb_elim}
use Rattle.ticks.specs.declared.Instant.{Instant}
use Rattle.ticks.specs.declared.Length.{Length}
use Rattle.ticks.specs.Ticks.{most_job, later_of}
use Rattle.plans.specs.declared.Plan.{Plan}
use Rattle.plans.specs.Plans.{next}
use Rattle.feeds.specs.declared.Feed.{Feed}
use Rattle.feeds.specs.Feeds.{FeedIn, in_use}
use Rattle.jobs.specs.Jobs.{JobIn, live}
use Rattle.edf.specs.Book.{plans}
use Rattle.edf.specs.Releases as releases
use Rattle.edf.proofs.Loads.{Beyond}
use Rattle.ledger.specs.declared.Ledger.{Ledger}
use Rattle.ledger.specs.State.{InOrder}
use Rattle.ledger.specs.Books.{book_feeds, book_job, book_of}
use Rattle.ledger.proofs.Pieces.{next_read}
use Rattle.room.specs.Owed.{farthest}
use Rattle.room.specs.Ahead.{latest_of, next_of, last_due, horizon_of}

later_le : (t u : Instant) → (t.0 ≤ (later_of t u).0) × (u.0 ≤ (later_of t u).0)
later_le t u =
    ltb_elim (λ b. (t.0 ≤ (cond b u t).0) × (u.0 ≤ (cond b u t).0)) t.0 u.0 (λ h. (omega arith, le_refl _)) (λ h. (le_refl _, h))

later_least : (t u : Instant) (L : ℕ) → t.0 ≤ L → u.0 ≤ L → (later_of t u).0 ≤ L
later_least t u L h k = ltb_elim (λ b. (cond b u t).0 ≤ L) t.0 u.0 (λ l. k) (λ l. h)

module _ {A : Type 0} (f : A → Instant) where
  -- the next of those that are left is looked at
  pub latest_next : (xs : List A) (i : ℕ) (d : A) (last : Instant) → i < length xs
      → latest_of f (drop i xs) last ≡ latest_of f (drop (i + 1) xs) (later_of last (f (get_or xs i d)))
  unfolding latest_of
  latest_next xs i d last h = ap (λ l. latest_of f l last) (places.next xs i d h)

  pub latest_from : (xs : List A) (from : Instant) → from.0 ≤ (latest_of f xs from).0
  unfolding latest_of
  latest_from [] from = le_refl from.0
  latest_from (x ∷ xs) from = le_trans (later_le from (f x)).0 (latest_from xs (later_of from (f x)))

  pub latest_each : (xs : List A) (from : Instant) → Each (λ x. (f x).0 ≤ (latest_of f xs from).0) xs
  unfolding latest_of
  latest_each [] from = tt
  latest_each (x ∷ xs) from =
      (le_trans (later_le from (f x)).1 (latest_from xs (later_of from (f x))), latest_each xs (later_of from (f x)))

  pub latest_least : (xs : List A) (from : Instant) (L : ℕ) → from.0 ≤ L → Each (λ x. (f x).0 ≤ L) xs → (latest_of f xs from).0 ≤ L
  unfolding latest_of
  latest_least [] from L h e = h
  latest_least (x ∷ xs) from L h e = latest_least xs (later_of from (f x)) L (later_least from (f x) L h e.0) e.1

-- the next piece comes within a period
next_near : (p : Plan) (t : ℕ) → next p t ≤ t + p.period.0
unfolding next
next_near p t = omega arith

next_beyond : (c : Length) (t L k : ℕ) (fs : List Feed) → Each (λ f. next f.plan t ≤ L) fs → Each (λ p. releases.next p t ≤ L) (plans (book_feeds c k fs))
next_beyond c t L k [] h = tt
next_beyond c t L k (f ∷ fs) h = (subst (◌≤ L) (next_read c f.plan t) h.0, next_beyond c t L (suc k) fs h.1)

module _ (l : Ledger) where
  last_deadline : Instant
  last_deadline = latest_of (λ j. j.deadline) (live l.table) l.clock

  -- the last instant of interest is past every deadline and every next release
  pub last_beyond : Beyond (book_of l) (last_due l).0
  unfolding last_due last_deadline
  last_beyond =
      let behind : last_deadline.0 ≤ (last_due l).0 = latest_from (next_of l.clock) (in_use l.feeds) last_deadline in
      record {
        clock = le_trans (latest_from (λ j. j.deadline) (live l.table) l.clock) behind;
        jobs = each_map (λ j. j.due ≤ (last_due l).0) book_job (live l.table)
            (each_imp (λ j. j.deadline.0 ≤ last_deadline.0) (λ j. j.deadline.0 ≤ (last_due l).0)
            (λ j k. le_trans k behind)
            (live l.table)
            (latest_each (λ j. j.deadline) (live l.table) l.clock));
        feeds = next_beyond l.charge l.clock.0 (last_due l).0 1 (in_use l.feeds) (latest_each (next_of l.clock) (in_use l.feeds) last_deadline);
      }

  -- and no further ahead than the longest lead
  pub last_near : InOrder l → (last_due l).0 ≤ l.clock.0 + most_job
  unfolding last_due
  last_near o =
      latest_least (next_of l.clock) (in_use l.feeds) _ (l.clock.0 + most_job)
      (latest_least (λ j. j.deadline) (live l.table) l.clock (l.clock.0 + most_job) (omega arith)
      (each_imp (JobIn l.charge l.clock) (λ j. j.deadline.0 ≤ l.clock.0 + most_job) (λ j k. k.near) (live l.table) o.jobs.each))
      (each_imp FeedIn (λ f. next f.plan l.clock.0 ≤ l.clock.0 + most_job)
      (λ f k. omega (arith, next_near f.plan l.clock.0, k.period.1))
      (in_use l.feeds)
      o.feeds.passing.within)

  -- the horizon is ahead, and within reach
  pub horizon_near : InOrder l → (l.clock.0 < (horizon_of l).0) × ((horizon_of l).0 ≤ l.clock.0 + farthest)
  unfolding horizon_of
  horizon_near o =
      (omega (arith, last_beyond.clock, o.feeds.passing.round.some), omega (arith, last_near o, o.feeds.passing.short))
