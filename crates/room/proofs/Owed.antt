-- Laws of what the desk's own jobs and feeds owe by an instant.
use mathlib.Core.Path.{◌≡◌, refl, sym, ap, ◌∙◌}
use mathlib.Core.List.{List, [], ◌∷◌}
use Prim.Native.Nat.{ℕ, suc, ◌+◌, ◌-◌, ◌*◌, ◌/◌, ◌%◌, ◌≤◌, ◌<◌}
use native.Mathlib.Nat.{le_trans, mul-le-mul, div-le_self, div-add-mod', div-lt_iff_lt-mul, mod-lt, zero-div}
use native.Mathlib.Omega.{arith}
use Rattle.lists.specs.Lists.{total, Each}
use Rattle.lists.proofs.Lists.{each_imp, each_both, total_map}
use Rattle.ticks.specs.declared.Length.{Length}
use Rattle.ticks.specs.Ticks.{most_feed, most_charge}
use Rattle.plans.specs.declared.Plan.{Plan}
use Rattle.plans.specs.Plans.{most_piece, PlanIn, since, due, charged}
use Rattle.plans.proofs.Plans.{since_lt}
use Rattle.feeds.specs.declared.Feed.{Feed}
use Rattle.feeds.specs.Feeds.{FeedIn, in_use}
use Rattle.feeds.specs.Pieces.{PieceIn}
use Rattle.jobs.specs.Jobs.{most_jobs, JobIn, live}
use Rattle.jobs.specs.Figures.{most_owed, Modest, owes_by}
use Rattle.jobs.proofs.Figures.{owed_by_bound}
use Rattle.edf.specs.Releases as releases
use Rattle.edf.specs.Pieces.{job_piece}
use Rattle.edf.specs.Owed.{by_then, due_by, later_count, later_by, owed_by}
use Rattle.lists.proofs.Numbers.{div_mono}
use Rattle.edf.proofs.Demand.{by_then_in, by_then_out, feed_owes as book_feed_owes}
use Rattle.edf.proofs.Tick.{owed_by_split}
use Rattle.ledger.specs.declared.Ledger.{Ledger}
use Rattle.ledger.specs.State.{InOrder}
use Rattle.ledger.specs.Books.{book_plan, book_feeds, book_job, book_of}
use Rattle.ledger.proofs.Pieces.{since_read, due_read}
use Rattle.room.specs.Owed.{feed_owes, FeedOrdered, farthest}

-- before its current piece is due a feed owes nothing
pub feed_owes_before : (c : Length) (t D : ℕ) (f : Feed) → D + since f.plan t < t + f.plan.lead.0 → feed_owes c t D f ≡ 0
unfolding feed_owes due
feed_owes_before c t D f k =
    let T = f.plan.period.0 in
    let none : later_count t D (book_plan c f.plan) ≡ 0
    = ap (◌/ T) (later_gap c t D f (omega arith)) ∙ zero-div T in
    omega (
      arith,
      by_then_out D (t + f.plan.lead.0 - since f.plan t) f.owes.0 (omega arith),
      ap (charged c f.plan *◌) none,
    )
  where
    later_gap : (c : Length) (t D : ℕ) (f : Feed) → D + since f.plan t ≤ t + f.plan.lead.0
        → D + releases.since (book_plan c f.plan) t - (t + f.plan.lead.0) ≡ 0
    later_gap c t D f h = omega (arith, since_read c f.plan t)

-- from then on its current piece, and a whole one more with every period
pub feed_owes_from : (c : Length) (t D : ℕ) (f : Feed) → t + f.plan.lead.0 ≤ D + since f.plan t
    → feed_owes c t D f ≡ f.owes.0 + charged c f.plan * ((D + since f.plan t - (t + f.plan.lead.0)) / f.plan.period.0)
unfolding feed_owes due
feed_owes_from c t D f k =
    let e : D + releases.since (book_plan c f.plan) t - (t + f.plan.lead.0) ≡ D + since f.plan t - (t + f.plan.lead.0)
    = omega (arith, since_read c f.plan t) in
    omega (
      arith,
      by_then_in D (t + f.plan.lead.0 - since f.plan t) f.owes.0 (omega arith),
      ap (λ n. charged c f.plan * (n / f.plan.period.0)) e,
    )

-- the later pieces that are due by an instant within reach are not many
pub pieces_most : (c : Length) (t D : ℕ) (p : Plan) → PlanIn p → c.0 ≤ most_charge → D ≤ t + farthest
    → charged c p * ((D + since p t - (t + p.lead.0)) / p.period.0) ≤ most_piece * (farthest + most_feed)
pieces_most c t D p h low k =
    let owes : charged c p ≤ most_piece = omega (arith, h.work.1) in
    let near : D + since p t - (t + p.lead.0) ≤ farthest + most_feed = omega (arith, since_lt p t h, h.period.1) in
    mul-le-mul owes (le_trans (div-le_self (D + since p t - (t + p.lead.0)) p.period.0) near)

same_quotient : (T m n : ℕ) → 1 ≤ T → m ≤ n → n < m + (T - m % T) → n / T ≡ m / T
same_quotient T m n p l h =
    let below : n / T < m / T + 1 = (div-lt_iff_lt-mul p).1 (omega (arith, div-add-mod' m T, mod-lt m {m = T} p)) in
    omega (arith, div_mono T m n l)

-- nothing comes due before the current piece
pub feed_still_before : (c : Length) (t by : ℕ) (f : Feed) (E : ℕ) → by ≤ E → E + since f.plan t < t + f.plan.lead.0 → feed_owes c t E f ≡ feed_owes c t by f
feed_still_before c t by f E k l = feed_owes_before c t E f l ∙ sym (feed_owes_before c t by f (omega arith))

-- nor between two deadlines
pub feed_still_from : (c : Length) (t by : ℕ) (f : Feed) → FeedIn f → t + f.plan.lead.0 ≤ by + since f.plan t
    → (E : ℕ) → by ≤ E → E < by + (f.plan.period.0 - (by + since f.plan t - (t + f.plan.lead.0)) % f.plan.period.0) → feed_owes c t E f ≡ feed_owes c t by f
feed_still_from c t by f h d E k l =
    let T = f.plan.period.0 in
    let s = since f.plan t in
    let x = t + f.plan.lead.0 in
    let q : (E + s - x) / T ≡ (by + s - x) / T
    = same_quotient T (by + s - x) (E + s - x) h.period.0 (omega arith) (omega (arith, mod-lt (by + s - x) h.period.0)) in
    feed_owes_from c t E f (omega arith)
    ∙ ap (λ n. f.owes.0 + charged c f.plan * n) q
    ∙ sym (feed_owes_from c t by f d)

feeds_owe_is : (c : Length) (t D k : ℕ) (fs : List Feed) → total (book_feed_owes t D) (book_feeds c k fs) ≡ total (feed_owes c t D) fs
unfolding feed_owes
feeds_owe_is c t D k [] = refl
feeds_owe_is c t D k (f ∷ fs) =
    λ i. (by_then D (sym (due_read c f.plan t) i) f.owes.0 + later_by t D (book_plan c f.plan)) + feeds_owe_is c t D (suc k) fs i

-- WHAT IS OWED, of the desk's own jobs and feeds
pub owed_by_is : (l : Ledger) (D : ℕ)
    → total (owes_by D) (live l.table) + total (feed_owes l.charge l.clock.0 D) (in_use l.feeds) ≡ owed_by (book_of l) D
unfolding owes_by by_then
owed_by_is l D =
    omega (
      arith,
      owed_by_split (book_of l) D,
      total_map (λ j. due_by D (job_piece l.clock.0 j)) book_job (live l.table),
      feeds_owe_is l.charge l.clock.0 D 1 (in_use l.feeds),
    )

-- what a state in order says of the jobs and of the feeds that are added up
module _ (l : Ledger) (o : InOrder l) where
  pub jobs_modest : Each Modest (live l.table)
  jobs_modest = each_imp (JobIn l.charge l.clock) Modest (λ j k. omega (arith, k.owed.1, o.charge)) (live l.table) o.jobs.each

  -- 64 of them owe no more together than as many times the most
  pub jobs_owe_little : (D : ℕ) → total (owes_by D) (live l.table) ≤ most_jobs * most_owed
  jobs_owe_little D = omega (arith, owed_by_bound D (live l.table) jobs_modest, o.jobs.few)

  pub feeds_ordered : Each (FeedOrdered l.charge l.clock) (in_use l.feeds)
  feeds_ordered = each_both FeedIn (PieceIn l.charge l.clock) (in_use l.feeds) o.feeds.passing.within o.feeds.pieces
