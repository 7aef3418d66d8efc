-- What fits has room: each tick goes to at most one piece, so by no instant is more owed than there are ticks.
use mathlib.Core.Path.{◌≡◌, refl}
use Prim.Native.Nat.{ℕ, zero, suc, min, ◌+◌, ◌-◌, ◌*◌, ◌≤◌, ◌<◌}
use native.Mathlib.Nat.{le_refl, le_trans, le-min, min-eq_right}
use native.Mathlib.Omega.{arith}
use Rattle.lists.specs.Lists.{total}
use Rattle.edf.specs.Instants.{during}
use Rattle.edf.specs.Book.{Feed, Book, Who, job, feed, idle, same}
use Rattle.edf.specs.Releases.{next, later_from}
use Rattle.edf.specs.Pieces.{Piece, job_piece, current_piece, later_piece, at_hand}
use Rattle.edf.specs.Fits.{Choice, goes_to, gets, Served, Serves, Fits}
use Rattle.edf.specs.Owed.{due_by, later_count, owed_by, Room}
use Rattle.edf.specs.Order.{PlanInOrder, FeedInOrder, InOrder}
use Rattle.lists.proofs.Lists.{each_both, each_for, total_le, total_none}
use Rattle.edf.proofs.Instants.{during_mono, during_le, during_within, during_then, during_total}
use Rattle.lists.proofs.Tests.{eq_elim}
use Rattle.edf.proofs.Releases.{since_lt}
use Rattle.edf.proofs.Demand.{by_then_elim, later_count_counts, feed_owes}
use Rattle.edf.proofs.Tick.{hand_total, hand_jobs, hand_feeds, owed_by_split}

-- nobody stands twice among what is at hand
pub once : (b : Book) → InOrder b → (w : Who) → total (λ p. same w p.who) (at_hand b) ≤ 1
unfolding same
once b o (job n) =
    omega (
      arith,
      hand_total (λ p. same (job n) p.who) b,
      o.numbers n,
      total_none b.feeds,
    )
once b o (feed n) =
    omega (
      arith,
      hand_total (λ p. same (feed n) p.who) b,
      o.positions n,
      total_none b.jobs,
    )
once b o idle =
    omega (
      arith,
      hand_total (λ p. same idle p.who) b,
      total_none b.jobs,
      total_none b.feeds,
    )

-- how many of the n ticks from a on go to w
abbrev pub ticks_of : Choice → Who → ℕ → ℕ → ℕ
ticks_of c w a n = during (λ x. same (c x).who w) a n

gets_le : (c : Choice) (p : Piece) → gets c p ≤ ticks_of c p.who p.from (p.due - p.from)
unfolding gets goes_to
gets_le c p =
    during_mono (goes_to c p) (λ x. same (c x).who p.who)
    (λ x. eq_elim (λ k. same (c x).who p.who * k ≤ same (c x).who p.who) (c x).due p.due (λ e. omega arith) (λ e. omega arith))
    p.from
    (p.due - p.from)

module _ (t D : ℕ) (c : Choice) (after : t < D) where
  -- what is at hand gets what it owes by D before any instant E that it is due by
  hand_counted : (p : Piece) (E : ℕ) → p.from ≡ t → Served D c p → (p.due ≤ D → p.due ≤ E) → due_by D p ≤ ticks_of c p.who t (E - t)
  hand_counted p E e s m =
      by_then_elim (λ n. n ≤ ticks_of c p.who t (E - t)) D p.due p.owes
      (λ h. le_trans (s h)
      (le_trans (gets_le c p) (during_within (λ x. same (c x).who p.who) t (E - t) p.from (p.due - p.from) (omega arith) (omega (arith, m h)))))
      (λ h. omega arith)

  module _ (f : Feed) (order : PlanInOrder f.plan) (now : Served D c (current_piece t f)) (later : (k : ℕ) → Served D c (later_piece t k f)) where
    -- the current piece and the first K later ones, if they are due by D
    prefix : (K : ℕ) → K ≤ later_count t D f.plan
        → due_by D (current_piece t f) + K * f.plan.work ≤ ticks_of c (feed f.position) t (min D (next f.plan t + K * f.plan.period) - t)
    prefix zero h =
        omega (
          arith,
          hand_counted (current_piece t f) (min D (next f.plan t + 0 * f.plan.period)) refl now (λ d. omega (arith, since_lt f.plan t order.offset)),
        )
    prefix (suc K) h =
        let due : later_from f.plan t K + f.plan.lead ≤ D = (later_count_counts t D K f.plan order.offset order.short).1 h in
        let here : min D (next f.plan t + K * f.plan.period) ≡ later_from f.plan t K = min-eq_right (omega arith) in
        omega (
          arith,
          rw here at (prefix K (omega arith)),
          le_trans (later K due) (gets_le c (later_piece t K f)),
          during_then (λ y. same (c y).who (feed f.position)) t (later_from f.plan t K) (later_from f.plan t K + f.plan.lead) (min D (next f.plan t + suc K * f.plan.period))
              (omega arith)
              (omega arith)
              (le-min due (omega arith)),
        )

    feed_counted : feed_owes t D f ≤ ticks_of c (feed f.position) t (D - t)
    feed_counted =
        omega (
          arith,
          prefix (later_count t D f.plan) (le_refl (later_count t D f.plan)),
          during_within (λ y. same (c y).who (feed f.position)) t (D - t) t (min D (next f.plan t + later_count t D f.plan * f.plan.period) - t) (le_refl t) (omega arith),
        )

-- COUNTED: a choice that serves all that is due by D shows that no more is owed by D than there are ticks
pub served_is_owed : (b : Book) (D : ℕ) (c : Choice) → InOrder b → b.clock < D → Serves b D c → owed_by b D ≤ D - b.clock
served_is_owed b D c o h s =
    omega (
      arith,
      owed_by_split b D,
      jobs,
      feeds,
      hand_total ticks b,
      during_total (λ p x. same (c x).who p.who) (at_hand b) t (D - t),
      during_le (λ x. total (λ p. same (c x).who p.who) (at_hand b)) (λ x. once b o (c x).who) t (D - t),
    )
  where
    t : ℕ
    t = b.clock

    ticks : Piece → ℕ
    ticks p = ticks_of c p.who t (D - t)

    jobs : total (λ j. due_by D (job_piece t j)) b.jobs ≤ total (λ j. ticks (job_piece t j)) b.jobs
    jobs =
        total_le (λ j. Served D c (job_piece t j)) (λ j. due_by D (job_piece t j)) (λ j. ticks (job_piece t j))
        (λ j r. hand_counted t D c h (job_piece t j) D refl r (λ d. d))
        b.jobs
        (hand_jobs (Served D c) b s.hand)

    feeds : total (feed_owes t D) b.feeds ≤ total (λ f. ticks (current_piece t f)) b.feeds
    feeds =
        total_le (λ f. (FeedInOrder t f × Served D c (current_piece t f)) × ((k : ℕ) → Served D c (later_piece t k f))) (feed_owes t D) (λ f. ticks (current_piece t f))
        (λ f r. feed_counted t D c h f r.0.0.plan r.0.1 r.1)
        b.feeds
        (each_both (λ f. FeedInOrder t f × Served D c (current_piece t f)) (λ f. (k : ℕ) → Served D c (later_piece t k f)) b.feeds
        (each_both (FeedInOrder t) (λ f. Served D c (current_piece t f)) b.feeds o.feeds (hand_feeds (Served D c) b s.hand))
        (each_for (λ k f. Served D c (later_piece t k f)) b.feeds s.later))

pub fits_has_room : (b : Book) → InOrder b → Fits b → Room b
unfolding Fits Room
fits_has_room b o fits D h = let (c, s) = fits D h in served_is_owed b D c o h s
