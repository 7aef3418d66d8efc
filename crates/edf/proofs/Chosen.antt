-- The step rule holds of any book in order, overbooked or not.
use mathlib.Core.Path.{◌≡◌, refl, ap}
use mathlib.Core.Logic.{◌⊎◌, inl, inr, ◌↔◌}
use mathlib.Core.Bool.{Bool, true, false, ◌&&◌, ◌||◌}
use Prim.Native.Nat.{ℕ, ◌≤◌, ◌<◌}
use native.Mathlib.Omega.{arith}
use lib.Dec.{T, leb, eqb}
use Rattle.lists.specs.Lists.{total, Some, Pairs}
use Rattle.edf.specs.Book.{Book, Who, same}
use Rattle.edf.specs.Releases.{due}
use Rattle.edf.specs.Pieces.{Piece, at_hand}
use Rattle.edf.specs.Step.{kind, number_of, first, sooner, foremost, runner, serve_job, serve_feed, serve}
use Rattle.edf.specs.Chosen.{Chosen, NothingReady, GoesBefore, JobServed, FeedServed}
use Rattle.edf.specs.Order.{InOrder}
use Rattle.lists.proofs.Lists.{each_imp, each_self, some_imp, some_le_total}
use Rattle.lists.proofs.Pairs.{pairs_of_map}
use Rattle.lists.proofs.Tests.{false_not_true, leb_elim, ltb_elim, eqb_elim}
use Rattle.edf.proofs.Names.{same_refl}
use Rattle.edf.proofs.Runner.{Best, Nothing, foremost_best}
use Rattle.edf.proofs.Counted.{once}
use Rattle.edf.proofs.Follow.{job_named, feed_named, live_here, current_here}

true_of_T : (b : Bool) → T b → b ≡ true
true_of_T true t = refl
true_of_T false t = absurd t

-- WHOM THE TICK GOES TO: the one at hand that is ready and goes before all that is ready, or nobody where nothing is ready
pub runner_is_chosen : (b : Book) → Chosen b (runner b) ⊎ NothingReady b (runner b)
unfolding runner
runner_is_chosen b = go (foremost_best (at_hand b))
  where
    r : Piece
    r = foremost (at_hand b)

    go : Best (at_hand b) r ⊎ Nothing (at_hand b) r → Chosen b r ⊎ NothingReady b r
    go (inl h) =
        inl
        (record {
          hand = h.0;
          ready = h.1;
          first = each_imp (λ q. 0 < q.owes → T (sooner r q)) (λ q. 1 ≤ q.owes → sooner r q ≡ true) (λ q t k. true_of_T (sooner r q) (t k)) (at_hand b) h.2;
        })
    go (inr h) = inr (record { idle = h.0; done = h.1 })

-- the lower first, and where both are the same what the rest says
first_is : (a b : ℕ) (r : Bool) (S : Type 0) → (r ≡ true) ↔ S → (first a b r ≡ true) ↔ ((a < b) ⊎ ((a ≡ b) × S))
unfolding first
first_is a b r S rest =
    ltb_elim (λ x. (x || (eqb a b && r) ≡ true) ↔ ((a < b) ⊎ ((a ≡ b) × S))) a b (λ h. (λ e. inl h, λ e. refl))
    (λ h. eqb_elim (λ x. (x && r ≡ true) ↔ ((a < b) ⊎ ((a ≡ b) × S))) a b (λ p. (λ e. inr (p, rest.0 e), level p))
    (λ n. (λ e. absurd (false_not_true e), λ e. absurd (apart n h e))))
  where
    level : a ≡ b → (a < b) ⊎ ((a ≡ b) × S) → r ≡ true
    level p (inl h) = absurd (omega arith)
    level p (inr h) = rest.1 h.1

    apart : (a ≡ b → ⊥) → b ≤ a → (a < b) ⊎ ((a ≡ b) × S) → ⊥
    apart n h (inl k) = omega arith
    apart n h (inr k) = n k.0

leb_is : (a b : ℕ) → (leb a b ≡ true) ↔ (a ≤ b)
leb_is a b = leb_elim (λ x. (x ≡ true) ↔ (a ≤ b)) a b (λ h. (λ e. h, λ k. refl)) (λ h. (λ e. absurd (false_not_true e), λ k. absurd (omega arith)))

-- GOING BEFORE, word by word: the earlier deadline, a job before a feed, the lower number, the lower position
pub sooner_is : (p q : Piece) → (sooner p q ≡ true) ↔ GoesBefore p q
unfolding sooner
sooner_is p q = first_is p.due q.due _ _ (first_is (kind p.who) (kind q.who) _ _ (leb_is (number_of p.who) (number_of q.who)))

-- exactly one of those at hand is the runner's
pub runner_stands_once : (b : Book) → InOrder b → Chosen b (runner b) → total (λ p. same (runner b).who p.who) (at_hand b) ≡ 1
runner_stands_once b o c =
    omega (
      arith,
      once b o (runner b).who,
      some_le_total (λ p. same (runner b).who p.who) 1 (at_hand b)
          (some_imp (λ x. x ≡ runner b) (λ p. 1 ≤ same (runner b).who p.who) (λ p e. omega (arith, ap (λ x. same (runner b).who x.who) e, same_refl (runner b).who)) (at_hand b) c.hand),
    )

-- WHAT THE TICK CHANGES, before any release: the runner's work owes one less, everybody else's what it owed
pub tick_changes_jobs : (b : Book) → InOrder b → Pairs (JobServed (runner b).who) (serve (runner b).who b).jobs b.jobs
unfolding serve
tick_changes_jobs b o =
    pairs_of_map (JobServed g) (serve_job g) b.jobs
    (each_imp (λ j. Some (λ k. k ≡ j) b.jobs) (λ j. JobServed g (serve_job g j) j)
    (λ j m. record { number = refl; due = refl; owes = omega (arith, (job_named b j.number j.due j.owes o (live_here b j m)).1) })
    b.jobs
    (each_self b.jobs))
  where
    g : Who
    g = (runner b).who

pub tick_changes_feeds : (b : Book) → InOrder b → Pairs (FeedServed (runner b).who) (serve (runner b).who b).feeds b.feeds
unfolding serve
tick_changes_feeds b o =
    pairs_of_map (FeedServed g) (serve_feed g) b.feeds
    (each_imp (λ f. Some (λ k. k ≡ f) b.feeds) (λ f. FeedServed g (serve_feed g f) f)
    (λ f m. record { position = refl; plan = refl; owes = omega (arith, (feed_named b f.position (due f.plan b.clock) f.owes o (current_here b f m)).1) })
    b.feeds
    (each_self b.feeds))
  where
    g : Who
    g = (runner b).who
