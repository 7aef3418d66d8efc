-- A feed that gets the tick owes something.
use mathlib.Core.Path.{◌≡◌, sym, ap, ◌∙◌}
use mathlib.Core.Logic.{◌⊎◌, inl, inr}
use mathlib.Core.Bool.{cond}
use mathlib.Core.List.{List, [], ◌∷◌}
use Prim.Native.Nat.{ℕ, suc, ◌≤◌}
use native.Mathlib.Omega.{arith}
use borrow.Author.Tests.{eq-eqb, ne_eqb}
use Rattle.lists.specs.Lists.{Each}
use Rattle.lists.proofs.Lists.{each, each_imp, each_at}
use Rattle.ticks.specs.declared.Instant.{Instant}
use Rattle.ticks.specs.declared.Length.{Length}
use Rattle.feeds.specs.declared.Feed.{Feed}
use Rattle.feeds.specs.Pieces.{owes_at}
use Rattle.jobs.specs.declared.Job.{Job}
use Rattle.answers.specs.declared.Who.{Who}
use Rattle.answers.specs.declared.Who.TheVariants as who
use Rattle.edf.specs.Book as edf
use Rattle.edf.specs.Pieces.{Piece, at_hand}
use Rattle.edf.specs.Step.{foremost, runner}
use Rattle.edf.proofs.Tick.{hand_each}
use Rattle.edf.proofs.Follow.{feed_busy}
use Rattle.edf.proofs.Runner.{Best, Nothing, foremost_best}
use Rattle.ledger.specs.Books.{book_feeds, book_at, who_of}
use Rattle.serving.specs.Tick.{Owed}

position_of : (p q : ℕ) → edf.feed p ≡ edf.feed q → p ≡ q
position_of p q e = cc

job_not_feed : (n p : ℕ) → edf.job n ≡ edf.feed p → ⊥
job_not_feed n p e = let k : ◌≡◌ {A = ℕ} 0 1 = cc in omega arith

-- what the book's feed at a position owes is what the state's feed there owes
owes_read : (c : Length) (p k : ℕ) (fs : List Feed) → Each (λ f. edf.feed f.position ≡ edf.feed p → (k ≤ p) × (owes_at p k fs ≡ f.owes)) (book_feeds c k fs)
owes_read c p k [] = tt
owes_read c p k (f ∷ fs) = (here, each_imp _ _ later (book_feeds c (suc k) fs) (owes_read c p (suc k) fs))
  where
    here : edf.feed k ≡ edf.feed p → (k ≤ p) × (owes_at p k (f ∷ fs) ≡ f.owes.0)
    here e =
        let same : p ≡ k = sym (position_of k p e) in
        (omega arith, ap (λ b. cond b f.owes.0 (owes_at p (suc k) fs)) (eq-eqb p k same))

    later : (g : edf.Feed) → (edf.feed g.position ≡ edf.feed p → (suc k ≤ p) × (owes_at p (suc k) fs ≡ g.owes))
        → edf.feed g.position ≡ edf.feed p → (k ≤ p) × (owes_at p k (f ∷ fs) ≡ g.owes)
    later g h e =
        let differ : p ≡ k → ⊥ = λ d. omega (arith, (h e).0) in
        (omega (arith, (h e).0), ap (λ b. cond b f.owes.0 (owes_at p (suc k) fs)) (ne_eqb p k differ) ∙ (h e).1)

-- the runner, where it is a feed, owes what is owed at its position, and it is ready
feed_owed : (p : ℕ) (c : Length) (clock : Instant) (fs : List Feed) (js : List Job) → (runner (book_at c clock fs js)).who ≡ edf.feed p → 1 ≤ owes_at p 1 fs
unfolding runner
feed_owed p c clock fs js e = go (foremost_best (at_hand b))
  where
    b : edf.Book
    b = book_at c clock fs js

    r : Piece
    r = foremost (at_hand b)

    hand : Each (λ x. x.who ≡ edf.feed p → owes_at p 1 fs ≡ x.owes) (at_hand b)
    hand =
        hand_each (λ x. x.who ≡ edf.feed p → owes_at p 1 fs ≡ x.owes) b
        (each _ (λ j d. absurd (job_not_feed j.number p d)) b.jobs)
        (each_imp _ _ (λ f h d. (h d).1) b.feeds (owes_read c p 1 fs))

    go : Best (at_hand b) r ⊎ Nothing (at_hand b) r → 1 ≤ owes_at p 1 fs
    go (inl h) = omega (arith, h.1, each_at (λ x. x.who ≡ edf.feed p → owes_at p 1 fs ≡ x.owes) r (at_hand b) hand h.0 e)
    go (inr h) = absurd (feed_busy p (sym e ∙ ap (λ x. x.who) h.0))

pub runner_owed : (w : Who) (c : Length) (clock : Instant) (fs : List Feed) (js : List Job) → (runner (book_at c clock fs js)).who ≡ who_of w → Owed w fs
unfolding Owed
runner_owed (who.Feed p) c clock fs js e = feed_owed p c clock fs js e
runner_owed (who.Job n) c clock fs js e = tt
runner_owed who.Idle c clock fs js e = tt
