-- A step that says yes: the desk was in order, its clock goes on by one, and whom it names is a job by its number or a feed by
-- its position.
use mathlib.Core.Path.{◌≡◌, sym, ap, subst}
use mathlib.Core.Logic.{◌⊎◌, inl, inr}
use mathlib.Core.Bool.{true}
use mathlib.Core.List.{List, [], ◌∷◌}
use Prim.Native.Nat.{ℕ, suc, ◌+◌, ◌≤◌, ◌<◌}
use native.Mathlib.Omega.{arith}
use lib.ListN.{length}
use borrow.Author.Tests.{not-false, ltb-true}
use Rattle.lists.specs.Lists.{Each}
use Rattle.lists.proofs.Lists.{each_imp, each_at, each_map}
use Rattle.lists.proofs.Tests.{all_of_lem}
use Rattle.ticks.specs.declared.Length.{Length}
use Rattle.ticks.specs.Ticks.{last_instant}
use Rattle.feeds.specs.declared.Feed as feeds
use Rattle.feeds.specs.Feeds.{most_feeds, in_use}
use Rattle.feeds.proofs.Passing.{feeds_pass_lem}
use Rattle.jobs.specs.Jobs.{JobIn, live}
use Rattle.jobs.proofs.Limits.{table_in_lem}
use Rattle.edf.specs.Book.{Book}
use Rattle.edf.specs.Pieces.{Piece, at_hand}
use Rattle.edf.specs.Step.{nobody, runner, ran, step}
use Rattle.edf.specs.Chosen.{Chosen, NothingReady}
use Rattle.edf.proofs.Chosen.{runner_is_chosen}
use Rattle.edf.proofs.Tick.{hand_each}
use Rattle.edf.proofs.Service.{step_clock as book_clock}
use Rattle.ledger.specs.declared.Ledger.{Ledger}
use Rattle.ledger.specs.State.{in_order as ledger_in_order}
use Rattle.ledger.specs.Books.{book_feeds, book_job, book_of, who_is}
use Rattle.serving.specs.Tick.{last_line}
use Rattle.answers.specs.declared.Who.TheVariants.{Job, Feed, Idle}
use Rattle.std.specs.Prelude.{Ok}
use Rattle.answers.specs.Answers.{on_yes}
use Rattle.answers.proofs.Answers.{yes_first}
use Rattle.desk.specs.declared.Desk.{Desk}
use Rattle.desk.specs.State.{book, rewritten, in_order}
use Rattle.desk.specs.Calls.{disorder, step_of}
use Rattle.desk.specs.Named.{Named}

-- WHEN A STEP SAYS YES: the desk is in order, and the clock is before its last instant
pub step_in_order : (d : Desk) → (step_of d).verdict ≡ Ok tt → in_order d ≡ true
unfolding step_of
step_in_order d e = not-false _ (yes_first (disorder d) _ e).0

pub step_in_time : (d : Desk) → (step_of d).verdict ≡ Ok tt → d.ledger.clock.0 < last_instant
unfolding step_of
step_in_time d e = ltb-true _ _ (not-false _ (yes_first (last_line d.ledger) [] (yes_first (disorder d) _ e).1).0)

-- THE CLOCK goes on by one
pub step_clock : (d : Desk) → (step_of d).verdict ≡ Ok tt → (step_of d).desk.ledger.clock.0 ≡ d.ledger.clock.0 + 1
unfolding step_of
step_clock d e = omega (arith, ap (λ v. (on_yes v (rewritten d (step (book d))) d).ledger.clock.0) e, book_clock (book d))

-- what holds of nobody and of each piece at hand holds of the one that gets the tick
runner_has : (P : Piece → Type 0) (b : Book) → P nobody → Each P (at_hand b) → P (runner b)
runner_has P b none hand = go (runner_is_chosen b)
  where
    go : Chosen b (runner b) ⊎ NothingReady b (runner b) → P (runner b)
    go (inl c) = each_at P (runner b) (at_hand b) hand c.hand
    go (inr n) = subst P (sym n.idle) none

-- feeds that have places from the position k on
feeds_named : (charge : Length) (k : ℕ) (fs : List feeds.Feed) → 1 ≤ k → k + length fs ≤ most_feeds + 1
    → Each (λ f. Named (Feed f.position)) (book_feeds charge k fs)
feeds_named charge k [] from upto = tt
feeds_named charge k (f ∷ fs) from upto = ((from, omega arith), feeds_named charge (suc k) fs (omega arith) (omega arith))

-- the feeds and the jobs of a state that passes the test
state_feeds_named : (l : Ledger) → ledger_in_order l ≡ true → Each (λ f. Named (Feed f.position)) (book_of l).feeds
unfolding ledger_in_order
state_feeds_named l h =
    let fs = feeds_pass_lem l.charge l.clock l.feeds (all_of_lem _ h).1.1.0 in
    feeds_named l.charge 1 (in_use l.feeds) (omega arith) (omega (arith, fs.feeds.passing.few))

state_jobs_named : (l : Ledger) → ledger_in_order l ≡ true → Each (λ j. Named (Job j.number)) (book_of l).jobs
unfolding ledger_in_order
state_jobs_named l h =
    let js = table_in_lem l.charge l.clock l.table (all_of_lem _ h).1.1.1.0 in
    each_map (λ j. Named (Job j.number)) book_job (live l.table)
    (each_imp (JobIn l.charge l.clock) (λ j. 1 ≤ j.number) (λ j k. k.number) (live l.table) js.each)

-- whom the tick of a desk in order goes to
runner_named : (d : Desk) → in_order d ≡ true → Named (who_is (runner (book d)).who)
unfolding in_order
runner_named d h =
    let l = d.ledger in
    let fine : ledger_in_order l ≡ true = (all_of_lem _ h).1.1.0 in
    runner_has (λ p. Named (who_is p.who)) (book d) tt
    (hand_each (λ p. Named (who_is p.who)) (book d) (state_jobs_named l fine) (state_feeds_named l fine))

-- WHOM A STEP NAMES: a job by a number of at least 1, a feed by a position from 1 to 16, or nobody
pub step_names : (d : Desk) → (step_of d).verdict ≡ Ok tt → Named (step_of d).who
unfolding step_of ran
step_names d e =
    subst (λ v. Named (on_yes v (who_is (runner (book d)).who) Idle)) (sym e) (runner_named d (step_in_order d e))
