-- A tick given in the state is the tick given in its book, to whomever it goes.
use mathlib.Core.Path.{◌≡◌, refl, sym, ap, ◌∙◌}
use mathlib.Core.Bool.{Bool, true, false, cond}
use mathlib.Core.List.{List, [], ◌∷◌, map}
use Prim.Native.Nat.{ℕ, suc, ◌-◌}
use native.Mathlib.Nat.{sub-zero}
use lib.Dec.{ltb}
use borrow.Author.Tests.{lt-ltb}
use Rattle.lists.specs.Lists.{eq, Each, keep}
use Rattle.ticks.specs.declared.Length.{Length}
use Rattle.feeds.specs.declared.Feed.{Feed}
use Rattle.feeds.specs.Feeds.{plans_of}
use Rattle.feeds.proofs.Same.{served_plans}
use Rattle.jobs.specs.declared.Job.{Job}
use Rattle.jobs.specs.Figures.{figured}
use Rattle.jobs.specs.Sorted.{Sorted, sorted}
use Rattle.jobs.proofs.Sorted.{sorted_own, sorted_map, sorted_keep}
use Rattle.jobs.specs.Served.{Owing, served_job, served}
use Rattle.answers.specs.declared.Who.{Who}
use Rattle.answers.specs.declared.Who.TheVariants as who
use Rattle.edf.specs.Book as edf
use Rattle.edf.specs.Step.{serve_job, serve_feed}
use Rattle.ledger.specs.Books.{book_plan, book_feeds, book_job, job_of, who_of}
use Rattle.ledger.proofs.Books.{jobs_of_book}
use Rattle.ledger.proofs.Pieces.{served_read}
use Rattle.serving.specs.Tick.{served_feeds, served_jobs}

-- a tick that goes to no feed leaves the feeds as they are
feeds_unserved : (c : Length) (g : edf.Who) (k : ℕ) (fs : List Feed) → ((p : ℕ) → edf.same g (edf.feed p) ≡ 0) → map (serve_feed g) (book_feeds c k fs) ≡ book_feeds c k fs
feeds_unserved c g k [] z = refl
feeds_unserved c g k (f ∷ fs) z =
    let e : f.owes.0 - edf.same g (edf.feed k) ≡ f.owes.0 = ap (f.owes.0 -◌) (z k) ∙ sub-zero f.owes.0 in
    λ i. record { position = k; plan = book_plan c f.plan; owes = e i } ∷ feeds_unserved c g (suc k) fs z i

-- the feeds read after the tick are the feeds of the book after it
pub feeds_given : (c : Length) (w : Who) (fs : List Feed) → book_feeds c 1 (served_feeds w fs) ≡ map (serve_feed (who_of w)) (book_feeds c 1 fs)
unfolding edf.same
feeds_given c (who.Feed p) fs = served_read c p 1 fs
feeds_given c (who.Job n) fs = sym (feeds_unserved c (edf.job n) 1 fs (λ p. refl))
feeds_given c who.Idle fs = sym (feeds_unserved c edf.idle 1 fs (λ p. refl))

-- no plan changes
pub given_plans : (w : Who) (fs : List Feed) → plans_of (served_feeds w fs) ≡ plans_of fs
given_plans (who.Feed p) fs = served_plans p 1 fs
given_plans (who.Job n) fs = refl
given_plans who.Idle fs = refl

-- the jobs of a book after a tick: who owes nothing has left
abbrev left : edf.Who → List Job → List edf.Job
left g js = keep (λ j. ltb 0 j.owes) (map (serve_job g) (map book_job js))

-- a tick that goes to no job leaves the jobs as they are
jobs_unserved : (g : edf.Who) (js : List Job) → ((n : ℕ) → edf.same g (edf.job n) ≡ 0) → Each Owing js → left g js ≡ map book_job js
jobs_unserved g [] z o = refl
jobs_unserved g (j ∷ js) z o =
    let e : j.owed.0 - edf.same g (edf.job j.number) ≡ j.owed.0 = ap (j.owed.0 -◌) (z j.number) ∙ sub-zero j.owed.0 in
    ap (λ b. cond b (serve_job g (book_job j) ∷ left g js) (left g js)) (ap (ltb 0) e ∙ lt-ltb 0 j.owed.0 o.0)
    ∙ (λ i. record { number = j.number; owes = e i; due = j.deadline.0 } ∷ jobs_unserved g js z o.1 i)

-- the tick given to a job, as the mathematics has it
jobs_served : (n : ℕ) (js : List Job) → map book_job (served n js) ≡ left (edf.job n) js
unfolding edf.same
jobs_served n [] = refl
jobs_served n (j ∷ js) = go (jobs_served n js) (ltb 0 (j.owed.0 - eq n j.number))
  where
    go : map book_job (served n js) ≡ left (edf.job n) js → (b : Bool)
        → map book_job (cond b (served_job n j ∷ served n js) (served n js))
        ≡ cond b (serve_job (edf.job n) (book_job j) ∷ left (edf.job n) js) (left (edf.job n) js)
    go ih true = ap (book_job (served_job n j) ∷◌) ih
    go ih false = ih

-- the jobs after the tick are read as the jobs of the book after it
jobs_read : (w : Who) (js : List Job) → Each Owing js → map book_job (served_jobs w js) ≡ left (who_of w) js
unfolding edf.same
jobs_read (who.Job n) js o = jobs_served n js
jobs_read (who.Feed p) js o = sym (jobs_unserved (edf.feed p) js (λ n. refl) o)
jobs_read who.Idle js o = sym (jobs_unserved edf.idle js (λ n. refl) o)

-- a tick leaves the order of the jobs
given_sorted : (w : Who) (js : List Job) → Sorted js → Sorted (served_jobs w js)
given_sorted (who.Job n) js s = sorted_keep (λ j. ltb 0 j.owed.0) (map (served_job n) js) (sorted_map (served_job n) (λ j. refl) (λ j. refl) js s)
given_sorted (who.Feed p) js s = s
given_sorted who.Idle js s = s

-- where a tick goes to no job, they stay as they are
pub jobs_stay : (w : Who) (js : List Job) → ((n : ℕ) → w ≡ who.Job n → ⊥) → served_jobs w js ≡ js
jobs_stay (who.Job n) js h = absurd (h n refl)
jobs_stay (who.Feed p) js h = refl
jobs_stay who.Idle js h = refl

-- and written from them, the figures done afresh
pub jobs_given : (w : Who) (js : List Job) → Each Owing js → Sorted js
    → figured (served_jobs w js) ≡ figured (sorted (map job_of (keep (λ j. ltb 0 j.owes) (map (serve_job (who_of w)) (map book_job js)))))
jobs_given w js o s =
    ap figured (sym (sorted_own (served_jobs w js) (given_sorted w js s)))
    ∙ sym (jobs_of_book (served_jobs w js))
    ∙ ap (λ ks. figured (sorted (map job_of ks))) (jobs_read w js o)
