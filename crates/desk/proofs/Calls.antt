-- What the calls change in a state in order is the call of the mathematics, written back.
use mathlib.Core.Path.{◌≡◌, refl, sym, ap, ◌∙◌}
use mathlib.Core.Bool.{Bool, true, false, not, cond}
use mathlib.Core.List.{List, [], ◌∷◌, ◌++◌, map}
use Prim.Native.Nat.{ℕ}
use lib.Dec.{eqb}
use Rattle.lists.specs.Lists.{keep}
use Rattle.feeds.specs.declared.Feeds.{Feeds}
use Rattle.feeds.specs.Feeds.{feeds_of, in_use}
use Rattle.feeds.specs.Pieces.{rested}
use Rattle.jobs.specs.declared.Job.{Job}
use Rattle.jobs.specs.declared.Table.{Table}
use Rattle.jobs.specs.Jobs.{table_of, others, times, live}
use Rattle.jobs.specs.Figures.{figured}
use Rattle.jobs.specs.Sorted.{insert, sorted}
use Rattle.jobs.proofs.Sorted.{sorted_own, sorted_keep, sorted_taken}
use Rattle.edf.specs.Book as edf
use Rattle.edf.specs.Calls.{taking, ending, resting}
use Rattle.ledger.specs.declared.Ledger.{Ledger}
use Rattle.ledger.specs.State.{moved, InOrder}
use Rattle.ledger.specs.Books.{book_feeds, book_job, book_of, job_of, owing_as, rewritten, who_is}
use Rattle.ledger.proofs.Books.{owing_as_read, jobs_of_book, jobs_of_book_own}
use Rattle.ledger.proofs.Pieces.{rested_read}
use Rattle.ticks.specs.Ticks.{ticks}
use Rattle.edf.specs.Step.{ran, step}
use Rattle.answers.specs.declared.Who.TheVariants.{Idle}
use Rattle.answers.specs.declared.Refusal.TheVariants.{NotInOrder}
use Rattle.answers.specs.Verdicts.{Verdict}
use Rattle.std.specs.Prelude.{Ok, Err}
use Rattle.answers.specs.Answers.{first_of, on_yes, yes_with}
use Rattle.answers.proofs.Answers.{stops, goes_on_lem}
use Rattle.serving.specs.Tick.{last_line, stepped, stepped_of}
use Rattle.desk.specs.State.{in_order}
use Rattle.desk.specs.declared.Desk.{Desk}
use Rattle.desk.specs.declared.Stepped.{Stepped}
use Rattle.desk.specs.State as desk
use Rattle.desk.specs.Calls.{disorder, step_lines, stepped_desk, step_of}

-- the jobs of other numbers
others_read : (n : ℕ) (js : List Job) → map book_job (others n js) ≡ keep (λ j. not (eqb n j.number)) (map book_job js)
others_read n [] = refl
others_read n (j ∷ js) = go (others_read n js) (not (eqb n j.number))
  where
    go : map book_job (others n js) ≡ keep (λ k. not (eqb n k.number)) (map book_job js)
        → (b : Bool)
        → map book_job (cond b (j ∷ others n js) (others n js))
        ≡ cond b (book_job j ∷ keep (λ k. not (eqb n k.number)) (map book_job js)) (keep (λ k. not (eqb n k.number)) (map book_job js))
    go e true = ap (book_job j ∷◌) e
    go e false = e

-- one more job
pub jobs_append : (js : List Job) (j : Job) → map book_job (js ++ (j ∷ [])) ≡ map book_job js ++ (book_job j ∷ [])
jobs_append [] j = refl
jobs_append (k ∷ js) j = ap (book_job k ∷◌) (jobs_append js j)

module _ (l : Ledger) (h : InOrder l) where
  -- the feeds and the jobs, written back as they were
  feeds_back : l.feeds ≡ feeds_of (owing_as (book_feeds l.charge 1 (in_use l.feeds)) (in_use l.feeds))
  feeds_back = h.tidy_feeds.filled ∙ ap feeds_of (sym (owing_as_read l.charge 1 (in_use l.feeds)))

  jobs_back : l.table ≡ table_of (figured (sorted (map job_of (map book_job (live l.table)))))
  jobs_back = h.tidy_table.filled ∙ ap table_of (sym (jobs_of_book_own (live l.table) h.jobs.order h.jobs.figures))

  -- jobs in the order of the table with their figures are written from their book
  jobs_made : (t : Table) (js ks : List Job) (bs : List edf.Job) → t ≡ table_of (figured js) → sorted ks ≡ js → map book_job ks ≡ bs → t ≡ table_of (figured (sorted (map job_of bs)))
  jobs_made t js ks bs e o r = e ∙ ap table_of (ap figured (sym o) ∙ sym (jobs_of_book ks) ∙ ap (λ xs. figured (sorted (map job_of xs))) r)

  -- a job that is out
  pub ended_ledger : (n : ℕ) (t : Table) → t ≡ table_of (figured (others n (live l.table))) → moved l l.clock l.feeds t ≡ rewritten l (ending n (book_of l))
  unfolding ending
  ended_ledger n t e = let js = live l.table in λ i. moved l l.clock (feeds_back i) (jobs_made t (others n js) (others n js) (ending n (book_of l)).jobs e (sorted_own (others n js) (sorted_keep (λ j. not (eqb n j.number)) js h.jobs.order)) (others_read n js) i)

  -- a piece that rests
  pub rested_ledger : (p : ℕ) (s : Feeds) → s ≡ feeds_of (rested p 1 (in_use l.feeds)) → moved l l.clock s l.table ≡ rewritten l (resting p (book_of l))
  unfolding resting
  rested_ledger p s e = λ i. moved l l.clock ((e ∙ ap feeds_of (rested_read l.charge p 1 (in_use l.feeds))) i) (jobs_back i)

  -- a job that is taken
  pub taken_ledger : (j : Job) (t : Table) → times j.number (live l.table) ≡ 0 → t ≡ table_of (figured (insert j (live l.table)))
      → moved l l.clock l.feeds t ≡ rewritten l (taking (book_job j) (book_of l))
  unfolding taking
  taken_ledger j t free e =
      let js = live l.table in
      λ i. moved l l.clock (feeds_back i) (jobs_made t (insert j js) (js ++ (j ∷ [])) (taking (book_job j) (book_of l)).jobs e (sorted_taken js j h.jobs.order h.jobs.once free) (jobs_append js j) i)

-- what a step hands back, by its verdict
abbrev told : Desk → Verdict → Stepped
told d v =
    record {
      desk = on_yes v (desk.rewritten d (step (desk.book d))) d;
      verdict = v;
      who = on_yes v (who_is (ran (desk.book d)).who) Idle;
      owes = on_yes v (ticks (ran (desk.book d)).owes) (ticks 0);
    }

-- a step of a state that is not in order
pub step_stopped : (d : Desk) → in_order d ≡ false → stepped_desk d (Err NotInOrder) ≡ step_of d
unfolding step_of
step_stopped d out = sym (ap (told d) (stops (disorder d) (last_line d.ledger ∷ []) (ap not out)))

-- a step of a state in order is the step below
pub step_by_serving : (d : Desk) → in_order d ≡ true → stepped_desk d (stepped_of d.ledger) ≡ step_of d
unfolding step_of stepped_of
step_by_serving d fine =
    let l = d.ledger in
    let says : first_of (step_lines d) ≡ first_of (last_line l ∷ []) = goes_on_lem (disorder d) (last_line l ∷ []) (first_of (last_line l ∷ [])) (ap not fine) refl in
    by_verdict (first_of (last_line l ∷ [])) ∙ ap (told d) (sym says)
  where
    by_verdict : (v : Verdict) → stepped_desk d (yes_with v (stepped d.ledger)) ≡ told d v
    by_verdict (Ok tt) = refl
    by_verdict (Err r) = refl
