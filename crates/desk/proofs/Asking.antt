-- Asking for a job: what the lines let pass, what is then judged, and that the contract leaves one outcome.
use mathlib.Core.Path.{◌≡◌, refl, sym, ap, ◌∙◌, subst}
use mathlib.Core.Logic.{inl, inr}
use mathlib.Core.Bool.{false, false≢true}
use mathlib.Core.List.{[], ◌∷◌, ◌++◌, map}
use Prim.Native.Nat.{ℕ, ◌<◌}
use native.Mathlib.Omega.{arith}
use borrow.Author.Tests.{not-false, leb-true, leb-false}
use Rattle.lists.specs.Lists.{Each, total}
use Rattle.lists.proofs.Lists.{total_map}
use Rattle.lists.proofs.Tests.{both}
use Rattle.ticks.specs.Ticks.{most_job, job_length, ticks}
use Rattle.ticks.proofs.Tests.{from_one_lem}
use Rattle.jobs.specs.declared.Job.{Job}
use Rattle.jobs.specs.declared.Table.{Table}
use Rattle.jobs.specs.Jobs.{most_jobs, table_of, Tidy, JobsIn, live}
use Rattle.jobs.specs.Figures.{Modest, Figured, figured}
use Rattle.jobs.specs.Sorted.{Sorted, insert}
use Rattle.jobs.proofs.Sorted.{insert_same}
use Rattle.jobs.proofs.Numbers.{lacks_times}
use Rattle.jobs.proofs.Places.{live_of, live_count, tidy_of, jobs_in_taken}
use Rattle.edf.specs.Calls.{taking}
use Rattle.edf.specs.Reordered.{Reordered}
use Rattle.answers.specs.declared.Refusal.{Refusal}
use Rattle.answers.specs.Verdicts.{Verdict}
use Rattle.std.specs.Prelude.{Ok, Err}
use Rattle.answers.specs.Answers.{first_of, is_yes, yes_with}
use Rattle.answers.proofs.Answers.{yes_first, yes_both, yes_is_not_no, told_no, told_yes}
use Rattle.ledger.specs.declared.Ledger.{Ledger}
use Rattle.ledger.specs.State.{Sized, InOrder, moved}
use Rattle.ledger.specs.Books.{book_job, book_of}
use Rattle.ledger.proofs.Books.{book_of_figured}
use Rattle.desk.proofs.InOrder.{in_order_lem}
use Rattle.room.proofs.Owed.{jobs_modest}
use Rattle.desk.specs.declared.Desk.{Desk}
use Rattle.desk.specs.declared.Answer.{Answer}
use Rattle.desk.specs.Calls.{disorder}
use Rattle.desk.specs.Asking.{request_lines, place_lines, ask_lines, requested, request_of, with_job, Admissible, Judged, Asked}
use Rattle.desk.proofs.Calls.{jobs_append}

-- A REQUEST THAT NO OTHER LINE STOPS
pub admissible : (d : Desk) (number work lead : ℕ) → Sized d.ledger → first_of (ask_lines d number (ticks work) (ticks lead)) ≡ Ok tt
    → Admissible d (requested d number work lead)
admissible d number work lead s e =
    let l = d.ledger in
    let t = yes_first (disorder d) _ e in
    let u = yes_both (request_lines l.clock number (ticks work) (ticks lead)) (place_lines l.table number) t.1 in
    let zero = yes_first _ _ u.0 in
    let outside = yes_first _ _ zero.1 in
    let past = yes_first _ _ outside.1 in
    let numbered = yes_first _ _ u.1 in
    let full = yes_first _ _ numbered.1 in
    let lengths = both (job_length (ticks work)) (job_length (ticks lead)) (not-false _ outside.0) in
    let w = from_one_lem most_job (ticks work) lengths.0 in
    let far = from_one_lem most_job (ticks lead) lengths.1 in
    record {
      sized = s;
      order = not-false _ t.0;
      job = record {
        number = leb-true _ _ (not-false _ zero.0);
        owed = (omega (arith, w.0), omega (arith, w.1));
        ahead = omega (arith, far.0);
        near = omega (arith, far.1);
        within = leb-true _ _ (not-false _ past.0);
      };
      free = lacks_times number (live l.table) (not-false _ numbered.0);
      space = leb-false _ _ full.0;
    }

-- the table takes a job that is asked for
pub takes : (d : Desk) (j : Job) → Admissible d j
    → Tidy d.ledger.table × (d.ledger.table.count < most_jobs) × Sorted (live d.ledger.table) × Each Modest (live d.ledger.table) × Figured (live d.ledger.table) × Modest j
takes d j a =
    let order = in_order_lem d a.sized a.order in
    (order.tidy_table, a.space, order.jobs.order, jobs_modest d.ledger order, order.jobs.figures, omega (arith, a.job.owed.1, order.charge))

-- with the job that is asked for the state is still in order, and its book is the book with that job
module _ (d : Desk) (j : Job) (a : Admissible d j) (t : Table) (e : t ≡ table_of (figured (insert j (live d.ledger.table)))) where
  abbrev l : Ledger
  l = d.ledger

  order : InOrder l
  order = in_order_lem d a.sized a.order

  taken_live : live t ≡ figured (insert j (live l.table))
  taken_live = ap live e ∙ live_of (figured (insert j (live l.table)))

  pub taken_in_order : InOrder (moved d.ledger d.ledger.clock d.ledger.feeds t)
  taken_in_order =
      let js : JobsIn l.charge l.clock (figured (insert j (live l.table)))
      = jobs_in_taken l.charge l.clock (live l.table) j order.jobs (omega (arith, a.space, live_count l.table order.tidy_table)) a.job a.free in
      record {
        clock = order.clock;
        charge = order.charge;
        feeds = order.feeds;
        jobs = subst (JobsIn l.charge l.clock) (sym taken_live) js;
        tidy_feeds = order.tidy_feeds;
        tidy_table = subst Tidy (sym e) (tidy_of (figured (insert j (live l.table))) js.few);
      }

  pub taken_book : Reordered (with_job d j) (book_of (moved d.ledger d.ledger.clock d.ledger.feeds t))
  unfolding taking
  taken_book =
      let js = live l.table in
      record {
        clock = refl;
        feeds = refl;
        jobs = λ f.
            ap (total f) (sym (jobs_append js j))
            ∙ total_map f book_job (js ++ (j ∷ []))
            ∙ sym (insert_same js j (λ k. f (book_job k)))
            ∙ sym (total_map f book_job (insert j js))
            ∙ ap (total f) (sym (ap (map book_job) taken_live ∙ book_of_figured (insert j js)));
      }

-- the request as the lines leave it: refused, or the job
module _ (d : Desk) (number work lead : ℕ) where
  pub refused_request : (x : Refusal) → first_of (ask_lines d number (ticks work) (ticks lead)) ≡ Err x → Err x ≡ request_of d number work lead
  unfolding request_of
  refused_request x e = ap (λ v. yes_with v (requested d number work lead)) (sym e)

  pub passed_request : first_of (ask_lines d number (ticks work) (ticks lead)) ≡ Ok tt → Ok (requested d number work lead) ≡ request_of d number work lead
  unfolding request_of
  passed_request e = ap (λ v. yes_with v (requested d number work lead)) (sym e)

  -- and back
  pub request_refused : (x : Refusal) → request_of d number work lead ≡ Err x → first_of (ask_lines d number (ticks work) (ticks lead)) ≡ Err x
  unfolding request_of
  request_refused x e = told_no _ _ x e

  pub request_passed : (j : Job) → request_of d number work lead ≡ Ok j → (first_of (ask_lines d number (ticks work) (ticks lead)) ≡ Ok tt) × (j ≡ requested d number work lead)
  unfolding request_of
  request_passed j e = told_yes _ _ j e

module _ (d : Desk) (number work lead : ℕ) where
  -- an ask that a line stops
  pub stopped_asked : (x : Refusal) → first_of (ask_lines d number (ticks work) (ticks lead)) ≡ Err x
      → Asked d number work lead (record { desk = d; verdict = Err x })
  stopped_asked x e =
      record {
        stopped = λ y f. λ i. record { desk = d; verdict = (sym e ∙ f) i };
        judged = λ f. absurd (yes_is_not_no x (sym f ∙ e));
      }

  -- the same told by the answer
  pub not_yes_asked : (v : Verdict) → v ≡ first_of (ask_lines d number (ticks work) (ticks lead)) → is_yes (first_of (ask_lines d number (ticks work) (ticks lead))) ≡ false
      → Asked d number work lead (record { desk = d; verdict = v })
  not_yes_asked v e n = go v e (ap is_yes e ∙ n)
    where
      go : (w : Verdict) → w ≡ first_of (ask_lines d number (ticks work) (ticks lead)) → is_yes w ≡ false → Asked d number work lead (record { desk = d; verdict = w })
      go (Ok tt) f k = absurd (false≢true (sym k))
      go (Err x) f k = stopped_asked x (sym f)

  -- an ask that is judged
  pub judged_asked : (r : Answer) → first_of (ask_lines d number (ticks work) (ticks lead)) ≡ Ok tt
      → Judged d (requested d number work lead) r → Asked d number work lead r
  judged_asked r e j = record { stopped = λ y f. absurd (yes_is_not_no y (sym e ∙ f)); judged = λ f. j }

  -- a yes: no line stopped it
  pub said_yes : (r : Answer) → Asked d number work lead r → r.verdict ≡ Ok tt → first_of (ask_lines d number (ticks work) (ticks lead)) ≡ Ok tt
  said_yes r a y = go (first_of (ask_lines d number (ticks work) (ticks lead))) refl
    where
      go : (v : Verdict) → first_of (ask_lines d number (ticks work) (ticks lead)) ≡ v → first_of (ask_lines d number (ticks work) (ticks lead)) ≡ Ok tt
      go (Ok tt) e = e
      go (Err x) e = absurd (yes_is_not_no x (sym y ∙ ap (λ k. k.verdict) (a.stopped x e)))

-- TWO OUTCOMES THAT THE CONTRACT ALLOWS ARE THE SAME
judged_once : (d : Desk) (j : Job) (r s : Answer) → Judged d j r → Judged d j s → r ≡ s
unfolding Judged
judged_once d j r s (inl a) (inl b) = a.1 ∙ sym b.1
judged_once d j r s (inl a) (inr b) = absurd (b.0 a.0)
judged_once d j r s (inr a) (inl b) = absurd (a.0 b.0)
judged_once d j r s (inr a) (inr b) = a.1 ∙ sym b.1

pub asked_once : (d : Desk) (number work lead : ℕ) (r s : Answer) → Asked d number work lead r → Asked d number work lead s → r ≡ s
asked_once d number work lead r s a b = go (first_of (ask_lines d number (ticks work) (ticks lead))) refl
  where
    go : (v : Verdict) → first_of (ask_lines d number (ticks work) (ticks lead)) ≡ v → r ≡ s
    go (Ok tt) e = judged_once d (requested d number work lead) r s (a.judged e) (b.judged e)
    go (Err x) e = a.stopped x e ∙ sym (b.stopped x e)
