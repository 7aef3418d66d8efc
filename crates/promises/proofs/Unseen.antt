-- Err answer sees the order of the jobs: a desk whose book is another but for that answers as the other.
use mathlib.Core.Path.{◌≡◌, refl, sym, ap, subst, ◌∙◌}
use mathlib.Core.Logic.{inl, inr}
use mathlib.Core.Bool.{not, cond}
use mathlib.Core.List.{List, [], ◌∷◌, ◌++◌, map}
use Prim.Native.Nat.{ℕ, suc, pred, ◌+◌, ◌-◌, ◌*◌, ◌≤◌}
use native.Mathlib.Omega.{arith}
use lib.Dec.{leb, ltb, eqb}
use lib.ListN.{length, drop, length-map}
use Rattle.lists.specs.Lists.{eq, bit, total, SameElements}
use Rattle.lists.proofs.Lists.{total_map}
use Rattle.lists.proofs.Same.{same_length, same_map}
use Rattle.ticks.specs.Ticks.{last_instant, instant, ticks}
use Rattle.mesh.specs.Bands.{work_of}
use Rattle.mesh.specs.Meshes.{triangles_of, mesh_lines}
use Rattle.ticks.specs.declared.Length.{Length}
use Rattle.feeds.specs.declared.Feed.{Feed}
use Rattle.feeds.specs.Feeds.{in_use}
use Rattle.feeds.specs.Pieces.{owes_at}
use Rattle.jobs.specs.declared.Job.{Job}
use Rattle.jobs.specs.Jobs.{most_jobs, numbers_a_job, lacks, times, live}
use Rattle.jobs.specs.Figures.{owes_by, figured}
use Rattle.jobs.specs.Sorted.{sorted}
use Rattle.jobs.proofs.Numbers.{lacks_alike}
use Rattle.jobs.proofs.Places.{live_of, live_count}
use Rattle.jobs.proofs.Sorted.{sorted_once, sorted_sorted, sorted_same}
use Rattle.listing.specs.Words.{words}
use Rattle.answers.specs.declared.Who.TheVariants.{Idle}
use Rattle.answers.specs.declared.Refusal.TheVariants.{NumberLive, Full, PastLast, DoesNotFit, NothingThere, ShortBuffer}
use Rattle.std.specs.Prelude.{Ok, Err}
use Rattle.answers.specs.Answers.{line, first_of, on_yes, yes_with}
use Rattle.answers.proofs.Answers.{goes_on_lem}
use Rattle.edf.specs.Book.{Book}
use Rattle.edf.specs.Order.{InOrder as BookInOrder}
use Rattle.edf.specs.Fits.{Fits}
use Rattle.edf.specs.Step.{ran, runner}
use Rattle.edf.specs.Calls.{taking}
use Rattle.edf.specs.Reordered.{Reordered}
use Rattle.edf.specs.Share.{deadline_at}
use Rattle.shares.specs.declared.Share.{Share}
use Rattle.edf.proofs.Reordered.{reordered_sym, reordered_order, reordered_fits, reordered_telling, reordered_runner, reordered_taking}
use Rattle.ledger.specs.State.{InOrder}
use Rattle.ledger.specs.Books.{book_feeds, book_job, job_of, who_is}
use Rattle.ledger.proofs.Books.{jobs_of_book_own}
use Rattle.ledger.proofs.InOrder.{state_in_order}
use Rattle.desk.proofs.InOrder.{in_order_lem}
use Rattle.serving.specs.Tick.{last_line}
use Rattle.desk.specs.declared.Desk.{Desk}
use Rattle.desk.specs.declared.Answer.{Answer}
use Rattle.desk.specs.State.{book, Good}
use Rattle.desk.specs.Calls.{disorder, step_lines, step_of, end_lines, end_of, rest_lines, rest_of, list_lines, counted_of, listed_of, runner_of}
use Rattle.desk.specs.Opening.{share_line}
use Rattle.desk.specs.Asking.{number_line, request_lines, place_lines, ask_lines, requested, with_job, Judged, Asked}
use Rattle.desk.specs.Undated.{undated_lines, undated_deadline, undated_lead, AskedUndated}
use Rattle.questions.specs.Meshes.{AskedMesh}
use Rattle.promises.specs.Arrival.{Arrived, job_asked, ruled, lead_of, asked_lines, Answers, MeshAnswers, UndatedAnswers, owes_in, stepped, ended_by, rested_by, listed_by, AnswersAs}

-- what a feed's current piece owes, in the state and in its book
owes_read : (p : ℕ) (charge : Length) (k : ℕ) (fs : List Feed) → owes_at p k fs ≡ owes_in p (book_feeds charge k fs)
owes_read p charge k [] = refl
owes_read p charge k (f ∷ fs) = ap (cond (eqb p k) f.owes.0) (owes_read p charge (suc k) fs)

-- a good desk, and a book that is its own but for the order of the jobs
module _ (c : ℕ) (b : Book) (d : Desk) (g : Good d) (r : Reordered b (book d)) (q : d.ledger.charge.0 ≡ c) where
  abbrev js : List Job
  js = live d.ledger.table

  abbrev bs : List Job
  bs = map job_of b.jobs

  order : InOrder d.ledger
  order = in_order_lem d g.sized g.order

  pub ordered : BookInOrder b
  ordered = reordered_order (book d) b (reordered_sym b (book d) r) (state_in_order d.ledger order)

  -- whatever can be counted of a job without its figure
  counts : (f : Job → ℕ) → ((j : Job) → f (job_of (book_job j)) ≡ f j) → total f js ≡ total f bs
  counts f h =
      sym (total_map f job_of b.jobs ∙ r.jobs (λ k. f (job_of k)) ∙ total_map (λ k. f (job_of k)) book_job js ∙ alike js)
    where
      alike : (ks : List Job) → total (λ k. f (job_of (book_job k))) ks ≡ total f ks
      alike [] = refl
      alike (k ∷ ks) = λ i. h k i + alike ks i

  lacks_same : (n : ℕ) → lacks n js ≡ lacks n bs
  lacks_same n = lacks_alike n js bs (counts (λ j. bit (eqb n j.number)) (λ j. refl))

  count_same : d.ledger.table.count ≡ length b.jobs
  count_same =
      sym (live_count d.ledger.table order.tidy_table) ∙ sym (length-map js book_job) ∙ sym (same_length b.jobs (map book_job js) r.jobs)

  -- AN ASK
  asked_same : (number work lead : ℕ) → job_asked c b number work lead ≡ book_job (requested d number work lead)
  asked_same number work lead = λ i. record { number = number; owes = work + sym q i; due = r.clock i + lead }

  pub taken_same : (number work lead : ℕ) → Reordered (taking (job_asked c b number work lead) b) (with_job d (requested d number work lead))
  taken_same number work lead =
      subst (λ j. Reordered (taking (job_asked c b number work lead) b) (taking j (book d))) (asked_same number work lead)
      (reordered_taking b (book d) r (job_asked c b number work lead))

  lines_same : (number work lead : ℕ) → first_of (ask_lines d number (ticks work) (ticks lead)) ≡ first_of (asked_lines b number work lead)
  lines_same number work lead =
      let live_is = lacks_same number ∙ ap (lacks number) (sym (live_of bs)) in
      let many = count_same ∙ sym (length-map b.jobs job_of) in
      goes_on_lem (disorder d) (request_lines d.ledger.clock number (ticks work) (ticks lead) ++ place_lines d.ledger.table number) _ (ap not g.order) refl
      ∙ (λ i. first_of (request_lines (instant (sym r.clock i)) number (ticks work) (ticks lead) ++ (line (not (live_is i)) NumberLive ∷ line (leb most_jobs (many i)) Full ∷ [])))

  judged_same : (number work lead : ℕ) (a : Answer) → Judged d (requested d number work lead) a
      → (Fits (taking (job_asked c b number work lead) b) → a.verdict ≡ Ok tt)
      × ((Fits (taking (job_asked c b number work lead) b) → ⊥) → a.verdict ≡ Err DoesNotFit)
  unfolding Judged
  judged_same number work lead a (inl y) = (
    λ f. ap (λ x. x.verdict) y.1,
    λ n. absurd (n (reordered_fits _ _ (reordered_sym _ _ (taken_same number work lead)) y.0)),
  )
  judged_same number work lead a (inr n) = (
    λ f. absurd (n.0 (reordered_fits _ _ (taken_same number work lead) f)),
    λ m. ap (λ x. x.verdict) n.1,
  )

  ask_same : (number work lead : ℕ) (a : Answer) → Asked d number work lead a → Answers c b number work lead a.verdict
  ask_same number work lead a h =
      record {
        stopped = λ x e. ap (λ k. k.verdict) (h.stopped x (lines_same number work lead ∙ e));
        fits = λ e f. (judged_same number work lead a (h.judged (lines_same number work lead ∙ e))).0 f;
        not = λ e n. (judged_same number work lead a (h.judged (lines_same number work lead ∙ e))).1 n;
      }

  mesh_same : (s : List ℕ) (size number lead : ℕ) (a : Answer) → AskedMesh d s size number lead a → MeshAnswers c b s size number lead a.verdict
  mesh_same s size number lead a h =
      let own = goes_on_lem (disorder d) (mesh_lines s size) _ (ap not g.order) refl in
      record {
        stopped = λ x e. ap (λ k. k.verdict) (h.stopped x (own ∙ e));
        asked = λ e. ask_same number (work_of (triangles_of s)) lead a (h.asked (own ∙ e));
      }

  -- AN ASK WITH NO DATE: the rule gives the same lead
  module _ (s : Share) (k : d.share ≡ s) (previous : ℕ) (e : d.previous.0 ≡ previous) where
    abbrev arrived : Arrived
    arrived = record { book = b; previous = previous }

    pub ruled_same : (work : ℕ) → undated_deadline d work ≡ ruled c s (record { book = b; previous = previous }) work
    ruled_same work = λ i. deadline_at (k i).p (k i).q (e i) (sym r.clock i) (work + q i)

    pub lead_same : (work : ℕ) → undated_lead d work ≡ lead_of c s (record { book = b; previous = previous }) work
    lead_same work = λ i. ruled_same work i - sym r.clock i

    first_same : (number : ℕ) → first_of (undated_lines d number) ≡ first_of (number_line number ∷ share_line s ∷ [])
    first_same number =
        goes_on_lem (disorder d) (number_line number ∷ share_line d.share ∷ []) _ (ap not g.order) refl ∙ ap (λ t. first_of (number_line number ∷ share_line t ∷ [])) k

    undated_same : (number work : ℕ) (a : Answer) → AskedUndated d number work a → UndatedAnswers c s arrived number work a.verdict
    undated_same number work a h =
        record {
          stopped = λ x f. ap (λ t. t.verdict) (h.stopped x (first_same number ∙ f));
          asked = λ f.
              let (u, v, w) = h.asked (first_same number ∙ f) in
              subst (λ t. Answers c b number work (lead_of c s arrived work) t) (sym (ap (λ t. t.verdict) w))
              (subst (λ l. Answers c b number work l u.verdict) (lead_same work) (ask_same number work (undated_lead d work) u v));
        }

  -- A STEP
  runner_same : runner (book d) ≡ runner b
  runner_same = reordered_runner b (book d) r ordered

  ran_same : ran (book d) ≡ ran b
  unfolding ran
  ran_same = λ i. record { who = (runner_same i).who; owes = pred (runner_same i).owes }

  verdict_same : first_of (step_lines d) ≡ stepped b
  verdict_same =
      goes_on_lem (disorder d) (last_line d.ledger ∷ []) _ (ap not g.order) refl
      ∙ (λ i. first_of (line (not (ltb (sym r.clock i) last_instant)) PastLast ∷ []))

  -- AN END
  end_same : (n : ℕ) → first_of (end_lines d n) ≡ ended_by b n
  end_same n =
      goes_on_lem (disorder d) (line (lacks n js) NothingThere ∷ []) _ (ap not g.order) refl ∙ ap (λ x. first_of (line x NothingThere ∷ [])) (lacks_same n)

  -- A REST
  rest_same : (p : ℕ) → first_of (rest_lines d p) ≡ rested_by b p
  rest_same p =
      let owes = owes_read p d.ledger.charge 1 (in_use d.ledger.feeds) ∙ ap (owes_in p) (sym r.feeds) in
      goes_on_lem (disorder d) (line (eqb (owes_at p 1 (in_use d.ledger.feeds)) 0) NothingThere ∷ []) _ (ap not g.order) refl
      ∙ ap (λ n. first_of (line (eqb n 0) NothingThere ∷ [])) owes

  -- A LIST
  list_same : (size : ℕ) → first_of (list_lines d size) ≡ listed_by b size
  list_same size =
      goes_on_lem (disorder d) (line (ltb size (numbers_a_job * d.ledger.table.count)) ShortBuffer ∷ []) _ (ap not g.order) refl
      ∙ ap (λ n. first_of (line (ltb size (numbers_a_job * n)) ShortBuffer ∷ [])) count_same

  once : (n : ℕ) → times n bs ≤ 1
  unfolding eq
  once n = omega (arith, total_map (λ j. bit (eqb n j.number)) job_of b.jobs, ordered.numbers n)

  -- there is one order, so the same jobs with the same sums stand in it
  table_same : js ≡ figured (sorted bs)
  table_same =
      let ks = map job_of (map book_job js) in
      let same : SameElements (sorted ks) (sorted bs) = λ f. sorted_same ks f ∙ sym (same_map job_of b.jobs (map book_job js) r.jobs f) ∙ sym (sorted_same bs f) in
      let once' : (n : ℕ) → times n ks ≤ 1 = λ n. omega (arith, same_map job_of b.jobs (map book_job js) r.jobs (λ j. bit (eqb n j.number)), once n) in
      sym (jobs_of_book_own js order.jobs.order order.jobs.figures)
      ∙ ap figured (sorted_once (sorted ks) (sorted bs) (sorted_sorted ks once') (sorted_sorted bs once) same)

  -- NO ANSWER SEES THE ORDER
  pub answers_as : (s : Share) (previous : ℕ) → d.share ≡ s → d.previous.0 ≡ previous → AnswersAs c s (record { book = b; previous = previous }) d
  unfolding step_of end_of rest_of counted_of listed_of runner_of owes_by
  answers_as s previous k e =
      record {
        jobs = r;
        previous = e;
        ask = ask_same;
        mesh = mesh_same;
        undated = undated_same s k previous e;
        verdict = verdict_same;
        who = λ i. on_yes (verdict_same i) (who_is (ran_same i).who) Idle;
        owes = λ i. on_yes (verdict_same i) (ticks (ran_same i).owes) (ticks 0);
        end = end_same;
        rest = rest_same;
        counted = λ size i. yes_with (list_same size i) ((live_count d.ledger.table order.tidy_table ∙ count_same) i);
        listed = λ buffer i. on_yes (list_same (length buffer) i) (words (table_same i) ++ drop (numbers_a_job * count_same i) buffer) buffer;
        label = λ i. on_yes (verdict_same i) (who_is (runner_same i).who) Idle;
        instants = λ number work lead D. (
          reordered_telling _ _ (taken_same number work lead) D,
          reordered_telling _ _ (reordered_sym _ _ (taken_same number work lead)) D,
        );
        parts = λ D. counts (owes_by D) (λ j. refl);
      }
