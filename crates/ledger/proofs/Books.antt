-- Reading a state as a book and writing a book into it undo one another.
use mathlib.Core.Path.{◌≡◌, refl, sym, ap, subst, ◌∙◌}
use mathlib.Core.List.{List, [], ◌∷◌, map, map-map, map-id}
use Prim.Native.Nat.{ℕ, suc}
use native.Mathlib.Omega.{arith}
use lib.ListN.{length, get_or, drop, length-map}
use Rattle.ticks.specs.declared.Length.{Length}
use Rattle.ticks.specs.Ticks.{ticks}
use Rattle.feeds.specs.declared.Feed.{Feed}
use Rattle.feeds.specs.Feeds.{in_use, plans_of, feeds_of}
use Rattle.feeds.proofs.Passing.{in_use_of}
use Rattle.jobs.specs.declared.Job.{Job}
use Rattle.jobs.specs.Jobs.{live, table_of}
use Rattle.lists.specs.Lists.{total, SameElements}
use Rattle.lists.proofs.Lists.{total_map}
use Rattle.jobs.specs.Figures.{owed_by, Figured, figured}
use Rattle.jobs.specs.Sorted.{Sorted, sorted}
use Rattle.jobs.proofs.Figures.{by, figured_own, figured_again}
use Rattle.jobs.proofs.Sorted.{sorted_same, sorted_own, sorted_map, map_sorted}
use Rattle.jobs.proofs.Places.{live_of}
use Rattle.edf.specs.Book as edf
use Rattle.edf.specs.Reordered.{Reordered}
use Rattle.answers.specs.declared.Who.{Who}
use Rattle.answers.specs.declared.Who.TheVariants as who
use Rattle.ledger.specs.declared.Ledger.{Ledger}
use Rattle.ledger.specs.State.{moved, InOrder}
use Rattle.ledger.specs.Books.{book_plan, book_feeds, book_job, book_of, job_of, owing_as, rewritten, InTableOrder, who_of, who_is, SameFeeds}

-- the heads and the tails of lists that are the same
module _ {A : Type 0} (x y : A) (xs ys : List A) (e : x ∷ xs ≡ y ∷ ys) where
  head_same : x ≡ y
  head_same = ap (λ l. get_or l 0 x) e

  tail_same : xs ≡ ys
  tail_same = ap (λ l. drop 1 l) e

-- what is owed is written back as it was
pub owing_as_read : (charge : Length) (k : ℕ) (fs : List Feed) → owing_as (book_feeds charge k fs) fs ≡ fs
owing_as_read charge k [] = refl
owing_as_read charge k (f ∷ fs) = ap (f ∷◌) (owing_as_read charge (suc k) fs)

-- no plan changes
pub owing_as_plans : (gs : List edf.Feed) (fs : List Feed) → plans_of (owing_as gs fs) ≡ plans_of fs
owing_as_plans [] fs = refl
owing_as_plans (g ∷ gs) [] = refl
owing_as_plans (g ∷ gs) (f ∷ fs) = ap (f.plan ∷◌) (owing_as_plans gs fs)

pub length_owing_as : (gs : List edf.Feed) (fs : List Feed) → length (owing_as gs fs) ≡ length fs
length_owing_as gs fs = sym (length-map (owing_as gs fs) (λ f. f.plan)) ∙ ap length (owing_as_plans gs fs) ∙ length-map fs (λ f. f.plan)

-- feeds of the same plans are written alike
pub owing_as_alike : (gs : List edf.Feed) (fs hs : List Feed) → length gs ≡ length fs → plans_of fs ≡ plans_of hs → owing_as gs fs ≡ owing_as gs hs
owing_as_alike [] [] [] l e = refl
owing_as_alike [] [] (h ∷ hs) l e = absurd (omega (arith, ap length e))
owing_as_alike [] (f ∷ fs) hs l e = absurd (omega arith)
owing_as_alike (g ∷ gs) [] hs l e = absurd (omega arith)
owing_as_alike (g ∷ gs) (f ∷ fs) [] l e = absurd (omega (arith, ap length e))
owing_as_alike (g ∷ gs) (f ∷ fs) (h ∷ hs) l e =
    λ i. record { plan = head_same f.plan h.plan (plans_of fs) (plans_of hs) e i; owes = ticks g.owes }
    ∷ owing_as_alike gs fs hs (omega arith) (tail_same f.plan h.plan (plans_of fs) (plans_of hs) e) i

-- feeds of the book at the state's positions and by its plans are read as they were
pub read_owing_as : (charge : Length) (k : ℕ) (gs : List edf.Feed) (fs : List Feed) → edf.positions gs ≡ edf.positions (book_feeds charge k fs)
    → edf.plans gs ≡ edf.plans (book_feeds charge k fs) → book_feeds charge k (owing_as gs fs) ≡ gs
read_owing_as charge k [] [] p q = refl
read_owing_as charge k [] (f ∷ fs) p q = absurd (omega (arith, ap length p))
read_owing_as charge k (g ∷ gs) [] p q = absurd (omega (arith, ap length p))
read_owing_as charge k (g ∷ gs) (f ∷ fs) p q =
    let at = head_same g.position k (edf.positions gs) (edf.positions (book_feeds charge (suc k) fs)) p in
    let plan = head_same g.plan (book_plan charge f.plan) (edf.plans gs) (edf.plans (book_feeds charge (suc k) fs)) q in
    let rest = read_owing_as charge (suc k) gs fs (tail_same g.position k (edf.positions gs) (edf.positions (book_feeds charge (suc k) fs)) p) (tail_same g.plan (book_plan charge f.plan) (edf.plans gs) (edf.plans (book_feeds charge (suc k) fs)) q) in
    λ i. record { position = sym at i; plan = sym plan i; owes = g.owes } ∷ rest i

-- a job written from its own book has no figure yet
abbrev bare : Job → Job
bare = by (λ D. 0)

-- jobs are written from their book in the order of the table, the figures done afresh
pub jobs_of_book : (js : List Job) → figured (sorted (map job_of (map book_job js))) ≡ figured (sorted js)
jobs_of_book js =
    ap (λ ks. figured (sorted ks)) (map-map job_of book_job js)
    ∙ ap figured (map_sorted bare (λ j. refl) (λ j. refl) js)
    ∙ figured_again (λ D. 0) (sorted js)

-- and as they were where they stood so
pub jobs_of_book_own : (js : List Job) → Sorted js → Figured js → figured (sorted (map job_of (map book_job js))) ≡ js
jobs_of_book_own js s f = jobs_of_book js ∙ ap figured (sorted_own js s) ∙ figured_own js f

-- the book does not look at figures
pub book_of_figured : (js : List Job) → map book_job (figured js) ≡ map book_job js
book_of_figured js = map-map book_job (by (λ D. owed_by D js)) js

-- the jobs of a book, written and read again, are the same in another order
book_of_jobs : (js : List edf.Job) → SameElements js (map book_job (figured (sorted (map job_of js))))
book_of_jobs js f =
    ap (total f) (sym (map-map book_job job_of js ∙ map-id js))
    ∙ total_map f book_job (map job_of js)
    ∙ sym (sorted_same (map job_of js) (λ j. f (book_job j)))
    ∙ sym (total_map f book_job (sorted (map job_of js)))
    ∙ sym (ap (total f) (book_of_figured (sorted (map job_of js))))

-- and in the same order where they stood in that of the table
book_of_jobs_own : (js : List edf.Job) → Sorted (map job_of js) → map book_job (figured (sorted (map job_of js))) ≡ js
book_of_jobs_own js s = book_of_figured (sorted (map job_of js)) ∙ ap (map book_job) (sorted_own (map job_of js) s) ∙ map-map book_job job_of js ∙ map-id js

module _ (l : Ledger) (b : edf.Book) (s : SameFeeds l b) where
  feeds_read : (book_of (rewritten l b)).feeds ≡ b.feeds
  feeds_read =
      let gs = owing_as b.feeds (in_use l.feeds) in
      ap (book_feeds l.charge 1) (in_use_of gs) ∙ read_owing_as l.charge 1 b.feeds (in_use l.feeds) s.positions s.plans

  jobs_read : (book_of (rewritten l b)).jobs ≡ map book_job (figured (sorted (map job_of b.jobs)))
  jobs_read = ap (map book_job) (live_of (figured (sorted (map job_of b.jobs))))

  -- WRITTEN INTO THE STATE, A BOOK IS READ AS IT WAS BUT FOR THE ORDER OF ITS JOBS
  pub book_of_rewritten : Reordered b (book_of (rewritten l b))
  book_of_rewritten = record { clock = refl; feeds = sym feeds_read; jobs = λ f. book_of_jobs b.jobs f ∙ ap (total f) (sym jobs_read) }

  -- AND AS IT WAS WHERE THEY STOOD IN THE ORDER OF THE TABLE
  pub book_of_rewritten_own : InTableOrder b → book_of (rewritten l b) ≡ b
  book_of_rewritten_own o = λ i. record { clock = b.clock; feeds = feeds_read i; jobs = (jobs_read ∙ book_of_jobs_own b.jobs o) i }

-- the book of a state in order has its jobs in the order of the table
pub book_in_table_order : (l : Ledger) → InOrder l → InTableOrder (book_of l)
book_in_table_order l h =
    subst Sorted (sym (map-map job_of book_job (live l.table))) (sorted_map bare (λ j. refl) (λ j. refl) (live l.table) h.jobs.order)

-- A STATE IS WRITTEN BACK FROM ITS OWN BOOK AS IT WAS
pub rewritten_own : (l : Ledger) → InOrder l → rewritten l (book_of l) ≡ l
rewritten_own l h =
    let fs = ap feeds_of (owing_as_read l.charge 1 (in_use l.feeds)) ∙ sym h.tidy_feeds.filled in
    let js = ap table_of (jobs_of_book_own (live l.table) h.jobs.order h.jobs.figures) ∙ sym h.tidy_table.filled in
    λ i. moved l l.clock (fs i) (js i)

pub who_back : (w : edf.Who) → who_of (who_is w) ≡ w
who_back (edf.job n) = refl
who_back (edf.feed p) = refl
who_back edf.idle = refl

pub who_again : (w : Who) → who_is (who_of w) ≡ w
who_again (who.Job n) = refl
who_again (who.Feed p) = refl
who_again who.Idle = refl
