-- The places of the table: one more job, one job less, and tables whose unused places are all zero.
use mathlib.Core.Path.{◌≡◌, refl, sym, ap, subst, ◌∙◌}
use lib.Dec.{eqb}
use mathlib.Core.List.{List, [], ◌∷◌, ◌++◌, map}
use Prim.Native.Nat.{ℕ, zero, suc, ◌+◌, ◌-◌, ◌≤◌, ◌<◌}
use native.Mathlib.Omega.{arith}
use lib.ListN.{length, get_or, take, drop, set, replicate, length-append, length-set, length-map, length-drop}
use lib.Seq.{drop_at, length-take-le, get_or-take, get_or-set_same, paste}
use Rattle.ticks.specs.declared.Instant.{Instant}
use Rattle.ticks.specs.declared.Length.{Length}
use Rattle.lists.specs.Lists.{Each, filled, bit}
use Rattle.lists.proofs.Places.{filled_put, filled_of_unused, filled_without, length_without, take_filled, length_filled, filled_set, unused_of_filled, changed}
use Rattle.jobs.specs.declared.Job.{Job}
use Rattle.jobs.specs.declared.Table.{Table}
use Rattle.std.specs.Prelude.{Some}
use Rattle.jobs.specs.Jobs.{no_job, most_jobs, live, table_of, Tidy, times, found_in, FoundAt, JobIn, TableIn, JobsIn}
use Rattle.jobs.specs.Served.{less_job, owing_less}
use Rattle.jobs.specs.Figures.{owed_by, figured}
use Rattle.jobs.specs.Sorted.{Sorted, insert}
use Rattle.jobs.proofs.Sorted.{sorted_map, insert_sorted, insert_same, each_insert, others_than}
use Rattle.lists.proofs.Same.{same_length}
use Rattle.jobs.proofs.Numbers.{found_first, times_taken}
use Rattle.jobs.proofs.Figures.{by, figured_stores, figured_out, length_figured, times_figured, each_figured}
use Rattle.lists.proofs.Maps.{out, out_set, get_or_mapped}

-- a table whose unused places are all zero is tidy
pub tidy :
    (t : Table) → length t.jobs ≡ most_jobs → t.count ≤ most_jobs →
    Each (λ j. j ≡ no_job) (drop t.count t.jobs) → Tidy t
tidy t l h e =
    let places : t.jobs ≡ filled most_jobs no_job (live t) = filled_of_unused most_jobs t.count no_job t.jobs l h e in
    let many : length (live t) ≡ t.count = length-take-le t.count t.jobs (omega arith) in
    record { few = h; filled = λ i. record { count = sym many i; jobs = places i } }

pub tidy_in : (charge : Length) (clock : Instant) (t : Table) → length t.jobs ≡ most_jobs → TableIn charge clock t → Tidy t
tidy_in charge clock t l h = tidy t l h.few h.unused

pub live_of : (js : List Job) → live (table_of js) ≡ js
live_of js = take_filled most_jobs no_job js

pub tidy_of : (js : List Job) → length js ≤ most_jobs → Tidy (table_of js)
tidy_of js h = record { few = h; filled = ap table_of (sym (live_of js)) }

-- as many live jobs as are counted
pub live_count : (t : Table) → Tidy t → length (live t) ≡ t.count
live_count t k = ap (λ s. s.count) (sym k.filled)

pub all_places : (t : Table) → Tidy t → length t.jobs ≡ most_jobs
all_places t k =
    let many = live_count t k in
    ap (λ s. length s.jobs) k.filled ∙ length_filled most_jobs no_job (live t) (omega (arith, k.few))

-- a live job stands at its place of the array
pub live_at : (t : Table) (i : ℕ) → i < t.count → get_or (live t) i no_job ≡ get_or t.jobs i no_job
live_at t i h = get_or-take t.count t.jobs i no_job h

-- a number that is found is found at a live job's place
pub found_live : (t : Table) (n m : ℕ) → Tidy t → found_in n 0 (live t) ≡ Some m → FoundAt n m (live t) × (m < t.count)
found_live t n m k e =
    let f = found_first n m (live t) e in
    (f, omega (arith, f.inside, live_count t k))

-- one more job at a place; those from there on have moved up
pub one_more :
    (t : Table) (j : Job) (at m : ℕ) → Tidy t → t.count < most_jobs → at + m ≡ t.count →
    ◌≡◌ {A = Table} (record { count = t.count + 1; jobs = set (paste t.jobs (at + 1) (drop at t.jobs) m) at j }) (table_of (take at (live t) ++ (j ∷ drop at (live t))))
one_more t j at m k h e =
    let xs = live t in
    let many : t.count ≡ length xs = sym (live_count t k) in
    let front : length (take at xs) ≡ at = length-take-le at xs (omega arith) in
    let back : length (drop at xs) ≡ length xs - at = length-drop at xs in
    let count : t.count + 1 ≡ length (take at xs ++ (j ∷ drop at xs)) = omega (arith, length-append (take at xs) (j ∷ drop at xs)) in
    let places : set (paste t.jobs (at + 1) (drop at t.jobs) m) at j ≡ filled most_jobs no_job (take at xs ++ (j ∷ drop at xs)) =
    (λ i. set (paste (k.filled i).jobs (at + 1) (drop at (k.filled i).jobs) m) at j) ∙ filled_put most_jobs no_job j xs at m (omega arith) (omega arith) in
    λ i. record { count = count i; jobs = places i }

-- the jobs behind one have moved up, and the last place is free
pub one_less :
    (t : Table) (at m : ℕ) → Tidy t → at < t.count → at + m ≡ t.count - 1 →
    ◌≡◌ {A = Table} (record { count = t.count - 1; jobs = set (paste t.jobs at (drop (at + 1) t.jobs) m) (t.count - 1) no_job }) (table_of (take at (live t) ++ drop (at + 1) (live t)))
one_less t at m k h e =
    let xs = live t in
    let many : t.count ≡ length xs = sym (live_count t k) in
    let few = k.few in
    let count : t.count - 1 ≡ length (take at xs ++ drop (at + 1) xs) =
    ap (λ n. n - 1) many ∙ sym (length_without most_jobs no_job xs at (omega arith) (omega arith)) in
    let places : set (paste t.jobs at (drop (at + 1) t.jobs) m) (t.count - 1) no_job ≡ filled most_jobs no_job (take at xs ++ drop (at + 1) xs) =
    (λ i. set (paste (k.filled i).jobs at (drop (at + 1) (k.filled i).jobs) m) (many i - 1) no_job)
    ∙ filled_without most_jobs no_job xs at (omega arith) (omega arith) m (omega arith) in
    λ i. record { count = count i; jobs = places i }

-- the job at a place is another
pub one_changed :
    (t : Table) (at : ℕ) (j : Job) → Tidy t → at < t.count →
    ◌≡◌ {A = Table} (record { count = t.count; jobs = set t.jobs at j }) (table_of (set (live t) at j))
one_changed t at j k h =
    let many = live_count t k in
    let count : t.count ≡ length (set (live t) at j) = sym many ∙ sym (length-set (live t) at j) in
    let places : set t.jobs at j ≡ filled most_jobs no_job (set (live t) at j) =
    (λ i. set (k.filled i).jobs at j) ∙ filled_set most_jobs no_job (live t) at j (omega arith) in
    λ i. record { count = count i; jobs = places i }

-- job after job is another
pub next_changed : (h : Job → Job) (i : ℕ) (js : List Job) → i < length js → set (changed h i js) i (h (get_or (changed h i js) i no_job)) ≡ changed h (i + 1) js
next_changed h i [] l = absurd (omega arith)
next_changed h zero (j ∷ js) l = refl
next_changed h (suc i) (j ∷ js) l =
    let e : suc i + 1 ≡ suc (i + 1) = omega arith in
    rw e (ap (h j ∷◌) (next_changed h i js (omega arith)))

-- each job is another
pub all_changed : (t : Table) (h : Job → Job) (ks : List Job) → Tidy t → ks ≡ map h (live t)
    → ◌≡◌ {A = Table} (record { count = t.count; jobs = ks ++ drop t.count t.jobs }) (table_of (map h (live t)))
all_changed t h ks k e =
    let js = live t in
    let many = live_count t k in
    let long : length (map h js) ≡ length js = length-map js h in
    let rest : drop t.count t.jobs ≡ replicate (most_jobs - length (map h js)) no_job =
    ap (λ s. drop t.count s.jobs) k.filled ∙ drop_at js (replicate (most_jobs - length js) no_job) t.count many ∙ ap (λ n. replicate (most_jobs - n) no_job) (sym long) in
    λ i. record { count = (sym many ∙ sym long) i; jobs = e i ++ rest i }

-- the table whose job at a place has so many ticks fewer to get
module _ (t : Table) (k : Tidy t) (at m : ℕ) (h : at < t.count) where
  pub less_count : (table_of (figured (owing_less at m (live t)))).count ≡ t.count
  less_count = length_figured (owing_less at m (live t)) ∙ length-set (live t) at (less_job m (get_or (live t) at no_job)) ∙ live_count t k

  pub less_tidy : Tidy (table_of (figured (owing_less at m (live t))))
  less_tidy = tidy_of (figured (owing_less at m (live t))) (omega (arith, less_count, k.few))

  place : at < length (owing_less at m (live t))
  place = omega (arith, length-set (live t) at (less_job m (get_or (live t) at no_job)), live_count t k, h)

  owed : (get_or (owing_less at m (live t)) at no_job).owed.0 ≡ (get_or (live t) at no_job).owed.0 - m
  owed = ap (λ j. j.owed.0) (get_or-set_same (live t) at (less_job m (get_or (live t) at no_job)) no_job (omega (arith, live_count t k, h)))

  -- what the job then owes, at its place of the array
  pub less_owes : (get_or (table_of (figured (owing_less at m (live t)))).jobs at no_job).owed.0 ≡ (get_or (live t) at no_job).owed.0 - m
  less_owes =
      let js = owing_less at m (live t) in
      ap (λ j. j.owed.0)
      (sym (live_at (table_of (figured js)) at (omega (arith, less_count, h)))
      ∙ ap (λ l. get_or l at no_job) (live_of (figured js))
      ∙ get_or_mapped (by (λ D. owed_by D js)) at no_job no_job js place)
      ∙ owed

  -- nothing is left of what it owed: without it the others show what they owe
  pub spent_leaves : (get_or (live t) at no_job).owed.0 ≤ m → table_of (out at (live (table_of (figured (owing_less at m (live t)))))) ≡ table_of (figured (out at (live t)))
  spent_leaves e =
      let js = owing_less at m (live t) in
      ap (λ l. table_of (out at l)) (live_of (figured js))
      ∙ ap table_of (figured_out at js place (omega (arith, owed, e)) ∙ ap figured (out_set at (less_job m (get_or (live t) at no_job)) (live t)))

-- a table in order, as a list of jobs
pub jobs_in : (charge : Length) (clock : Instant) (t : Table) → length t.jobs ≡ most_jobs → TableIn charge clock t → JobsIn charge clock (live t)
jobs_in charge clock t l h =
    let many = live_count t (tidy_in charge clock t l h) in
    record { few = omega (arith, h.few); each = h.each; once = h.once; order = h.order; figures = h.figures }

pub jobs_in_table : (charge : Length) (clock : Instant) (js : List Job) → JobsIn charge clock js → TableIn charge clock (table_of js)
jobs_in_table charge clock js h =
    let p : JobsIn charge clock (live (table_of js)) = subst (JobsIn charge clock) (sym (live_of js)) h in
    record { few = h.few; each = p.each; once = p.once; order = p.order; figures = p.figures; unused = unused_of_filled most_jobs no_job js }

-- jobs in order but for their figures, each with its figure done afresh
pub jobs_in_figured : (charge : Length) (clock : Instant) (js : List Job) → length js ≤ most_jobs → Each (JobIn charge clock) js
    → ((n : ℕ) → times n js ≤ 1) → Sorted js → JobsIn charge clock (figured js)
jobs_in_figured charge clock js few each once order =
    record {
      few = omega (arith, length_figured js);
      each = each_figured (JobIn charge clock) (λ j n i. record { number = i.number; owed = i.owed; ahead = i.ahead; near = i.near; within = i.within }) js each;
      once = λ n. omega (arith, times_figured n js, once n);
      order = sorted_map (by (λ D. owed_by D js)) (λ j. refl) (λ j. refl) js order;
      figures = figured_stores js;
    }

-- one more job in order, under a number that no live job has
pub jobs_in_taken :
    (charge : Length) (clock : Instant) (js : List Job) (j : Job) → JobsIn charge clock js → length js < most_jobs → JobIn charge clock j →
    times j.number js ≡ 0 → JobsIn charge clock (figured (insert j js))
jobs_in_taken charge clock js j h l i free =
    let same = insert_same js j in
    let more : length (insert j js) ≡ length (js ++ (j ∷ [])) = same_length (insert j js) (js ++ (j ∷ [])) same in
    jobs_in_figured charge clock (insert j js) (omega (arith, length-append js (j ∷ [])))
    (each_insert (JobIn charge clock) j js i h.each)
    (λ n. omega (arith, same (λ k. bit (eqb n k.number)), times_taken js j h.once free n))
    (insert_sorted j js (others_than j.number js free) h.order)
