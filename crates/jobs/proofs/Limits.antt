-- The tests of jobs, and the facts that they stand for.
use mathlib.Core.Path.{◌≡◌, ap}
use mathlib.Core.Bool.{true}
use mathlib.Core.List.{List}
use Prim.Native.Nat.{◌+◌, ◌≤◌, ◌<◌}
use Rattle.lists.specs.Lists.{every, Each}
use native.Mathlib.Omega.{arith}
use borrow.Author.Tests.{leb-true, le-leb, ltb-true, lt-ltb, eqb-true, eq-eqb}
use Rattle.ticks.specs.declared.Instant.{Instant}
use Rattle.ticks.specs.declared.Length.{Length}
use Rattle.ticks.specs.Ticks.{most_job, most_charge, ticks_since, ticks, instant}
use Rattle.lists.proofs.Tests.{all_of_lem, all_of_made}
use Rattle.ticks.proofs.Tests.{from_one_lem, from_one_made}
use Rattle.lists.proofs.Places.{each_of_every, every_of_each}
use Rattle.jobs.specs.declared.Job.{Job}
use Rattle.jobs.specs.declared.Table.{Table}
use Rattle.jobs.specs.Jobs.{job_in, JobIn, unused_job, no_job, live, table_in, TableIn}
use Rattle.jobs.specs.Sorted.{rising, Sorted}
use Rattle.jobs.specs.Figures.{Modest, figure_in, figure_agrees}
use Rattle.jobs.proofs.Numbers.{distinct_once, once_distinct}
use Rattle.jobs.proofs.Sorted.{rising_sorted, sorted_rising}

pub job_in_lem : (charge : Length) (clock : Instant) (j : Job) → job_in charge clock j ≡ true → JobIn charge clock j
unfolding job_in
job_in_lem charge clock j h =
    let t = all_of_lem _ h in
    let lead = from_one_lem most_job (ticks_since j.deadline clock) t.1.1.1.0 in
    record {
      number = leb-true _ _ t.0;
      owed = from_one_lem (most_job + charge.0) j.owed t.1.0;
      ahead = ltb-true _ _ t.1.1.0;
      near = omega arith;
      within = leb-true _ _ t.1.1.1.1.0;
    }

pub job_in_made : (charge : Length) (clock : Instant) (j : Job) → JobIn charge clock j → job_in charge clock j ≡ true
unfolding job_in
job_in_made charge clock j h =
    all_of_made _ (
      le-leb _ _ h.number,
      (
        from_one_made (most_job + charge.0) j.owed h.owed.0 h.owed.1,
        (
          lt-ltb _ _ h.ahead,
          (from_one_made most_job (ticks_since j.deadline clock) (omega arith) (omega arith), (le-leb _ _ h.within, tt)),
        ),
      ),
    )

-- jobs within their limits and in order are modest, due after the first instant and sorted, so that their figures can be added up
pub ready_to_add_up : (charge : Length) (clock : Instant) (js : List Job) → every (job_in charge clock) js ≡ true → rising js ≡ true → charge.0 ≤ most_charge
    → Each Modest js × Each (λ j. 0 < j.deadline.0) js × Sorted js
ready_to_add_up charge clock js all up h = (
  each_of_every (job_in charge clock) Modest (λ j t. omega (arith, (job_in_lem charge clock j t).owed.1, h)) js all,
  each_of_every (job_in charge clock) (λ j. 0 < j.deadline.0) (λ j t. omega (arith, (job_in_lem charge clock j t).ahead)) js all,
  rising_sorted js up,
)

pub unused_job_lem : (j : Job) → unused_job j ≡ true → j ≡ no_job
unfolding unused_job
unused_job_lem j h =
    let t = all_of_lem _ h in
    let n = eqb-true j.number 0 t.0 in
    let o = eqb-true j.owed.0 0 t.1.0 in
    let d = eqb-true j.deadline.0 0 t.1.1.0 in
    let f = eqb-true j.figure.0 0 t.1.1.1.0 in
    λ i. record { number = n i; owed = ticks (o i); deadline = instant (d i); figure = ticks (f i) }

pub unused_job_made : (j : Job) → j ≡ no_job → unused_job j ≡ true
unfolding unused_job
unused_job_made j h =
    all_of_made _ (
      eq-eqb _ _ (ap (λ k. k.number) h),
      (
        eq-eqb _ _ (ap (λ k. k.owed.0) h),
        (eq-eqb _ _ (ap (λ k. k.deadline.0) h), (eq-eqb _ _ (ap (λ k. k.figure.0) h), tt)),
      ),
    )

-- a table in order, as facts
pub table_in_lem : (charge : Length) (clock : Instant) (s : Table) → table_in charge clock s ≡ true → TableIn charge clock s
unfolding table_in
table_in_lem charge clock s h =
    let t = all_of_lem _ h in
    record {
      few = leb-true _ _ t.0;
      each = each_of_every (job_in charge clock) (JobIn charge clock) (job_in_lem charge clock) _ t.1.0;
      once = distinct_once _ t.1.1.0;
      order = rising_sorted (live s) t.1.1.1.0;
      figures = each_of_every (figure_agrees (live s)) (λ j. j.figure.0 ≡ figure_in (live s) j) (λ j. eqb-true _ _) _ t.1.1.1.1.0;
      unused = each_of_every unused_job (λ j. j ≡ no_job) unused_job_lem _ t.1.1.1.1.1.0;
    }

pub table_in_made : (charge : Length) (clock : Instant) (s : Table) → TableIn charge clock s → table_in charge clock s ≡ true
unfolding table_in
table_in_made charge clock s h =
    all_of_made _ (
      le-leb _ _ h.few,
      (
        every_of_each (job_in charge clock) (JobIn charge clock) (job_in_made charge clock) _ h.each,
        (
          once_distinct _ h.once,
          (
            sorted_rising (live s) h.order,
            (
              every_of_each (figure_agrees (live s)) (λ j. j.figure.0 ≡ figure_in (live s) j) (λ j. eq-eqb _ _) _ h.figures,
              (every_of_each unused_job (λ j. j ≡ no_job) unused_job_made _ h.unused, tt),
            ),
          ),
        ),
      ),
    )
