-- `jobs::Table::no_mark_twice` meets its contract: the jobs passed so far have their marks set, and no number stands twice among
-- them.
use mathlib.Core.Path.{◌≡◌, sym, ap, subst, ◌∙◌}
use mathlib.Core.Bool.{true}
use mathlib.Core.List.{[], ◌∷◌, ◌++◌}
use Prim.Native.Nat.{◌+◌, ◌%◌, ◌≤◌}
use native.Mathlib.Numerals.{add-one}
use native.Mathlib.Omega.{arith}
use lib.ListN.{get_or, set, take, length-set}
use lib.Seq.{take-suc, take_all}
use Rattle.lists.specs.Lists.{Each}
use Rattle.lists.proofs.Tests.{false_not_true}
use Rattle.jobs.specs.Jobs.{live, no_job, times}
use Rattle.jobs.proofs.Marks.{marks_of, Set, set_more, not_set_is_new}
use Rattle.jobs.proofs.Numbers.{once_distinct, times_taken}
use Rattle.jobs.proofs.Table.no_mark_twice.Goals as goal

pub loop-job-preserved : goal.loop-job-preserved
loop-job-preserved c =
    let js = live c.args.self in
    let i = c.loop-job.job-index in
    let marks = c.loop-job.marks in
    let inv = c.loop-job.invariant in
    let j = get_or js i no_job in
    let one : take (i + 1) js ≡ take i js ++ (j ∷ []) = ap (λ n. take n js) (add-one i) ∙ take-suc js i no_job (omega (arith, c.loop-job-test.true)) in
    let new = not_set_is_new marks (take i js) j inv.1 (λ e. false_not_true (sym c.if-marks-mark.false ∙ e)) in (
      length-set marks (j.number % marks_of) true ∙ inv.0,
      subst (Each (Set (set marks (j.number % marks_of) true))) (sym one) (set_more marks (take i js) j inv.0 inv.1),
      λ n. subst (λ l. times n l ≤ 1) (sym one) (times_taken (take i js) j inv.2 new n),
    )

pub returns : goal.returns
returns c =
    let js = live c.args.self in
    let i = c.loop-job.job-index in
    let all : take i js ≡ js = take_all i js (omega (arith, c.loop-job-test.false)) in
    λ e. once_distinct js (λ n. subst (λ l. times n l ≤ 1) all (c.loop-job.invariant.2 n))
