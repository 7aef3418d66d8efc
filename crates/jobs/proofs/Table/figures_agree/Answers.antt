-- `jobs::Table::figures_agree` meets its contract: the figures all agree exactly if the pass from here on says so.
use mathlib.Core.Path.{◌≡◌, sym, ap, ◌∙◌}
use Prim.Native.Nat.{◌+◌, ◌≤◌}
use native.Mathlib.Omega.{arith}
use borrow.Author.Rules.{rules}
use borrow.Author.Tests.{not-true, not-false}
use lib.ListN.{length, get_or, drop}
use lib.Seq.{length-take-le}
use Rattle.lists.proofs.Places.{length_mapped, next, no_more, each_get_or}
use Rattle.jobs.specs.Jobs.{live, no_job}
use Rattle.jobs.specs.Figures.{Modest}
use Rattle.jobs.proofs.InDeadlineOrder.{chain, chain_end, chain_past, chain_stop, chain_figures}
use Rattle.jobs.proofs.Table.figures_agree.Goals as goal

pub loop-job-init : goal.loop-job-init
loop-job-init c = (omega arith, sym (chain_figures (live c.args.self) c.requires.2 c.requires.3))

pub returns-then-not-agrees : goal.returns-then-not-agrees
returns-then-not-agrees c =
    let loop = c.loop-job in
    let here = next (live c.args.self) loop.job-index no_job (omega (arith, c.loop-job-test.true)) in
    sym (loop.invariant.1 ∙ ap (chain loop.last loop.sum.0) here ∙ chain_stop _ _ _ _ (sym c.agrees.ensures ∙ not-true _ c.if-not-agrees.true-raw))

pub and-sum-requires : goal.and-sum-requires
and-sum-requires c =
    let loop = c.loop-job in
    let t = c.args.self in
    let js = live t in
    let small : Modest (get_or js loop.job-index no_job) = each_get_or Modest js loop.job-index no_job c.requires.1 (omega (arith, c.loop-job-test.true)) in
    let long : length t.jobs ≡ 64 = search (rules, length_mapped) in
    let few : length js ≤ 64 = omega (arith, length-take-le t.count t.jobs (omega (arith, long))) in
    omega (arith, loop.invariant.0, small, few)

pub loop-job-preserved : goal.loop-job-preserved
loop-job-preserved c =
    let loop = c.loop-job in
    let js = live c.args.self in
    let here = next js loop.job-index no_job (omega (arith, c.loop-job-test.true)) in
    let small : Modest (get_or js loop.job-index no_job) = each_get_or Modest js loop.job-index no_job c.requires.1 (omega (arith, c.loop-job-test.true)) in (
      omega (arith, loop.invariant.0, small, ap (λ l. l.0) c.and-sum.ensures),
      loop.invariant.1
          ∙ ap (chain loop.last loop.sum.0) here
          ∙ chain_past _ _ _ _ (sym c.agrees.ensures ∙ not-false _ c.if-not-agrees.false-raw)
          ∙ ap (λ l. chain (get_or js loop.job-index no_job) l.0 (drop (loop.job-index + 1) js)) (sym c.and-sum.ensures),
    )

pub returns : goal.returns
returns c =
    let loop = c.loop-job in
    c.eq.ensures
    ∙ sym (loop.invariant.1 ∙ ap (chain loop.last loop.sum.0) (no_more (live c.args.self) loop.job-index (omega (arith, c.loop-job-test.false))) ∙ chain_end loop.last loop.sum.0)
