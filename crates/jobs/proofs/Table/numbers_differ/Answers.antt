-- `jobs::Table::numbers_differ` meets its contract: no number stands twice exactly if none does among the jobs still to look at.
use mathlib.Core.Path.{sym, ap, ◌∙◌}
use Prim.Native.Nat.{◌-◌}
use native.Mathlib.Omega.{arith}
use borrow.Author.Rules.{rules}
use borrow.Author.Tests.{tests}
use lib.Dec.{eqb}
use lib.ListN.{length, get_or, drop, length-drop, drop_of_length-le}
use lib.Seq.{take_all}
use Rattle.std.proofs.lemmas.Iterator.{YieldsList-from_slice}
use Rattle.std.proofs.lemmas.Iterator.Search.{any_from_yields_List}
use Rattle.jobs.specs.declared.Job.{Job}
use Rattle.jobs.specs.Jobs.{no_job, distinct}
use Rattle.jobs.proofs.Numbers.{distinct_none, stands_behind, none_behind}
use Rattle.jobs.proofs.Table.numbers_differ.Goals as goal

pub returns-then-any : goal.returns-then-any
returns-then-any c =
    let js = c.loop-live.live.now in
    let rest = drop 1 js in
    let whole = take_all (length js - 1) rest (omega (arith, length-drop 1 js)) in
    let p = λ (j : Job). eqb j.number (get_or js 0 no_job).number in
    let said = any_from_yields_List p _ _ c.any.result c.any.ensures.ran (YieldsList-from_slice rest (c.iter.ensures.rest ∙ whole)) (λ x b q k. search (rules, tests)) in
    sym (c.loop-live.invariant ∙ stands_behind js _ c.in-len1-up.len_at_least said c.if-any.true)

pub loop-live-preserved : goal.loop-live-preserved
loop-live-preserved c =
    let js = c.loop-live.live.now in
    let rest = drop 1 js in
    let whole = take_all (length js - 1) rest (omega (arith, length-drop 1 js)) in
    let p = λ (j : Job). eqb j.number (get_or js 0 no_job).number in
    let said = any_from_yields_List p _ _ c.any.result c.any.ensures.ran (YieldsList-from_slice rest (c.iter.ensures.rest ∙ whole)) (λ x b q k. search (rules, tests)) in
    c.loop-live.invariant ∙ none_behind js _ c.in-len1-up.len_at_least said c.if-any.false ∙ ap distinct (sym whole)

pub returns : goal.returns
returns c =
    let none = drop_of_length-le c.loop-live.live.now {i = 0} (omega (arith, c.in_default.len_below)) in
    sym (c.loop-live.invariant ∙ ap distinct none ∙ distinct_none)
