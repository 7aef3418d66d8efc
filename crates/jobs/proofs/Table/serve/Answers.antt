-- `jobs::Table::serve` meets its contract: the job at the place of its number has one tick less to get, and leaves with its last.
use mathlib.Core.Path.{◌≡◌, sym, ap, ◌∙◌}
use Prim.Native.Nat.{ℕ, ◌-◌, ◌≤◌, ◌<◌}
use native.Mathlib.Omega.{arith}
use borrow.Author.Tests.{eqb-true, eqb-false}
use lib.ListN.{get_or}
use Rattle.lists.proofs.Places.{each_get_or}
use Rattle.lists.proofs.Maps.{out}
use Rattle.jobs.specs.declared.Table.{Table}
use Rattle.jobs.specs.Jobs.{no_job, live, table_of, FoundAt}
use Rattle.jobs.specs.Served.{Owing, owing_less}
use Rattle.jobs.specs.Figures.{figured}
use Rattle.jobs.proofs.Numbers.{found_nothing}
use Rattle.jobs.proofs.Figures.{figured_own}
use Rattle.jobs.proofs.Places.{found_live, less_count, less_tidy, less_owes, spent_leaves}
use Rattle.jobs.proofs.Served.{served_others, served_leaves, served_stays}
use Rattle.jobs.proofs.Table.serve.Goals as goal

pub owing_less-table-requires : goal.owing_less-table-requires
owing_less-table-requires c =
    let table : Table =
    c.args.self in
    let at : ℕ =
    c.in-Some.at in
    let found : FoundAt c.args.number at (live table) × (at < table.count) =
    found_live table _ _ c.requires.0 (sym c.find.ensures ∙ c.in-Some.is) in
    let owing : Owing (get_or (live table) at no_job) =
    each_get_or Owing (live table) at no_job c.requires.1 found.0.inside in
    (c.requires.0, found.1, c.requires.2, omega (arith, ap (λ l. l.0) c.of.ensures, owing))

pub offset_bounds-table-at : goal.offset_bounds-table-at
offset_bounds-table-at c =
    let at : ℕ =
    c.in-Some.at in
    let table : Table =
    c.args.self in
    let found : FoundAt c.args.number at (live table) × (at < table.count) =
    found_live table _ _ c.requires.0 (sym c.find.ensures ∙ c.in-Some.is) in
    let after : c.owing_less-table.result ≡ table_of (figured (owing_less at 1 (live table))) =
    c.owing_less-table.ensures ∙ ap (λ l. table_of (figured (owing_less at l.0 (live table)))) c.of.ensures in
    let inside : at < c.owing_less-table.result.count =
    omega (arith, ap (λ t. t.count) after, less_count table c.requires.0 at 1 found.1, found.1) in
    let few : c.owing_less-table.result.count ≤ 64 =
    omega (arith, ap (λ t. t.count) after, less_count table c.requires.0 at 1 found.1, c.requires.0.few) in
    omega (arith, inside, few)

pub bounds-table-at : goal.bounds-table-at
bounds-table-at c =
    let at : ℕ =
    c.in-Some.at in
    let table : Table =
    c.args.self in
    let found : FoundAt c.args.number at (live table) × (at < table.count) =
    found_live table _ _ c.requires.0 (sym c.find.ensures ∙ c.in-Some.is) in
    let after : c.owing_less-table.result ≡ table_of (figured (owing_less at 1 (live table))) =
    c.owing_less-table.ensures ∙ ap (λ l. table_of (figured (owing_less at l.0 (live table)))) c.of.ensures in
    let inside : at < c.owing_less-table.result.count =
    omega (arith, ap (λ t. t.count) after, less_count table c.requires.0 at 1 found.1, found.1) in
    let few : c.owing_less-table.result.count ≤ 64 =
    omega (arith, ap (λ t. t.count) after, less_count table c.requires.0 at 1 found.1, c.requires.0.few) in
    omega (arith, inside, few)

pub without-requires : goal.without-requires
without-requires c =
    let table : Table =
    c.args.self in
    let at : ℕ =
    c.in-Some.at in
    let found : FoundAt c.args.number at (live table) × (at < table.count) =
    found_live table _ _ c.requires.0 (sym c.find.ensures ∙ c.in-Some.is) in
    let after : c.owing_less-table.result ≡ table_of (figured (owing_less at 1 (live table))) =
    c.owing_less-table.ensures ∙ ap (λ l. table_of (figured (owing_less at l.0 (live table)))) c.of.ensures in
    rw after (less_tidy table c.requires.0 at 1 found.1, omega (arith, less_count table c.requires.0 at 1 found.1, found.1))

pub returns-then-eq : goal.returns-then-eq
returns-then-eq c =
    let table : Table =
    c.args.self in
    let at : ℕ =
    c.in-Some.at in
    let found : FoundAt c.args.number at (live table) × (at < table.count) =
    found_live table _ _ c.requires.0 (sym c.find.ensures ∙ c.in-Some.is) in
    let after : c.owing_less-table.result ≡ table_of (figured (owing_less at 1 (live table))) =
    c.owing_less-table.ensures ∙ ap (λ l. table_of (figured (owing_less at l.0 (live table)))) c.of.ensures in
    let left : (get_or c.owing_less-table.result.jobs at no_job).owed.0 ≡ (get_or (live table) at no_job).owed.0 - 1 =
    ap (λ t. (get_or t.jobs at no_job).owed.0) after ∙ less_owes table c.requires.0 at 1 found.1 in
    let js = live table in
    let none : (get_or c.owing_less-table.result.jobs at no_job).owed.0 ≡ 0 = eqb-true _ _ (sym c.eq.ensures ∙ c.if-eq.true) in
    let last : (get_or js at no_job).owed.0 ≤ 1 = omega (arith, left, none) in
    c.without.ensures
    ∙ ap (λ t. table_of (out at (live t))) after
    ∙ spent_leaves table c.requires.0 at 1 found.1 last
    ∙ ap (λ l. table_of (figured l)) (sym (served_leaves _ _ js found.0 (c.requires.3 _) c.requires.1 last))

pub returns-else-eq : goal.returns-else-eq
returns-else-eq c =
    let table : Table =
    c.args.self in
    let at : ℕ =
    c.in-Some.at in
    let found : FoundAt c.args.number at (live table) × (at < table.count) =
    found_live table _ _ c.requires.0 (sym c.find.ensures ∙ c.in-Some.is) in
    let owing : Owing (get_or (live table) at no_job) =
    each_get_or Owing (live table) at no_job c.requires.1 found.0.inside in
    let after : c.owing_less-table.result ≡ table_of (figured (owing_less at 1 (live table))) =
    c.owing_less-table.ensures ∙ ap (λ l. table_of (figured (owing_less at l.0 (live table)))) c.of.ensures in
    let left : (get_or c.owing_less-table.result.jobs at no_job).owed.0 ≡ (get_or (live table) at no_job).owed.0 - 1 =
    ap (λ t. (get_or t.jobs at no_job).owed.0) after ∙ less_owes table c.requires.0 at 1 found.1 in
    let js = live table in
    let some : (get_or c.owing_less-table.result.jobs at no_job).owed.0 ≡ 0 → ⊥ = eqb-false _ _ (sym c.eq.ensures ∙ c.if-eq.false) in
    let more : 1 < (get_or js at no_job).owed.0 = omega (arith, left, some, owing) in
    after ∙ ap (λ l. table_of (figured l)) (sym (served_stays _ _ js found.0 (c.requires.3 _) c.requires.1 more))

pub returns-in-None : goal.returns-in-None
returns-in-None c =
    let js = live c.args.self in
    let none = found_nothing _ _ js (sym c.find.ensures ∙ c.in-None.is) in
    c.requires.0.filled ∙ ap table_of (sym (ap figured (served_others _ js none c.requires.1) ∙ figured_own js c.requires.2))
