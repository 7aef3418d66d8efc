-- `jobs::Table::end` meets its contract: the job at the number's place owes nothing any more, and then it is out.
use mathlib.Core.Path.{◌≡◌, sym, ap, ◌∙◌}
use mathlib.Core.List.{◌++◌}
use Prim.Native.Nat.{ℕ, ◌<◌}
use native.Mathlib.Numerals.{add-one}
use native.Mathlib.Omega.{arith}
use lib.ListN.{get_or, take, drop}
use Rattle.lists.proofs.Maps.{out}
use Rattle.jobs.specs.declared.Table.{Table}
use Rattle.jobs.specs.Jobs.{no_job, live, table_of, FoundAt}
use Rattle.jobs.specs.Figures.{figured}
use Rattle.jobs.proofs.Numbers.{found_nothing, others_all, without_others}
use Rattle.jobs.proofs.Figures.{figured_own}
use Rattle.jobs.proofs.Places.{found_live, live_at, less_count, less_tidy, spent_leaves}
use Rattle.jobs.proofs.Table.end.Goals as goal

pub offset_bounds-self-at : goal.offset_bounds-self-at
offset_bounds-self-at c =
    let table : Table =
    c.args.self in
    let at : ℕ =
    c.in-Some.at in
    let found : FoundAt c.args.number at (live table) × (at < table.count) =
    found_live table _ _ c.requires.0 (sym c.find.ensures ∙ c.in-Some.is) in
    omega (arith, found.1, c.requires.0.few)

pub bounds-self-at : goal.bounds-self-at
bounds-self-at c =
    let table : Table =
    c.args.self in
    let at : ℕ =
    c.in-Some.at in
    let found : FoundAt c.args.number at (live table) × (at < table.count) =
    found_live table _ _ c.requires.0 (sym c.find.ensures ∙ c.in-Some.is) in
    omega (arith, found.1, c.requires.0.few)

pub owing_less-requires : goal.owing_less-requires
owing_less-requires c =
    let table : Table =
    c.args.self in
    let at : ℕ =
    c.in-Some.at in
    let found : FoundAt c.args.number at (live table) × (at < table.count) =
    found_live table _ _ c.requires.0 (sym c.find.ensures ∙ c.in-Some.is) in
    let owed : (get_or (live table) at no_job).owed.0 ≡ (get_or table.jobs at no_job).owed.0 =
    ap (λ j. j.owed.0) (live_at table at found.1) in
    (c.requires.0, found.1, c.requires.1, omega (arith, owed))

pub without-requires : goal.without-requires
without-requires c =
    let table : Table =
    c.args.self in
    let at : ℕ =
    c.in-Some.at in
    let found : FoundAt c.args.number at (live table) × (at < table.count) =
    found_live table _ _ c.requires.0 (sym c.find.ensures ∙ c.in-Some.is) in
    rw c.owing_less.ensures (less_tidy table c.requires.0 at _ found.1, omega (arith, less_count table c.requires.0 at (get_or table.jobs at no_job).owed.0 found.1, found.1))

pub returns-in-Some : goal.returns-in-Some
returns-in-Some c =
    let table : Table =
    c.args.self in
    let at : ℕ =
    c.in-Some.at in
    let found : FoundAt c.args.number at (live table) × (at < table.count) =
    found_live table _ _ c.requires.0 (sym c.find.ensures ∙ c.in-Some.is) in
    let owed : (get_or (live table) at no_job).owed.0 ≡ (get_or table.jobs at no_job).owed.0 =
    ap (λ j. j.owed.0) (live_at table at found.1) in
    let js = live table in
    c.without.ensures
    ∙ ap (λ t. table_of (out at (live t))) c.owing_less.ensures
    ∙ spent_leaves table c.requires.0 at _ found.1 (omega (arith, owed))
    ∙ ap (λ n. table_of (figured (take at js ++ drop n js))) (add-one at)
    ∙ ap (λ l. table_of (figured l)) (without_others _ at js (c.requires.2 _) found.0)

pub returns-in-None : goal.returns-in-None
returns-in-None c =
    let js = live c.args.self in
    let none = found_nothing _ _ js (sym c.find.ensures ∙ c.in-None.is) in
    c.requires.0.filled ∙ ap table_of (sym (ap figured (others_all _ js none) ∙ figured_own js c.requires.1))
