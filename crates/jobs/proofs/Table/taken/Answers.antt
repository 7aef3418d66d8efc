-- `jobs::Table::taken` meets its contract: those due no earlier show the job, and it has its place.
use mathlib.Core.Path.{◌≡◌, sym, ap, ◌∙◌}
use mathlib.Core.List.{◌∷◌, ◌++◌, map}
use Prim.Native.Nat.{ℕ, ◌+◌, ◌*◌, ◌≤◌, ◌<◌, ◌^◌}
use native.Mathlib.Omega.{arith}
use lib.ListN.{take, drop, length-map}
use Rattle.lists.proofs.Lists.{each_imp}
use Rattle.jobs.specs.declared.Job.{Job}
use Rattle.jobs.specs.declared.Table.{Table}
use Rattle.jobs.specs.Jobs.{live, table_of}
use Rattle.jobs.specs.Sorted.{place_of}
use Rattle.jobs.specs.Figures.{most_owed, owes_by, owed_by, figure_in, figured, showing, raised}
use Rattle.jobs.proofs.Figures.{owes_by_le, owed_by_bound, figured_put}
use Rattle.jobs.proofs.Sorted.{insert_place, place_inside}
use Rattle.jobs.proofs.Places.{live_count, live_of, tidy_of}
use Rattle.jobs.proofs.Table.taken.Goals as goal

pub and-figure-requires : goal.and-figure-requires
and-figure-requires c =
    let bounded : (D : ℕ) → owed_by D (live c.args.self) ≤ 64 * most_owed =
    λ D. omega (arith, owed_by_bound D (live c.args.self) c.requires.3, live_count c.args.self c.requires.0, c.requires.1) in
    omega (arith, ap (λ l. l.0) c.owed_by.ensures, bounded c.args.job.deadline.0, c.requires.5)

pub raised-requires : goal.raised-requires
raised-requires c =
    let bounded : (D : ℕ) → owed_by D (live c.args.self) ≤ 64 * most_owed =
    λ D. omega (arith, owed_by_bound D (live c.args.self) c.requires.3, live_count c.args.self c.requires.0, c.requires.1) in
    let js = live c.args.self in
    let job = c.args.job in (
      c.requires.0,
      each_imp (λ j. j.figure.0 ≡ figure_in js j) (λ j. j.figure.0 + owes_by j.deadline.0 job < 2 ^ 64)
          (λ j e. omega (arith, e, bounded j.deadline.0, owes_by_le j.deadline.0 job, c.requires.5)) js c.requires.4,
    )

pub put-requires : goal.put-requires
put-requires c =
    let shown : Table =
    table_of (map (raised c.args.job) (live c.args.self)) in
    let many : shown.count ≡ c.args.self.count =
    length-map (live c.args.self) (raised c.args.job) ∙ live_count c.args.self c.requires.0 in
    let inside : c.place_of-at.result ≤ c.args.self.count =
    let t = c.args.self in
    omega (arith, c.place_of-at.ensures, place_inside c.args.job (live t), live_count t c.requires.0) in
    rw c.raised.ensures (tidy_of (map (raised c.args.job) (live c.args.self)) (omega (arith, many, c.requires.1)), omega (arith, many, c.requires.1), omega (arith, many, inside))

pub returns : goal.returns
returns c =
    let new : Job =
    showing (owed_by c.args.job.deadline.0 (live c.args.self) + c.args.job.owed.0) c.args.job in
    let shows : c.showing.result ≡ new =
    c.showing.ensures
    ∙ ap (λ l. showing l.0 c.args.job) c.and-figure.ensures
    ∙ ap (λ l. showing (l.0 + c.args.job.owed.0) c.args.job) c.owed_by.ensures in
    let js = live c.args.self in
    let ks = map (raised c.args.job) js in
    let at = place_of c.args.job js in
    c.put.ensures
    ∙ (λ i. table_of (take (c.place_of-at.ensures i) (live (c.raised.ensures i)) ++ (shows i ∷ drop (c.place_of-at.ensures i) (live (c.raised.ensures i)))))
    ∙ ap (λ ls. table_of (take at ls ++ (new ∷ drop at ls))) (live_of ks)
    ∙ ap table_of (sym (figured_put js c.args.job at c.requires.4))
    ∙ ap (λ ls. table_of (figured ls)) (sym (insert_place c.args.job js))
