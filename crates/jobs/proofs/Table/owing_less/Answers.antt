-- `jobs::Table::owing_less` meets its contract: those due no earlier show so many fewer, and the job has so many fewer to get.
use mathlib.Core.Path.{◌≡◌, sym, ap, ◌∙◌}
use mathlib.Core.List.{map}
use Prim.Native.Nat.{◌-◌, ◌≤◌, ◌<◌}
use native.Mathlib.Omega.{arith}
use lib.ListN.{length, get_or, set, length-map}
use Rattle.lists.proofs.Lists.{each_imp}
use Rattle.lists.proofs.Maps.{get_or_mapped}
use Rattle.ticks.specs.Ticks.{ticks}
use Rattle.jobs.specs.declared.Job.{Job}
use Rattle.jobs.specs.declared.Table.{Table}
use Rattle.jobs.specs.Jobs.{no_job, live, table_of}
use Rattle.jobs.specs.Served.{less_job}
use Rattle.jobs.specs.Figures.{owes_by, lowered}
use Rattle.jobs.proofs.Figures.{part_of, part_shown, figured_less}
use Rattle.jobs.proofs.Places.{live_count, live_at, live_of, tidy_of, one_changed}
use Rattle.jobs.proofs.Table.owing_less.Goals as goal

pub lowered-table-requires : goal.lowered-table-requires
lowered-table-requires c =
    let old : Job =
    get_or (live c.args.self) c.args.at no_job in
    let part : Job =
    part_of c.args.by.0 old in
    let inside : c.args.at < length (live c.args.self) =
    omega (arith, live_count c.args.self c.requires.0, c.requires.1) in
    let here : get_or c.args.self.jobs c.args.at no_job ≡ old =
    sym (live_at c.args.self c.args.at c.requires.1) in
    let given : c.of.result ≡ part =
    c.of.ensures ∙ ap (part_of c.args.by.0) here in
    let js = live c.args.self in (
      c.requires.0,
      each_imp (λ k. owes_by k.deadline.0 part ≤ k.figure.0) (λ k. owes_by k.deadline.0 c.of.result ≤ k.figure.0)
          (λ k h. omega (arith, h, ap (owes_by k.deadline.0) given)) js
          (part_shown js c.requires.2 c.args.at c.args.by.0 inside c.requires.3),
    )

pub returns : goal.returns
returns c =
    let old : Job =
    get_or (live c.args.self) c.args.at no_job in
    let part : Job =
    part_of c.args.by.0 old in
    let inside : c.args.at < length (live c.args.self) =
    omega (arith, live_count c.args.self c.requires.0, c.requires.1) in
    let shown : Table =
    table_of (map (lowered part) (live c.args.self)) in
    let many : shown.count ≡ c.args.self.count =
    length-map (live c.args.self) (lowered part) ∙ live_count c.args.self c.requires.0 in
    let here : get_or c.args.self.jobs c.args.at no_job ≡ old =
    sym (live_at c.args.self c.args.at c.requires.1) in
    let given : c.of.result ≡ part =
    c.of.ensures ∙ ap (part_of c.args.by.0) here in
    let falls : c.lowered-table.result ≡ shown =
    c.lowered-table.ensures ∙ ap (λ k. table_of (map (lowered k) (live c.args.self))) given in
    let left : get_or c.lowered-table.result.jobs c.args.at no_job ≡ lowered part old =
    let ks = map (lowered part) (live c.args.self) in
    let count = many in
    ap (λ t. get_or t.jobs c.args.at no_job) falls
    ∙ sym (live_at (table_of ks) c.args.at (omega (arith, c.requires.1)))
    ∙ ap (λ l. get_or l c.args.at no_job) (live_of ks)
    ∙ get_or_mapped (lowered part) c.args.at no_job no_job (live c.args.self) inside in
    let owes : c.less.result ≡ ticks (old.owed.0 - c.args.by.0) =
    c.less.ensures ∙ ap (λ k. ticks (k.owed.0 - c.args.by.0)) here in
    let ks = map (lowered part) (live c.args.self) in
    let count = many in
    (λ i. record {
      count = (falls i).count;
      jobs = set (falls i).jobs c.args.at (record { number = (left i).number; owed = owes i; deadline = (left i).deadline; figure = (left i).figure });
    })
    ∙ one_changed (table_of ks) c.args.at (less_job c.args.by.0 (lowered part old)) (tidy_of ks (omega (arith, c.requires.0.few))) (omega (arith, c.requires.1))
    ∙ ap (λ l. table_of (set l c.args.at (less_job c.args.by.0 (lowered part old)))) (live_of ks)
    ∙ ap table_of (sym (figured_less (live c.args.self) c.requires.2 c.args.at c.args.by.0 inside c.requires.3))
