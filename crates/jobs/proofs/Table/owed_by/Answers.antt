-- `jobs::Table::owed_by` meets its contract: the last live job due by then is found, and shows what is owed.
use mathlib.Core.Path.{◌≡◌, ap, ◌∙◌}
use Prim.Native.Nat.{ℕ}
use borrow.Author.Rules.{rules}
use borrow.Author.Tests.{tests}
use denote.Ref.{Bor}
use lib.Dec.{leb}
use Rattle.std.specs.Prelude.{Option, Some, None, MatchOption, option_map}
use Rattle.std.specs.Slice.Iter.{iter_rest}
use Rattle.std.proofs.lemmas.Iterator.Adapters.{YieldsList-from_rev_slice}
use Rattle.std.proofs.lemmas.Iterator.Search.{find_from_yields_List}
use Rattle.ticks.specs.declared.Length.{Length}
use Rattle.ticks.specs.Ticks.{ticks}
use Rattle.jobs.specs.declared.Job.{Job}
use Rattle.jobs.specs.Jobs.{live}
use Rattle.jobs.proofs.InDeadlineOrder.{shown, last_due_shows}
use Rattle.jobs.proofs.Table.owed_by.Goals as goal

-- what was found tells what it shows, and nothing otherwise
told : (found : Option (Bor Job)) (r : Length) (n : ℕ) (Tells : Bor Job → Type 0) → MatchOption found (r ≡ ticks 0) Tells → ((j : Bor Job) → Tells j → r ≡ j.now.figure)
    → shown (option_map (λ j. j.now) found) ≡ n → r ≡ ticks n
told None r n Tells h t e = h ∙ ap ticks e
told (Some j) r n Tells h t e = t j h ∙ ap ticks e

pub returns : goal.returns
returns c =
    let js = live c.args.self in
    let due = λ (j : Job). leb j.deadline.0 c.args.by.0 in
    let road = YieldsList-from_rev_slice js (ap iter_rest c.rev.ensures.source ∙ c.iter.ensures.rest) in
    let found = find_from_yields_List due _ _ c.find.result c.find.ensures.ran road (λ x b q k. search (rules, tests)) in
    told c.find.result _ _ _ c.map_or.ensures (λ j t. search rules) (ap shown found ∙ last_due_shows c.args.by.0 js c.requires.1 c.requires.2)
