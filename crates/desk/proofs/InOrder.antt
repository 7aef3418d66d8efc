-- A desk in order, as facts: the state of the box, and what the calls keep beside it.
use mathlib.Core.Path.{◌≡◌, sym, ◌∙◌}
use mathlib.Core.Bool.{Bool, true, not, cond}
use mathlib.Core.List.{[]}
use Rattle.std.specs.Prelude.{Ok, Err}
use Rattle.answers.specs.declared.Refusal.TheVariants.{NotInOrder}
use Rattle.answers.specs.Verdicts.{Verdict}
use Rattle.answers.proofs.Answers.{passed_by}
use Rattle.jobs.specs.Jobs.{most_jobs}
use Prim.Native.Nat.{◌≤◌}
use borrow.Author.Tests.{leb-true, le-leb, not-false}
use Rattle.lists.proofs.Tests.{all_of_lem, all_of_made}
use Rattle.ticks.specs.Ticks.{last_instant}
use Rattle.shares.specs.Shares.{share_in}
use Rattle.ledger.specs.State.{Sized, InOrder}
use Rattle.ledger.proofs.InOrder as ledger
use Rattle.desk.specs.declared.Desk.{Desk}
use Rattle.desk.specs.State.{in_order}

-- the share is one or there is none, and the clock can read the previous deadline
pub record Beside (d : Desk) : Type 0 where
  pub share : share_in d.share ≡ true
  pub previous : d.previous.0 ≤ last_instant

-- the state of the box is in order
pub in_order_lem : (d : Desk) → Sized d.ledger → in_order d ≡ true → InOrder d.ledger
unfolding in_order
in_order_lem d s h = ledger.in_order_lem d.ledger s (all_of_lem _ h).1.1.0

pub in_order_beside : (d : Desk) → in_order d ≡ true → Beside d
unfolding in_order
in_order_beside d h = let t = all_of_lem _ h in record { share = t.0; previous = leb-true _ _ t.1.0 }

-- and back
pub in_order_made : (d : Desk) → Beside d → InOrder d.ledger → in_order d ≡ true
unfolding in_order
in_order_made d b o = all_of_made _ (b.share, (le-leb _ _ b.previous, (ledger.in_order_made d.ledger o, tt)))

-- told by the line that stops a desk that is not
pub in_order_told : (d : Desk) (b : Bool) (u : Unit {0}) → ◌≡◌ {A = Verdict} (cond (not b) (Err NotInOrder) (Ok tt)) (Ok u) → b ≡ in_order d → in_order d ≡ true
in_order_told d b u h e = sym e ∙ not-false _ (passed_by (not b) NotInOrder [] u h).0

-- then no more jobs are live than there are places
pub few_in_order : (d : Desk) → Sized d.ledger → in_order d ≡ true → d.ledger.table.count ≤ most_jobs
few_in_order d s h = (in_order_lem d s h).tidy_table.few
