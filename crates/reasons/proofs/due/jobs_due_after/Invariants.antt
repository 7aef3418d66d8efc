-- `reasons::due::jobs_due_after` meets its contract: up to the instant found so far nothing comes due, but for the jobs that are
-- left to look at.
use Prim.Native.Nat.{◌≤◌, ◌<◌}
use lib.ListN.{drop}
use Rattle.jobs.specs.Figures.{owes_by}
use Rattle.reasons.proofs.Until.{StillBut}
use Rattle.reasons.proofs.due.jobs_due_after.Given as goal

abbrev pub invariant-loop-job : goal.invariant-loop-job
invariant-loop-job l = (l.by.0 < l.next.0) × (l.next.0 ≤ l.initial.next.0) × StillBut owes_by l.by.0 l.job-items l.next.0 (drop l.job-index l.job-items)
