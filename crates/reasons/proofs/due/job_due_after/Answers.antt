-- `reasons::due::job_due_after` meets its contract, by whether the deadline has come.
use mathlib.Core.Path.{◌≡◌}
use Prim.Native.Nat.{◌≤◌, ◌<◌}
use native.Mathlib.Omega.{arith}
use borrow.Author.Rules.{rules}
use Rattle.std.proofs.lemmas.Bool.Decides.{nat_tests}
use Rattle.ticks.specs.Ticks.{earlier_of}
use Rattle.reasons.proofs.Until.{job_until_due, job_until_end}
use Rattle.reasons.proofs.due.job_due_after.Goals as goal

pub returns-then-gt : goal.returns-then-gt
returns-then-gt c =
    let job = c.args.job in
    let ahead : c.args.by.0 < job.deadline.0 = grind (arith, nat_tests) in
    let earlier : c.min.result ≡ earlier_of job.deadline c.args.till = search rules in
    rw earlier (job_until_due job c.args.by.0 c.args.till ahead c.requires)

pub returns-else-gt : goal.returns-else-gt
returns-else-gt c =
    let past : c.args.job.deadline.0 ≤ c.args.by.0 = grind (arith, nat_tests) in
    job_until_end c.args.job c.args.by.0 c.args.till.0 past c.requires
