-- DEMAND 3, less load: it never makes a yes a no, over fits, for any two desks that calls reach.
use Rattle.std.specs.Prelude.{◌≡◌, true, List, ℕ, ◌≤◌}
use Rattle.lists.specs.Lists.{Each, Some, Pairs}
use Rattle.feeds.specs.declared.Feed.{Feed}
use Rattle.feeds.specs.Feeds.{in_use, plans_of}
use Rattle.jobs.specs.declared.Job.{Job}
use Rattle.jobs.specs.Jobs.{lacks, live}
use Rattle.std.specs.Prelude.{Ok}
use Rattle.edf.specs.Fits.{Fits}
use Rattle.edf.specs.Runs.{after}
use Rattle.desk.specs.declared.Desk.{Desk}
use Rattle.desk.specs.declared.Answer.{Answer}
use Rattle.desk.specs.Asking.{requested, with_job, Asked}
use Rattle.questions.specs.Meshes.{AskedMesh}
use Rattle.promises.specs.Runs.{Calls, Made, Opening, opened}

-- a desk that some calls reach from an opening with this feed list, at whatever instant and under whatever charge
pub record Reached (xs : List ℕ) (d : Desk) : Type 0 where
  pub from : Opening
  pub list : from.feeds ≡ xs
  pub calls : Calls
  pub made : Made calls (opened from)
  pub there : after calls (opened from) ≡ d

-- the same job by number, owing no more and due no sooner
pub record JobNoMore (j k : Job) : Type 0 where
  pub number : j.number ≡ k.number
  pub owed : j.owed.0 ≤ k.owed.0
  pub deadline : k.deadline.0 ≤ j.deadline.0

-- what the current piece of the first feed owes is no more than what that of the second does
abbrev pub OwesNoMore : Feed → Feed → Type 0
OwesNoMore f g = f.owes.0 ≤ g.owes.0

-- less load: the first desk is at the second's instant and under its charge, feed by feed its current piece owes no more, and
-- each of its jobs is one of the second's
pub record LessLoad (c d : Desk) : Type 0 where
  pub clock : c.ledger.clock ≡ d.ledger.clock
  pub charge : c.ledger.charge ≡ d.ledger.charge
  pub pieces : Pairs OwesNoMore (in_use c.ledger.feeds) (in_use d.ledger.feeds)
  pub jobs : Each (λ j. Some (JobNoMore j) (live d.ledger.table)) (live c.ledger.table)

-- the same feeds, as they were lent: position by position the same period, work, offset and deadline length
unfoldable pub SameFeeds : Desk → Desk → Type 0
SameFeeds c d = plans_of (in_use c.ledger.feeds) ≡ plans_of (in_use d.ledger.feeds)

-- whatever the second desk grants, the first grants
pub record GrantsToo (c d : Desk) : Type 0 where
  -- that a request fits: any work and lead of a tick or more, under a number that is not live on the second desk
  pub fits : (number work lead : ℕ) → 1 ≤ work → 1 ≤ lead → lacks number (live d.ledger.table) ≡ true
      → Fits (with_job d (requested d number work lead)) → Fits (with_job c (requested c number work lead))
  -- a yes to an ask, whatever its numbers are
  pub ask : (number work lead : ℕ) (q r : Answer) → Asked d number work lead r → r.verdict ≡ Ok tt
      → Asked c number work lead q → q.verdict ≡ Ok tt
  -- a yes to an ask with a mesh
  pub mesh : (s : List ℕ) (size number lead : ℕ) (q r : Answer) → AskedMesh d s size number lead r → r.verdict ≡ Ok tt
      → AskedMesh c s size number lead q → q.verdict ≡ Ok tt

-- LESS LOAD NEVER MAKES A YES A NO, of any two desks that calls reach and that have the same feeds
unfoldable pub TheLighterSaysYes : Type 0
TheLighterSaysYes = (xs ys : List ℕ) (c d : Desk) → Reached xs c → Reached ys d → SameFeeds c d → LessLoad c d → GrantsToo c d

-- from openings with one feed list, at whatever instants and with whatever calls since, less load is enough
unfoldable pub TheLighterOfOneListSaysYes : Type 0
TheLighterOfOneListSaysYes = (xs : List ℕ) (c d : Desk) → Reached xs c → Reached xs d → LessLoad c d → GrantsToo c d
