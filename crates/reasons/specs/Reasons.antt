-- What a customer is told of an instant, and which of two instants has the smaller margin.
use Rattle.std.specs.Prelude.{◌≡◌, cond, ◌+◌, ltb, ℤ, pos}
use Rattle.lists.specs.Lists.{total}
use Rattle.ticks.specs.declared.Instant.{Instant}
use Rattle.ticks.specs.Ticks.{ticks, instant}
use Rattle.feeds.specs.Feeds.{in_use}
use Rattle.jobs.specs.declared.Job.{Job}
use Rattle.jobs.specs.Jobs.{live}
use Rattle.edf.specs.Book.{Book}
use Rattle.edf.specs.Owed.{owed_by}
use Rattle.edf.specs.Margin.{margin, Telling}
use Rattle.edf.specs.Calls.{taking}
use Rattle.ledger.specs.declared.Ledger.{Ledger}
use Rattle.ledger.specs.Books.{book_of, book_job}
use Rattle.jobs.specs.Figures.{owes_by}
use Rattle.room.specs.Owed.{feed_owes, Reach}
use Rattle.reasons.specs.declared.Debt.{Debt}
use Rattle.reasons.specs.declared.Reason.{Reason}

-- what is owed by an instant, kept beside it
abbrev pub debt_by : Book → Instant → Debt
debt_by b by = record { at = by; owed = ticks (owed_by b by.0) }

-- the second where its margin is smaller, else the first
abbrev pub tighter : Debt → Debt → Debt
tighter best next = cond (ltb (next.at.0 + best.owed.0) (best.at.0 + next.owed.0)) next best

-- the instant that a customer is told of, within reach of the clock, and what is owed by then
pub record Tells (clock : Instant) (b : Book) (r : Debt) : Type 0 where
  pub telling : Telling b r.at.0
  pub reach : Reach clock r.at
  pub owed : r.owed.0 ≡ owed_by b r.at.0

-- what the live jobs, the feeds and the job that is asked for owe by the instant, and the margin of them all
abbrev pub reason_at : Ledger → Job → Instant → Reason
reason_at l j at =
    record {
      at = at;
      jobs = ticks (total (owes_by at.0) (live l.table));
      feeds = ticks (total (feed_owes l.charge l.clock.0 at.0) (in_use l.feeds));
      job = ticks (owes_by at.0 j);
      margin = margin (taking (book_job j) (book_of l)) at.0;
    }

-- how near a request comes that would be taken: the instant and the margin alone
abbrev pub near_reason : Instant → ℤ → Reason
near_reason at margin = record { at = at; jobs = ticks 0; feeds = ticks 0; job = ticks 0; margin = margin }

-- nothing to tell
abbrev pub no_reason : Reason
no_reason = near_reason (instant 0) (pos 0)
