-- A tick of the state: the step of the mathematics, written back.
use Rattle.std.specs.Prelude.{Result, List, [], ◌∷◌, not, ◌≤◌, ltb}
use Rattle.ticks.specs.Ticks.{last_instant, ticks}
use Rattle.feeds.specs.declared.Feed.{Feed}
use Rattle.feeds.specs.Pieces.{owes_at, served as feed_served}
use Rattle.jobs.specs.declared.Job.{Job}
use Rattle.jobs.specs.Served.{served as job_served}
use Rattle.answers.specs.declared.Who.{Who}
use Rattle.answers.specs.declared.Who.TheVariants as who
use Rattle.answers.specs.declared.Refusal.{Refusal}
use Rattle.answers.specs.declared.Refusal.TheVariants.{PastLast}
use Rattle.answers.specs.Answers.{Line, line, first_of, yes_with}
use Rattle.edf.specs.Step.{ran, step}
use Rattle.ledger.specs.declared.Ledger.{Ledger}
use Rattle.ledger.specs.Books.{book_of, rewritten, who_is}
use Rattle.serving.specs.declared.Stepped.{Stepped}

-- a feed that gets the tick owes something
unfoldable pub Owed : Who → List Feed → Type 0
Owed (who.Feed p) fs = 1 ≤ owes_at p 1 fs
Owed (who.Job n) fs = Unit {0}
Owed who.Idle fs = Unit {0}

-- the feeds after the tick was given, before any release
abbrev pub served_feeds : Who → List Feed → List Feed
served_feeds (who.Feed p) fs = feed_served p 1 fs
served_feeds (who.Job n) fs = fs
served_feeds who.Idle fs = fs

-- the jobs after the tick was given; one leaves with its last
abbrev pub served_jobs : Who → List Job → List Job
served_jobs (who.Job n) js = job_served n js
served_jobs (who.Feed p) js = js
served_jobs who.Idle js = js

-- the clock is at its last instant (3)
abbrev pub last_line : Ledger → Line
last_line l = line (not (ltb l.clock.0 last_instant)) PastLast

-- the step of a state, written back: the state after the tick, whom it went to, and what that piece of work still owes
abbrev pub stepped : Ledger → Stepped
stepped l =
    record {
      ledger = rewritten l (step (book_of l));
      who = who_is (ran (book_of l)).who;
      owes = ticks (ran (book_of l)).owes;
    }

-- a step of a state in order, refused where the clock is at its end
unfoldable pub stepped_of : Ledger → Result Stepped Refusal
stepped_of l = yes_with (first_of (last_line l ∷ [])) (stepped l)
