-- DEMAND 2. A request that no other listed refusal stops is taken exactly if it fits; fits is the same as asking of every
-- instant; each step serves the ready work with the earliest deadline, ties as listed.
use Rattle.std.specs.Prelude.{◌≡◌, ◌⊎◌, ◌↔◌, List, ◌∷◌, ℕ, suc, pred, ◌≤◌, ◌<◌, ltb}
use Rattle.lists.specs.Lists.{Each, Pairs, keep}
use Rattle.ticks.specs.Ticks.{ticks, instant}
use Rattle.feeds.specs.Round.{demand}
use Rattle.feeds.specs.Lines.{feeds_in}
use Rattle.mesh.specs.Bands.{work_of}
use Rattle.mesh.specs.Meshes.{triangles_of, mesh_lines}
use Rattle.jobs.specs.declared.Job.{Job}
use Rattle.answers.specs.declared.Refusal.TheVariants.{DoesNotFit, TooMuchLoad}
use Rattle.std.specs.Prelude.{Ok, Err}
use Rattle.answers.specs.Answers.{first_of}
use Rattle.edf.specs.Book.{Feed, Book}
use Rattle.edf.specs.Reordered.{Reordered}
use Rattle.edf.specs.Releases as releases
use Rattle.edf.specs.Fits.{Fits}
use Rattle.edf.specs.Owed.{Room}
use Rattle.edf.specs.Pieces.{Piece, at_hand}
use Rattle.edf.specs.Step.{runner, serve, turn}
use Rattle.edf.specs.Chosen.{Chosen, NothingReady, GoesBefore, JobServed, FeedServed}
use Rattle.ledger.specs.State.{Sized}
use Rattle.ledger.specs.Books.{who_is}
use Rattle.desk.specs.declared.Desk.{Desk}
use Rattle.desk.specs.declared.Answer.{Answer}
use Rattle.desk.specs.State.{book, since, rewritten}
use Rattle.desk.specs.Calls.{disorder, step_lines, step_of, runner_of}
use Rattle.desk.specs.Asking.{ask_lines, requested, with_job, Asked}
use Rattle.desk.specs.Undated.{undated_lines, undated_deadline, undated_lead, AskedUndated}
use Rattle.questions.specs.Meshes.{AskedMesh}
use Rattle.promises.specs.Runs.{Opening, answer_to}

-- the answer is yes exactly if the job fits, and 6 exactly if it does not; with a yes the desk has the job beside all it had, in
-- whatever order, and it is this one
pub record TakenIfItFits (d : Desk) (j : Job) (taken : Desk) (r : Answer) : Type 0 where
  pub yes : (r.verdict ≡ Ok tt) ↔ Fits (with_job d j)
  pub no : (r.verdict ≡ Err DoesNotFit) ↔ (Fits (with_job d j) → ⊥)
  pub has : r.verdict ≡ Ok tt → Reordered (with_job d j) (book r.desk)
  pub desk : r.verdict ≡ Ok tt → r.desk ≡ taken

-- the desk with the job, nothing else of it changed
abbrev pub desk_with : Desk → Job → Desk
desk_with d j = rewritten d (with_job d j)

-- where no other line stops it, a request is taken exactly if it fits
unfoldable pub TakenExactlyIfItFits : Type 0
TakenExactlyIfItFits =
    (d : Desk) (number work lead : ℕ) (r : Answer) → Asked d number work lead r
    → first_of (ask_lines d number (ticks work) (ticks lead)) ≡ Ok tt
    → TakenIfItFits d (requested d number work lead) (desk_with d (requested d number work lead)) r

-- the same of an ask with a mesh, with the work of its band
unfoldable pub AMeshIsTakenExactlyIfItFits : Type 0
AMeshIsTakenExactlyIfItFits =
    (d : Desk) (s : List ℕ) (size number lead : ℕ) (r : Answer) → AskedMesh d s size number lead r
    → first_of (disorder d ∷ mesh_lines s size) ≡ Ok tt
    → first_of (ask_lines d number (ticks (work_of (triangles_of s))) (ticks lead)) ≡ Ok tt
    → TakenIfItFits d (requested d number (work_of (triangles_of s)) lead) (desk_with d (requested d number (work_of (triangles_of s)) lead)) r

-- the same of an ask with no date, with the lead of the rule; the desk remembers its deadline beside it
unfoldable pub AnUndatedIsTakenExactlyIfItFits : Type 0
AnUndatedIsTakenExactlyIfItFits =
    (d : Desk) (number work : ℕ) (r : Answer) → AskedUndated d number work r
    → first_of (undated_lines d number) ≡ Ok tt
    → first_of (ask_lines d number (ticks work) (ticks (undated_lead d work))) ≡ Ok tt
    → TakenIfItFits d (requested d number work (undated_lead d work))
    (since (instant (undated_deadline d work)) (desk_with d (requested d number work (undated_lead d work))))
    r

-- THE EQUALITY: a request that no other line stops fits exactly if by no instant after the clock more is owed than there is
-- time until then
unfoldable pub FitsIsRoom : Type 0
FitsIsRoom =
    (d : Desk) (number work lead : ℕ) → Sized d.ledger → first_of (ask_lines d number (ticks work) (ticks lead)) ≡ Ok tt
    → Fits (with_job d (requested d number work lead)) ↔ Room (with_job d (requested d number work lead))

-- THE OPENING GIVES 10 EXACTLY IF, in some stretch of ticks, however long, the feeds released together want more than it has, the
-- charge of each piece counted: a 10 has such a stretch, and a yes has none
pub record TenIfSomeStretchWantsMore : Type 0 where
  pub ten : (o : Opening) → (answer_to o).verdict ≡ Err TooMuchLoad
      → (L : ℕ) × (L < demand (ticks o.charge) L (feeds_in o.feeds))
  pub yes : (o : Opening) → (answer_to o).verdict ≡ Ok tt
      → (L : ℕ) → demand (ticks o.charge) L (feeds_in o.feeds) ≤ L

-- the contract of an ask leaves one outcome, and so do that of an ask with a mesh and that of one with no date; the other calls' contracts are equations
pub record OneAnswer : Type 0 where
  pub ask : (d : Desk) (number work lead : ℕ) (q r : Answer) → Asked d number work lead q → Asked d number work lead r → q ≡ r
  pub mesh : (d : Desk) (s : List ℕ) (size number lead : ℕ) (q r : Answer)
      → AskedMesh d s size number lead q → AskedMesh d s size number lead r → q ≡ r
  pub undated : (d : Desk) (number work : ℕ) (q r : Answer) → AskedUndated d number work q → AskedUndated d number work r → q ≡ r

-- whom a step's answer names, of the book before it: the ready work that goes before all that is ready, and what it owes
-- after the tick; or nobody, as nothing is ready
unfoldable pub NamesTheFirst : Book → Piece → Type 0
NamesTheFirst b p = Chosen b p ⊎ NothingReady b p

-- the book after the tick was given, before any release
abbrev pub served : Desk → Book
served d = serve (runner (book d)).who (book d)

-- a feed when the clock has come to the instant x: the piece released then is ready, with all its work; one whose deadline has
-- come owes nothing more; any other owes what it owed
pub record FeedTurned (x : ℕ) (after before : Feed) : Type 0 where
  pub position : after.position ≡ before.position
  pub plan : after.plan ≡ before.plan
  pub released : releases.since before.plan x ≡ 0 → after.owes ≡ before.plan.work
  pub over : 1 ≤ releases.since before.plan x → before.plan.lead ≤ releases.since before.plan x → after.owes ≡ 0
  pub going : 1 ≤ releases.since before.plan x → releases.since before.plan x < before.plan.lead → after.owes ≡ before.owes

-- the step rule, of any desk that lines 13 and 3 let pass, overbooked or not
pub record StepRule (d : Desk) : Type 0 where
  pub yes : (step_of d).verdict ≡ Ok tt
  pub first : NamesTheFirst (book d) (runner (book d))
  -- in the order that is listed: the earlier deadline, a job before a feed, the lower number, the lower position
  pub ties : Each (λ q. 1 ≤ q.owes → GoesBefore (runner (book d)) q) (at_hand (book d))
  pub named : (step_of d).who ≡ who_is (runner (book d)).who
  pub owes : (step_of d).owes ≡ ticks (pred (runner (book d)).owes)
  -- before any release the named piece of work owes one less, and nobody else's figure changes
  pub jobs : Pairs (JobServed (runner (book d)).who) (served d).jobs (book d).jobs
  pub feeds : Pairs (FeedServed (runner (book d)).who) (served d).feeds (book d).feeds
  -- then the clock goes on, a job that owes nothing leaves, and pieces released are ready
  pub clock : (step_of d).desk.ledger.clock.0 ≡ suc d.ledger.clock.0
  pub leaving : (book (step_of d).desk).jobs ≡ keep (λ j. ltb 0 j.owes) (served d).jobs
  pub released : Pairs (FeedTurned (suc d.ledger.clock.0)) (book (step_of d).desk).feeds (served d).feeds
  pub after : book (step_of d).desk ≡ turn (served d)

unfoldable pub EveryStepByTheRule : Type 0
EveryStepByTheRule = (d : Desk) → Sized d.ledger → first_of (step_lines d) ≡ Ok tt → StepRule d

-- the runner whose label is told is whom the next step names; nobody where there is no next step
unfoldable pub TheLabelIsTheRunners : Type 0
TheLabelIsTheRunners = (d : Desk) → runner_of d ≡ (step_of d).who
