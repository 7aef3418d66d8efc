-- NOBODY FINISHES LATER FOR LESS LOAD (request 10): run by steps alone, each job of the lighter of two desks that calls reach
-- and each piece of a feed finishes no later than on the heavier. So an end or a rest delays nobody else.
use Rattle.std.specs.Prelude.{◌≡◌, List, ℕ, zero, suc, ◌+◌, ◌≤◌, ◌<◌}
use Rattle.lists.specs.Lists.{Each}
use Rattle.ticks.specs.Ticks.{last_instant, ticks}
use Rattle.jobs.specs.declared.Job as jobs
use Rattle.jobs.specs.Jobs.{live}
use Rattle.answers.specs.declared.Who.{Who}
use Rattle.answers.specs.declared.Who.TheVariants.{Job}
use Rattle.std.specs.Prelude.{Ok}
use Rattle.edf.specs.Step.{runner}
use Rattle.edf.specs.Finish.{Wanted, CurrentAt}
use Rattle.ledger.specs.Books.{who_of}
use Rattle.desk.specs.declared.Desk.{Desk}
use Rattle.desk.specs.State.{book}
use Rattle.desk.specs.Calls.{step_of, end_of, rest_of}
use Rattle.promises.specs.Load.{Reached, LessLoad, SameFeeds}

-- a desk after so many steps and no other call
unfoldable pub stepped : ℕ → Desk → Desk
stepped zero d = d
stepped (suc k) d = stepped k (step_of d).desk

-- w's work that is due at D is still to do: a live job, a current piece that owes something, or a piece yet to come
abbrev pub ToDo : Who → ℕ → Desk → Type 0
ToDo w D d = Wanted (who_of w) D (book d)

-- the step after k steps gives w's work that is due at D its last tick: it is taken, and its answer names w with nothing
-- still owed
pub record Finishes (w : Who) (D k : ℕ) (d : Desk) : Type 0 where
  pub taken : (step_of (stepped k d)).verdict ≡ Ok tt
  pub named : (step_of (stepped k d)).who ≡ w
  pub last : (step_of (stepped k d)).owes ≡ ticks 0
  -- the work that got the tick owed something before it, and was due at D: a job has one deadline, each piece its own
  pub busy : 1 ≤ (runner (book (stepped k d))).owes
  pub due : (runner (book (stepped k d))).due ≡ D

unfoldable pub FinishesWithin : Who → ℕ → ℕ → Desk → Type 0
FinishesWithin w D k d = (i : ℕ) × (i ≤ k) × Finishes w D i d

-- where the two are one job, its deadline is the same
abbrev pub KeepsDeadline : jobs.Job → jobs.Job → Type 0
KeepsDeadline j k = j.number ≡ k.number → j.deadline ≡ k.deadline

-- the jobs of the first desk have kept their deadlines
unfoldable pub KeepsDeadlines : Desk → Desk → Type 0
KeepsDeadlines c d = Each (λ j. Each (KeepsDeadline j) (live d.ledger.table)) (live c.ledger.table)

-- all that the first desk has to do finishes there no later than on the second
pub record FinishesNoLater (c d : Desk) : Type 0 where
  pub no_later : (w : Who) (D k : ℕ) → ToDo w D c → Finishes w D k d → FinishesWithin w D k c
  -- and it does finish on both, before its deadline, as far as the clock goes
  pub on_both : (w : Who) (D : ℕ) → ToDo w D c → D ≤ last_instant
      → (k : ℕ) × (d.ledger.clock.0 + k < D) × Finishes w D k d × FinishesWithin w D k c

-- NOBODY FINISHES LATER, of any two desks that calls reach and that have the same feeds
unfoldable pub NobodyFinishesLater : Type 0
NobodyFinishesLater =
    (xs ys : List ℕ) (c d : Desk) → Reached xs c → Reached ys d → SameFeeds c d → LessLoad c d → KeepsDeadlines c d
    → FinishesNoLater c d

-- the same from openings with one feed list
unfoldable pub NobodyOfOneListFinishesLater : Type 0
NobodyOfOneListFinishesLater =
    (xs : List ℕ) (c d : Desk) → Reached xs c → Reached xs d → LessLoad c d → KeepsDeadlines c d → FinishesNoLater c d

-- whatever is to do finishes before its deadline, as far as the clock goes
unfoldable pub EverybodyFinishes : Type 0
EverybodyFinishes =
    (xs : List ℕ) (d : Desk) → Reached xs d → (w : Who) (D : ℕ) → ToDo w D d → D ≤ last_instant
    → (k : ℕ) × (d.ledger.clock.0 + k < D) × Finishes w D k d

-- and once: there is one step that finishes it
unfoldable pub EverybodyFinishesOnce : Type 0
EverybodyFinishesOnce =
    (xs : List ℕ) (d : Desk) → Reached xs d → (w : Who) (D i k : ℕ) → Finishes w D i d → Finishes w D k d → i ≡ k

-- AN END DELAYS NOBODY: all but the job that it takes out finish no later than without it
unfoldable pub AnEndDelaysNobody : Type 0
AnEndDelaysNobody =
    (xs : List ℕ) (d : Desk) → Reached xs d → (n : ℕ) (w : Who) (D k : ℕ) → (w ≡ Job n → ⊥)
    → Finishes w D k d → FinishesWithin w D k (end_of d n).desk

-- A REST DELAYS NOBODY: all but the piece that rests finish no later than without it
unfoldable pub ARestDelaysNobody : Type 0
ARestDelaysNobody =
    (xs : List ℕ) (d : Desk) → Reached xs d → (p : ℕ) (w : Who) (D k : ℕ) → (CurrentAt p (who_of w) D (book d) → ⊥)
    → Finishes w D k d → FinishesWithin w D k (rest_of d p).desk
