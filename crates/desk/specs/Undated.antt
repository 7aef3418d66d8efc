-- Asking for a job with no date: lines 13, 1 and 19 in this order; then the ordinary ask, with the lead that the rule gives. A yes
-- is remembered by its deadline.
use Rattle.std.specs.Prelude.{◌≡◌, List, [], ◌∷◌, ℕ, ◌+◌, ◌-◌}
use Rattle.ticks.specs.declared.Instant.{Instant}
use Rattle.ticks.specs.Ticks.{instant}
use Rattle.edf.specs.Share.{deadline_at}
use Rattle.answers.specs.declared.Refusal.{Refusal}
use Rattle.std.specs.Prelude.{Ok, Err}
use Rattle.answers.specs.Answers.{Line, first_of, on_yes}
use Rattle.desk.specs.declared.Desk.{Desk}
use Rattle.desk.specs.declared.Answer.{Answer}
use Rattle.desk.specs.State.{since}
use Rattle.desk.specs.Opening.{share_line}
use Rattle.desk.specs.Calls.{disorder}
use Rattle.desk.specs.Asking.{number_line, Asked}

-- lines 13, 1 and 19: the opening had no share
abbrev pub undated_lines : Desk → ℕ → List Line
undated_lines d number = disorder d ∷ number_line number ∷ share_line d.share ∷ []

-- the deadline by the rule, of the charged work
abbrev pub undated_deadline : Desk → ℕ → ℕ
undated_deadline d work =
    deadline_at d.share.p d.share.q d.previous.0 d.ledger.clock.0 (work + d.ledger.charge.0)

-- as a lead from the clock on
abbrev pub undated_lead : Desk → ℕ → ℕ
undated_lead d work = undated_deadline d work - d.ledger.clock.0

-- an answer whose yes is remembered by the deadline
abbrev pub remembering : Instant → Answer → Answer
remembering deadline a = record { desk = on_yes a.verdict (since deadline a.desk) a.desk; verdict = a.verdict }

-- the answer of an ask with no date, and the state that it hands back
pub record AskedUndated (d : Desk) (number work : ℕ) (r : Answer) : Type 0 where
  pub stopped : (x : Refusal) → first_of (undated_lines d number) ≡ Err x → r ≡ record { desk = d; verdict = Err x }
  pub asked : first_of (undated_lines d number) ≡ Ok tt
      → (a : Answer) × Asked d number work (undated_lead d work) a × (r ≡ remembering (instant (undated_deadline d work)) a)
