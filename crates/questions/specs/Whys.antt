-- Telling the customer why: the refusal that an ask would give, alone; for 6 the earliest overbooked instant and who owes how
-- much by then; for a request that would be taken the earliest instant that has the smallest margin.
use Rattle.std.specs.Prelude.{◌≡◌, ◌⊎◌, ℕ}
use Rattle.ticks.specs.Ticks.{ticks, instant}
use Rattle.jobs.specs.declared.Job.{Job}
use Rattle.edf.specs.Margin.{FirstOverbooked, Tightest}
use Rattle.reasons.specs.declared.Reason.{Reason}
use Rattle.reasons.specs.Reasons.{reason_at, no_reason, near_reason}
use Rattle.answers.specs.declared.Refusal.{Refusal}
use Rattle.answers.specs.declared.Refusal.TheVariants.{DoesNotFit}
use Rattle.std.specs.Prelude.{Ok, Err}
use Rattle.answers.specs.Answers.{first_of}
use Rattle.desk.specs.declared.Desk.{Desk}
use Rattle.desk.specs.Asking.{ask_lines, requested, with_job}
use Rattle.questions.specs.declared.Because.{Because}

-- what the live jobs, the feeds and the job that is asked for owe by the instant D, and the margin there
abbrev pub told_of : Desk → Job → ℕ → Reason
told_of d j D = reason_at d.ledger j (instant D)

-- it does not fit: the earliest overbooked instant, who owes how much by then, and the margin
abbrev pub short_by : Desk → Job → ℕ → Because
short_by d j D = record { verdict = Err DoesNotFit; reason = told_of d j D }

-- it would be taken: the earliest instant that has the smallest margin, and that margin
abbrev pub room_by : Desk → Job → ℕ → Because
room_by d j D = record { verdict = Ok tt; reason = near_reason (instant D) (told_of d j D).margin }

-- the instant decides the request: the earliest that is overbooked, or else the earliest that has the smallest margin
abbrev pub Decided : Desk → Job → Because → ℕ → Type 0
Decided d j r D = (FirstOverbooked (with_job d j) D × (r ≡ short_by d j D)) ⊎ (Tightest (with_job d j) D × (r ≡ room_by d j D))

-- where no other line stops the request
pub record Told (d : Desk) (j : Job) (r : Because) : Type 0 where
  pub at : ℕ
  pub decided : Decided d j r at

-- what is told of a request; the state stays as it is
pub record Explained (d : Desk) (number work lead : ℕ) (r : Because) : Type 0 where
  pub stopped : (x : Refusal) → first_of (ask_lines d number (ticks work) (ticks lead)) ≡ Err x
      → r ≡ record { verdict = Err x; reason = no_reason }
  pub told : first_of (ask_lines d number (ticks work) (ticks lead)) ≡ Ok tt → Told d (requested d number work lead) r
