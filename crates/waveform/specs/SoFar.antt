-- What has been told of a run while it is being written: the lines that are written, and those that the cursor has due.
use Rattle.std.specs.Prelude.{◌≡◌, Bool, true, false, List, [], ◌∷◌, ◌++◌, ℕ, ◌+◌, length}
use Rattle.answers.specs.declared.Who.{Who}
use Rattle.answers.specs.declared.Who.TheVariants.{Idle}
use Rattle.waveform.specs.declared.Token.{Token}
use Rattle.waveform.specs.declared.cursor.Cursor.{Cursor}
use Rattle.waveform.specs.Runs.{job_wire, feed_wire}
use Rattle.waveform.specs.Writing.{told_so_far}
use Rattle.waveform.specs.Cursors.{due_lines}
use Rattle.waveform.specs.Order.{ordered}

-- whom the last of these ticks went to; nobody before the first
abbrev pub last_of : List Who → Who
last_of [] = Idle
last_of (w ∷ []) = w
last_of (w ∷ v ∷ ws) = last_of (v ∷ ws)

-- whether there is a tick
abbrev pub any_tick : List Who → Bool
any_tick [] = false
any_tick (w ∷ ws) = true

-- THE CURSOR OF A RUN from the instant t on whose ticks went to these, with these lines written: what is written and what is due
-- are the lines of the run so far, and the cursor stands where the run does
pub record Tells (t : ℕ) (ws : List Who) (written : List Token) (c : Cursor) : Type 0 where
  pub lines : written ++ due_lines c ≡ told_so_far t ws
  pub clock : c.clock ≡ t + length ws
  pub ran : c.ran ≡ any_tick ws
  pub job : c.number ≡ job_wire (last_of ws)
  pub feed : c.position ≡ feed_wire (last_of ws)
  pub order : ordered c ≡ true
