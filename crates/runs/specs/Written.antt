-- A run as it is written over any calls: going on at whatever desk there then is, and closing, each with any buffer.
use Rattle.std.specs.Prelude.{List, [], ◌∷◌, ◌++◌, ℕ}
use Rattle.std.specs.Result.{result_unwrap_or}
use Rattle.answers.specs.declared.Who.{Who}
use Rattle.desk.specs.declared.Desk.{Desk}
use Rattle.waveform.specs.declared.cursor.Cursor.{Cursor}
use Rattle.waveform.specs.Order.{none}
use Rattle.waveform.specs.Parts.{closed_of, closing_bytes}
use Rattle.runs.specs.Parts.{begun_of, went_of, went_bytes, went_names}

-- a call: going on with so many bytes lent and so many steps at most, at a desk; or closing with so many bytes lent
pub data Call : Type 0 where
  go_on : ℕ → ℕ → Desk → Call
  close : ℕ → Call

-- what has come of the calls so far: the cursor, whom the steps went to, and the parts that were written, joined
pub record Written : Type 0 where
  pub cursor : Cursor
  pub names : List Who
  pub text : List ℕ

-- a run that was begun at a desk; with no cursor where that was refused
abbrev pub begun_at : Desk → Written
begun_at d = record { cursor = result_unwrap_or (begun_of d) none; names = []; text = [] }

-- after one call more
abbrev pub after_call : Call → Written → Written
after_call (go_on size most d) w =
    record {
      cursor = (went_of size most d w.cursor).cursor;
      names = w.names ++ went_names size most d w.cursor;
      text = w.text ++ went_bytes size most d w.cursor;
    }
after_call (close size) w =
    record { cursor = (closed_of size w.cursor).cursor; names = w.names; text = w.text ++ closing_bytes size w.cursor }

-- AFTER ANY CALLS, one after another
abbrev pub after_calls : List Call → Written → Written
after_calls [] w = w
after_calls (k ∷ ks) w = after_calls ks (after_call k w)
