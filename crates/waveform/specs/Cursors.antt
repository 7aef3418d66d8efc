-- A run that is being written: the lines that are due, the first of them, what is left after it, and what a step adds.
use Rattle.std.specs.Prelude.{Bool, true, false, cond, not, ◌||◌, List, [], ◌∷◌, ◌++◌, ℕ, ◌+◌, ◌-◌, ltb, eqb}
use Rattle.answers.specs.declared.Who.{Who}
use Rattle.waveform.specs.declared.Token.{Token}
use Rattle.waveform.specs.declared.Token.TheVariants as token
use Rattle.waveform.specs.declared.cursor.Due.{Due}
use Rattle.waveform.specs.declared.cursor.Cursor.{Cursor}
use Rattle.waveform.specs.Runs.{head_count, heads_from, job_wire, feed_wire}

-- a line, if it is due
abbrev pub flagged : Bool → Token → List Token
flagged true l = l ∷ []
flagged false l = []

-- THE LINES THAT ARE DUE
unfoldable pub due_lines : Cursor → List Token
due_lines c =
    heads_from (head_count - c.due.heads) c.due.heads
    ++ (flagged c.due.mark (token.Mark c.since)
    ++ (flagged c.due.job (token.Job c.number) ++ flagged c.due.feed (token.Feed c.position)))

-- whether any is
unfoldable pub any_due : Due → Bool
any_due d = ltb d.heads head_count || (d.mark || (d.job || d.feed))

-- the first of them
unfoldable pub first_due : Cursor → Token
first_due c =
    cond (ltb c.due.heads head_count) (token.Head c.due.heads)
    (cond c.due.mark (token.Mark c.since)
    (cond c.due.job (token.Job c.number) (cond c.due.feed (token.Feed c.position) token.Other)))

-- what is due after it
unfoldable pub one_less : Due → Due
one_less d =
    cond (ltb d.heads head_count) (record { heads = d.heads + 1; mark = d.mark; job = d.job; feed = d.feed })
    (cond d.mark (record { heads = d.heads; mark = false; job = d.job; feed = d.feed })
    (cond d.job (record { heads = d.heads; mark = false; job = false; feed = d.feed }) (record { heads = d.heads; mark = false; job = false; feed = false })))

-- the same run with other lines due
abbrev pub owing : Due → Cursor → Cursor
owing d c = record { ran = c.ran; due = d; since = c.since; clock = c.clock; number = c.number; position = c.position }

-- after the first line that is due is written
abbrev pub wrote : Cursor → Cursor
wrote c = owing (one_less c.due) c

-- where a run begins at the instant t: the lines in front and the first mark are due
abbrev pub begun : ℕ → Cursor
begun t = record { ran = false; due = record { heads = 0; mark = true; job = false; feed = false }; since = t; clock = t; number = 0; position = 0 }

-- what a step makes due: at the first both values, later a mark and those that changed
unfoldable pub told_by : Due → Bool → Bool → Bool → Due
told_by d ran j f =
    cond ran
    (cond j (record { heads = d.heads; mark = true; job = true; feed = f }) (record { heads = d.heads; mark = f; job = false; feed = f }))
    (record { heads = d.heads; mark = false; job = true; feed = true })

-- whether a value is due: the tick went to another, or is the first
unfoldable pub any_value : Due → Bool
any_value d = d.job || d.feed

-- since when the same one runs
unfoldable pub since_by : Cursor → Due → ℕ
since_by c d = cond (any_value d) c.clock c.since

-- what is due after a step that went to v
abbrev pub due_after : Cursor → Who → Due
due_after c v = told_by c.due c.ran (not (eqb (job_wire v) c.number)) (not (eqb (feed_wire v) c.position))

-- the run after that step
abbrev pub stepped : Cursor → Who → Cursor
stepped c v = record {
  ran = true;
  due = due_after c v;
  since = since_by c (due_after c v);
  clock = c.clock + 1;
  number = job_wire v;
  position = feed_wire v;
}
