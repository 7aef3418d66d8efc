-- When a cursor that is handed in is one of a run that is being written: its fields agree with each other.
use Rattle.std.specs.Prelude.{Bool, false, cond, not, ◌||◌, [], ◌∷◌, ◌+◌, leb, ltb, eqb}
use Rattle.lists.specs.Lists.{all_of}
use Rattle.ticks.specs.Ticks.{last_instant}
use Rattle.feeds.specs.Feeds.{most_feeds}
use Rattle.waveform.specs.declared.cursor.Cursor.{Cursor}
use Rattle.waveform.specs.Runs.{head_count}
use Rattle.waveform.specs.Reading.{alone}
use Rattle.waveform.specs.Cursors.{any_value}

-- before the first step nothing runs: no value is due, and while lines in front are, so is the first mark
unfoldable pub ordered_before : Cursor → Bool
ordered_before c =
    all_of
    (eqb c.since c.clock
    ∷ eqb c.number 0
    ∷ eqb c.position 0
    ∷ not (any_value c.due)
    ∷ leb c.due.heads head_count
    ∷ (leb head_count c.due.heads || c.due.mark)
    ∷ [])

-- after a step: the one that runs began before the clock, never a job and a feed; a value is due since the last step only, and a
-- mark with a value only
unfoldable pub ordered_after : Cursor → Bool
ordered_after c =
    all_of
    (eqb c.due.heads head_count
    ∷ ltb c.since c.clock
    ∷ alone c.number c.position
    ∷ leb c.position most_feeds
    ∷ cond (any_value c.due) (eqb (c.since + 1) c.clock) (not c.due.mark)
    ∷ [])

-- A CURSOR IN ORDER
unfoldable pub ordered : Cursor → Bool
ordered c = all_of (leb c.clock last_instant ∷ cond c.ran (ordered_after c) (ordered_before c) ∷ [])

-- the empty cursor: no run is being written
abbrev pub none : Cursor
none = record { ran = false; due = record { heads = 0; mark = false; job = false; feed = false }; since = 0; clock = 0; number = 0; position = 0 }

unfoldable pub is_none : Cursor → Bool
is_none c =
    all_of
    (not c.ran
    ∷ eqb c.due.heads 0
    ∷ not c.due.mark
    ∷ not (any_value c.due)
    ∷ eqb c.since 0
    ∷ eqb c.clock 0
    ∷ eqb c.number 0
    ∷ eqb c.position 0
    ∷ [])
