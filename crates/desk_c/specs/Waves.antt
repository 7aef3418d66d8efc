-- The waveform's cursors and answers as flat numbers: a flag is yes where it is not 0, and comes back as 1 or 0.
use Rattle.std.specs.Prelude.{Result, Ok, Err, Bool, true, false, not, List, ◌++◌, ℕ, eqb, length, drop}
use Rattle.answers.specs.declared.Refusal.{Refusal}
use Rattle.answers.specs.declared.Refusal.TheVariants.{NotInOrder, NoWaveform}
use Rattle.answers.specs.Answers.{number_of, answer_of, on_yes, kind_of, name_of}
use Rattle.waveform.specs.declared.cursor.Cursor as cursor
use Rattle.waveform.specs.Order.{none}
use Rattle.waveform.specs.declared.parts.Closed as closed
use Rattle.waveform.specs.declared.Whole.{Whole}
use Rattle.waveform.specs.declared.WrongLine.{WrongLine}
use Rattle.waveform.specs.declared.stretches.Bookmark.{Bookmark}
use Rattle.waveform.specs.declared.stretches.Stretch as stretches
use Rattle.waveform.specs.declared.stretches.Told.{Told}
use Rattle.waveform.specs.declared.stretches.Told.TheVariants as told
use Rattle.runs.specs.declared.Went.{Went}
use Rattle.desk_c.specs.declared.wave.Cursor.{Cursor}
use Rattle.desk_c.specs.declared.wave.Begun.{Begun}
use Rattle.desk_c.specs.declared.wave.Waved.{Waved}
use Rattle.desk_c.specs.declared.wave.Closed.{Closed}
use Rattle.desk_c.specs.declared.wave.Read.{Read}
use Rattle.desk_c.specs.declared.wave.Stretch.{Stretch}

-- a flag that is given
abbrev pub is_set : ℕ → Bool
is_set n = not (eqb n 0)

-- and one that comes back
abbrev pub flag : Bool → ℕ
flag true = 1
flag false = 0

-- the run that a flat cursor stands for
abbrev pub cursor_of : Cursor → cursor.Cursor
cursor_of c =
    record {
      ran = is_set c.ran;
      due = record { heads = c.heads; mark = is_set c.mark; job = is_set c.job; feed = is_set c.feed };
      since = c.since;
      clock = c.clock;
      number = c.number;
      position = c.position;
    }

-- the flat cursor of a run
abbrev pub flat_cursor : cursor.Cursor → Cursor
flat_cursor c =
    record {
      since = c.since;
      clock = c.clock;
      number = c.number;
      position = c.position;
      ran = flag c.ran;
      heads = c.due.heads;
      mark = flag c.due.mark;
      job = flag c.due.job;
      feed = flag c.due.feed;
    }

-- a run that begins, or the empty cursor where it is refused
abbrev pub flat_begun : Result cursor.Cursor Refusal → Begun
flat_begun (Ok c) = record { cursor = flat_cursor c; refusal = 0 }
flat_begun (Err r) = record { cursor = flat_cursor none; refusal = number_of r }

-- a run that went on; where that is refused, the cursor comes back word for word as it was given
abbrev pub flat_waved : Cursor → Went → Waved
flat_waved given w =
    record {
      desk = w.desk;
      cursor = on_yes w.verdict (flat_cursor w.cursor) given;
      refusal = answer_of w.verdict;
      steps = w.steps;
      bytes = w.bytes;
    }

-- a run that ended, and the same of its cursor
abbrev pub flat_closed : Cursor → closed.Closed → Closed
flat_closed given w = record { cursor = on_yes w.verdict (flat_cursor w.cursor) given; refusal = answer_of w.verdict; bytes = w.bytes }

-- bytes in front of a buffer, which stays as it was behind them
abbrev pub in_front : List ℕ → List ℕ → List ℕ
in_front s buffer = s ++ drop (length s) buffer

-- what is made of a text: 20 and the line, or the start, the end and how many stretches
abbrev pub flat_read : Result Whole WrongLine → Read
flat_read (Err wrong) = record { refusal = number_of NoWaveform; line = wrong.0; start = 0; end = 0; stretches = 0 }
flat_read (Ok whole) = record { refusal = 0; line = 0; start = whole.start; end = whole.end; stretches = whole.stretches }

-- a refusal: the reading as it was given
abbrev pub no_stretch : Bookmark → Refusal → ℕ → Stretch
no_stretch given r k = record { reading = given; refusal = number_of r; line = k; from = 0; to = 0; kind = 0; number = 0 }

-- the ticks of a stretch went to one, and the reading stands behind them
abbrev pub one_stretch : Bookmark → stretches.Stretch → Stretch
one_stretch b s = record { reading = b; refusal = 0; line = 0; from = s.from; to = s.to; kind = kind_of s.who; number = name_of s.who }

-- no ticks, at the last instant of a text that ends here
abbrev pub at_end : Bookmark → Stretch
at_end b = record { reading = b; refusal = 0; line = 0; from = b.at; to = b.at; kind = 0; number = 0 }

-- what is told of a text from a reading on: 13; 20 and the line; the next stretch; or that the text ends
abbrev pub flat_told : Bookmark → Told → Stretch
flat_told given told.Disorder = no_stretch given NotInOrder 0
flat_told given (told.Wrong k) = no_stretch given NoWaveform k
flat_told given (told.Next s b) = one_stretch b s
flat_told given (told.Over b) = at_end b
