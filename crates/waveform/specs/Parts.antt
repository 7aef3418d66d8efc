-- A part of a text: the lines that fit into a lent buffer, one after another, and the cursor behind them; and the end of a run.
use Rattle.std.specs.Prelude.{Bool, cond, not, ◌&&◌, ◌||◌, List, [], ◌∷◌, ◌++◌, ℕ, ◌-◌, leb, ltb, eqb, length, Err}
use Rattle.answers.specs.declared.Refusal.{Refusal}
use Rattle.answers.specs.declared.Refusal.TheVariants.{ShortBuffer, NotInOrder}
use Rattle.answers.specs.Answers.{Line, line, first_of, on_yes}
use Rattle.waveform.specs.declared.Token.{Token}
use Rattle.waveform.specs.declared.Token.TheVariants as token
use Rattle.waveform.specs.declared.cursor.Cursor.{Cursor}
use Rattle.waveform.specs.declared.parts.Closed.{Closed}
use Rattle.waveform.specs.Texts.{as_line}
use Rattle.waveform.specs.Cursors.{flagged, due_lines, wrote}
use Rattle.waveform.specs.Order.{ordered, none, is_none}

-- lines as bytes, each with its newline
unfoldable pub bytes_of : List Token → List ℕ
bytes_of [] = []
bytes_of (l ∷ ls) = as_line l ++ bytes_of ls

-- as many of these lines as fit into so many bytes, never part of one
unfoldable pub fitting : ℕ → List Token → List Token
fitting room [] = []
fitting room (l ∷ ls) = cond (leb (length (as_line l)) room) (l ∷ fitting (room - length (as_line l)) ls) []

-- the cursor once its first lines are written, as many as these
unfoldable pub wrote_all : List Token → Cursor → Cursor
wrote_all [] c = c
wrote_all (l ∷ ls) c = wrote_all ls (wrote c)

-- the lines that are due and fit
abbrev pub due_fitting : ℕ → Cursor → List Token
due_fitting room c = fitting room (due_lines c)

-- there are lines to write, and not even the first one fits
unfoldable pub stuck : List Token → List Token → Bool
stuck lines fit = eqb (length fit) 0 && ltb 0 (length lines)

-- the lines that end a run: those that are due, then the mark at its end, none where no step was taken; an empty cursor has none
unfoldable pub closing_lines : Cursor → List Token
closing_lines c = cond (is_none c) [] (due_lines c ++ flagged c.ran (token.Mark c.clock))

-- those of them that fit
abbrev pub closing_fitting : ℕ → Cursor → List Token
closing_fitting room c = fitting room (closing_lines c)

-- after as many of them are written: where that is all of them, no run is being written any more
unfoldable pub after_closing : List Token → Cursor → Cursor
after_closing ls c = cond (eqb (length ls) (length (closing_lines c))) none (wrote_all ls c)

-- a cursor not in order (13), which an empty one is not taken for; a first line that does not fit (11)
abbrev pub close_stops : ℕ → Cursor → List Line
close_stops room c = line (not (is_none c || ordered c)) NotInOrder ∷ line (stuck (closing_lines c) (closing_fitting room c)) ShortBuffer ∷ []

-- a cursor that is not closed: it stays as it was, and nothing is written
abbrev pub refused : Cursor → Refusal → Closed
refused c r = record { cursor = c; verdict = Err r; bytes = 0 }

-- CLOSING A RUN with so many bytes lent: the cursor, the answer, and how many bytes are written
unfoldable pub closed_of : ℕ → Cursor → Closed
closed_of room c =
    record {
      cursor = on_yes (first_of (close_stops room c)) (after_closing (closing_fitting room c) c) c;
      verdict = first_of (close_stops room c);
      bytes = on_yes (first_of (close_stops room c)) (length (bytes_of (closing_fitting room c))) 0;
    }

-- the bytes that closing writes: whole lines, none where it is refused
unfoldable pub closing_bytes : ℕ → Cursor → List ℕ
closing_bytes room c = on_yes (first_of (close_stops room c)) (bytes_of (closing_fitting room c)) []
