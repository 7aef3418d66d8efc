-- The words of the lines.
use Rattle.std.specs.Prelude.{List, [], ◌∷◌, ◌++◌, ℕ}
use Rattle.text.specs.Text.{spelt}
use Rattle.text.specs.Numbers.{digits}
use Rattle.answers.specs.declared.Who.{Who}
use Rattle.waveform.specs.declared.stretches.Stretch.{Stretch}
use Rattle.showing.specs.declared.Shown.{Shown}

-- no line is longer than this
abbrev pub most_line : ℕ
most_line = 68

-- whom a stretch went to
unfoldable pub who_text : Who → List ℕ
who_text (Who.Job number) = spelt "job " ++ (digits number ++ spelt "\n")
who_text (Who.Feed position) = spelt "feed " ++ (digits position ++ spelt "\n")
who_text Who.Idle = spelt "idle\n"

-- from which instant, up to which, and whom it went to
abbrev pub stretch_text : Stretch → List ℕ
stretch_text s = (digits s.from ++ spelt " ") ++ ((digits s.to ++ spelt " ") ++ who_text s.who)

-- the text of a line
unfoldable pub line_of : Shown → List ℕ
line_of (Shown.Start instant) = spelt "start " ++ (digits instant ++ spelt "\n")
line_of (Shown.Ran stretch) = stretch_text stretch
line_of (Shown.End instant) = spelt "end " ++ (digits instant ++ spelt "\n")
line_of (Shown.Wrong line) = spelt "line " ++ (digits line ++ spelt "\n")

-- a line for each stretch
unfoldable pub lines_of : List Stretch → List ℕ
lines_of [] = []
lines_of (x ∷ xs) = line_of (Shown.Ran x) ++ lines_of xs
