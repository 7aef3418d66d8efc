-- The text of a run, every line with its newline; and how a text of any bytes is judged.
use Rattle.std.specs.Prelude.{◌≡◌, Bool, true, false, cond, List, [], ◌∷◌, ◌++◌, map, ℕ, suc, ◌+◌, Result, Ok, Err}
use Rattle.answers.specs.declared.Who.{Who}
use Rattle.text.specs.Fields.{newline, lines_of}
use Rattle.waveform.specs.declared.Token.{Token}
use Rattle.waveform.specs.declared.State.{State}
use Rattle.waveform.specs.declared.State.TheVariants.{Heading, Opened, Jobbed, Going, Marked, Halfway, Dead}
use Rattle.waveform.specs.declared.Whole.{Whole}
use Rattle.waveform.specs.declared.WrongLine.{WrongLine}
use Rattle.waveform.specs.Runs.{told, Run}
use Rattle.waveform.specs.Reading.{next, done}
use Rattle.waveform.specs.Bytes.{written, says}

-- a line with its newline
unfoldable pub as_line : Token → List ℕ
as_line l = written l ++ (newline ∷ [])

-- lines as a text
unfoldable pub as_text : List (List ℕ) → List ℕ
as_text [] = []
as_text (l ∷ ls) = l ++ (newline ∷ as_text ls)

-- the lines of a run, as bytes
abbrev pub lines_in : ℕ → List Who → List (List ℕ)
lines_in t ws = map written (told t ws)

-- THE TEXT OF A RUN
abbrev pub text_of : ℕ → List Who → List ℕ
text_of t ws = as_text (lines_in t ws)

-- some run's lines begin with these
pub record Begins (ls : List (List ℕ)) : Type 0 where
  pub start : ℕ
  pub names : List Who
  pub run : Run start names
  pub more : List (List ℕ)
  pub lines : lines_in start names ≡ ls ++ more

-- no run's lines begin so
abbrev pub is_dead : State → Bool
is_dead (Heading k) = false
is_dead (Opened t) = false
is_dead (Jobbed t j) = false
is_dead (Going t j f) = false
is_dead (Marked t j f) = false
is_dead (Halfway t j f) = false
is_dead Dead = true

-- a part with nothing in it
abbrev pub is_nothing : List ℕ → Bool
is_nothing [] = true
is_nothing (b ∷ s) = false

-- the instant at which a text that ends here ends
abbrev pub end_in : State → ℕ
end_in (Heading k) = 0
end_in (Opened t) = t
end_in (Jobbed t j) = 0
end_in (Going t j f) = 0
end_in (Marked t j f) = t
end_in (Halfway t j f) = 0
end_in Dead = 0

-- the first mark is where a run starts; until then, and after it, what was known stays
abbrev pub start_by : State → ℕ → ℕ
start_by (Heading k) start = start
start_by (Opened t) start = t
start_by (Jobbed t j) start = start
start_by (Going t j f) start = start
start_by (Marked t j f) start = start
start_by (Halfway t j f) start = start
start_by Dead start = start

-- a later mark ends a stretch
abbrev pub ends_one : State → ℕ
ends_one (Heading k) = 0
ends_one (Opened t) = 0
ends_one (Jobbed t j) = 0
ends_one (Going t j f) = 0
ends_one (Marked t j f) = 1
ends_one (Halfway t j f) = 0
ends_one Dead = 0

-- what is made of a text: the run that it tells whole, or the number of the first line that no text of a run has there
abbrev pub Outcome : Type 0
Outcome = Result Whole WrongLine

abbrev pub Well : ℕ → ℕ → ℕ → Outcome
Well s e n = Ok (record { start = s; end = e; stretches = n })

abbrev pub Wrong : ℕ → Outcome
Wrong k = Err (record { 0 = k })

-- how far the reading of a text has come: the state, the whole lines before, the start, and the stretches that have ended
pub record Reading : Type 0 where
  pub state : State
  pub lines : ℕ
  pub start : ℕ
  pub ended : ℕ

abbrev pub reading : State → ℕ → ℕ → ℕ → Reading
reading s k start ended = record { state = s; lines = k; start = start; ended = ended }

-- after one line more
abbrev pub line_read : Reading → State → Reading
line_read r s = reading s (suc r.lines) (start_by s r.start) (r.ended + ends_one s)

-- where nothing is left to read
abbrev pub end_read : Reading → Outcome
end_read r = cond (done r.state) (Well r.start (end_in r.state) r.ended) (Wrong (suc r.lines))

-- the parts of a text that are left: the last is what follows the last newline
unfoldable pub judge : Reading → List (List ℕ) → Outcome
judge r [] = Wrong (suc r.lines)
judge r (l ∷ []) = cond (is_nothing l) (end_read r) (Wrong (suc r.lines))
judge r (l ∷ m ∷ ls) =
    let on = judge (line_read r (next r.state (says l))) (m ∷ ls) in
    cond (is_dead (next r.state (says l))) (Wrong (suc r.lines)) on

-- HOW A TEXT IS JUDGED
abbrev pub judged : List ℕ → Outcome
judged s = judge (reading (Heading 0) 0 0 0) (lines_of s)
