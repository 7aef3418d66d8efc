-- The answer to a text, and how much of it is written while it is told line by line.
use Rattle.std.specs.Prelude.{◌≡◌, List, ◌++◌, ℕ, take, Ok, Err}
use Rattle.waveform.specs.declared.stretches.Bookmark.{Bookmark}
use Rattle.waveform.specs.declared.stretches.Stretch.{Stretch}
use Rattle.waveform.specs.declared.stretches.Told.{Told}
use Rattle.waveform.specs.Texts.{Outcome, judged}
use Rattle.waveform.specs.Telling.{front, OneByOne}
use Rattle.showing.specs.declared.Shown.{Shown}
use Rattle.showing.specs.Texts.{line_of, lines_of}

-- THE ANSWER TO A TEXT by how it is judged: the wrong line; or the start, the stretches that the text tells one after another until it is
-- over, and the end
abbrev pub AnswerTo : List ℕ → Outcome → List ℕ → Type 0
AnswerTo s (Err wrong) answer = answer ≡ line_of (Shown.Wrong wrong.0)
AnswerTo s (Ok run) answer =
    (xs : List Stretch) × (last : Bookmark) × OneByOne s front xs (Told.Over last)
    × (answer ≡ line_of (Shown.Start run.start) ++ (lines_of xs ++ line_of (Shown.End run.end)))

-- what is told so far: what is written already, and then the bytes that wait in the buffer
pub record SoFar (told out : List ℕ) (at : ℕ) : Type 0 where
  pub written : List ℕ
  pub whole : told ≡ written ++ take at out

-- what is told so far stays as it is
abbrev pub Kept : List ℕ → ℕ → ℕ → Type 0
Kept out at to = (told : List ℕ) → SoFar told out at → SoFar told out to

-- these bytes are told after it
abbrev pub Added : List ℕ → List ℕ → ℕ → ℕ → List ℕ → Type 0
Added out new at to bytes = (told : List ℕ) → SoFar told out at → SoFar (told ++ bytes) new to

-- the stretches of a text that ends well are told after it
abbrev pub Listed : List ℕ → List ℕ → List ℕ → ℕ → ℕ → Type 0
Listed s out new at to = (xs : List Stretch) (last : Bookmark) → OneByOne s front xs (Told.Over last) → Added out new at to (lines_of xs)

-- a run is told from its start to its end
abbrev pub RunTold : List ℕ → List ℕ → ℕ → ℕ → ℕ → Type 0
RunTold s out start end at =
    (xs : List Stretch) (last : Bookmark) → OneByOne s front xs (Told.Over last)
    → SoFar (line_of (Shown.Start start) ++ (lines_of xs ++ line_of (Shown.End end))) out at

-- the whole answer is told
abbrev pub Answered : List ℕ → List ℕ → ℕ → Type 0
Answered s out at = (answer : List ℕ) × AnswerTo s (judged s) answer × SoFar answer out at
