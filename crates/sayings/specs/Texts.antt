-- The words of the answers.
use Rattle.std.specs.Prelude.{cond, List, [], ◌++◌, ℕ, eqb}
use Rattle.text.specs.Text.{spelt}
use Rattle.text.specs.Numbers.{digits}
use Rattle.answers.specs.declared.Who.{Who}
use Rattle.sayings.specs.declared.Said.{Said}

-- no answer is longer than this
abbrev pub most_text : ℕ
most_text = 64

-- a yes in its word, or `no` and the refusal's number
abbrev pub verdict_text : List ℕ → ℕ → List ℕ
verdict_text word refusal = cond (eqb refusal 0) word (spelt "no " ++ (digits refusal ++ spelt "\n"))

abbrev pub call_text : List ℕ → ℕ → List ℕ
call_text word refusal = word ++ verdict_text (spelt "ok\n") refusal

abbrev pub ask_text : ℕ → ℕ → List ℕ
ask_text number refusal = (spelt "ask " ++ (digits number ++ spelt " ")) ++ verdict_text (spelt "yes\n") refusal

-- whom a tick goes to
abbrev pub who_text : Who → List ℕ
who_text (Who.Job number) = spelt " job " ++ (digits number ++ spelt "\n")
who_text (Who.Feed position) = spelt " feed " ++ (digits position ++ spelt "\n")
who_text Who.Idle = spelt " idle\n"

-- a tick's instant and whom it goes to
abbrev pub tick_text : ℕ → Who → List ℕ
tick_text instant who = digits instant ++ who_text who

-- the text of what is said
unfoldable pub text_of : Said → List ℕ
text_of Said.Nothing = []
text_of (Said.Bad line) = spelt "line " ++ (digits line ++ spelt " bad\n")
text_of (Said.Go refusal) = call_text (spelt "go ") refusal
text_of (Said.Ask number refusal) = ask_text number refusal
text_of (Said.End refusal) = call_text (spelt "end ") refusal
text_of (Said.Rest refusal) = call_text (spelt "rest ") refusal
text_of (Said.Tick instant who) = tick_text instant who
text_of (Said.Stopped refusal) = spelt "run no " ++ (digits refusal ++ spelt "\n")
