-- What a line answers by what it means, and what the next line of the input is.
use Rattle.std.specs.Prelude.{◌≡◌, true, false, List, ℕ, ◌+◌, ◌-◌, length, take, drop, Option, Some, None}
use Rattle.words.specs.declared.Line.{Line}
use Rattle.text.specs.Fields.{line_end}
use Rattle.words.specs.Lines.{line_of}
use Rattle.desk.specs.declared.Answer.{Answer}
use Rattle.desk.specs.Asking.{Asked}
use Rattle.sayings.specs.declared.Said.{Said}
use Rattle.rehearsal.specs.declared.Session.{Session}
use Rattle.rehearsal.specs.declared.Reply.{Reply}
use Rattle.rehearsal.specs.declared.Place.{Place}
use Rattle.rehearsal.specs.declared.Read.{Read}
use Rattle.rehearsal.specs.Session.{bad_of, feed_of, go_of, end_of, rest_of, run_of, call_of}

-- the reply tells an answer of the desk's ask
pub record Told (s : Session) (number work lead : ℕ) (r : Reply) : Type 0 where
  pub answer : Answer
  pub asked : Asked s.desk number work lead answer
  pub told : r ≡ call_of s (Said.Ask number) answer

-- `ask`: only after `go`
pub record AskOf (s : Session) (line number work lead : ℕ) (r : Reply) : Type 0 where
  pub early : s.opened ≡ false → r ≡ bad_of s line
  pub after : s.opened ≡ true → Told s number work lead r

-- what a line answers by what it means
unfoldable pub Heard : Session → ℕ → Line → Reply → Type 0
Heard s line (Line.Feed period work offset lead) r = r ≡ feed_of s line period work offset lead
Heard s line (Line.Go start charge) r = r ≡ go_of s line start charge
Heard s line (Line.Ask number work lead) r = AskOf s line number work lead r
Heard s line (Line.End number) r = r ≡ end_of s line number
Heard s line (Line.Rest position) r = r ≡ rest_of s line position
Heard s line (Line.Run ticks) r = r ≡ run_of s line ticks
Heard s line Line.Bad r = r ≡ bad_of s line

-- the next line ends before the first newline; without one it is bad, and nothing is left to read
unfoldable pub HeardTo : Session → List ℕ → Place → Option ℕ → Read → Type 0
HeardTo s input p (Some end) r =
    Heard s (p.lines + 1) (line_of (take (end - p.from) (drop p.from input))) r.reply
    × (r.place.from ≡ end + 1)
HeardTo s input p None r = (r.reply ≡ bad_of s (p.lines + 1)) × (r.place.from ≡ length input)

-- what the next line of the input answers, and the place after it
pub record Answers (s : Session) (input : List ℕ) (p : Place) (r : Read) : Type 0 where
  pub heard : HeardTo s input p (line_end input p.from) r
  pub counted : r.place.lines ≡ p.lines + 1
