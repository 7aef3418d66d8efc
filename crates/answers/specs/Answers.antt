-- What each answer is by the rules: the refusals' numbers, the first line that holds, and whom a tick goes to.
use Rattle.std.specs.Prelude.{Bool, true, not, cond, ◌&&◌, List, [], ◌∷◌, ℕ}
use Rattle.answers.specs.declared.Refusal.{Refusal}
use Rattle.answers.specs.declared.Refusal.TheVariants.{
  NumberZero,
  Outside,
  PastLast,
  NumberLive,
  Full,
  DoesNotFit,
  NothingThere,
  TooManyFeeds,
  RoundTooLong,
  TooMuchLoad,
  ShortBuffer,
  NotWholeFeeds,
  NotInOrder,
  ShortFront,
  LengthOff,
  NoTriangles,
  ChargeTooHigh,
  NoShare,
  NoWaveform,
}
use Rattle.answers.specs.Verdicts.{Verdict}
use Rattle.std.specs.Prelude.{Result, Ok, Err}
use Rattle.std.specs.Result.{is_ok}
use Rattle.answers.specs.declared.Who.{Who}
use Rattle.answers.specs.declared.Who.TheVariants.{Job, Feed, Idle}

-- the number that the rules give each refusal
abbrev pub number_of : Refusal → ℕ
number_of NumberZero = 1
number_of Outside = 2
number_of PastLast = 3
number_of NumberLive = 4
number_of Full = 5
number_of DoesNotFit = 6
number_of NothingThere = 7
number_of TooManyFeeds = 8
number_of RoundTooLong = 9
number_of TooMuchLoad = 10
number_of ShortBuffer = 11
number_of NotWholeFeeds = 12
number_of NotInOrder = 13
number_of ShortFront = 15
number_of LengthOff = 16
number_of NoTriangles = 17
number_of ChargeTooHigh = 18
number_of NoShare = 19
number_of NoWaveform = 20

-- 0 for yes, else the refusal's number
abbrev pub answer_of : Verdict → ℕ
answer_of (Ok tt) = 0
answer_of (Err r) = number_of r

-- a line of the rules: the refusal, and whether its condition holds
pub record Line : Type 0 where
  pub holds : Bool
  pub refusal : Refusal

abbrev pub line : Bool → Refusal → Line
line b r = record { holds = b; refusal = r }

-- the refusal of the first line that holds; yes where none does
unfoldable pub first_of : List Line → Verdict
first_of [] = Ok tt
first_of (l ∷ ls) = cond l.holds (Err l.refusal) (first_of ls)

-- what is handed back: the first where the answer is yes, else the second
abbrev pub on_yes : {A : Type 0} → Verdict → A → A → A
on_yes (Ok tt) a b = a
on_yes (Err r) a b = b

-- what a call that may be refused hands out: this where the answer is yes, else the refusal
abbrev pub yes_with : {A : Type 0} → Verdict → A → Result A Refusal
yes_with (Ok tt) a = Ok a
yes_with (Err r) a = Err r

-- what such a call answers: yes, or the refusal
abbrev pub verdict_of : {A : Type 0} → Result A Refusal → Verdict
verdict_of (Ok a) = Ok tt
verdict_of (Err r) = Err r

abbrev pub is_yes : Verdict → Bool
is_yes = is_ok

-- none of the lines holds
unfoldable pub passes : List Line → Bool
passes [] = true
passes (l ∷ ls) = not l.holds && passes ls

-- 0 nobody, 1 a job, 2 a feed
abbrev pub kind_of : Who → ℕ
kind_of Idle = 0
kind_of (Job number) = 1
kind_of (Feed position) = 2

-- the job's number or the feed's position; 0 for nobody
abbrev pub name_of : Who → ℕ
name_of (Job number) = number
name_of (Feed position) = position
name_of Idle = 0
