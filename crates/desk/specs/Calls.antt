-- The calls: each is its refusals in the order of the rules, then the call of the mathematics, written back.
use Rattle.std.specs.Prelude.{Result, Ok, Err, not, List, [], ◌∷◌, ◌++◌, ℕ, ◌*◌, length, drop, ltb, eqb}
use Rattle.ticks.specs.Ticks.{ticks}
use Rattle.feeds.specs.Feeds.{in_use}
use Rattle.feeds.specs.Pieces.{owes_at}
use Rattle.jobs.specs.Jobs.{numbers_a_job, lacks, live}
use Rattle.edf.specs.Step.{runner, ran, step}
use Rattle.edf.specs.Calls.{ending, resting}
use Rattle.ledger.specs.Books.{who_is}
use Rattle.serving.specs.declared.Stepped as serving
use Rattle.serving.specs.Tick.{last_line}
use Rattle.listing.specs.Words.{words}
use Rattle.answers.specs.declared.Who.{Who}
use Rattle.answers.specs.declared.Who.TheVariants.{Idle}
use Rattle.answers.specs.declared.Refusal.TheVariants.{NothingThere, ShortBuffer, NotInOrder}
use Rattle.answers.specs.declared.Refusal.{Refusal}
use Rattle.answers.specs.Answers.{Line, line, first_of, on_yes, yes_with}
use Rattle.desk.specs.declared.Desk.{Desk}
use Rattle.desk.specs.declared.Answer.{Answer}
use Rattle.desk.specs.declared.Stepped.{Stepped}
use Rattle.desk.specs.Answers.{answered}
use Rattle.desk.specs.State.{book, with, rewritten, in_order}

-- a state that is not in order (13)
abbrev pub disorder : Desk → Line
disorder d = line (not (in_order d)) NotInOrder

-- the clock is at its last instant (3)
abbrev pub step_lines : Desk → List Line
step_lines d = disorder d ∷ last_line d.ledger ∷ []

-- a step names whom the tick goes to and what that piece of work still owes, and hands back the state after it; nobody and
-- nothing beside a refusal
unfoldable pub step_of : Desk → Stepped
step_of d =
    record {
      desk = on_yes (first_of (step_lines d)) (rewritten d (step (book d))) d;
      verdict = first_of (step_lines d);
      who = on_yes (first_of (step_lines d)) (who_is (ran (book d)).who) Idle;
      owes = on_yes (first_of (step_lines d)) (ticks (ran (book d)).owes) (ticks 0);
    }

-- what a step hands back by what came of the step of the state: the desk after it, or the desk that it was given and the refusal
abbrev pub stepped_desk : Desk → Result serving.Stepped Refusal → Stepped
stepped_desk given (Ok s) = record { desk = with given s.ledger; verdict = Ok tt; who = s.who; owes = s.owes }
stepped_desk given (Err r) = record { desk = given; verdict = Err r; who = Idle; owes = ticks 0 }

-- no such live job (7)
abbrev pub end_lines : Desk → ℕ → List Line
end_lines d number = disorder d ∷ line (lacks number (live d.ledger.table)) NothingThere ∷ []

-- an end takes the job out
unfoldable pub end_of : Desk → ℕ → Answer
end_of d number = answered (end_lines d number) (rewritten d (ending number (book d))) d

-- no such feed, or its current piece owes nothing or has not come (7)
abbrev pub rest_lines : Desk → ℕ → List Line
rest_lines d position = disorder d ∷ line (eqb (owes_at position 1 (in_use d.ledger.feeds)) 0) NothingThere ∷ []

-- a rest has the feed's current piece owe nothing
unfoldable pub rest_of : Desk → ℕ → Answer
rest_of d position = answered (rest_lines d position) (rewritten d (resting position (book d))) d

-- a buffer shorter than four numbers a live job (11)
abbrev pub list_lines : Desk → ℕ → List Line
list_lines d size = disorder d ∷ line (ltb size (numbers_a_job * d.ledger.table.count)) ShortBuffer ∷ []

-- the list call tells how many jobs it wrote
unfoldable pub counted_of : Desk → ℕ → Result ℕ Refusal
counted_of d size = yes_with (first_of (list_lines d size)) (length (live d.ledger.table))

-- and writes them into the front of the buffer; a refusal writes nothing
unfoldable pub listed_of : Desk → List ℕ → List ℕ
listed_of d buffer =
    on_yes (first_of (list_lines d (length buffer)))
    (words (live d.ledger.table) ++ drop (numbers_a_job * d.ledger.table.count) buffer)
    buffer

-- whom the next step would name; nobody where there is no next step
unfoldable pub runner_of : Desk → Who
runner_of d = on_yes (first_of (step_lines d)) (who_is (runner (book d)).who) Idle
