-- What a call hands back by what its lines say.
use Rattle.std.specs.Prelude.{List, Result, Ok, Err}
use Rattle.answers.specs.declared.Refusal.{Refusal}
use Rattle.answers.specs.Answers.{Line, first_of, on_yes}
use Rattle.desk.specs.declared.Desk.{Desk}
use Rattle.desk.specs.declared.Answer.{Answer}

-- the answer of the lines, with what is handed back on a yes and what on a refusal
abbrev pub answered : List Line → Desk → Desk → Answer
answered ls new old = record { desk = on_yes (first_of ls) new old; verdict = first_of ls }

-- what a call hands back by what came of it: the desk after it and a yes, or the desk that it was given and the refusal
abbrev pub handed : Desk → Result Desk Refusal → Answer
handed given (Ok d) = record { desk = d; verdict = Ok tt }
handed given (Err r) = record { desk = given; verdict = Err r }
