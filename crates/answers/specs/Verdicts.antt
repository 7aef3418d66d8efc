-- A yes, or the refusal.
use Rattle.std.specs.Prelude.{Result}
use Rattle.answers.specs.declared.Refusal.{Refusal}

abbrev pub Verdict : Type 0
Verdict = Result (Unit {0}) Refusal
