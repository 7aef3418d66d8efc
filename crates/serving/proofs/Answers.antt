-- What a step answers, by line 3.
use mathlib.Core.Path.{◌≡◌, sym, ap, ◌∙◌}
use mathlib.Core.Bool.{true, false, not}
use mathlib.Core.List.{[]}
use Prim.Native.Nat.{pred}
use lib.Dec.{ltb}
use Rattle.ticks.specs.Ticks.{last_instant, ticks}
use Rattle.std.specs.Prelude.{Result, Ok, Err}
use Rattle.answers.specs.declared.Refusal.{Refusal}
use Rattle.answers.specs.declared.Refusal.TheVariants.{PastLast}
use Rattle.answers.specs.Answers.{yes_with}
use Rattle.answers.proofs.Answers.{stops, goes_on_lem, no_line}
use Rattle.edf.specs.Step.{runner, ran}
use Rattle.ledger.specs.declared.Ledger.{Ledger}
use Rattle.ledger.specs.State.{InOrder}
use Rattle.ledger.specs.Books.{book_of}
use Rattle.serving.specs.declared.Piece.{Piece}
use Rattle.serving.specs.declared.Stepped.{Stepped}
use Rattle.serving.specs.Front.{front_of}
use Rattle.serving.specs.Tick.{last_line, stepped, stepped_of}
use Rattle.serving.proofs.Front.{front_who}
use Rattle.serving.proofs.Steps.{given, given_stepped}

-- at its last instant the clock goes no further
pub stepped_refused : (l : Ledger) → ltb l.clock.0 last_instant ≡ false → ◌≡◌ {A = Result Stepped Refusal} (Err PastLast) (stepped_of l)
unfolding stepped_of
stepped_refused l h = sym (ap (λ v. yes_with v (stepped l)) (stops (last_line l) [] (ap not h)))

-- before it the step is taken
pub stepped_taken : (l : Ledger) → ltb l.clock.0 last_instant ≡ true → ◌≡◌ {A = Result Stepped Refusal} (Ok (stepped l)) (stepped_of l)
unfolding stepped_of
stepped_taken l h = sym (ap (λ v. yes_with v (stepped l)) (goes_on_lem (last_line l) [] (Ok tt) (ap not h) no_line))

-- THE ANSWER OF A STEP: the tick goes to the foremost piece
pub front_stepped : (l : Ledger) (p : Piece) → InOrder l → p ≡ front_of (runner (book_of l)) → ltb l.clock.0 last_instant ≡ true
    → ◌≡◌ {A = Result Stepped Refusal} (Ok (record { ledger = given l p.who; who = p.who; owes = ticks (pred p.owes.0) })) (stepped_of l)
unfolding ran
front_stepped l p o e h =
    (λ i. Ok (record { ledger = given_stepped l o p.who (front_who (book_of l) p e) i; who = (e i).who; owes = ticks (pred (e i).owes.0) }))
    ∙ stepped_taken l h
