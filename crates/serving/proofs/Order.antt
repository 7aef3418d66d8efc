-- The derived order of whom a tick goes to, after the deadlines, is that of the mathematics.
use mathlib.Core.Path.{◌≡◌, refl, ap, ◌∙◌}
use mathlib.Core.Bool.{Bool, true, false, cond, ◌&&◌, ◌||◌}
use Prim.Native.Nat.{ℕ}
use native.Mathlib.Omega.{arith}
use lib.Dec.{ltb, leb, eqb}
use Rattle.std.proofs.lemmas.Bool.Decides.{nat_tests}
use Rattle.std.specs.Prelude.{Option, Some}
use Rattle.std.proofs.Common.{Ordering, Less, Equal, Greater}
use Rattle.std.specs.Ordering.{is_le, is_some_and, nat_cmp, partial_le, partial_ordering_then}
use Rattle.ticks.specs.declared.Instant.{Instant}
use Rattle.ticks.specs.contracts.InstantPartialOrd.TheImpl as instants
use Rattle.edf.specs.Step.{kind, number_of, first, sooner}
use Rattle.answers.specs.declared.Who.{Who}
use Rattle.answers.specs.declared.Who.TheVariants as who
use Rattle.answers.specs.contracts.WhoPartialOrd.TheImpl as whos
use Rattle.ledger.specs.Books.{who_of}
use Rattle.serving.specs.declared.Piece.{Piece}
use Rattle.serving.specs.Front.{sooner_of}

-- a number decides, and only where both are the same the rest
number_first : (a b : ℕ) (rest : Option Ordering)
    → is_some_and is_le (partial_ordering_then (Some (nat_cmp a b)) rest) ≡ first a b (is_some_and is_le rest)
unfolding first
number_first a b rest = go (ltb a b) (eqb a b)
  where
    go : (p q : Bool) → is_some_and is_le (partial_ordering_then (Some (cond p Less (cond q Equal Greater))) rest) ≡ p || (q && is_some_and is_le rest)
    go true q = refl
    go false true = refl
    go false false = refl

number_le : (a b : ℕ) → is_le (nat_cmp a b) ≡ leb a b
number_le a b = grind (arith, nat_tests)

-- jobs before feeds before nobody, then the lower number
who_first : (v w : Who) → is_some_and is_le ((whos.ghosts).partial_cmp v w) ≡ first (kind (who_of v)) (kind (who_of w)) (leb (number_of (who_of v)) (number_of (who_of w)))
unfolding first
who_first (who.Job a) (who.Job b) = number_le a b
who_first (who.Job a) (who.Feed b) = refl
who_first (who.Job a) who.Idle = refl
who_first (who.Feed a) (who.Job b) = refl
who_first (who.Feed a) (who.Feed b) = number_le a b
who_first (who.Feed a) who.Idle = refl
who_first who.Idle (who.Job b) = refl
who_first who.Idle (who.Feed b) = refl
who_first who.Idle who.Idle = refl

-- OF TWO PIECES THE ONE WITH THE LESSER DEADLINE, AND THEN OF THE LESSER, IS THE SOONER
pub lesser_sooner : (p q : Piece)
    → partial_le {X = Instant × Who} (λ x y. partial_ordering_then ((instants.ghosts).partial_cmp x.0 y.0) ((whos.ghosts).partial_cmp x.1 y.1)) (p.due, p.who) (q.due, q.who)
    ≡ sooner_of p q
unfolding sooner
lesser_sooner p q = number_first p.due.0 q.due.0 ((whos.ghosts).partial_cmp p.who q.who) ∙ ap (first p.due.0 q.due.0) (who_first p.who q.who)
