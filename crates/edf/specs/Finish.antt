-- Less load with the jobs' deadlines kept, and the tick that finishes a piece of work.
use Rattle.std.specs.Prelude.{◌≡◌, ◌⊎◌, ℕ, ◌≤◌}
use Rattle.lists.specs.Lists.{Each, Some}
use Rattle.edf.specs.Book.{Book, Who}
use Rattle.edf.specs.Pieces.{Piece, current_piece, later_piece, at_hand}
use Rattle.edf.specs.Step.{runner}
use Rattle.edf.specs.Steps.{steps}
use Rattle.edf.specs.Load.{Less}

-- the first book holds no more load than the second, and its jobs have kept their deadlines
pub record LessAlike (a b : Book) : Type 0 where
  pub less : Less a b
  pub due : Each (λ j. Each (λ k. j.number ≡ k.number → j.due ≡ k.due) b.jobs) a.jobs

-- the work of w that is due at D: a job's has one deadline, each of a feed's pieces its own
pub record WorkOf (w : Who) (D : ℕ) (p : Piece) : Type 0 where
  pub who : p.who ≡ w
  pub due : p.due ≡ D

-- it is still to do: a live job, a current piece that owes something, or a piece yet to come
unfoldable pub Wanted : Who → ℕ → Book → Type 0
Wanted w D b =
    Some (λ p. WorkOf w D p × (1 ≤ p.owes)) (at_hand b)
    ⊎ ((k : ℕ) × Some (λ f. WorkOf w D (later_piece b.clock k f) × (1 ≤ f.plan.work)) b.feeds)

-- it is the current piece of the feed at position p
unfoldable pub CurrentAt : ℕ → Who → ℕ → Book → Type 0
CurrentAt p w D b = Some (λ f. (f.position ≡ p) × WorkOf w D (current_piece b.clock f)) b.feeds

-- the tick after k steps goes to it and is its last
pub record Finishes (w : Who) (D k : ℕ) (b : Book) : Type 0 where
  pub work : WorkOf w D (runner (steps k b))
  pub last : (runner (steps k b)).owes ≡ 1

-- it finishes after at most k steps
unfoldable pub FinishesWithin : Who → ℕ → ℕ → Book → Type 0
FinishesWithin w D k b = (i : ℕ) × (i ≤ k) × Finishes w D i b
