-- The rule of the step, of any book, overbooked or not: whom the tick goes to, and what it changes.
use Rattle.std.specs.Prelude.{◌≡◌, ◌⊎◌, true, ◌+◌, ◌≤◌, ◌<◌}
use Rattle.lists.specs.Lists.{Each, Some}
use Rattle.edf.specs.Book.{Feed, Job, Book, Who, job, feed, same}
use Rattle.edf.specs.Pieces.{Piece, at_hand}
use Rattle.edf.specs.Step.{kind, number_of, sooner, nobody}

-- p is at hand and ready, and goes before all that is ready
pub record Chosen (b : Book) (p : Piece) : Type 0 where
  pub hand : Some (λ x. x ≡ p) (at_hand b)
  pub ready : 1 ≤ p.owes
  pub first : Each (λ q. 1 ≤ q.owes → sooner p q ≡ true) (at_hand b)

-- nobody gets the tick, as nothing is ready
pub record NothingReady (b : Book) (p : Piece) : Type 0 where
  pub idle : p ≡ nobody
  pub done : Each (λ q. q.owes ≡ 0) (at_hand b)

-- what going before means, word by word: due earlier; or due together, and a job before a feed; or of one kind too, and of
-- a number or position that is no higher
abbrev pub GoesBefore : Piece → Piece → Type 0
GoesBefore p q =
    (p.due < q.due)
    ⊎ ((p.due ≡ q.due)
    × ((kind p.who < kind q.who) ⊎ ((kind p.who ≡ kind q.who) × (number_of p.who ≤ number_of q.who))))

-- after a tick that goes to g: the same job, owing one less if it is g's and what it owed otherwise
pub record JobServed (g : Who) (after before : Job) : Type 0 where
  pub number : after.number ≡ before.number
  pub due : after.due ≡ before.due
  pub owes : after.owes + same g (job before.number) ≡ before.owes

-- the same of a feed
pub record FeedServed (g : Who) (after before : Feed) : Type 0 where
  pub position : after.position ≡ before.position
  pub plan : after.plan ≡ before.plan
  pub owes : after.owes + same g (feed before.position) ≡ before.owes
