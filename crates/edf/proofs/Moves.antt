-- The moves of the mathematics: what a call can make of the book. Every move keeps a sound book sound, the feeds' positions
-- and plans as they are, and the clock from falling.
use mathlib.Core.Path.{◌≡◌, refl, ◌∙◌, ap}
use mathlib.Core.Logic.{◌⊎◌, inl, inr}
use mathlib.Core.List.{map}
use Prim.Native.Nat.{ℕ, zero, suc, ◌+◌, ◌-◌, ◌*◌, ◌≤◌, ◌<◌}
use native.Mathlib.Nat.{le_refl}
use native.Mathlib.Omega.{arith}
use Rattle.edf.specs.Book.{Feed, Job, Book, Who, idle, same, owing}
use Rattle.edf.specs.Pieces.{Piece, at_hand}
use Rattle.edf.specs.Fits.{Fits}
use Rattle.edf.specs.Step.{runner, foremost, step}
use Rattle.edf.specs.Steps.{steps}
use Rattle.edf.specs.Calls.{taking, ending, resting, Askable}
use Rattle.edf.specs.Load.{Sound}
use Rattle.edf.specs.Runs.{Came}
use Rattle.edf.proofs.Plans.{step_keeps, resting_keeps}
use Rattle.edf.proofs.Runner.{Best, Nothing, foremost_best}
use Rattle.edf.proofs.Sound.{step_is_sound}
use Rattle.edf.proofs.Service.{step_clock}
use Rattle.edf.proofs.Calls.{taking_is_sound, ending_is_sound, resting_is_sound}

-- the book stays, takes a job, goes on by so many ticks, ends the job of a number, rests the feed at a position
pub data Move : Type 0 where
  stays : Move
  takes : Job → Move
  goes : ℕ → Move
  ends : ℕ → Move
  rests : ℕ → Move

unfoldable pub moved : Move → Book → Book
moved stays b = b
moved (takes j) b = taking j b
moved (goes k) b = steps k b
moved (ends n) b = ending n b
moved (rests p) b = resting p b

-- the next k ticks all go to w
abbrev pub AllTo : ℕ → Who → Book → Type 0
AllTo k w b = (i : ℕ) → i < k → (runner (steps i b)).who ≡ w

-- the next k ticks all go to one piece of work: to one runner, for no longer than its piece owes, so that no later piece of
-- a feed is named in the same breath; or they are all idle
pub record OneRunner (k : ℕ) (b : Book) : Type 0 where
  pub same : AllTo k (runner b).who b
  pub owed : ((runner b).who ≡ idle → ⊥) → k ≤ (runner b).owes

-- a job is taken only if it may be asked for and fits
unfoldable pub Right : Move → Book → Type 0
Right stays b = Unit {0}
Right (takes j) b = Askable b j × Fits (taking j b)
Right (goes k) b = OneRunner k b
Right (ends n) b = Unit {0}
Right (rests p) b = Unit {0}

-- for how many of its ticks a move names w
unfoldable pub gives : Move → Book → Who → ℕ
gives stays b w = 0
gives (takes j) b w = 0
gives (goes k) b w = same (runner b).who w * k
gives (ends n) b w = 0
gives (rests p) b w = 0

-- the answer names whom the ticks went to, and what that piece still owes; other moves name nobody
unfoldable pub Names : {S : Type 0} → Move → Book → Came S → Type 0
Names stays b c = c.ticks ≡ 0
Names (takes j) b c = c.ticks ≡ 0
Names (goes k) b c = (c.ticks ≡ k) × (c.who ≡ (runner b).who) × (c.owes ≡ (runner b).owes - k)
Names (ends n) b c = c.ticks ≡ 0
Names (rests p) b c = c.ticks ≡ 0

none_given : {S : Type 0} (c : Came S) (w : Who) → c.ticks ≡ 0 → same c.who w * c.ticks ≡ 0
none_given c w e = rw e (omega arith)

-- so what the answer names is what the move gives
pub names_given : {S : Type 0} (m : Move) (b : Book) (c : Came S) (w : Who) → Names m b c → same c.who w * c.ticks ≡ gives m b w
unfolding Names gives
names_given stays b c w e = none_given c w e
names_given (takes j) b c w e = none_given c w e
names_given (goes k) b c w e = rw (e.0, e.1) refl
names_given (ends n) b c w e = none_given c w e
names_given (rests p) b c w e = none_given c w e

-- a tick goes to one piece that wants it, or is idle
pub one_tick : (b : Book) → OneRunner 1 b
unfolding steps runner
one_tick b = record { same = first; owed = ready (foremost_best (at_hand b)) }
  where
    r : Piece
    r = foremost (at_hand b)

    first : (i : ℕ) → i < 1 → (runner (steps i b)).who ≡ r.who
    first zero h = refl
    first (suc i) h = absurd (omega arith)

    ready : Best (at_hand b) r ⊎ Nothing (at_hand b) r → (r.who ≡ idle → ⊥) → 1 ≤ r.owes
    ready (inl h) busy = h.1
    ready (inr h) busy = absurd (busy (ap (λ x. x.who) h.0))

pub steps_clock : (k : ℕ) (b : Book) → (steps k b).clock ≡ b.clock + k
unfolding steps
steps_clock zero b = omega arith
steps_clock (suc k) b = omega (arith, steps_clock k (step b), step_clock b)

steps_are_sound : (k : ℕ) (b : Book) → Sound b → Sound (steps k b)
unfolding steps
steps_are_sound zero b s = s
steps_are_sound (suc k) b s = steps_are_sound k (step b) (step_is_sound b s)

-- KEPT BY EVERY MOVE
pub moved_is_sound : (m : Move) (b : Book) → Right m b → Sound b → Sound (moved m b)
unfolding Right moved
moved_is_sound stays b r s = s
moved_is_sound (takes j) b r s = taking_is_sound b j s r.0 r.1
moved_is_sound (goes k) b r s = steps_are_sound k b s
moved_is_sound (ends n) b r s = ending_is_sound b n s
moved_is_sound (rests p) b r s = resting_is_sound b p s

pub moved_clock : (m : Move) (b : Book) → b.clock ≤ (moved m b).clock
unfolding moved taking ending resting
moved_clock stays b = le_refl b.clock
moved_clock (takes j) b = le_refl b.clock
moved_clock (goes k) b = omega (arith, steps_clock k b)
moved_clock (ends n) b = le_refl b.clock
moved_clock (rests p) b = le_refl b.clock

-- what can be read off a feed whatever its current piece owes
module _ {A : Type 0} (v : Feed → A) (fixed : (n : ℕ) (f : Feed) → v (owing n f) ≡ v f) where
  steps_keep : (k : ℕ) (b : Book) → map v (steps k b).feeds ≡ map v b.feeds
  unfolding steps
  steps_keep zero b = refl
  steps_keep (suc k) b = steps_keep k (step b) ∙ step_keeps v fixed b

  pub moved_keeps : (m : Move) (b : Book) → map v (moved m b).feeds ≡ map v b.feeds
  unfolding moved taking ending
  moved_keeps stays b = refl
  moved_keeps (takes j) b = refl
  moved_keeps (goes k) b = steps_keep k b
  moved_keeps (ends n) b = refl
  moved_keeps (rests p) b = resting_keeps v fixed p b
