-- The rules' own examples, computed from the definitions.
use mathlib.Core.Path.{◌≡◌, refl}
use mathlib.Core.List.{List, [], ◌∷◌, map}
use Prim.Native.Nat.{ℕ, zero, suc}
use native.Mathlib.Omega.{arith}
use lib.Dec.{lit<}
use Rattle.lists.specs.Lists.{eq}
use Rattle.edf.specs.Book.{Feed, Job, Book, Who, job, feed, idle, same}
use Rattle.edf.specs.Releases.{since}
use Rattle.edf.specs.Fits.{Fits}
use Rattle.edf.specs.Owed.{by_then, owed_by, Room}
use Rattle.edf.specs.Step.{first, sooner, goes_before, foremost, runner, ran, serve, turned, turn, step_by, step}
use Rattle.edf.specs.Order.{InOrder}
use Rattle.edf.specs.Calls.{taking, resting}
use Rattle.edf.specs.Load.{opened}
use Rattle.edf.proofs.Counted.{fits_has_room}

-- a feed that is due at its period's end
abbrev pub plain : ℕ → ℕ → ℕ → ℕ → Feed
plain position period work offset =
    record { position = position; plan = record { period = period; work = work; offset = offset; lead = period }; owes = 0 }

-- X of the bench examples
abbrev pub X : Book
X = opened 0 (plain 1 4 1 0 ∷ plain 2 6 2 0 ∷ [])

abbrev pub request : ℕ → ℕ → ℕ → Job
request number work lead = record { number = number; owes = work; due = lead }

-- who is named in the next n steps
abbrev pub naming : ℕ → Book → List Who
naming zero b = []
naming (suc n) b = (runner b).who ∷ naming n (step b)

-- the whole run of the rehearsal's example
pub twelve_ticks : naming 12 (taking (request 1 3 6) X)
    ≡ feed 1 ∷ job 1 ∷ job 1 ∷ job 1 ∷ feed 2 ∷ feed 2 ∷ feed 1 ∷ feed 2 ∷ feed 1 ∷ feed 2 ∷ idle ∷ idle ∷ []
unfolding taking opened runner foremost goes_before sooner first step step_by turn serve turned since same eq
twelve_ticks = refl

-- an overbooked state: a layer of 2 ticks that came at 0 is due by 2 and owes both at 1
abbrev late : Book
late =
    record {
      clock = 1;
      feeds = record { position = 1; plan = record { period = 4; work = 2; offset = 0; lead = 2 }; owes = 2 } ∷ [];
      jobs = [];
    }

-- it gets a tick, is told to owe one more, and gives way at 2; the next one comes at 4, whole
pub gives_way_before_the_next : (ran late ≡ record { who = feed 1; owes = 1 })
    × (map (λ f. f.owes) (step late).feeds ≡ 0 ∷ [])
    × (naming 4 late ≡ feed 1 ∷ idle ∷ idle ∷ feed 1 ∷ [])
unfolding ran runner foremost goes_before sooner first step step_by turn serve turned since same eq
gives_way_before_the_next = (refl, refl, refl)

-- X, work 4 lead 6: 7 owed by instant 6
pub seven_by_six : owed_by (taking (request 1 4 6) X) 6 ≡ 7
unfolding taking opened owed_by by_then since
seven_by_six = refl

-- X, work 6 lead 12 is more than there is by 12, and by 13 it is not
pub thirteen_by_twelve : owed_by (taking (request 1 6 12) X) 12 ≡ 13
unfolding taking opened owed_by by_then since
thirteen_by_twelve = refl

pub thirteen_by_thirteen : owed_by (taking (request 1 6 13) X) 13 ≡ 13
unfolding taking opened owed_by by_then since
thirteen_by_thirteen = refl

-- the feeds alone leave no room at lead 65,536, and the later pieces are why
pub full_feeds : owed_by (taking (request 1 1 65536) (opened 0 (plain 1 2 1 0 ∷ plain 2 4 2 0 ∷ []))) 65536 ≡ 65537
unfolding taking opened owed_by by_then since
full_feeds = refl

-- after resting feed 1, work 1 lead 1 is all that is owed by 1
pub rested_feed : owed_by (taking (request 1 1 1) (resting 1 (opened 0 (plain 1 2 1 0 ∷ plain 2 4 2 0 ∷ [])))) 1 ≡ 1
unfolding taking resting opened owed_by by_then since
rested_feed = refl

-- so work 4 lead 6 does not fit on X
pub four_by_six_does_not_fit : InOrder (taking (request 1 4 6) X) → Fits (taking (request 1 4 6) X) → ⊥
unfolding Room taking opened
four_by_six_does_not_fit o f =
    omega (arith, fits_has_room (taking (request 1 4 6) X) o f 6 (lit< tt), seven_by_six)
