-- Books themselves, with the moves as their calls, are a system that the mathematics follows; and the promises held against
-- runs of it that can be told on one's fingers.
use mathlib.Core.Path.{◌≡◌, refl, sym, subst}
use mathlib.Core.Logic.{inl, inr}
use mathlib.Core.List.{List, [], ◌∷◌}
use Prim.Native.Nat.{ℕ, pred, ◌<◌}
use native.Mathlib.Omega.{arith}
use lib.Dec.{lit<, lit≤}
use Rattle.lists.specs.Lists.{eq}
use Rattle.edf.specs.Book.{Job, Book, idle, same}
use Rattle.edf.specs.Releases.{since}
use Rattle.edf.specs.Step.{first, sooner, goes_before, foremost, runner, serve, turned, turn, step_by, step}
use Rattle.edf.specs.Calls.{taking, ending}
use Rattle.edf.specs.Load.{Sound, opened}
use Rattle.edf.specs.Kept.{NotLive}
use Rattle.edf.specs.Runs.{Did, after, Allowed, named}
use Rattle.edf.specs.Kept.{Live, Current, StillLive, HasLeft, WasEnded, JobKept, WasRested, PieceKept}
use Rattle.edf.proofs.Moves.{Move, stays, takes, goes, ends, rests, moved, Right, Names, moved_is_sound}
use Rattle.edf.proofs.Reordered.{reordered_is}
use Rattle.edf.proofs.Runs.{Known, System}
use Rattle.edf.proofs.Kept.{job_is_kept, piece_is_kept}
use Rattle.edf.proofs.Examples.{plain, request}

abbrev pub EndsJob : ℕ → Did Move Book → Type 0
EndsJob n x = x.call ≡ ends n

abbrev pub RestsFeed : ℕ → Did Move Book → Type 0
RestsFeed p x = x.call ≡ rests p

pub known : (m : Move) (x : Did Move Book) → x.call ≡ m → Known EndsJob RestsFeed m x
unfolding Known
known stays x e = tt
known (takes j) x e = tt
known (goes k) x e = tt
known (ends n) x e = e
known (rests p) x e = e

abbrev pub books : System Move Book
books =
    record {
      book = λ b. b;
      Good = Sound;
      allows = λ m b c. Right m b × (c.state ≡ moved m b) × Names m b c;
      Ends = EndsJob;
      Rests = RestsFeed;
      sound = λ b s. s;
      follows = λ x b s a. (
        subst Sound (sym a.1) (moved_is_sound x.call b a.0 s),
        record { move = x.call; right = a.0; read = reordered_is _ _ (sym a.1); names = a.2; known = known x.call x refl },
      );
    }

-- THE PROMISES OF THE BOOKS
pub a_book_keeps_its_jobs : (xs : List (Did Move Book)) (b : Book) (n d o : ℕ) → Sound b → Allowed books.allows xs b → Live n d o b
    → JobKept (λ c. c) EndsJob n d o xs b
a_book_keeps_its_jobs = job_is_kept books

pub a_book_serves_its_layers : (xs : List (Did Move Book)) (b : Book) (p d o : ℕ) → Sound b → Allowed books.allows xs b → Current p d o b → b.clock < d
    → PieceKept (λ c. c) RestsFeed p d o xs b
a_book_serves_its_layers = piece_is_kept books

-- Examples: a feed whose piece wants 1 tick of each 4, and job 7 that wants 2 ticks by 6.
abbrev B0 : Book
B0 = taking (request 7 2 6) (opened 0 (plain 1 4 1 0 ∷ []))

abbrev tick : Book → Did Move Book
tick b = record { call = goes 1; came = record { state = step b; who = (runner b).who; ticks = 1; owes = pred (runner b).owes } }

abbrev other : Move → Book → Did Move Book
other m b = record { call = m; came = record { state = moved m b; who = idle; ticks = 0; owes = 0 } }

-- the piece gets the first tick, the job the second
abbrev B1 : Book
B1 = step B0

abbrev B2 : Book
B2 = step B1

-- no call at all: the job is live with all its work
pub at_first : StillLive {C = Move} (λ c. c) 7 6 2 [] B0
unfolding after named taking opened
at_first = record { owes = 2; live = inl (refl, refl, refl); ahead = lit< tt; counted = refl }

-- a tick for the feed and one for the job
abbrev two : List (Did Move Book)
two = tick B0 ∷ tick B1 ∷ []

pub after_two : StillLive (λ c. c) 7 6 2 two B0
unfolding after named taking opened runner foremost goes_before sooner first step step_by turn serve turned since same eq
after_two = record { owes = 1; live = inl (refl, refl, refl); ahead = lit< tt; counted = refl }

-- the third is the job's last
pub leaves_at_three : HasLeft (λ c. c) 7 6 2 (tick B0 ∷ tick B1 ∷ tick B2 ∷ []) B0
unfolding after named taking opened runner foremost goes_before sooner first step step_by turn serve turned since same eq NotLive
leaves_at_three =
    record {
      before = two;
      at = tick B2;
      later = [];
      calls = refl;
      until = after_two;
      names = refl;
      some = lit≤ tt;
      last = refl;
      in_time = lit≤ tt;
      out = tt;
      counted = refl;
    }

-- a feed rested after its piece had its tick: the piece owed nothing, and was named for all its work
pub rested_when_done : WasRested (λ c. c) RestsFeed 1 4 1 (tick B0 ∷ other (rests 1) B1 ∷ []) B0
unfolding after named taking opened runner foremost goes_before sooner first step step_by turn serve turned since same eq
rested_when_done =
    record {
      before = tick B0 ∷ [];
      at = other (rests 1) B1;
      later = [];
      calls = refl;
      until = record { owes = 0; current = inl (refl, refl, refl); ahead = lit< tt; counted = refl };
      rested = refl;
    }

-- job 7 ended when it still owed 1, and its number taken again by a job due at 9
abbrev again : Job
again = request 7 1 9

abbrev taken_again : List (Did Move Book)
taken_again = tick B0 ∷ tick B1 ∷ other (ends 7) B2 ∷ other (takes again) (ending 7 B2) ∷ []

pub ended_and_taken_again : WasEnded (λ c. c) EndsJob 7 6 2 taken_again B0
ended_and_taken_again =
    record { before = two; at = other (ends 7) B2; later = other (takes again) (ending 7 B2) ∷ []; calls = refl; until = after_two; ended = refl }

-- the new job is not taken for the old one
pub not_the_old_one : StillLive (λ c. c) 7 6 2 taken_again B0 → ⊥
unfolding after named taking ending opened runner foremost goes_before sooner first step step_by turn serve turned since same eq moved
not_the_old_one k = go k.live
  where
    go : Live 7 6 k.owes (taking again (ending 7 B2)) → ⊥
    go (inl e) = omega (arith, e.1)
    go (inr x) = elim x [ ]
