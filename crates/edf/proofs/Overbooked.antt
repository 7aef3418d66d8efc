-- One job more never makes room: an overbooked book fits nothing that is asked of it.
use mathlib.Core.Path.{refl, sym, subst}
use mathlib.Core.List.{[], ◌∷◌, ◌++◌}
use Prim.Native.Nat.{ℕ, ◌<◌}
use native.Mathlib.Omega.{arith}
use Rattle.lists.specs.Lists.{Some}
use Rattle.edf.specs.Margin.{Overbooked}
use Rattle.edf.specs.Book.{Job, Book, plans}
use Rattle.edf.specs.Fits.{Fits}
use Rattle.edf.specs.Owed.{Room}
use Rattle.edf.specs.Order.{InOrder}
use Rattle.edf.specs.Calls.{taking, Askable}
use Rattle.edf.specs.Load.{Light, JobLess, Less}
use Rattle.lists.proofs.Lists.{some_left, each_imp}
use Rattle.edf.proofs.Plans.{taking_keeps_plans}
use Rattle.edf.proofs.Calls.{taking_in_order}
use Rattle.edf.proofs.LessLoad.{jobs_are_less, feeds_are_less, less_fits}
use Rattle.edf.proofs.Counted.{fits_has_room}

-- a book is no heavier than with one job more
pub taking_is_more : (b : Book) (q : Job) → Less b (taking q b)
unfolding taking
taking_is_more b q =
    record {
      clock = refl;
      feeds = feeds_are_less b;
      jobs = each_imp (λ j. Some (JobLess j) b.jobs) (λ j. Some (JobLess j) (b.jobs ++ (q ∷ []))) (λ j. some_left (JobLess j) b.jobs (q ∷ [])) b.jobs (jobs_are_less b);
    }

-- what fits with a job more fits without it
pub fits_without : (b : Book) (q : Job) → InOrder b → Light (plans b.feeds) → Askable b q → Fits (taking q b) → Fits b
fits_without b q o l x = less_fits b (taking q b) o (taking_in_order b q o x) (subst Light (sym (taking_keeps_plans q b)) l) (taking_is_more b q)

-- AN OVERBOOKED BOOK SAYS NO to all that may be asked
pub overbooked_fits_nothing : (b : Book) (q : Job) → InOrder b → Light (plans b.feeds) → (Fits b → ⊥) → Askable b q → Fits (taking q b) → ⊥
overbooked_fits_nothing b q o l n x f = n (fits_without b q o l x f)

-- the same where it has no room
pub no_room_fits_nothing : (b : Book) (q : Job) → InOrder b → Light (plans b.feeds) → (Room b → ⊥) → Askable b q → Fits (taking q b) → ⊥
no_room_fits_nothing b q o l n = overbooked_fits_nothing b q o l (λ f. n (fits_has_room b o f))

-- and where more is owed by some instant than there is time until then
pub overbooked_by_fits_nothing : (b : Book) (q : Job) (D : ℕ) → InOrder b → Light (plans b.feeds) → b.clock < D → Overbooked b D → Askable b q → Fits (taking q b) → ⊥
unfolding Room
overbooked_by_fits_nothing b q D o l h s = no_room_fits_nothing b q o l (λ r. omega (arith, r D h))
