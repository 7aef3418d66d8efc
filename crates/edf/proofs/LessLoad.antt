-- Less load never makes a yes a no.
use mathlib.Core.Path.{◌≡◌, refl, sym, ◌∙◌, ap, subst}
use mathlib.Core.Logic.{inl}
use mathlib.Core.List.{List, [], ◌∷◌, ◌++◌}
use Prim.Native.Nat.{ℕ, ◌*◌, ◌≤◌}
use native.Mathlib.Nat.{le_refl, mul-le-mul_right}
use native.Mathlib.Omega.{arith}
use lib.ListN.{length}
use Rattle.lists.specs.Lists.{eq, total, Each, Some, Pairs}
use Rattle.edf.specs.Book.{Feed, Job, Book, plans}
use Rattle.edf.specs.Releases.{due}
use Rattle.edf.specs.Fits.{Fits}
use Rattle.edf.specs.Owed.{by_then, owed_by, Room}
use Rattle.edf.specs.Order.{JobInOrder, InOrder}
use Rattle.edf.specs.Calls.{taking, Askable}
use Rattle.edf.specs.Load.{Light, FeedLess, JobLess, Less}
use Rattle.lists.proofs.Lists.{each_imp, each_append, each_of_total_zero, some_imp, some_both, some_get, some_le_total, some_left, some_right, total_le, total_le_all, total_zero, total_scale, total_swap, each_self}
use Rattle.lists.proofs.Pairs.{pairs_total, pairs_same, pairs_refl}
use Rattle.lists.proofs.Tests.{eq_refl}
use Rattle.edf.proofs.Demand.{by_then_mono, by_then_less, feed_owes}
use Rattle.edf.proofs.Tick.{owed_by_split}
use Rattle.edf.proofs.Counted.{fits_has_room}
use Rattle.edf.proofs.Service.{room_fits}
use Rattle.edf.proofs.Calls.{taking_in_order}

-- a feed that owes no more, with all its pieces
feed_owes_less : (t D : ℕ) (f g : Feed) → FeedLess f g → feed_owes t D f ≤ feed_owes t D g
feed_owes_less t D f g h = rw h.plan (omega (arith, by_then_less D (due g.plan t) f.owes g.owes h.owes))

pub less_keeps_plans : (a b : Book) → Less a b → plans a.feeds ≡ plans b.feeds
less_keeps_plans a b h = pairs_same FeedLess (λ f. f.plan) (λ f g k. k.plan) a.feeds b.feeds h.feeds

-- elements matched by number, no two of the first list of one number, each weighing no more than its match
pub matched : (F G : Job → ℕ) (js ks : List Job) → ((n : ℕ) → total (λ j. eq n j.number) js ≤ 1)
    → Each (λ j. Some (λ k. (j.number ≡ k.number) × (F j ≤ G k)) ks) js
    → total F js ≤ total G ks
matched F G js ks once h =
    omega (
      arith,
      total_le (λ j. Some (λ k. (j.number ≡ k.number) × (F j ≤ G k)) ks) F (λ j. total (λ k. eq k.number j.number * G k) ks) found js h,
      total_swap (λ j k. eq k.number j.number * G k) js ks,
      total_le_all (λ k. total (λ j. eq k.number j.number * G k) js) G at_most_once ks,
    )
  where
    found : (j : Job) → Some (λ k. (j.number ≡ k.number) × (F j ≤ G k)) ks → F j ≤ total (λ k. eq k.number j.number * G k) ks
    found j s =
        some_le_total (λ k. eq k.number j.number * G k) (F j) ks
        (some_imp (λ k. (j.number ≡ k.number) × (F j ≤ G k)) (λ k. F j ≤ eq k.number j.number * G k)
        (λ k p. let z : eq k.number j.number ≡ 1 = ap (eq k.number) p.0 ∙ eq_refl k.number in
        omega (arith, ap (◌* G k) z, p.1))
        ks
        s)

    at_most_once : (k : Job) → total (λ j. eq k.number j.number * G k) js ≤ G k
    at_most_once k =
        omega (
          arith,
          total_scale (λ j. eq k.number j.number) (G k) js,
          mul-le-mul_right (G k) (once k.number),
        )

-- LESS LOAD OWES LESS, by every instant
pub less_owes_less : (a b : Book) → InOrder a → Less a b → (D : ℕ) → owed_by a D ≤ owed_by b D
less_owes_less a b o h D =
    let jobs : total (λ j. by_then D j.due j.owes) a.jobs ≤ total (λ j. by_then D j.due j.owes) b.jobs
    = matched (λ j. by_then D j.due j.owes) (λ j. by_then D j.due j.owes) a.jobs b.jobs o.numbers
    (each_imp (λ j. Some (JobLess j) b.jobs) (λ j. Some (λ k. (j.number ≡ k.number) × (by_then D j.due j.owes ≤ by_then D k.due k.owes)) b.jobs)
    (λ j s. some_imp (JobLess j) (λ k. (j.number ≡ k.number) × (by_then D j.due j.owes ≤ by_then D k.due k.owes))
    (λ k m. (m.number, by_then_mono D D j.due k.due j.owes k.owes (le_refl D) m.due m.owes))
    b.jobs
    s)
    a.jobs
    h.jobs) in
    let feeds : total (feed_owes a.clock D) a.feeds ≤ total (feed_owes b.clock D) b.feeds
    = rw h.clock (pairs_total FeedLess (feed_owes b.clock D) (feed_owes b.clock D) (feed_owes_less b.clock D) a.feeds b.feeds h.feeds) in
    omega (arith, owed_by_split a D, owed_by_split b D, jobs, feeds)

less_has_room : (a b : Book) → InOrder a → Less a b → Room b → Room a
unfolding Room
less_has_room a b o h r D k = omega (arith, less_owes_less a b o h D, r D (omega (arith, h.clock)), h.clock)

-- LESS LOAD FITS: what the heavier book fits, the lighter fits
pub less_fits : (a b : Book) → InOrder a → InOrder b → Light (plans b.feeds) → Less a b → Fits b → Fits a
less_fits a b oa ob l h f =
    room_fits a
    (record { order = oa; room = less_has_room a b oa h (fits_has_room b ob f); light = subst Light (sym (less_keeps_plans a b h)) l })

job_is_less : (j k : Job) → k ≡ j → JobLess j k
job_is_less j k e = subst (JobLess j) (sym e) (record { number = refl; owes = le_refl j.owes; due = le_refl j.due })

-- a book is no heavier than itself
pub jobs_are_less : (b : Book) → Each (λ j. Some (JobLess j) b.jobs) b.jobs
jobs_are_less b =
    each_imp (λ j. Some (λ k. k ≡ j) b.jobs) (λ j. Some (JobLess j) b.jobs) (λ j. some_imp (λ k. k ≡ j) (JobLess j) (job_is_less j) b.jobs) b.jobs (each_self b.jobs)

pub feeds_are_less : (b : Book) → Pairs FeedLess b.feeds b.feeds
feeds_are_less b = pairs_refl FeedLess (λ f. record { position = refl; plan = refl; owes = le_refl f.owes }) b.feeds

-- the same request put to both keeps the one the lighter
taking_less : (a b : Book) (q : Job) → Less a b → Less (taking q a) (taking q b)
unfolding taking
taking_less a b q h =
    record {
      clock = h.clock;
      feeds = h.feeds;
      jobs = each_append (λ j. Some (JobLess j) (b.jobs ++ (q ∷ []))) a.jobs (q ∷ [])
          (each_imp (λ j. Some (JobLess j) b.jobs) (λ j. Some (JobLess j) (b.jobs ++ (q ∷ []))) (λ j s. some_left (JobLess j) b.jobs (q ∷ []) s) a.jobs h.jobs)
          (some_right (JobLess q) b.jobs (q ∷ []) (inl (record { number = refl; owes = le_refl q.owes; due = le_refl q.due })), tt);
    }

-- LESS LOAD NEVER MAKES A YES A NO: a request that the heavier book takes, the lighter takes
pub less_takes : (a b : Book) (q : Job) → InOrder a → InOrder b → Light (plans b.feeds) → Less a b → Askable a q → Askable b q
    → Fits (taking q b) → Fits (taking q a)
unfolding taking
less_takes a b q oa ob l h qa qb =
    less_fits (taking q a) (taking q b) (taking_in_order a q oa qa) (taking_in_order b q ob qb) l (taking_less a b q h)

-- A NUMBER THAT IS FREE in the heavier book is free in the lighter
pub less_keeps_free : (a b : Book) → Less a b → (n : ℕ) → total (λ k. eq n k.number) b.jobs ≡ 0 → total (λ j. eq n j.number) a.jobs ≡ 0
less_keeps_free a b h n z =
    total_zero (λ j. eq n j.number) a.jobs
    (each_imp (λ j. Some (JobLess j) b.jobs) (λ j. eq n j.number ≡ 0)
    (λ j s. some_get (λ k. JobLess j k × (eq n k.number ≡ 0)) (eq n j.number ≡ 0) (λ k m. ap (eq n) m.0.number ∙ m.1) b.jobs
    (some_both (JobLess j) (λ k. eq n k.number ≡ 0) b.jobs s (each_of_total_zero (λ k. eq n k.number) b.jobs z)))
    a.jobs
    h.jobs)

length_is_total : (js : List Job) → length js ≡ total (λ j. 1) js
length_is_total [] = refl
length_is_total (j ∷ js) = omega (arith, length_is_total js)

-- THE LIGHTER HAS NO MORE JOBS: each has one of its number in the heavier, and no two the same
pub less_has_fewer : (a b : Book) → InOrder a → Less a b → length a.jobs ≤ length b.jobs
less_has_fewer a b o h =
    omega (
      arith,
      length_is_total a.jobs,
      length_is_total b.jobs,
      matched (λ j. 1) (λ k. 1) a.jobs b.jobs o.numbers
          (each_imp (λ j. Some (JobLess j) b.jobs) (λ j. Some (λ k. (j.number ≡ k.number) × (1 ≤ 1)) b.jobs)
          (λ j. some_imp (JobLess j) (λ k. (j.number ≡ k.number) × (1 ≤ 1)) (λ k m. (m.number, le_refl 1)) b.jobs)
          a.jobs
          h.jobs),
    )

-- what may be asked of the heavier may be asked of the lighter
pub less_is_askable : (a b : Book) (q : Job) → Less a b → Askable b q → Askable a q
less_is_askable a b q h x =
    record { sound = subst (λ t. JobInOrder t q) (sym h.clock) x.sound; free = less_keeps_free a b h q.number x.free }

-- LESS LOAD NEVER MAKES A YES A NO, with nothing asked of the lighter book but that it is in order
pub less_says_yes : (a b : Book) (q : Job) → InOrder a → InOrder b → Light (plans b.feeds) → Less a b
    → Askable b q → Fits (taking q b) → Askable a q × Fits (taking q a)
less_says_yes a b q oa ob l h x f = let y = less_is_askable a b q h x in (y, less_takes a b q oa ob l h y x f)
