-- Runs of any calls that the mathematics can follow: what a state has to show of each of its calls, and what then holds of
-- every state on the way.
use mathlib.Core.Path.{◌≡◌, refl, sym, ◌∙◌, ap, subst}
use mathlib.Core.List.{List, [], ◌∷◌, ◌++◌, map}
use Prim.Native.Nat.{ℕ, pred, ◌+◌, ◌-◌, ◌*◌, ◌≤◌}
use native.Mathlib.Nat.{le_refl}
use native.Mathlib.Omega.{arith}
use Rattle.lists.specs.Lists.{Some}
use Rattle.edf.specs.Book.{Plan, Feed, Job, Book, Who, same, owing, positions, plans}
use Rattle.edf.specs.Fits.{Fits}
use Rattle.edf.specs.Step.{runner, ran, step}
use Rattle.edf.specs.Steps.{steps}
use Rattle.edf.specs.Calls.{taking, ending, resting, Askable}
use Rattle.edf.specs.Load.{Sound}
use Rattle.edf.specs.Runs.{Came, Did, after, Allowed, named}
use Rattle.edf.specs.Reordered.{Reordered}
use Rattle.edf.proofs.Reordered.{reordered_is, reordered_sound}
use Rattle.lists.proofs.Lists.{some_map, some_of_map}
use Rattle.edf.proofs.Service.{Has}
use Rattle.edf.proofs.Moves.{Move, stays, takes, goes, ends, rests, moved, OneRunner, Right, Names, one_tick, moved_is_sound, moved_clock, moved_keeps}

module _ {C S : Type 0} where
  pub after_append : (xs ys : List (Did C S)) (s : S) → after (xs ++ ys) s ≡ after ys (after xs s)
  unfolding after
  after_append [] ys s = refl
  after_append (x ∷ xs) ys s = after_append xs ys x.came.state

  pub named_append : (w : Who) (xs ys : List (Did C S)) → named w (xs ++ ys) ≡ named w xs + named w ys
  unfolding named
  named_append w [] ys = omega arith
  named_append w (x ∷ xs) ys = omega (arith, named_append w xs ys)

  pub named_last : (w : Who) (xs : List (Did C S)) (x : Did C S) → named w (xs ++ (x ∷ [])) ≡ named w xs + same x.came.who w * x.came.ticks
  unfolding named
  named_last w xs x = omega (arith, named_append w xs (x ∷ []))

  pub allowed_append : (allows : C → S → Came S → Type 0) (xs ys : List (Did C S)) (s : S) → Allowed allows (xs ++ ys) s
      → Allowed allows xs s × Allowed allows ys (after xs s)
  unfolding after Allowed
  allowed_append allows [] ys s a = (tt, a)
  allowed_append allows (x ∷ xs) ys s a =
      let (front, back) = allowed_append allows xs ys x.came.state a.1 in
      ((a.0, front), back)

  -- a call that ends a job or rests a feed is known for one
  unfoldable pub Known : (Ends Rests : ℕ → Did C S → Type 0) → Move → Did C S → Type 0
  Known Ends Rests stays x = Unit {0}
  Known Ends Rests (takes j) x = Unit {0}
  Known Ends Rests (goes k) x = Unit {0}
  Known Ends Rests (ends n) x = Ends n x
  Known Ends Rests (rests p) x = Rests p x

  -- the call on s is a move of the mathematics, rightly made, but for the order of the jobs; and its answer names whom the
  -- ticks went to
  pub record Makes (book : S → Book) (Ends Rests : ℕ → Did C S → Type 0) (x : Did C S) (s : S) : Type 0 where
    pub move : Move
    pub right : Right move (book s)
    pub read : Reordered (moved move (book s)) (book x.came.state)
    pub names : Names move (book s) x.came
    pub known : Known Ends Rests move x

  -- so the state that it hands back has a sound book
  pub made_is_sound : (book : S → Book) (Ends Rests : ℕ → Did C S → Type 0) (x : Did C S) (s : S) → Makes book Ends Rests x s → Sound (book s) → Sound (book x.came.state)
  made_is_sound book Ends Rests x s m b = reordered_sound _ _ m.read (moved_is_sound m.move (book s) m.right b)

  -- how each call shows that it is a move
  module _ (book : S → Book) (Ends Rests : ℕ → Did C S → Type 0) (x : Did C S) (s : S) where
    -- a look, a refusal: the book is as it was
    pub makes_nothing : book x.came.state ≡ book s → x.came.ticks ≡ 0 → Makes book Ends Rests x s
    unfolding Right moved Names Known
    makes_nothing e t = record { move = stays; right = tt; read = reordered_is _ _ (sym e); names = t; known = tt }

    -- an ask that is answered yes
    pub takes_a_job : (j : Job) → Askable (book s) j → Fits (taking j (book s)) → Reordered (taking j (book s)) (book x.came.state) → x.came.ticks ≡ 0
        → Makes book Ends Rests x s
    unfolding Right moved Names Known
    takes_a_job j a f e t = record { move = takes j; right = (a, f); read = e; names = t; known = tt }

    -- so many ticks that all go to one piece of work
    pub goes_on : (k : ℕ) → OneRunner k (book s) → book x.came.state ≡ steps k (book s)
        → x.came.ticks ≡ k → x.came.who ≡ (runner (book s)).who → x.came.owes ≡ (runner (book s)).owes - k
        → Makes book Ends Rests x s
    unfolding Right moved Names Known
    goes_on k r e t w o = record { move = goes k; right = r; read = reordered_is _ _ (sym e); names = (t, w, o); known = tt }

    -- a step that was taken
    pub steps_once : book x.came.state ≡ step (book s) → x.came.ticks ≡ 1 → x.came.who ≡ (ran (book s)).who → x.came.owes ≡ (ran (book s)).owes
        → Makes book Ends Rests x s
    unfolding steps ran
    steps_once e t w o =
        let left : x.came.owes ≡ pred (runner (book s)).owes = o in
        goes_on 1 (one_tick (book s)) e t w (omega arith)

    -- an end
    pub ends_a_job : (n : ℕ) → book x.came.state ≡ ending n (book s) → x.came.ticks ≡ 0 → Ends n x → Makes book Ends Rests x s
    unfolding Right moved Names Known
    ends_a_job n e t k = record { move = ends n; right = tt; read = reordered_is _ _ (sym e); names = t; known = k }

    -- a rest
    pub rests_a_feed : (p : ℕ) → book x.came.state ≡ resting p (book s) → x.came.ticks ≡ 0 → Rests p x → Makes book Ends Rests x s
    unfolding Right moved Names Known
    rests_a_feed p e t k = record { move = rests p; right = tt; read = reordered_is _ _ (sym e); names = t; known = k }

-- calls C on states S that the mathematics can follow: how a state is read as a book, which states are good, what may come
-- of a call, which calls end a job or rest a feed, and that each allowed call on a good state hands back a good one and is a
-- move
pub record System (C S : Type 0) : Type 1 where
  pub book : S → Book
  pub Good : S → Type 0
  pub allows : C → S → Came S → Type 0
  pub Ends : ℕ → Did C S → Type 0
  pub Rests : ℕ → Did C S → Type 0
  pub sound : (s : S) → Good s → Sound (book s)
  pub follows : (x : Did C S) (s : S) → Good s → allows x.call s x.came → Good x.came.state × Makes book Ends Rests x s

module _ {C S : Type 0} (y : System C S) where
  -- EVERY STATE ON THE WAY IS GOOD
  pub run_is_good : (xs : List (Did C S)) (s : S) → y.Good s → Allowed y.allows xs s → y.Good (after xs s)
  unfolding after Allowed
  run_is_good [] s g a = g
  run_is_good (x ∷ xs) s g a = run_is_good xs x.came.state (y.follows x s g a.0).0 a.1

  -- and so its book is in order and has room
  pub run_is_sound : (xs : List (Did C S)) (s : S) → y.Good s → Allowed y.allows xs s → Sound (y.book (after xs s))
  run_is_sound xs s g a = y.sound (after xs s) (run_is_good xs s g a)

  -- the clock never goes back
  pub run_clock : (xs : List (Did C S)) (s : S) → y.Good s → Allowed y.allows xs s → (y.book s).clock ≤ (y.book (after xs s)).clock
  unfolding after Allowed
  run_clock [] s g a = le_refl (y.book s).clock
  run_clock (x ∷ xs) s g a =
      let (g', m) = y.follows x s g a.0 in
      omega (arith, run_clock xs x.came.state g' a.1, moved_clock m.move (y.book s), m.read.clock)

  -- what can be read off the feeds, whatever their current pieces owe, stays
  pub run_keeps : {A : Type 0} (v : Feed → A) → ((n : ℕ) (f : Feed) → v (owing n f) ≡ v f)
      → (xs : List (Did C S)) (s : S) → y.Good s → Allowed y.allows xs s → map v (y.book (after xs s)).feeds ≡ map v (y.book s).feeds
  unfolding after Allowed
  run_keeps v fixed [] s g a = refl
  run_keeps v fixed (x ∷ xs) s g a =
      let (g', m) = y.follows x s g a.0 in
      run_keeps v fixed xs x.came.state g' a.1 ∙ sym (ap (map v) m.read.feeds) ∙ moved_keeps v fixed m.move (y.book s)

  module _ (xs : List (Did C S)) (s : S) (g : y.Good s) (a : Allowed y.allows xs s) where
    pub run_keeps_positions : positions (y.book (after xs s)).feeds ≡ positions (y.book s).feeds
    run_keeps_positions = run_keeps (λ f. f.position) (λ n f. refl) xs s g a

    pub run_keeps_plans : plans (y.book (after xs s)).feeds ≡ plans (y.book s).feeds
    run_keeps_plans = run_keeps (λ f. f.plan) (λ n f. refl) xs s g a

    -- a feed of the book is one after any calls
    pub run_has : (f : Feed) → Has f (y.book s) → Has f (y.book (after xs s))
    run_has f h =
        some_of_map is place (y.book (after xs s)).feeds
        (subst (Some is) (sym (run_keeps place (λ n k. refl) xs s g a)) (some_map is place (y.book s).feeds h))
      where
        place : Feed → ℕ × Plan
        place k = (k.position, k.plan)

        is : ℕ × Plan → Type 0
        is q = (q.0 ≡ f.position) × (q.1 ≡ f.plan)
