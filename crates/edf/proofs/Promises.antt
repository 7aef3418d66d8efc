-- THE PROMISES, over any calls that the mathematics can follow.
use mathlib.Core.Path.{◌≡◌, refl, sym, ◌∙◌, ap, subst}
use mathlib.Core.Logic.{inl}
use mathlib.Core.Bool.{cond}
use mathlib.Core.List.{List, [], ◌∷◌, ◌++◌}
use Prim.Native.Nat.{ℕ, zero, suc, ◌+◌, ◌*◌, ◌≤◌, ◌<◌}
use native.Mathlib.Omega.{arith}
use Rattle.lists.specs.Lists.{Some}
use Rattle.edf.specs.Book.{Feed, Job, Book, Who, job, feed, same}
use Rattle.edf.specs.Releases.{since}
use Rattle.edf.specs.Fits.{Fits}
use Rattle.edf.specs.Step.{step}
use Rattle.edf.specs.Steps.{steps}
use Rattle.edf.specs.Order.{FeedInOrder, InOrder}
use Rattle.edf.specs.Calls.{taking, ending, resting, Askable}
use Rattle.edf.specs.Load.{opened_feed, opened, Less}
use Rattle.edf.specs.Runs.{Did, after, Allowed, named}
use Rattle.edf.specs.Kept.{LiveJob, Live, Current, StillLive, JobKept, StillCurrent, PieceKept}
use Rattle.lists.proofs.Lists.{some_imp, some_both, some_get, some_map, some_right}
use Rattle.lists.proofs.Tests.{eqb_elim}
use Rattle.edf.proofs.Names.{same_refl}
use Rattle.edf.proofs.Plans.{Kin, kin}
use Rattle.edf.proofs.Service.{step_clock, Has, has_step, released_step, fresh_piece}
use Rattle.edf.proofs.LessLoad.{less_takes}
use Rattle.edf.proofs.Moves.{Move, stays, takes, goes, ends, rests, moved, steps_clock}
use Rattle.edf.proofs.Moved.{job_told, piece_told}
use Rattle.edf.specs.Reordered.{Reordered}
use Rattle.edf.proofs.Reordered.{reordered_live, reordered_current}
use Rattle.edf.proofs.Runs.{System, named_last, allowed_append, run_is_good, run_is_sound, run_has}
use Rattle.edf.proofs.Kept.{job_is_kept, piece_is_kept}

-- what an ask that is answered yes brings about
pub taken_is_live : (b : Book) (j : Job) → Live j.number j.due j.owes (taking j b)
unfolding taking
taken_is_live b j = some_right (LiveJob j.number j.due j.owes) b.jobs (j ∷ []) (inl (refl, refl, refl))

-- what a step to a release brings about: the feed's new piece owes its whole work
pub released_is_current : (b : Book) (f : Feed) → Has f b → since f.plan (step b).clock ≡ 0
    → Current f.position ((step b).clock + f.plan.lead) f.plan.work (step b)
released_is_current b f h z = fresh_piece (step b) f z (released_step b f h (rw step_clock at z))

has_steps : (k : ℕ) (b : Book) (f : Feed) → Has f b → Has f (steps k b)
unfolding steps
has_steps zero b f h = h
has_steps (suc k) b f h = has_steps k (step b) f (has_step b f h)

last_step : (k : ℕ) (b : Book) → steps (suc k) b ≡ step (steps k b)
unfolding steps
last_step zero b = refl
last_step (suc k) b = last_step k (step b)

-- the same of any move that brings the clock to the release
released_by : (m : Move) (b : Book) (f : Feed) → Has f b → b.clock < (moved m b).clock → since f.plan (moved m b).clock ≡ 0
    → Current f.position ((moved m b).clock + f.plan.lead) f.plan.work (moved m b)
unfolding moved taking ending resting
released_by stays b f h t z = absurd (omega arith)
released_by (takes j) b f h t z = absurd (omega arith)
released_by (goes zero) b f h t z = absurd (omega (arith, steps_clock 0 b))
released_by (goes (suc k)) b f h t z = rw last_step (released_is_current (steps k b) f (has_steps k b f h) (rw last_step at z))
released_by (ends n) b f h t z = absurd (omega arith)
released_by (rests p) b f h t z = absurd (omega arith)

-- what an opening brings about
pub opening_has : (t : ℕ) (fs : List Feed) (f : Feed) → Some (λ g. g ≡ f) fs → Has f (opened t fs)
unfolding opened
opening_has t fs f m = some_map (λ g. Kin g f) (opened_feed t) fs (some_imp (λ g. g ≡ f) (λ g. Kin g f) (λ g. kin g f) fs m)

pub opened_is_current : (t : ℕ) (fs : List Feed) (f : Feed) → Some (λ g. g ≡ f) fs → since f.plan t ≡ 0
    → Current f.position (t + f.plan.lead) f.plan.work (opened t fs)
unfolding opened
opened_is_current t fs f m z =
    fresh_piece (opened t fs) f z
    (some_map (λ g. Kin g f × (g.owes ≡ f.plan.work)) (opened_feed t) fs
    (some_imp (λ g. g ≡ f) (λ g. Kin g f × ((opened_feed t g).owes ≡ f.plan.work)) (λ g q. (kin g f q, comes g q)) fs m))
  where
    comes : (g : Feed) → g ≡ f → (opened_feed t g).owes ≡ f.plan.work
    comes g q =
        eqb_elim (λ x. cond x g.plan.work 0 ≡ f.plan.work) (since g.plan t) 0 (λ w. ap (λ k. k.plan.work) q)
        (λ w. absurd (w (ap (λ k. since k.plan t) q ∙ z)))

-- a feed of a book in order is due some time after it came
some_lead : (b : Book) (f : Feed) → InOrder b → Has f b → 1 ≤ f.plan.lead
some_lead b f o h =
    some_get (λ g. Kin g f × FeedInOrder b.clock g) (1 ≤ f.plan.lead)
    (λ g k. omega (arith, ap (λ p. p.lead) k.0.1, k.1.plan.lead))
    b.feeds
    (some_both (λ g. Kin g f) (FeedInOrder b.clock) b.feeds h o.feeds)

-- the call that names w last is counted with those before it
with_last : {C S : Type 0} (w : Who) (o work : ℕ) (before : List (Did C S)) (x : Did C S) → x.came.who ≡ w → o + named w before ≡ work
    → x.came.owes + x.came.ticks ≡ o
    → x.came.owes + named w (before ++ (x ∷ [])) ≡ work
with_last w o work before x v e t =
    let one : same x.came.who w * x.came.ticks ≡ x.came.ticks = rw (v, same_refl) (omega arith) in
    omega (arith, named_last w before x)

module _ {C S : Type 0} (y : System C S) (s : S) (g : y.Good s) where
  -- A YES STANDS: whatever was called before it, and whatever is called after it
  pub a_yes_is_kept : (before : List (Did C S)) (x : Did C S) (later : List (Did C S)) (j : Job)
      → Allowed y.allows (before ++ (x ∷ later)) s
      → Reordered (taking j (y.book (after before s))) (y.book x.came.state)
      → JobKept y.book y.Ends j.number j.due j.owes later x.came.state
  unfolding Allowed
  a_yes_is_kept before x later j a e =
      let (front, back) = allowed_append y.allows before (x ∷ later) s a in
      job_is_kept y later x.came.state j.number j.due j.owes
      (y.follows x (after before s) (run_is_good y before s g front) back.0).0
      back.1
      (reordered_live _ _ e j.number j.due j.owes (taken_is_live (y.book (after before s)) j))

  -- EVERY LAYER PIECE IS SERVED, from the call that brought the clock to its release, whatever was called before and whatever
  -- is called after
  pub a_released_piece_is_kept : (before : List (Did C S)) (x : Did C S) (later : List (Did C S)) (f : Feed) → Has f (y.book s)
      → Allowed y.allows (before ++ (x ∷ later)) s
      → (y.book (after before s)).clock < (y.book x.came.state).clock
      → since f.plan (y.book x.came.state).clock ≡ 0
      → PieceKept y.book y.Rests f.position ((y.book x.came.state).clock + f.plan.lead) f.plan.work later x.came.state
  unfolding Allowed
  a_released_piece_is_kept before x later f h a t z =
      let (front, back) = allowed_append y.allows before (x ∷ later) s a in
      let (good, m) = y.follows x (after before s) (run_is_good y before s g front) back.0 in
      let b : Book = y.book (after before s) in
      let has : Has f b = run_has y before s g front f h in
      piece_is_kept y later x.came.state f.position ((y.book x.came.state).clock + f.plan.lead) f.plan.work good back.1
      (subst (λ c. Current f.position (c + f.plan.lead) f.plan.work (y.book x.came.state)) m.read.clock
      (reordered_current _ _ m.read f.position _ f.plan.work
      (released_by m.move b f has (omega (arith, m.read.clock)) (subst (λ c. since f.plan c ≡ 0) (sym m.read.clock) z))))
      (omega (arith, some_lead b f (run_is_sound y before s g front).order has))

  -- and those that come with the opening
  pub an_opened_piece_is_kept : (t : ℕ) (fs : List Feed) (f : Feed) → Some (λ k. k ≡ f) fs → y.book s ≡ opened t fs → since f.plan t ≡ 0
      → (later : List (Did C S)) → Allowed y.allows later s
      → PieceKept y.book y.Rests f.position (t + f.plan.lead) f.plan.work later s
  unfolding opened
  an_opened_piece_is_kept t fs f m e z later a =
      piece_is_kept y later s f.position (t + f.plan.lead) f.plan.work g a
      (subst (Current f.position (t + f.plan.lead) f.plan.work) (sym e) (opened_is_current t fs f m z))
      (omega (arith, ap (λ b. b.clock) e, some_lead (y.book s) f (y.sound s g).order (subst (Has f) (sym e) (opening_has t fs f m))))

  module _ (before : List (Did C S)) (x : Did C S) (later : List (Did C S)) (a : Allowed y.allows (before ++ (x ∷ later)) s) where
    -- WHAT AN ANSWER TELLS AS STILL OWED is the work less the ticks that the job was named for, those of this call included
    pub a_job's_report_is_right : (n due work : ℕ) → StillLive y.book n due work before s → x.came.who ≡ job n → 1 ≤ x.came.ticks
        → x.came.owes + named (job n) (before ++ (x ∷ [])) ≡ work
    unfolding Allowed
    a_job's_report_is_right n due work l w h =
        let (front, back) = allowed_append y.allows before (x ∷ later) s a in
        let m = (y.follows x (after before s) (run_is_good y before s g front) back.0).1 in
        with_last (job n) l.owes work before x w l.counted
        (job_told m.move (y.book (after before s)) x.came n due l.owes (run_is_sound y before s g front) m.right m.names l.live w h)

    -- the same of a piece before its deadline
    pub a_piece's_report_is_right : (p due work : ℕ) → StillCurrent y.book p due work before s → x.came.who ≡ feed p → 1 ≤ x.came.ticks
        → x.came.owes + named (feed p) (before ++ (x ∷ [])) ≡ work
    unfolding Allowed
    a_piece's_report_is_right p due work l w h =
        let (front, back) = allowed_append y.allows before (x ∷ later) s a in
        let m = (y.follows x (after before s) (run_is_good y before s g front) back.0).1 in
        with_last (feed p) l.owes work before x w l.counted
        (piece_told m.move (y.book (after before s)) x.came p due l.owes (run_is_sound y before s g front) m.right m.names l.current w h)

-- LESS LOAD, over states that any calls reach: a request that fits on the heavier fits on the lighter
pub a_lighter_book_takes : {C D S T : Type 0} (y : System C S) (z : System D T) (xs : List (Did C S)) (ys : List (Did D T)) (s : S) (t : T) (q : Job)
    → y.Good s → z.Good t → Allowed y.allows xs s → Allowed z.allows ys t
    → Less (y.book (after xs s)) (z.book (after ys t))
    → Askable (y.book (after xs s)) q → Askable (z.book (after ys t)) q
    → Fits (taking q (z.book (after ys t))) → Fits (taking q (y.book (after xs s)))
a_lighter_book_takes y z xs ys s t q g h a b less =
    let heavier = run_is_sound z ys t h b in
    less_takes (y.book (after xs s)) (z.book (after ys t)) q (run_is_sound y xs s g a).order heavier.order heavier.light less
