-- What an instant brings, what is served and what is rested, as the mathematics has them.
use mathlib.Core.Path.{◌≡◌, refl, sym, ap, ◌∙◌}
use mathlib.Core.Bool.{Bool, true, false, not, cond}
use mathlib.Core.List.{List, [], ◌∷◌, map}
use Prim.Native.Nat.{ℕ, suc, ◌+◌, ◌-◌}
use lib.Dec.{leb, ltb, eqb}
use borrow.Author.Tests.{le-leb, lt-leb}
use Rattle.lists.specs.Lists.{eq, Each}
use Rattle.lists.proofs.Tests.{ltb_elim}
use Rattle.ticks.specs.declared.Instant.{Instant}
use Rattle.ticks.specs.declared.Length.{Length}
use Rattle.ticks.specs.Ticks.{ticks}
use Rattle.plans.specs.declared.Plan.{Plan}
use Rattle.plans.specs.Plans as plans
use Rattle.feeds.specs.declared.Feed.{Feed}
use Rattle.feeds.specs.Feeds.{owing}
use Rattle.feeds.specs.Pieces.{owes_then, arrived, rested, served}
use Rattle.edf.specs.Book as edf
use Rattle.edf.specs.Releases as releases
use Rattle.edf.specs.Step.{serve_feed, turned, turn_feed}
use Rattle.edf.specs.Calls.{rest_feed}
use Rattle.edf.specs.Load.{opened_feed}
use Rattle.ledger.specs.Books.{book_plan, book_feed, book_feeds, owing_as}

-- the time since a release, the next release and the deadline are the mathematics' own
pub since_read : (c : Length) (p : Plan) (t : ℕ) → plans.since p t ≡ releases.since (book_plan c p) t
unfolding plans.since releases.since
since_read c p t = refl

pub next_read : (c : Length) (p : Plan) (t : ℕ) → plans.next p t ≡ releases.next (book_plan c p) t
unfolding plans.next
next_read c p t = ap (λ s. t + (p.period.0 - s)) (since_read c p t)

pub due_read : (c : Length) (p : Plan) (t : ℕ) → plans.due p t ≡ releases.due (book_plan c p) t
unfolding plans.due
due_read c p t = ap (λ s. t + p.lead.0 - s) (since_read c p t)

cond_ticks : (a b : Bool) (n : ℕ) (l : Length) → cond a (ticks n) (cond b l (ticks 0)) ≡ ticks (cond a n (cond (not b) 0 l.0))
cond_ticks true b n l = refl
cond_ticks false true n l = refl
cond_ticks false false n l = refl

not_ltb : (m n : ℕ) → not (ltb m n) ≡ leb n m
not_ltb m n = ltb_elim (λ b. not b ≡ leb n m) m n (λ h. sym (lt-leb n m h)) (λ h. sym (le-leb n m h))

-- what the current piece owes at an instant: a piece comes exactly at a release, and gives way at its deadline
then_is : (c : Length) (x : Instant) (k : ℕ) (f : Feed) → owes_then c x f ≡ ticks (turned x.0 (book_feed c k f))
unfolding owes_then turned
then_is c x k f =
    let n = plans.charged c f.plan in
    let l = f.plan.lead.0 in
    ap (λ s. cond (eqb s 0) (ticks n) (cond (ltb s l) f.owes (ticks 0))) (since_read c f.plan x.0)
    ∙ cond_ticks (eqb s 0) (ltb s l) n f.owes
    ∙ ap (λ b. ticks (cond (eqb s 0) n (cond b 0 f.owes.0))) (not_ltb s l)
  where
    s : ℕ
    s = releases.since (book_plan c f.plan) x.0

-- what comes at an instant
pub arrived_turned : (c : Length) (x : Instant) (k : ℕ) (fs : List Feed) → map (arrived c x) fs ≡ owing_as (map (turn_feed x.0) (book_feeds c k fs)) fs
unfolding arrived
arrived_turned c x k [] = refl
arrived_turned c x k (f ∷ fs) = λ i. owing (then_is c x k f i) f ∷ arrived_turned c x (suc k) fs i

cond_same : (b : Bool) (n : ℕ) → cond b n n ≡ n
cond_same true n = refl
cond_same false n = refl

-- the same at an opening, where no piece is there yet
pub arrived_opened : (c : Length) (x : Instant) (k : ℕ) (fs : List Feed) → Each (λ f. f.owes.0 ≡ 0) fs
    → map (arrived c x) fs ≡ owing_as (map (opened_feed x.0) (book_feeds c k fs)) fs
unfolding arrived turned
arrived_opened c x k [] z = refl
arrived_opened c x k (f ∷ fs) z =
    λ i. (ap (λ n. owing n f) (then_is c x k f) ∙ ap (λ n. owing (ticks (cond (eqb s 0) (plans.charged c f.plan) n)) f) none) i
    ∷ arrived_opened c x (suc k) fs z.1 i
  where
    s : ℕ
    s = releases.since (book_plan c f.plan) x.0

    none : cond (leb f.plan.lead.0 s) 0 f.owes.0 ≡ 0
    none = ap (cond (leb f.plan.lead.0 s) 0) z.0 ∙ cond_same (leb f.plan.lead.0 s) 0

-- the current piece of a feed rests
pub rested_read : (c : Length) (p k : ℕ) (fs : List Feed) → rested p k fs ≡ owing_as (map (rest_feed p) (book_feeds c k fs)) fs
rested_read c p k [] = refl
rested_read c p k (f ∷ fs) = ap (owing (ticks (cond (eqb p k) 0 f.owes.0)) f ∷◌) (rested_read c p (suc k) fs)

-- it has one tick less to get
pub served_read : (c : Length) (p k : ℕ) (fs : List Feed) → book_feeds c k (served p k fs) ≡ map (serve_feed (edf.feed p)) (book_feeds c k fs)
unfolding edf.same
served_read c p k [] = refl
served_read c p k (f ∷ fs) = ap (book_feed c k (owing (ticks (f.owes.0 - eq p k)) f) ∷◌) (served_read c p (suc k) fs)
