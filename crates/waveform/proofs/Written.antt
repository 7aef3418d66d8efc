-- What was written is read to its end.
use mathlib.Core.Path.{◌≡◌, refl, sym, ap, ◌∙◌}
use mathlib.Core.Bool.{Bool, true, false, not, cond, ◌||◌}
use mathlib.Core.List.{List, [], ◌∷◌, ◌++◌}
use Prim.Native.Nat.{ℕ, suc, ◌+◌, ◌≤◌, ◌<◌}
use native.Mathlib.Omega.{arith}
use lib.Dec.{leb, ltb, eqb}
use lib.ListN.{length}
use borrow.Author.Tests.{le-leb, lt-ltb, eqb-true}
use Rattle.lists.specs.Lists.{Each}
use Rattle.lists.proofs.Tests.{both_made}
use Rattle.ticks.specs.Ticks.{last_instant}
use Rattle.feeds.specs.Feeds.{most_feeds}
use Rattle.answers.specs.declared.Who.{Who}
use Rattle.answers.specs.declared.Who.TheVariants.{Job, Feed, Idle}
use Rattle.waveform.specs.declared.Token.{Token}
use Rattle.waveform.specs.declared.Token.TheVariants as token
use Rattle.waveform.specs.declared.State.{State}
use Rattle.waveform.specs.declared.State.TheVariants.{Heading, Opened, Going, Marked, Halfway}
use Rattle.waveform.specs.Runs.{heads_from, job_wire, feed_wire, Nameable, changed_by, changes, body, told, Run}
use Rattle.waveform.specs.Reading.{alone, ran, after_going, next, come, done}

-- a test that passes
pub passed : {A : Type 0} (b : Bool) (x y : A) → b ≡ true → cond b x y ≡ x
passed b x y e = ap (λ c. cond c x y) e

pub come_append : (s : State) (xs ys : List Token) → come s (xs ++ ys) ≡ come (come s xs) ys
unfolding come
come_append s [] ys = refl
come_append s (x ∷ xs) ys = come_append (next s x) xs ys

-- a job and a feed never run in one tick
pub wires_alone : (w : Who) → alone (job_wire w) (feed_wire w) ≡ true
wires_alone (Job n) = or-true (eqb n 0)
  where
    or-true : (b : Bool) → b || true ≡ true
    or-true true = refl
    or-true false = refl
wires_alone (Feed p) = refl
wires_alone Idle = refl

pub wire_low : (w : Who) → Nameable w → feed_wire w ≤ most_feeds
wire_low (Job n) h = omega arith
wire_low (Feed p) h = h.1
wire_low Idle h = omega arith

-- a stretch begins with whom a tick may go to
pub runs : (t : ℕ) (w : Who) → Nameable w → ran t (job_wire w) (feed_wire w) ≡ Going t (job_wire w) (feed_wire w)
runs t w h = passed _ _ _ (both_made _ _ (wires_alone w) (le-leb _ _ (wire_low w h)))

-- whoever runs at the end
abbrev pub last_of : Who → List Who → Who
last_of w [] = w
last_of w (v ∷ vs) = last_of v vs

-- halfway through a change where nothing more has to follow, it goes on as after it
halfway : (t u j f : ℕ) (w : Who) (vs : List Who) → alone j f ≡ true → come (Halfway t j f) (changes u w vs) ≡ come (Going t j f) (changes u w vs)
unfolding come changes
halfway t u j f w [] a = passed _ _ _ a
halfway t u j f w (v ∷ vs) a = go (eqb (job_wire v) (job_wire w)) (eqb (feed_wire v) (feed_wire w)) (halfway t (suc u) j f v vs a)
  where
    go : (x y : Bool) → come (Halfway t j f) (changes (suc u) v vs) ≡ come (Going t j f) (changes (suc u) v vs)
        → come (Halfway t j f) (changed_by x y u v ++ changes (suc u) v vs) ≡ come (Going t j f) (changed_by x y u v ++ changes (suc u) v vs)
    go true true ih = ih
    go true false ih = ap (λ s. come s (token.Feed (feed_wire v) ∷ changes (suc u) v vs)) (passed _ _ _ a)
    go false true ih = ap (λ s. come s (token.Job (job_wire v) ∷ changes (suc u) v vs)) (passed _ _ _ a)
    go false false ih = ap (λ s. come s (token.Job (job_wire v) ∷ token.Feed (feed_wire v) ∷ changes (suc u) v vs)) (passed _ _ _ a)

-- a mark that goes on
pub marks : (t u j f : ℕ) → t < u → u ≤ last_instant → after_going t j f (token.Mark u) ≡ Marked u j f
marks t u j f h k = passed _ _ _ (both_made _ _ (lt-ltb _ _ h) (le-leb _ _ k))

-- FROM A STRETCH ON
pub stretches_read : (t u : ℕ) (w : Who) (vs : List Who) → t < u → u + length vs ≤ last_instant → Each Nameable vs
    → come (Going t (job_wire w) (feed_wire w)) (changes u w vs) ≡ Marked (u + length vs) (job_wire (last_of w vs)) (feed_wire (last_of w vs))
unfolding come changes
stretches_read t u w [] h k n = marks t u (job_wire w) (feed_wire w) h (omega (arith, k)) ∙ ap (λ m. Marked m (job_wire w) (feed_wire w)) (omega arith)
stretches_read t u w (v ∷ vs) h k n =
    go (λ s l. stretches_read s (suc u) v vs l (omega (arith, k)) n.1) (eqb (job_wire v) (job_wire w)) refl (eqb (feed_wire v) (feed_wire w)) refl
  where
    -- from a stretch of v on
    On : Type 0
    On = (s : ℕ) → s < suc u → come (Going s (job_wire v) (feed_wire v)) (changes (suc u) v vs) ≡ Marked (suc u + length vs) (job_wire (last_of v vs)) (feed_wire (last_of v vs))

    later : Marked (suc u + length vs) (job_wire (last_of v vs)) (feed_wire (last_of v vs)) ≡ Marked (u + suc (length vs)) (job_wire (last_of v vs)) (feed_wire (last_of v vs))
    later = ap (λ m. Marked m (job_wire (last_of v vs)) (feed_wire (last_of v vs))) (omega arith)

    marked : (xs : List Token) → come (Going t (job_wire w) (feed_wire w)) (token.Mark u ∷ xs) ≡ come (Marked u (job_wire w) (feed_wire w)) xs
    marked xs = ap (λ s. come s xs) (marks t u (job_wire w) (feed_wire w) h (omega (arith, k)))

    before : ltb u last_instant ≡ true
    before = lt-ltb u last_instant (omega (arith, k))

    go : On → (x : Bool) → eqb (job_wire v) (job_wire w) ≡ x → (y : Bool) → eqb (feed_wire v) (feed_wire w) ≡ y
        → come (Going t (job_wire w) (feed_wire w)) (changed_by x y u v ++ changes (suc u) v vs)
        ≡ Marked (u + suc (length vs)) (job_wire (last_of v vs)) (feed_wire (last_of v vs))
    go on true a true b =
        (λ i. come (Going t (sym (eqb-true (job_wire v) (job_wire w) a) i) (sym (eqb-true (feed_wire v) (feed_wire w) b) i)) (changes (suc u) v vs)) ∙ on t (omega (arith, h))
        ∙ later
    go on true a false b =
        marked (token.Feed (feed_wire v) ∷ changes (suc u) v vs)
        ∙ ap (λ s. come s (changes (suc u) v vs)) (passed _ _ _ before ∙ passed _ _ _ (ap not b) ∙ ap (λ i. ran u i (feed_wire v)) (sym (eqb-true (job_wire v) (job_wire w) a)) ∙ runs u v n.0)
        ∙ on u (omega arith)
        ∙ later
    go on false a true b =
        marked (token.Job (job_wire v) ∷ changes (suc u) v vs)
        ∙ ap (λ s. come s (changes (suc u) v vs)) (passed _ _ _ (both_made _ _ before (ap not a)) ∙ ap (Halfway u (job_wire v)) (sym (eqb-true (feed_wire v) (feed_wire w) b)))
        ∙ halfway u (suc u) (job_wire v) (feed_wire v) v vs (wires_alone v)
        ∙ on u (omega arith)
        ∙ later
    go on false a false b =
        marked (token.Job (job_wire v) ∷ token.Feed (feed_wire v) ∷ changes (suc u) v vs)
        ∙ ap (λ s. come s (token.Feed (feed_wire v) ∷ changes (suc u) v vs)) (passed _ _ _ (both_made _ _ before (ap not a)))
        ∙ ap (λ s. come s (changes (suc u) v vs)) (passed _ _ _ (ap not b) ∙ runs u v n.0)
        ∙ on u (omega arith)
        ∙ later

-- what is read of a run
abbrev pub end_of : ℕ → List Who → State
end_of t [] = Opened t
end_of t (w ∷ ws) = Marked (suc t + length ws) (job_wire (last_of w ws)) (feed_wire (last_of w ws))

-- THE LINES OF A RUN ARE READ TO ITS END
pub told_read : (t : ℕ) (ws : List Who) → Run t ws → come (Heading 0) (told t ws) ≡ end_of t ws
unfolding come told heads_from body
told_read t [] r = passed _ _ _ (both_made true (leb t last_instant) refl (le-leb t last_instant (omega (arith, r.within))))
told_read t (w ∷ ws) r =
    ap (λ s. come s (token.Job (job_wire w) ∷ token.Feed (feed_wire w) ∷ changes (suc t) w ws)) (passed _ _ _ (both_made true (leb t last_instant) refl (le-leb t last_instant (omega (arith, r.within)))))
    ∙ ap (λ s. come s (token.Feed (feed_wire w) ∷ changes (suc t) w ws)) (passed _ _ _ (lt-ltb t last_instant (omega (arith, r.within))))
    ∙ ap (λ s. come s (changes (suc t) w ws)) (runs t w r.names.0)
    ∙ stretches_read t (suc t) w ws (omega arith) (omega (arith, r.within)) r.names.1

-- which is where a text may end
pub ends_done : (t : ℕ) (ws : List Who) → done (end_of t ws) ≡ true
ends_done t [] = refl
ends_done t (w ∷ ws) = refl
