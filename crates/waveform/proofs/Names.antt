-- Reading a run gives its names: whom each of its ticks went to.
use mathlib.Core.Path.{◌≡◌, refl, sym, ap, ◌∙◌}
use mathlib.Core.Bool.{Bool, true, false, not, cond}
use mathlib.Core.List.{List, [], ◌∷◌, ◌++◌}
use Prim.Native.Nat.{ℕ, zero, suc, ◌+◌, ◌-◌, ◌≤◌, ◌<◌}
use native.Mathlib.Omega.{arith}
use lib.Dec.{leb, ltb, eqb}
use lib.ListN.{length, replicate}
use borrow.Author.Tests.{le-leb, lt-ltb, eqb-true, ne_eqb}
use Rattle.lists.specs.Lists.{Each}
use Rattle.lists.proofs.Tests.{both_made}
use Rattle.ticks.specs.Ticks.{last_instant}
use Rattle.answers.specs.declared.Who.{Who}
use Rattle.answers.specs.declared.Who.TheVariants.{Job, Feed, Idle}
use Rattle.waveform.specs.declared.Token.{Token}
use Rattle.waveform.specs.declared.Token.TheVariants as token
use Rattle.waveform.specs.declared.State.TheVariants.{Heading, Going, Marked, Halfway, Dead}
use Rattle.waveform.specs.Runs.{heads_from, job_wire, feed_wire, Nameable, changed_by, changes, body, told, Run}
use Rattle.waveform.specs.Reading.{alone, who_by, ran, goes_to}
use Rattle.waveform.specs.Stretches.{stretch, stretches, spread}
use Rattle.waveform.proofs.Written.{wires_alone, runs, marks, passed}

-- whom a tick may go to is told by its values
who_back : (w : Who) → Nameable w → who_by (job_wire w) (feed_wire w) ≡ w
who_back (Job n) h = ap (λ b. cond b (cond true Idle (Feed 0)) (Job n)) (ne_eqb n 0 (λ e. omega (arith, e, h.0)))
who_back (Feed p) h = ap (λ b. cond b Idle (Feed p)) (ne_eqb p 0 (λ e. omega (arith, e, h.0)))
who_back Idle h = refl

-- a stretch and one tick more
one_more : (t u : ℕ) (w : Who) (ws : List Who) → t < u → replicate (suc u - t) w ++ ws ≡ replicate (u - t) w ++ (w ∷ ws)
one_more t u w ws h = ap (λ n. replicate n w ++ ws) there ∙ grow (u - t) ws
  where
    there : suc u - t ≡ suc (u - t)
    there = omega (arith, h)

    grow : (n : ℕ) (xs : List Who) → replicate (suc n) w ++ xs ≡ replicate n w ++ (w ∷ xs)
    grow zero xs = refl
    grow (suc n) xs = ap (w ∷◌) (grow n xs)

-- one tick alone
a_tick : (u : ℕ) (v : Who) (ws : List Who) → replicate (suc u - u) v ++ ws ≡ v ∷ ws
a_tick u v ws = let one : suc u - u ≡ 1 = omega arith in ap (λ n. replicate n v ++ ws) one

-- halfway through a change where nothing more has to follow, it goes on as after it
halfway_same : (t u j f : ℕ) (w : Who) (vs : List Who) → alone j f ≡ true → spread (stretches (Halfway t j f) (changes u w vs)) ≡ spread (stretches (Going t j f) (changes u w vs))
unfolding stretches changes
halfway_same t u j f w [] a = refl
halfway_same t u j f w (v ∷ vs) a = go (eqb (job_wire v) (job_wire w)) (eqb (feed_wire v) (feed_wire w)) (halfway_same t (suc u) j f v vs a)
  where
    go : (x y : Bool) → spread (stretches (Halfway t j f) (changes (suc u) v vs)) ≡ spread (stretches (Going t j f) (changes (suc u) v vs))
        → spread (stretches (Halfway t j f) (changed_by x y u v ++ changes (suc u) v vs)) ≡ spread (stretches (Going t j f) (changed_by x y u v ++ changes (suc u) v vs))
    go true true ih = ih
    go true false ih = ap (λ s. spread (stretch t u (who_by j f) ∷ stretches s (token.Feed (feed_wire v) ∷ changes (suc u) v vs))) (passed (alone j f) (goes_to t j f u) Dead a)
    go false true ih = ap (λ s. spread (stretch t u (who_by j f) ∷ stretches s (token.Job (job_wire v) ∷ changes (suc u) v vs))) (passed (alone j f) (goes_to t j f u) Dead a)
    go false false ih = ap (λ s. spread (stretch t u (who_by j f) ∷ stretches s (token.Job (job_wire v) ∷ token.Feed (feed_wire v) ∷ changes (suc u) v vs))) (passed (alone j f) (goes_to t j f u) Dead a)

-- FROM A STRETCH ON: its ticks, and then the others
pub stretches_names : (t u : ℕ) (w : Who) (vs : List Who) → t < u → u + length vs ≤ last_instant → Nameable w → Each Nameable vs
    → spread (stretches (Going t (job_wire w) (feed_wire w)) (changes u w vs)) ≡ replicate (u - t) w ++ vs
unfolding stretches changes spread
stretches_names t u w [] h k m n =
    ap (λ s. replicate (u - t) (who_by (job_wire w) (feed_wire w)) ++ spread (stretches s [])) (marks t u (job_wire w) (feed_wire w) h (omega (arith, k)))
    ∙ ap (λ v. replicate (u - t) v ++ []) (who_back w m)
stretches_names t u w (v ∷ vs) h k m n =
    go (λ s l. stretches_names s (suc u) v vs l (omega (arith, k)) n.0 n.1) (eqb (job_wire v) (job_wire w)) refl (eqb (feed_wire v) (feed_wire w)) refl
  where
    On : Type 0
    On = (s : ℕ) → s < suc u → spread (stretches (Going s (job_wire v) (feed_wire v)) (changes (suc u) v vs)) ≡ replicate (suc u - s) v ++ vs

    -- the mark ends w's stretch
    marked : (xs : List Token) → spread (stretches (Going t (job_wire w) (feed_wire w)) (token.Mark u ∷ xs)) ≡ replicate (u - t) w ++ spread (stretches (Marked u (job_wire w) (feed_wire w)) xs)
    marked xs =
        ap (λ s. replicate (u - t) (who_by (job_wire w) (feed_wire w)) ++ spread (stretches s xs)) (marks t u (job_wire w) (feed_wire w) h (omega (arith, k)))
        ∙ ap (λ x. replicate (u - t) x ++ spread (stretches (Marked u (job_wire w) (feed_wire w)) xs)) (who_back w m)

    before : ltb u last_instant ≡ true
    before = lt-ltb u last_instant (omega (arith, k))

    then : On → spread (stretches (Going u (job_wire v) (feed_wire v)) (changes (suc u) v vs)) ≡ v ∷ vs
    then on = on u (omega arith) ∙ a_tick u v vs

    go : On → (x : Bool) → eqb (job_wire v) (job_wire w) ≡ x → (y : Bool) → eqb (feed_wire v) (feed_wire w) ≡ y
        → spread (stretches (Going t (job_wire w) (feed_wire w)) (changed_by x y u v ++ changes (suc u) v vs)) ≡ replicate (u - t) w ++ (v ∷ vs)
    go on true a true b =
        let same : w ≡ v = sym (who_back w m) ∙ (λ i. who_by (sym (eqb-true (job_wire v) (job_wire w) a) i) (sym (eqb-true (feed_wire v) (feed_wire w) b) i)) ∙ who_back v n.0 in
        (λ i. spread (stretches (Going t (sym (eqb-true (job_wire v) (job_wire w) a) i) (sym (eqb-true (feed_wire v) (feed_wire w) b) i)) (changes (suc u) v vs)))
        ∙ on t (omega (arith, h))
        ∙ one_more t u v vs h
        ∙ ap (λ x. replicate (u - t) x ++ (v ∷ vs)) (sym same)
    go on true a false b =
        marked (token.Feed (feed_wire v) ∷ changes (suc u) v vs)
        ∙ ap (λ s. replicate (u - t) w ++ spread (stretches s (changes (suc u) v vs)))
        (passed _ _ _ before ∙ passed _ _ _ (ap not b) ∙ ap (λ i. ran u i (feed_wire v)) (sym (eqb-true (job_wire v) (job_wire w) a)) ∙ runs u v n.0)
        ∙ ap (replicate (u - t) w ++◌) (then on)
    go on false a true b =
        marked (token.Job (job_wire v) ∷ changes (suc u) v vs)
        ∙ ap (λ s. replicate (u - t) w ++ spread (stretches s (changes (suc u) v vs)))
        (passed _ _ _ (both_made _ _ before (ap not a)) ∙ ap (Halfway u (job_wire v)) (sym (eqb-true (feed_wire v) (feed_wire w) b)))
        ∙ ap (replicate (u - t) w ++◌) (halfway_same u (suc u) (job_wire v) (feed_wire v) v vs (wires_alone v) ∙ then on)
    go on false a false b =
        marked (token.Job (job_wire v) ∷ token.Feed (feed_wire v) ∷ changes (suc u) v vs)
        ∙ ap (λ s. replicate (u - t) w ++ spread (stretches s (token.Feed (feed_wire v) ∷ changes (suc u) v vs))) (passed _ _ _ (both_made _ _ before (ap not a)))
        ∙ ap (λ s. replicate (u - t) w ++ spread (stretches s (changes (suc u) v vs))) (passed _ _ _ (ap not b) ∙ runs u v n.0)
        ∙ ap (replicate (u - t) w ++◌) (then on)

-- READING A RUN GIVES ITS NAMES
pub told_names : (t : ℕ) (ws : List Who) → Run t ws → spread (stretches (Heading 0) (told t ws)) ≡ ws
unfolding stretches told heads_from body spread
told_names t [] r = refl
told_names t (w ∷ ws) r =
    ap (λ s. spread (stretches s (token.Job (job_wire w) ∷ token.Feed (feed_wire w) ∷ changes (suc t) w ws))) (passed _ _ _ (both_made true (leb t last_instant) refl (le-leb t last_instant (omega (arith, r.within)))))
    ∙ ap (λ s. spread (stretches s (token.Feed (feed_wire w) ∷ changes (suc t) w ws))) (passed _ _ _ (lt-ltb t last_instant (omega (arith, r.within))))
    ∙ ap (λ s. spread (stretches s (changes (suc t) w ws))) (runs t w r.names.0)
    ∙ stretches_names t (suc t) w ws (omega arith) (omega (arith, r.within)) r.names.0 r.names.1
    ∙ a_tick t w ws
