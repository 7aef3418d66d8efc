-- What is read to its end is the lines of a run.
use mathlib.Core.Path.{◌≡◌, refl, sym, ap, ◌∙◌}
use mathlib.Core.Bool.{Bool, true, false, not, cond, ◌&&◌, ◌||◌}
use mathlib.Core.List.{List, [], ◌∷◌, ◌++◌}
use Prim.Native.Nat.{ℕ, zero, suc, ◌+◌, ◌-◌, ◌≤◌, ◌<◌}
use native.Mathlib.Omega.{arith}
use lib.Dec.{leb, ltb, eqb}
use lib.ListN.{length, replicate, length-append, length-replicate}
use borrow.Author.Tests.{leb-true, ltb-true, eqb-true, not-true, eq-eqb}
use Rattle.lists.specs.Lists.{Each}
use Rattle.lists.proofs.Lists.{each_append}
use Rattle.lists.proofs.Tests.{both, false_not_true}
use Rattle.ticks.specs.Ticks.{last_instant}
use Rattle.feeds.specs.Feeds.{most_feeds}
use Rattle.answers.specs.declared.Who.{Who}
use Rattle.answers.specs.declared.Who.TheVariants.{Job, Feed, Idle}
use Rattle.waveform.specs.declared.Token.{Token}
use Rattle.waveform.specs.declared.Token.TheVariants as token
use Rattle.waveform.specs.declared.State.{State}
use Rattle.waveform.specs.declared.State.TheVariants.{Heading, Opened, Jobbed, Going, Marked, Halfway, Dead}
use Rattle.waveform.specs.Runs.{most_number, head_count, heads_from, job_wire, feed_wire, Nameable, changed_by, changes, body, told, Run}
use Rattle.waveform.specs.Reading.{alone, who_by, ran, after_going, after_marked, after_halfway, come, done, Writable}

-- no text goes on from where none begins so
pub dead_stays : (xs : List Token) → come Dead xs ≡ Dead
unfolding come
dead_stays [] = refl
dead_stays (x ∷ xs) = dead_stays xs

-- where a test has to pass for the text to end well, it does
passing : (b : Bool) (s : State) (xs : List Token) → done (come (cond b s Dead) xs) ≡ true → (b ≡ true) × (done (come s xs) ≡ true)
passing true s xs e = (refl, e)
passing false s xs e = absurd (false_not_true (sym (ap done (dead_stays xs)) ∙ e))

never : {A : Type 0} (xs : List Token) → done (come Dead xs) ≡ true → A
never xs e = absurd (false_not_true (sym (ap done (dead_stays xs)) ∙ e))

-- who runs by two values has them
module _ (j f : ℕ) (a : alone j f ≡ true) where
  who_job : job_wire (who_by j f) ≡ j
  who_job = go (eqb j 0) refl (eqb f 0) refl
    where
      go : (x : Bool) → eqb j 0 ≡ x → (y : Bool) → eqb f 0 ≡ y → job_wire (cond x (cond y Idle (Feed f)) (Job j)) ≡ j
      go true e true h = sym (eqb-true j 0 e)
      go true e false h = sym (eqb-true j 0 e)
      go false e y h = refl

  who_feed : feed_wire (who_by j f) ≡ f
  who_feed = go (eqb j 0) refl (eqb f 0) refl
    where
      go : (x : Bool) → eqb j 0 ≡ x → (y : Bool) → eqb f 0 ≡ y → feed_wire (cond x (cond y Idle (Feed f)) (Job j)) ≡ f
      go true e true h = sym (eqb-true f 0 h)
      go true e false h = refl
      go false e true h = sym (eqb-true f 0 h)
      go false e false h = absurd (false_not_true (sym (λ i. e i || h i) ∙ a))

  who_nameable : j ≤ most_number → f ≤ most_feeds → Nameable (who_by j f)
  who_nameable l m = go (eqb j 0) refl (eqb f 0) refl
    where
      some : (n : ℕ) → eqb n 0 ≡ false → 1 ≤ n
      some zero e = absurd (false_not_true (sym e))
      some (suc n) e = omega arith

      go : (x : Bool) → eqb j 0 ≡ x → (y : Bool) → eqb f 0 ≡ y → Nameable (cond x (cond y Idle (Feed f)) (Job j))
      go true e true h = tt
      go true e false h = (some f h, m)
      go false e y h = (some j e, l)

-- what lines tell from the instant u on, where the tick before went to w
pub record Tells (u : ℕ) (w : Who) (xs : List Token) : Type 0 where
  pub names : List Who
  pub lines : xs ≡ changes u w names
  pub each : Each Nameable names
  pub within : u + length names ≤ last_instant

-- ticks that go to the same one are not told
same_skipped : (u k : ℕ) (w : Who) (ws : List Who) → changes u w (replicate k w ++ ws) ≡ changes (u + k) w ws
unfolding changes
same_skipped u zero w ws = ap (λ n. changes n w ws) (omega arith)
same_skipped u (suc k) w ws =
    (λ i. changed_by (eq-eqb (job_wire w) (job_wire w) refl i) (eq-eqb (feed_wire w) (feed_wire w) refl i) u w ++ changes (suc u) w (replicate k w ++ ws))
    ∙ same_skipped (suc u) k w ws
    ∙ ap (λ n. changes n w ws) (omega arith)

each_same : (k : ℕ) (w : Who) → Nameable w → Each Nameable (replicate k w)
each_same zero w h = tt
each_same (suc k) w h = (h, each_same k w h)

sooner : (u v : ℕ) (w : Who) (xs : List Token) → u ≤ v → Nameable w → Tells v w xs → Tells u w xs
sooner u v w xs h n t =
    let k = v - u in
    let there : u + k ≡ v = omega (arith, h) in
    record {
      names = replicate k w ++ t.names;
      lines = t.lines ∙ ap (λ m. changes m w t.names) (sym there) ∙ sym (same_skipped u k w t.names);
      each = each_append Nameable (replicate k w) t.names (each_same k w n) t.each;
      within = omega (arith, length-append (replicate k w) t.names, length-replicate k w, t.within, there);
    }

-- one more tick, to another
module _ (u : ℕ) (w v : Who) (n : Nameable v) (xs : List Token) (t : Tells (suc u) v xs) where
  with_change : (ys : List Token) (x y : Bool) → eqb (job_wire v) (job_wire w) ≡ x → eqb (feed_wire v) (feed_wire w) ≡ y → ys ≡ changed_by x y u v ++ xs → Tells u w ys
  unfolding changes
  with_change ys x y a b e =
      record {
        names = v ∷ t.names;
        lines = e ∙ (λ i. changed_by (sym a i) (sym b i) u v ++ t.lines i);
        each = (n, t.each);
        within = omega (arith, t.within);
      }

-- values that a stretch may have
pub record Values (j f : ℕ) : Type 0 where
  pub one : alone j f ≡ true
  pub job : j ≤ most_number
  pub feed : f ≤ most_feeds

named : (j f : ℕ) → Values j f → Nameable (who_by j f)
named j f v = who_nameable j f v.one v.job v.feed

-- WHAT IS READ FROM EACH STATE ON, and ends well
record FromHere (xs : List Token) : Type 0 where
  going : (t j f : ℕ) → Values j f → t < last_instant → done (come (Going t j f) xs) ≡ true → Each Writable xs → Tells (suc t) (who_by j f) xs
  marked : (u j f : ℕ) → Values j f → u ≤ last_instant → done (come (Marked u j f) xs) ≡ true → Each Writable xs → Tells u (who_by j f) (token.Mark u ∷ xs)
  halfway : (u j f i : ℕ) → Values j f → i ≤ most_number → eqb i j ≡ false → u < last_instant → done (come (Halfway u i f) xs) ≡ true → Each Writable xs
      → Tells u (who_by j f) (token.Mark u ∷ token.Job i ∷ xs)

-- a stretch that begins: its values are some that it may have
began : (t j f : ℕ) (xs : List Token) → j ≤ most_number → done (come (ran t j f) xs) ≡ true → Values j f × (done (come (Going t j f) xs) ≡ true)
began t j f xs l e =
    let p = passing (alone j f && leb f most_feeds) (Going t j f) xs e in
    let b = both (alone j f) (leb f most_feeds) p.0 in
    (record { one = b.0; job = l; feed = leb-true _ _ b.1 }, p.1)

-- a mark that goes on
mark_on : (t u j f : ℕ) (xs : List Token) → done (come (after_going t j f (token.Mark u)) xs) ≡ true → (t < u) × (u ≤ last_instant) × (done (come (Marked u j f) xs) ≡ true)
mark_on t u j f xs e =
    let p = passing (ltb t u && leb u last_instant) (Marked u j f) xs e in
    let b = both (ltb t u) (leb u last_instant) p.0 in
    (ltb-true _ _ b.0, leb-true _ _ b.1, p.1)

module _ (j f i g : ℕ) (v : Values j f) (w : Values i g) where
  -- the values of two who run, compared
  jobs_compared : (x : Bool) → eqb i j ≡ x → eqb (job_wire (who_by i g)) (job_wire (who_by j f)) ≡ x
  jobs_compared x e = (λ k. eqb (who_job i g w.one k) (who_job j f v.one k)) ∙ e

  feeds_compared : (x : Bool) → eqb g f ≡ x → eqb (feed_wire (who_by i g)) (feed_wire (who_by j f)) ≡ x
  feeds_compared x e = (λ k. eqb (who_feed i g w.one k) (who_feed j f v.one k)) ∙ e

nothing_left : FromHere []
unfolding come changes
nothing_left =
    record {
      going = λ t j f v l e w. absurd (false_not_true e);
      marked = λ u j f v l e w. record { names = []; lines = refl; each = tt; within = omega (arith, l) };
      halfway = λ u j f i v l n m e w. absurd (false_not_true e);
    }

module _ (x : Token) (xs : List Token) (rest : FromHere xs) where
  -- on from a stretch
  going_on : (k : Token) (t j f : ℕ) → Values j f → done (come (after_going t j f k) xs) ≡ true → Each Writable xs → Tells (suc t) (who_by j f) (k ∷ xs)
  going_on (token.Head i) t j f v e w = never xs e
  going_on (token.Mark u) t j f v e w =
      let p = mark_on t u j f xs e in
      sooner (suc t) u (who_by j f) (token.Mark u ∷ xs) p.0 (named j f v) (rest.marked u j f v p.1 p.2 w)
  going_on (token.Job i) t j f v e w = never xs e
  going_on (token.Feed g) t j f v e w = never xs e
  going_on token.Other t j f v e w = never xs e

  -- on from a mark
  marked_on : (k : Token) (u j f : ℕ) → Values j f → Writable k → done (come (after_marked u j f k) xs) ≡ true → Each Writable xs → Tells u (who_by j f) (token.Mark u ∷ k ∷ xs)
  marked_on (token.Head i) u j f v q e w = never xs e
  marked_on (token.Mark t) u j f v q e w = never xs e
  marked_on (token.Job i) u j f v q e w =
      let p = passing (ltb u last_instant && not (eqb i j)) (Halfway u i f) xs e in
      let b = both (ltb u last_instant) (not (eqb i j)) p.0 in
      rest.halfway u j f i v q (not-true _ b.1) (ltb-true _ _ b.0) p.1 w
  marked_on (token.Feed g) u j f v q e w =
      let a = passing (ltb u last_instant) (cond (not (eqb g f)) (ran u j g) Dead) xs e in
      let p = passing (not (eqb g f)) (ran u j g) xs a.1 in
      let r = began u j g xs v.job p.1 in
      with_change u (who_by j f) (who_by j g) (named j g r.0) xs (rest.going u j g r.0 (ltb-true _ _ a.0) r.1 w) (token.Mark u ∷ token.Feed g ∷ xs) true false
      (jobs_compared j f j g v r.0 true (eq-eqb j j refl))
      (feeds_compared j f j g v r.0 false (not-true _ p.0))
      (ap (λ n. token.Mark u ∷ token.Feed n ∷ xs) (sym (who_feed j g r.0.one)))
  marked_on token.Other u j f v q e w = never xs e

  -- on from halfway
  halfway_on : (k : Token) (u j f i : ℕ) → Values j f → i ≤ most_number → eqb i j ≡ false → u < last_instant → done (come (after_halfway u i f k) xs) ≡ true → Each Writable xs
      → Tells u (who_by j f) (token.Mark u ∷ token.Job i ∷ k ∷ xs)
  halfway_on (token.Head n) u j f i v q d l e w = never xs e
  halfway_on (token.Mark t) u j f i v q d l e w =
      let p = passing (alone i f) (after_going u i f (token.Mark t)) xs e in
      let r : Values i f = record { one = p.0; job = q; feed = v.feed } in
      with_change u (who_by j f) (who_by i f) (named i f r) (token.Mark t ∷ xs) (going_on (token.Mark t) u i f r p.1 w) (token.Mark u ∷ token.Job i ∷ token.Mark t ∷ xs) false true
      (jobs_compared j f i f v r false d)
      (feeds_compared j f i f v r true (eq-eqb f f refl))
      (ap (λ n. token.Mark u ∷ token.Job n ∷ token.Mark t ∷ xs) (sym (who_job i f r.one)))
  halfway_on (token.Job n) u j f i v q d l e w = never xs e
  halfway_on (token.Feed g) u j f i v q d l e w =
      let p = passing (not (eqb g f)) (ran u i g) xs e in
      let r = began u i g xs q p.1 in
      with_change u (who_by j f) (who_by i g) (named i g r.0) xs (rest.going u i g r.0 l r.1 w) (token.Mark u ∷ token.Job i ∷ token.Feed g ∷ xs) false false
      (jobs_compared j f i g v r.0 false d)
      (feeds_compared j f i g v r.0 false (not-true _ p.0))
      (λ k. token.Mark u ∷ token.Job (sym (who_job i g r.0.one) k) ∷ token.Feed (sym (who_feed i g r.0.one) k) ∷ xs)
  halfway_on token.Other u j f i v q d l e w = never xs e

  one_more : FromHere (x ∷ xs)
  unfolding come
  one_more =
      record {
        going = λ t j f v l e w. going_on x t j f v e w.1;
        marked = λ u j f v l e w. marked_on x u j f v w.0 e w.1;
        halfway = λ u j f i v q d l e w. halfway_on x u j f i v q d l e w.1;
      }

from_here : (xs : List Token) → FromHere xs
from_here [] = nothing_left
from_here (x ∷ xs) = one_more x xs (from_here xs)

-- after the first mark
pub record TellsRun (t : ℕ) (xs : List Token) : Type 0 where
  pub names : List Who
  pub lines : xs ≡ body t names
  pub run : Run t names

opened_on : (t : ℕ) (xs : List Token) → t ≤ last_instant → done (come (Opened t) xs) ≡ true → Each Writable xs → TellsRun t xs
unfolding come body
opened_on t [] l e w = record { names = []; lines = refl; run = record { names = tt; within = omega (arith, l) } }
opened_on t (token.Head i ∷ xs) l e w = never xs e
opened_on t (token.Mark u ∷ xs) l e w = never xs e
opened_on t (token.Feed f ∷ xs) l e w = never xs e
opened_on t (token.Other ∷ xs) l e w = never xs e
opened_on t (token.Job j ∷ []) l e w = absurd (false_not_true (passing (ltb t last_instant) (Jobbed t j) [] e).1)
opened_on t (token.Job j ∷ (token.Head i ∷ xs)) l e w = never xs (passing (ltb t last_instant) (Jobbed t j) (token.Head i ∷ xs) e).1
opened_on t (token.Job j ∷ (token.Mark u ∷ xs)) l e w = never xs (passing (ltb t last_instant) (Jobbed t j) (token.Mark u ∷ xs) e).1
opened_on t (token.Job j ∷ (token.Job i ∷ xs)) l e w = never xs (passing (ltb t last_instant) (Jobbed t j) (token.Job i ∷ xs) e).1
opened_on t (token.Job j ∷ (token.Other ∷ xs)) l e w = never xs (passing (ltb t last_instant) (Jobbed t j) (token.Other ∷ xs) e).1
opened_on t (token.Job j ∷ (token.Feed f ∷ xs)) l e w =
    let p = passing (ltb t last_instant) (Jobbed t j) (token.Feed f ∷ xs) e in
    let r = began t j f xs w.0 p.1 in
    let s = (from_here xs).going t j f r.0 (ltb-true _ _ p.0) r.1 w.1.1 in
    record {
      names = who_by j f ∷ s.names;
      lines = λ k. token.Job (sym (who_job j f r.0.one) k) ∷ token.Feed (sym (who_feed j f r.0.one) k) ∷ s.lines k;
      run = record { names = (named j f r.0, s.each); within = omega (arith, s.within) };
    }

-- THE LINES IN FRONT, and then a run
pub record TellsAll (m k : ℕ) (xs : List Token) : Type 0 where
  pub start : ℕ
  pub names : List Who
  pub lines : xs ≡ heads_from m k ++ (token.Mark start ∷ body start names)
  pub run : Run start names

heading_on : (xs : List Token) (m k : ℕ) → k + m ≡ head_count → done (come (Heading k) xs) ≡ true → Each Writable xs → TellsAll m k xs
unfolding come heads_from
heading_on [] m k h e w = absurd (false_not_true e)
heading_on (token.Head i ∷ xs) m k h e w = go m h (passing (eqb i k && ltb k head_count) (Heading (suc k)) xs e) (λ n l c. heading_on xs n (suc k) l c w.1)
  where
    go : (n : ℕ) → k + n ≡ head_count → (eqb i k && ltb k head_count ≡ true) × (done (come (Heading (suc k)) xs) ≡ true)
        → ((n : ℕ) → suc k + n ≡ head_count → done (come (Heading (suc k)) xs) ≡ true → TellsAll n (suc k) xs) → TellsAll n k (token.Head i ∷ xs)
    go zero l p ih = absurd (omega (arith, l, ltb-true k head_count (both (eqb i k) (ltb k head_count) p.0).1))
    go (suc n) l p ih =
        let t = ih n (omega (arith, l)) p.1 in
        let same = eqb-true i k (both (eqb i k) (ltb k head_count) p.0).0 in
        record { start = t.start; names = t.names; lines = λ c. token.Head (same c) ∷ t.lines c; run = t.run }
heading_on (token.Mark t ∷ xs) m k h e w =
    let p = passing (eqb k head_count && leb t last_instant) (Opened t) xs e in
    let b = both (eqb k head_count) (leb t last_instant) p.0 in
    let s = opened_on t xs (leb-true _ _ b.1) p.1 w.1 in
    let none : m ≡ 0 = omega (arith, h, eqb-true k head_count b.0) in
    record {
      start = t;
      names = s.names;
      lines = ap (token.Mark t ∷◌) s.lines ∙ ap (λ n. heads_from n k ++ (token.Mark t ∷ body t s.names)) (sym none);
      run = s.run;
    }
heading_on (token.Job j ∷ xs) m k h e w = never xs e
heading_on (token.Feed f ∷ xs) m k h e w = never xs e
heading_on (token.Other ∷ xs) m k h e w = never xs e

-- WHAT IS READ TO ITS END IS THE LINES OF A RUN
pub read_told : (xs : List Token) → done (come (Heading 0) xs) ≡ true → Each Writable xs → (t : ℕ) × (ws : List Who) × (xs ≡ told t ws) × Run t ws
unfolding told
read_told xs e w = let r = heading_on xs head_count 0 refl e w in (r.start, r.names, r.lines, r.run)
