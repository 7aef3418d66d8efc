-- Wherever a text can go on, some run's lines begin so.
use mathlib.Core.Path.{◌≡◌, refl, sym, ap, ◌∙◌}
use mathlib.Core.Bool.{Bool, true, false, not, cond, ◌&&◌, ◌||◌}
use mathlib.Core.List.{List, [], ◌∷◌}
use Prim.Native.Nat.{ℕ, zero, suc, ◌+◌, ◌-◌, ◌≤◌, ◌<◌}
use native.Mathlib.Omega.{arith}
use lib.Dec.{leb, ltb, eqb}
use borrow.Author.Tests.{leb-true, ltb-true, le-leb, lt-ltb, eq-eqb, ne_eqb}
use Rattle.lists.specs.Lists.{Each}
use Rattle.lists.proofs.Tests.{both, both_made, false_not_true}
use Rattle.ticks.specs.Ticks.{last_instant}
use Rattle.feeds.specs.Feeds.{most_feeds}
use Rattle.waveform.specs.declared.Token.{Token}
use Rattle.waveform.specs.declared.Token.TheVariants as token
use Rattle.waveform.specs.declared.State.{State}
use Rattle.waveform.specs.declared.State.TheVariants.{Heading, Opened, Jobbed, Going, Marked, Halfway, Dead}
use Rattle.waveform.specs.Runs.{head_count}
use Rattle.waveform.specs.Reading.{alone, ran, after_going, next, come, done, Writable}

-- what every state on the way has
abbrev pub Sound : State → Type 0
Sound (Heading k) = k ≤ head_count
Sound (Opened t) = t ≤ last_instant
Sound (Jobbed t j) = t < last_instant
Sound (Going t j f) = t < last_instant
Sound (Marked t j f) = t ≤ last_instant
Sound (Halfway t j f) = t < last_instant
Sound Dead = Unit {0}

by_test : (b : Bool) (s : State) → (b ≡ true → Sound s) → Sound (cond b s Dead)
by_test true s h = h refl
by_test false s h = tt

ran_sound : (t j f : ℕ) → t < last_instant → Sound (ran t j f)
ran_sound t j f l = by_test (alone j f && leb f most_feeds) (Going t j f) (λ e. l)

mark_sound : (t j f u : ℕ) → Sound (after_going t j f (token.Mark u))
mark_sound t j f u = by_test (ltb t u && leb u last_instant) (Marked u j f) (λ e. leb-true _ _ (both (ltb t u) (leb u last_instant) e).1)

-- each line keeps it
next_sound : (s : State) (x : Token) → Sound s → Sound (next s x)
next_sound (Heading k) (token.Head i) h = by_test (eqb i k && ltb k head_count) (Heading (suc k)) (λ e. ltb-true k head_count (both (eqb i k) (ltb k head_count) e).1)
next_sound (Heading k) (token.Mark t) h = by_test (eqb k head_count && leb t last_instant) (Opened t) (λ e. leb-true _ _ (both (eqb k head_count) (leb t last_instant) e).1)
next_sound (Heading k) (token.Job j) h = tt
next_sound (Heading k) (token.Feed f) h = tt
next_sound (Heading k) token.Other h = tt
next_sound (Opened t) (token.Head i) h = tt
next_sound (Opened t) (token.Mark u) h = tt
next_sound (Opened t) (token.Job j) h = by_test (ltb t last_instant) (Jobbed t j) (λ e. ltb-true _ _ e)
next_sound (Opened t) (token.Feed f) h = tt
next_sound (Opened t) token.Other h = tt
next_sound (Jobbed t j) (token.Head i) h = tt
next_sound (Jobbed t j) (token.Mark u) h = tt
next_sound (Jobbed t j) (token.Job i) h = tt
next_sound (Jobbed t j) (token.Feed f) h = ran_sound t j f h
next_sound (Jobbed t j) token.Other h = tt
next_sound (Going t j f) (token.Head i) h = tt
next_sound (Going t j f) (token.Mark u) h = mark_sound t j f u
next_sound (Going t j f) (token.Job i) h = tt
next_sound (Going t j f) (token.Feed g) h = tt
next_sound (Going t j f) token.Other h = tt
next_sound (Marked t j f) (token.Head i) h = tt
next_sound (Marked t j f) (token.Mark u) h = tt
next_sound (Marked t j f) (token.Job i) h = by_test (ltb t last_instant && not (eqb i j)) (Halfway t i f) (λ e. ltb-true t last_instant (both (ltb t last_instant) (not (eqb i j)) e).0)
next_sound (Marked t j f) (token.Feed g) h =
    by_test (ltb t last_instant) (cond (not (eqb g f)) (ran t j g) Dead) (λ e. by_test (not (eqb g f)) (ran t j g) (λ d. ran_sound t j g (ltb-true t last_instant e)))
next_sound (Marked t j f) token.Other h = tt
next_sound (Halfway t j f) (token.Head i) h = tt
next_sound (Halfway t j f) (token.Mark u) h = by_test (alone j f) (after_going t j f (token.Mark u)) (λ e. mark_sound t j f u)
next_sound (Halfway t j f) (token.Job i) h = tt
next_sound (Halfway t j f) (token.Feed g) h = by_test (not (eqb g f)) (ran t j g) (λ e. ran_sound t j g h)
next_sound (Halfway t j f) token.Other h = tt
next_sound Dead x h = tt

pub come_sound : (s : State) (xs : List Token) → Sound s → Sound (come s xs)
unfolding come
come_sound s [] h = h
come_sound s (x ∷ xs) h = come_sound (next s x) xs (next_sound s x h)

-- lines with which a text ends well from here
pub record Goes (s : State) : Type 0 where
  pub more : List Token
  pub ends : done (come s more) ≡ true
  pub each : Each Writable more

passed : (b : Bool) (s : State) → b ≡ true → cond b s Dead ≡ s
passed b s e = ap (λ c. cond c s Dead) e

-- a mark a tick later
next_mark : (t j f : ℕ) → t < last_instant → after_going t j f (token.Mark (suc t)) ≡ Marked (suc t) j f
next_mark t j f l = passed _ _ (both_made _ _ (lt-ltb t (suc t) (omega arith)) (le-leb (suc t) last_instant l))

going_goes : (t j f : ℕ) → t < last_instant → Goes (Going t j f)
unfolding come
going_goes t j f l = record { more = token.Mark (suc t) ∷ []; ends = ap done (next_mark t j f l); each = (tt, tt) }

none_goes : (t j : ℕ) → ran t j 0 ≡ Going t j 0
none_goes t j = passed _ _ (both_made (alone j 0) (leb 0 most_feeds) (or-true (eqb j 0)) refl)
  where
    or-true : (b : Bool) → b || true ≡ true
    or-true true = refl
    or-true false = refl

halfway_goes : (t j f : ℕ) → t < last_instant → Goes (Halfway t j f)
unfolding come
halfway_goes t j f l = go (eqb j 0) refl (eqb f 0) refl
  where
    marks : alone j f ≡ true → Goes (Halfway t j f)
    marks a = record { more = token.Mark (suc t) ∷ []; ends = ap done (passed (alone j f) (after_going t j f (token.Mark (suc t))) a ∙ next_mark t j f l); each = (tt, tt) }

    flip : (n : ℕ) → eqb n 0 ≡ false → eqb 0 n ≡ false
    flip n e = ne_eqb 0 n (λ h. false_not_true (sym e ∙ eq-eqb n 0 (sym h)))

    go : (x : Bool) → eqb j 0 ≡ x → (y : Bool) → eqb f 0 ≡ y → Goes (Halfway t j f)
    go true e y h = marks (ap (λ b. b || eqb f 0) e)
    go false e true h = marks ((λ i. e i || h i))
    go false e false h =
        let feed : cond (not (eqb 0 f)) (ran t j 0) Dead ≡ Going t j 0 = passed (not (eqb 0 f)) (ran t j 0) (ap not (flip f h)) ∙ none_goes t j in
        record {
          more = token.Feed 0 ∷ token.Mark (suc t) ∷ [];
          ends = ap (λ s. done (come s (token.Mark (suc t) ∷ []))) feed ∙ ap done (next_mark t j 0 l);
          each = (tt, (tt, tt));
        }

heading_goes : (m k : ℕ) → k + m ≡ head_count → Goes (Heading k)
unfolding come
heading_goes zero k h =
    record {
      more = token.Mark 0 ∷ [];
      ends = ap done (passed (eqb k head_count && leb 0 last_instant) (Opened 0) (both_made (eqb k head_count) (leb 0 last_instant) (eq-eqb k head_count (omega (arith, h))) refl));
      each = (tt, tt);
    }
heading_goes (suc m) k h =
    let rest = heading_goes m (suc k) (omega (arith, h)) in
    record {
      more = token.Head k ∷ rest.more;
      ends = ap (λ s. done (come s rest.more)) (passed (eqb k k && ltb k head_count) (Heading (suc k)) (both_made (eqb k k) (ltb k head_count) (eq-eqb k k refl) (lt-ltb k head_count (omega (arith, h))))) ∙ rest.ends;
      each = (tt, rest.each);
    }

-- EVERY STATE BUT THE DEAD ONE GOES ON TO AN END
pub goes_on : (s : State) → Sound s → (s ≡ Dead → ⊥) → Goes s
unfolding come
goes_on (Heading k) h n = heading_goes (head_count - k) k (omega (arith, h))
goes_on (Opened t) h n = record { more = []; ends = refl; each = tt }
goes_on (Jobbed t j) h n =
    let r = going_goes t j 0 h in
    record { more = token.Feed 0 ∷ r.more; ends = ap (λ s. done (come s r.more)) (none_goes t j) ∙ r.ends; each = (tt, r.each) }
goes_on (Going t j f) h n = going_goes t j f h
goes_on (Marked t j f) h n = record { more = []; ends = refl; each = tt }
goes_on (Halfway t j f) h n = halfway_goes t j f h
goes_on Dead h n = absurd (n refl)
