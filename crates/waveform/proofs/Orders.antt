-- A cursor in order stays so: when a run begins, with each line that is written, and with each step that is taken with nothing due.
use mathlib.Core.Path.{◌≡◌, refl, sym, ap, subst, ◌∙◌}
use mathlib.Core.Bool.{Bool, true, false, cond, not, ◌||◌}
use Prim.Native.Nat.{ℕ, ◌+◌, ◌≤◌, ◌<◌}
use native.Mathlib.Omega.{arith}
use borrow.Author.Tests.{le-leb, lt-leb, leb-true, lt-ltb, ltb-true, ltb-false, le-ltb, eq-eqb, eqb-true, not-true}
use lib.Dec.{leb, ltb, eqb}
use Rattle.lists.proofs.Tests.{all_of_lem, all_of_made, false_not_true}
use Rattle.ticks.specs.Ticks.{last_instant}
use Rattle.feeds.specs.Feeds.{most_feeds}
use Rattle.answers.specs.declared.Who.{Who}
use Rattle.waveform.specs.declared.cursor.Due.{Due}
use Rattle.waveform.specs.declared.cursor.Cursor.{Cursor}
use Rattle.waveform.specs.Runs.{head_count, job_wire, feed_wire}
use Rattle.waveform.specs.Reading.{alone}
use Rattle.waveform.specs.Cursors.{any_due, any_value, one_less, owing, wrote, begun, told_by, since_by, due_after, stepped}
use Rattle.waveform.proofs.Written.{wires_alone}
use Rattle.waveform.specs.Order.{ordered_before, ordered_after, ordered, is_none}

-- A CURSOR IN ORDER, as facts: before the first step
pub record Before (c : Cursor) : Type 0 where
  pub since : c.since ≡ c.clock
  pub job : c.number ≡ 0
  pub feed : c.position ≡ 0
  pub values : any_value c.due ≡ false
  pub heads : c.due.heads ≤ head_count
  pub mark : leb head_count c.due.heads || c.due.mark ≡ true

-- and after one
pub record After (c : Cursor) : Type 0 where
  pub heads : c.due.heads ≡ head_count
  pub since : c.since < c.clock
  pub alone : alone c.number c.position ≡ true
  pub feed : c.position ≤ most_feeds
  pub due : cond (any_value c.due) (eqb (c.since + 1) c.clock) (not c.due.mark) ≡ true

module _ (c : Cursor) where
  before_facts : ordered_before c ≡ true → Before c
  unfolding ordered_before
  before_facts h =
      let t = all_of_lem _ h in
      record {
        since = eqb-true _ _ t.0;
        job = eqb-true _ _ t.1.0;
        feed = eqb-true _ _ t.1.1.0;
        values = not-true _ t.1.1.1.0;
        heads = leb-true _ _ t.1.1.1.1.0;
        mark = t.1.1.1.1.1.0;
      }

  before_made : Before c → ordered_before c ≡ true
  unfolding ordered_before
  before_made b = all_of_made _ (eq-eqb _ _ b.since, (eq-eqb _ _ b.job, (eq-eqb _ _ b.feed, (ap not b.values, (le-leb _ _ b.heads, (b.mark, tt))))))

  after_facts : ordered_after c ≡ true → After c
  unfolding ordered_after
  after_facts h =
      let t = all_of_lem _ h in
      record {
        heads = eqb-true _ _ t.0;
        since = ltb-true _ _ t.1.0;
        alone = t.1.1.0;
        feed = leb-true _ _ t.1.1.1.0;
        due = t.1.1.1.1.0;
      }

  after_made : After c → ordered_after c ≡ true
  unfolding ordered_after
  after_made a = all_of_made _ (eq-eqb _ _ a.heads, (lt-ltb _ _ a.since, (a.alone, (le-leb _ _ a.feed, (a.due, tt)))))

  -- the clock is within its limits, and the rest goes by whether a step was taken
  pub ordered_clock : ordered c ≡ true → c.clock ≤ last_instant
  unfolding ordered
  ordered_clock h = leb-true _ _ (all_of_lem _ h).0

  pub ordered_before_lem : ordered c ≡ true → c.ran ≡ false → Before c
  unfolding ordered
  ordered_before_lem h e = before_facts (ap (λ b. cond b (ordered_after c) (ordered_before c)) (sym e) ∙ (all_of_lem _ h).1.0)

  pub ordered_after_lem : ordered c ≡ true → c.ran ≡ true → After c
  unfolding ordered
  ordered_after_lem h e = after_facts (ap (λ b. cond b (ordered_after c) (ordered_before c)) (sym e) ∙ (all_of_lem _ h).1.0)

  pub ordered_made_before : c.clock ≤ last_instant → c.ran ≡ false → Before c → ordered c ≡ true
  unfolding ordered
  ordered_made_before h e b = all_of_made _ (le-leb _ _ h, (ap (λ r. cond r (ordered_after c) (ordered_before c)) e ∙ before_made b, tt))

  pub ordered_made_after : c.clock ≤ last_instant → c.ran ≡ true → After c → ordered c ≡ true
  unfolding ordered
  ordered_made_after h e a = all_of_made _ (le-leb _ _ h, (ap (λ r. cond r (ordered_after c) (ordered_before c)) e ∙ after_made a, tt))

-- where a run begins
pub begun_ordered : (t : ℕ) → t ≤ last_instant → ordered (begun t) ≡ true
unfolding any_value
begun_ordered t h = ordered_made_before (begun t) h refl (record { since = refl; job = refl; feed = refl; values = refl; heads = omega arith; mark = refl })

-- an empty cursor is not in order
pub ordered_live : (c : Cursor) → ordered c ≡ true → is_none c ≡ false
unfolding is_none
ordered_live c h = go (is_none c) refl
  where
    go : (b : Bool) → is_none c ≡ b → b ≡ false
    go false e = refl
    go true e =
        let t = all_of_lem _ e in
        let heads : c.due.heads ≡ 0 = eqb-true _ _ t.1.0 in
        let mark : c.due.mark ≡ false = not-true _ t.1.1.0 in
        let no : leb head_count c.due.heads || c.due.mark ≡ false = rw (heads, mark) in
        let yes : leb head_count c.due.heads || c.due.mark ≡ true = (ordered_before_lem c h (not-true _ t.0)).mark in
        absurd (false_not_true (sym no ∙ yes))

-- what is due after the first line, by which it is
module _ (d : Due) where
  less_head : ltb d.heads head_count ≡ true → one_less d ≡ record { heads = d.heads + 1; mark = d.mark; job = d.job; feed = d.feed }
  unfolding one_less
  less_head h = rw h

  less_mark : ltb d.heads head_count ≡ false → d.mark ≡ true → one_less d ≡ record { heads = d.heads; mark = false; job = d.job; feed = d.feed }
  unfolding one_less
  less_mark h m = rw (h, m)

  less_job_lem : ltb d.heads head_count ≡ false → d.mark ≡ false → d.job ≡ true → one_less d ≡ record { heads = d.heads; mark = false; job = false; feed = d.feed }
  unfolding one_less
  less_job_lem h m j = rw (h, m, j)

  less_feed : ltb d.heads head_count ≡ false → d.mark ≡ false → d.job ≡ false → one_less d ≡ record { heads = d.heads; mark = false; job = false; feed = false }
  unfolding one_less
  less_feed h m j = rw (h, m, j)

or-true : (a b : Bool) → a ≡ false → a || b ≡ true → (x : Bool) → x || b ≡ true
or-true a b e h true = refl
or-true a b e h false = ap (λ y. y || b) (sym e) ∙ h

unmarked : (v last m : Bool) → cond v last (not m) ≡ true → cond v last true ≡ true
unmarked true last m h = h
unmarked false last m h = refl

valued : (f last : Bool) → last ≡ true → cond f last true ≡ true
valued true last h = h
valued false last h = refl

-- A LINE IS WRITTEN
module _ (c : Cursor) where
  wrote_before : Before c → Before (wrote c)
  unfolding any_value
  wrote_before b = go (ltb c.due.heads head_count) refl c.due.mark refl c.due.job refl
    where
      go : (h : Bool) → ltb c.due.heads head_count ≡ h → (m : Bool) → c.due.mark ≡ m → (j : Bool) → c.due.job ≡ j → Before (wrote c)
      go true hh m mm j jj =
          subst (λ d. Before (owing d c)) (sym (less_head c.due hh))
          (record {
            since = b.since;
            job = b.job;
            feed = b.feed;
            values = b.values;
            heads = let h : c.due.heads < head_count = ltb-true c.due.heads head_count hh in omega (arith, h);
            mark = or-true (leb head_count c.due.heads) c.due.mark (lt-leb head_count c.due.heads (ltb-true c.due.heads head_count hh)) b.mark (leb head_count (c.due.heads + 1));
          })
      go false hh true mm j jj =
          subst (λ d. Before (owing d c)) (sym (less_mark c.due hh mm))
          (record { since = b.since; job = b.job; feed = b.feed; values = b.values; heads = b.heads; mark = ap (λ x. x || false) (le-leb head_count c.due.heads (ltb-false c.due.heads head_count hh)) })
      go false hh false mm true jj = absurd (false_not_true (sym (ap (λ x. x || c.due.feed) (sym jj) ∙ b.values)))
      go false hh false mm false jj =
          subst (λ d. Before (owing d c)) (sym (less_feed c.due hh mm jj))
          (record { since = b.since; job = b.job; feed = b.feed; values = refl; heads = b.heads; mark = ap (λ x. x || false) (le-leb head_count c.due.heads (ltb-false c.due.heads head_count hh)) })

  abbrev last_step : Bool
  last_step = eqb (c.since + 1) c.clock

  wrote_after : After c → After (wrote c)
  unfolding any_value
  wrote_after a = go c.due.mark refl c.due.job refl c.due.feed refl
    where
      full : ltb c.due.heads head_count ≡ false
      full = le-ltb c.due.heads head_count (let e : c.due.heads ≡ head_count = a.heads in omega (arith, e))

      go : (m : Bool) → c.due.mark ≡ m → (j : Bool) → c.due.job ≡ j → (f : Bool) → c.due.feed ≡ f → After (wrote c)
      go true mm j jj f ff =
          subst (λ d. After (owing d c)) (sym (less_mark c.due full mm))
          (record { heads = a.heads; since = a.since; alone = a.alone; feed = a.feed; due = unmarked (c.due.job || c.due.feed) last_step c.due.mark a.due })
      go false mm true jj f ff =
          subst (λ d. After (owing d c)) (sym (less_job_lem c.due full mm jj))
          (record { heads = a.heads; since = a.since; alone = a.alone; feed = a.feed; due = valued c.due.feed last_step (ap (λ x. cond (x || c.due.feed) last_step (not c.due.mark)) (sym jj) ∙ a.due) })
      go false mm false jj f ff =
          subst (λ d. After (owing d c)) (sym (less_feed c.due full mm jj))
          (record { heads = a.heads; since = a.since; alone = a.alone; feed = a.feed; due = refl })

  pub wrote_ordered : ordered c ≡ true → ordered (wrote c) ≡ true
  wrote_ordered h = go c.ran refl
    where
      go : (r : Bool) → c.ran ≡ r → ordered (wrote c) ≡ true
      go false e = ordered_made_before (wrote c) (ordered_clock c h) e (wrote_before (ordered_before_lem c h e))
      go true e = ordered_made_after (wrote c) (ordered_clock c h) e (wrote_after (ordered_after_lem c h e))

-- A STEP IS TAKEN with nothing due
module _ (c : Cursor) (order : ordered c ≡ true) (nothing : any_due c.due ≡ false) where
  pub heads_written : head_count ≤ c.due.heads
  unfolding any_due
  heads_written = go (ltb c.due.heads head_count) refl nothing
    where
      go : (h : Bool) → ltb c.due.heads head_count ≡ h → h || (c.due.mark || (c.due.job || c.due.feed)) ≡ false → head_count ≤ c.due.heads
      go false e k = ltb-false c.due.heads head_count e
      go true e k = absurd (false_not_true (sym k))

  no_more_heads : c.due.heads ≡ head_count
  no_more_heads = go c.ran refl
    where
      go : (r : Bool) → c.ran ≡ r → c.due.heads ≡ head_count
      go false e = let h : c.due.heads ≤ head_count = (ordered_before_lem c order e).heads in omega (arith, h, heads_written)
      go true e = (ordered_after_lem c order e).heads

  not_later : c.since ≤ c.clock
  not_later = go c.ran refl
    where
      go : (r : Bool) → c.ran ≡ r → c.since ≤ c.clock
      go false e = let h : c.since ≡ c.clock = (ordered_before_lem c order e).since in omega (arith, h)
      go true e = let h : c.since < c.clock = (ordered_after_lem c order e).since in omega (arith, h)

  -- since when, by whether a value is due
  began : (d : Due) (v : Bool) → any_value d ≡ v → since_by c d ≡ cond v c.clock c.since
  unfolding since_by
  began d v e = ap (λ b. cond b c.clock c.since) e

  before_next : (d : Due) → since_by c d < c.clock + 1
  before_next d = go (any_value d) refl
    where
      go : (v : Bool) → any_value d ≡ v → since_by c d < c.clock + 1
      go true e = subst (λ n. n < c.clock + 1) (sym (began d true e)) (omega arith)
      go false e = subst (λ n. n < c.clock + 1) (sym (began d false e)) (omega (arith, not_later))

  due_by_lem : (r j f : Bool) → let d = told_by c.due r j f in cond (any_value d) (eqb (since_by c d + 1) (c.clock + 1)) (not d.mark) ≡ true
  unfolding told_by any_value since_by
  due_by_lem false j f = eq-eqb (c.clock + 1) (c.clock + 1) refl
  due_by_lem true true f = eq-eqb (c.clock + 1) (c.clock + 1) refl
  due_by_lem true false true = eq-eqb (c.clock + 1) (c.clock + 1) refl
  due_by_lem true false false = refl

  heads_stay : (r j f : Bool) → (told_by c.due r j f).heads ≡ c.due.heads
  unfolding told_by
  heads_stay false j f = refl
  heads_stay true true f = refl
  heads_stay true false f = refl

  pub stepped_ordered : (v : Who) → feed_wire v ≤ most_feeds → c.clock < last_instant → ordered (stepped c v) ≡ true
  stepped_ordered v few time =
      let j = not (eqb (job_wire v) c.number) in
      let f = not (eqb (feed_wire v) c.position) in
      ordered_made_after (stepped c v) (omega (arith, time)) refl
      (record {
        heads = heads_stay c.ran j f ∙ no_more_heads;
        since = before_next (due_after c v);
        alone = wires_alone v;
        feed = few;
        due = due_by_lem c.ran j f;
      })
