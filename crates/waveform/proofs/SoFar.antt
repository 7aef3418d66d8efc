-- The cursor of a run that is being written: how each line that is written, each step and the end carry on what is told of it.
use mathlib.Core.Path.{◌≡◌, refl, sym, ap, ◌∙◌}
use mathlib.Core.Bool.{Bool, true, false, cond, not}
use mathlib.Core.List.{List, [], ◌∷◌, ◌++◌, append_assoc, append-nil}
use Prim.Native.Nat.{ℕ, suc, ◌+◌, ◌-◌, ◌≤◌, ◌<◌}
use native.Mathlib.Omega.{arith}
use lib.Dec.{eqb}
use lib.ListN.{length, length-append}
use Rattle.ticks.specs.Ticks.{last_instant}
use Rattle.feeds.specs.Feeds.{most_feeds}
use Rattle.answers.specs.declared.Who.{Who}
use Rattle.waveform.specs.declared.Token.{Token}
use Rattle.waveform.specs.declared.Token.TheVariants as token
use Rattle.waveform.specs.declared.cursor.Cursor.{Cursor}
use Rattle.waveform.specs.Runs.{head_count, heads_from, job_wire, feed_wire, changed, changed_by, told}
use Rattle.waveform.specs.Writing.{told_so_far, body_so_far, last_mark, step_lines}
use Rattle.waveform.specs.Cursors.{flagged, due_lines, any_due, any_value, wrote, begun, told_by, since_by, stepped}
use Rattle.waveform.specs.Order.{ordered, is_none}
use Rattle.waveform.specs.Parts.{wrote_all, due_fitting, closing_lines}
use Rattle.waveform.specs.SoFar.{last_of, any_tick, Tells}
use Rattle.waveform.proofs.Writing.{told_closed, told_step}
use Rattle.waveform.proofs.Cursors.{heads_past, due_none}
use Rattle.waveform.proofs.Fitting.{due_left}
use Rattle.waveform.proofs.Orders.{begun_ordered, ordered_live, wrote_ordered, heads_written, stepped_ordered}

-- the lines of one step more, by whom the last tick went to
later_step : (u : ℕ) (w : Who) (ws : List Who) (v : Who) → step_lines u (w ∷ ws) v ≡ changed u (last_of (w ∷ ws)) v
later_step u w [] v = refl
later_step u w (x ∷ ws) v = later_step u x ws v

last_after : (ws : List Who) (v : Who) → last_of (ws ++ (v ∷ [])) ≡ v
last_after [] v = refl
last_after (w ∷ []) v = refl
last_after (w ∷ x ∷ ws) v = last_after (x ∷ ws) v

any_after : (ws : List Who) (v : Who) → any_tick (ws ++ (v ∷ [])) ≡ true
any_after [] v = refl
any_after (w ∷ ws) v = refl

-- WHERE A RUN BEGINS
pub tells_begun : (t : ℕ) → t ≤ last_instant → Tells t [] [] (begun t)
unfolding due_lines told_so_far body_so_far heads_from
tells_begun t h = record { lines = refl; clock = omega arith; ran = refl; job = refl; feed = refl; order = begun_ordered t h }

-- writing changes what is due alone
wrote_all_ordered : (ls : List Token) (c : Cursor) → ordered c ≡ true → ordered (wrote_all ls c) ≡ true
unfolding wrote_all
wrote_all_ordered [] c h = h
wrote_all_ordered (l ∷ ls) c h = wrote_all_ordered ls (wrote c) (wrote_ordered c h)

-- the rest of a cursor
pub same_run : (ls : List Token) (c : Cursor) → ((wrote_all ls c).clock ≡ c.clock) × ((wrote_all ls c).ran ≡ c.ran) × ((wrote_all ls c).number ≡ c.number) × ((wrote_all ls c).position ≡ c.position)
unfolding wrote_all
same_run [] c = (refl, refl, refl, refl)
same_run (l ∷ ls) c = same_run ls (wrote c)

module _ {t : ℕ} {ws : List Who} {ls : List Token} {c : Cursor} (k : Tells t ws ls c) where
  -- THE LINES THAT FIT ARE WRITTEN
  pub tells_written : (room : ℕ) → Tells t ws (ls ++ due_fitting room c) (wrote_all (due_fitting room c) c)
  tells_written room =
      let fit = due_fitting room c in
      let s = same_run fit c in
      record {
        lines = append_assoc ls fit (due_lines (wrote_all fit c)) ∙ ap (ls ++◌) (sym (due_left room c)) ∙ k.lines;
        clock = s.0 ∙ k.clock;
        ran = s.1 ∙ k.ran;
        job = s.2 ∙ k.job;
        feed = s.3 ∙ k.feed;
        order = wrote_all_ordered fit c k.order;
      }

  -- A STEP IS TAKEN with nothing due
  module _ (nothing : any_due c.due ≡ false) (v : Who) where
    -- its lines, by whether it is the first and which values change
    abbrev lines_by : Bool → Bool → Bool → List Token
    lines_by r j f =
        let d = told_by c.due r j f in
        flagged d.mark (token.Mark (since_by c d)) ++ (flagged d.job (token.Job (job_wire v)) ++ flagged d.feed (token.Feed (feed_wire v)))

    heads_same : (r j f : Bool) → (told_by c.due r j f).heads ≡ c.due.heads
    unfolding told_by
    heads_same false j f = refl
    heads_same true true f = refl
    heads_same true false f = refl

    no_head : (r j f : Bool) → heads_from (head_count - (told_by c.due r j f).heads) (told_by c.due r j f).heads ≡ []
    no_head r j f = ap (λ n. heads_from (head_count - n) n) (heads_same r j f) ∙ heads_past c.due.heads (heads_written c k.order nothing)

    due_step : due_lines (stepped c v) ≡ lines_by c.ran (not (eqb (job_wire v) c.number)) (not (eqb (feed_wire v) c.position))
    unfolding due_lines
    due_step =
        let j = not (eqb (job_wire v) c.number) in
        let f = not (eqb (feed_wire v) c.position) in
        ap (◌++ lines_by c.ran j f) (no_head c.ran j f)

    later : (a b : Bool) → lines_by true (not a) (not b) ≡ changed_by a b c.clock v
    unfolding told_by any_value since_by
    later true true = refl
    later true false = refl
    later false true = refl
    later false false = refl

    first : (j f : Bool) → lines_by false j f ≡ token.Job (job_wire v) ∷ token.Feed (feed_wire v) ∷ []
    unfolding told_by any_value since_by
    first j f = refl

    by_names : (us : List Who) → ws ≡ us → due_lines (stepped c v) ≡ step_lines c.clock us v
    by_names [] e =
        due_step
        ∙ ap (λ r. lines_by r (not (eqb (job_wire v) c.number)) (not (eqb (feed_wire v) c.position))) (k.ran ∙ ap any_tick e)
        ∙ first (not (eqb (job_wire v) c.number)) (not (eqb (feed_wire v) c.position))
    by_names (u ∷ us) e =
        due_step
        ∙ (λ i. lines_by ((k.ran ∙ ap any_tick e) i) (not (eqb (job_wire v) ((k.job ∙ ap (λ xs. job_wire (last_of xs)) e) i))) (not (eqb (feed_wire v) ((k.feed ∙ ap (λ xs. feed_wire (last_of xs)) e) i))))
        ∙ later (eqb (job_wire v) (job_wire (last_of (u ∷ us)))) (eqb (feed_wire v) (feed_wire (last_of (u ∷ us))))
        ∙ sym (later_step c.clock u us v)

    written_all : ls ≡ told_so_far t ws
    written_all = sym (append-nil ls) ∙ ap (ls ++◌) (sym (due_none c nothing)) ∙ k.lines

    pub tells_step : feed_wire v ≤ most_feeds → c.clock < last_instant → Tells t (ws ++ (v ∷ [])) ls (stepped c v)
    tells_step few time =
        let longer : length (ws ++ (v ∷ [])) ≡ length ws + 1 = length-append ws (v ∷ []) in
        record {
          lines = (λ i. written_all i ++ (by_names ws refl ∙ ap (λ n. step_lines n ws v) k.clock) i) ∙ sym (told_step t ws v);
          clock = let e : c.clock ≡ t + length ws = k.clock in omega (arith, longer, e);
          ran = sym (any_after ws v);
          job = ap job_wire (sym (last_after ws v));
          feed = ap feed_wire (sym (last_after ws v));
          order = stepped_ordered c k.order nothing v few time;
        }

  -- THE END OF THE RUN
  last_line : (us : List Who) → flagged (any_tick us) (token.Mark (t + length us)) ≡ last_mark t us
  last_line [] = refl
  last_line (u ∷ us) = let e : t + suc (length us) ≡ suc t + length us = omega arith in ap (λ n. token.Mark n ∷ []) e

  pub tells_closed : ls ++ closing_lines c ≡ told t ws
  unfolding closing_lines
  tells_closed =
      let live : is_none c ≡ false = ordered_live c k.order in
      ap (λ b. ls ++ cond b [] (due_lines c ++ flagged c.ran (token.Mark c.clock))) live
      ∙ sym (append_assoc ls (due_lines c) (flagged c.ran (token.Mark c.clock)))
      ∙ (λ i. k.lines i ++ flagged (k.ran i) (token.Mark (k.clock i)))
      ∙ ap (told_so_far t ws ++◌) (last_line ws)
      ∙ sym (told_closed t ws)
