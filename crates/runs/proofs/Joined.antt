-- Over any calls the parts that are written, joined, are the text of the names that the steps gave.
use mathlib.Core.Path.{◌≡◌, refl, sym, ap, subst, ◌∙◌}
use mathlib.Core.Logic.{◌⊎◌, inl, inr}
use mathlib.Core.Bool.{Bool, true, false, cond, not}
use mathlib.Core.List.{List, [], ◌∷◌, ◌++◌, append_assoc, append-nil}
use Prim.Native.Nat.{ℕ, zero, suc, ◌+◌, ◌-◌, ◌≤◌, ◌<◌}
use native.Mathlib.Omega.{arith}
use borrow.Author.Tests.{not-true, not-false, eqb-true, leb-true}
use lib.Dec.{eqb}
use lib.ListN.{length}
use Rattle.lists.specs.Lists.{Each, all_of}
use Rattle.lists.proofs.Lists.{each_append}
use Rattle.lists.proofs.Tests.{all_of_lem, both, false_not_true}
use Rattle.ticks.specs.Ticks.{last_instant}
use Rattle.feeds.specs.Feeds.{most_feeds}
use Rattle.answers.specs.declared.Who.{Who}
use Rattle.answers.specs.declared.Who.TheVariants.{Job, Feed, Idle}
use Rattle.answers.specs.Verdicts.{Verdict}
use Rattle.std.specs.Prelude.{Ok, Err}
use Rattle.std.specs.Result.{result_unwrap_or}
use Rattle.answers.specs.Answers.{first_of, is_yes, on_yes, yes_with, verdict_of}
use Rattle.answers.proofs.Answers.{is_yes_lem, yes_first, told_verdict}
use Rattle.desk.specs.declared.Desk.{Desk}
use Rattle.ledger.specs.State as ledger
use Rattle.desk.specs.State.{in_order}
use Rattle.desk.specs.Calls.{disorder, step_of}
use Rattle.desk.specs.Named.{Named}
use Rattle.desk.proofs.Named.{step_clock, step_in_time, step_names}
use Rattle.waveform.specs.declared.Token.{Token}
use Rattle.waveform.specs.declared.cursor.Cursor.{Cursor}
use Rattle.waveform.specs.declared.State.TheVariants.{Heading}
use Rattle.waveform.specs.Runs.{job_wire, feed_wire, most_number, Nameable, told, Run}
use Rattle.waveform.specs.Stretches.{stretches, spread}
use Rattle.waveform.specs.Texts.{text_of, judged, Well}
use Rattle.waveform.specs.Cursors.{any_due, any_value, begun, stepped}
use Rattle.waveform.specs.Order.{ordered, none, is_none}
use Rattle.waveform.specs.Parts.{bytes_of, wrote_all, due_fitting, closing_lines, closing_fitting, after_closing, close_stops, closed_of, closing_bytes}
use Rattle.waveform.specs.SoFar.{Tells}
use Rattle.waveform.proofs.Names.{told_names}
use Rattle.waveform.proofs.Texts.{text_judged_well}
use Rattle.waveform.proofs.OneByOne.{stretches_in, run_stretches}
use Rattle.waveform.proofs.Fitting.{bytes_append, bytes_as_text}
use Rattle.waveform.proofs.Orders.{ordered_clock, ordered_live}
use Rattle.waveform.proofs.Closing.{Closes, closes_none, closes_either}
use Rattle.waveform.proofs.SoFar.{same_run, tells_begun, tells_written, tells_step, tells_closed}
use Rattle.runs.specs.Parts.{clock_of, Part, part, filled, step_on, goes_on, carried, part_of, ordered_at, go_answer, begun_of, went_of, went_bytes, went_names}
use Rattle.runs.specs.Written.{Call, go_on, close, Written, begun_at, after_call, after_calls}

-- a feed that a step names is one of sixteen
named_few : (w : Who) → Named w → feed_wire w ≤ most_feeds
named_few (Job n) h = omega arith
named_few (Feed p) h = h.1
named_few Idle h = omega arith

-- a cursor that is in order at an instant has it
at_clock : (d : Desk) (c : Cursor) → not (ordered_at (clock_of d) c) ≡ false → c.clock ≡ clock_of d
unfolding ordered_at
at_clock d c h = eqb-true _ _ (both _ _ (not-false _ h)).0

-- whom a step names, in 32 bits, a text can name
nameable : (w : Who) → Named w → job_wire w ≤ most_number → Nameable w
nameable (Job n) h k = (h, k)
nameable (Feed p) h k = h
nameable Idle h k = tt

all_nameable : (ws : List Who) → Each Named ws → Each (λ v. job_wire v ≤ most_number) ws → Each Nameable ws
all_nameable [] h k = tt
all_nameable (w ∷ ws) h k = (nameable w h.0 k.0, all_nameable ws h.1 k.1)

-- a run's text, read
read_back : (t : ℕ) (ws : List Who) → Run t ws → (s : List ℕ) → s ≡ text_of t ws
    → (judged s ≡ Well t (t + length ws) (length (stretches_in s))) × (spread (stretches_in s) ≡ ws)
read_back t ws r s e =
    let many : stretches_in s ≡ stretches (Heading 0) (told t ws) = ap stretches_in e ∙ run_stretches t ws r in
    (ap judged e ∙ text_judged_well t ws r ∙ ap (λ xs. Well t (t + length ws) (length xs)) (sym many), ap spread many ∙ told_names t ws r)

-- WHAT A PART TELLS, behind what was told before it
pub record On (t : ℕ) (ws : List Who) (ls : List Token) (p : Part) : Type 0 where
  pub tells : Tells t (ws ++ p.names) (ls ++ p.lines) p.cursor
  pub clock : p.cursor.clock ≡ clock_of p.desk
  pub each : Each Named p.names

module _ {t : ℕ} {ws : List Who} {ls : List Token} where
  filled_on : (size : ℕ) (p : Part) → On t ws ls p → On t ws ls (filled size p)
  filled_on size p k =
      let fit = due_fitting (size - length (bytes_of p.lines)) p.cursor in
      record {
        tells = subst (λ xs. Tells t (ws ++ p.names) xs (wrote_all fit p.cursor)) (append_assoc ls p.lines fit) (tells_written k.tells (size - length (bytes_of p.lines)));
        clock = (same_run fit p.cursor).0 ∙ k.clock;
        each = k.each;
      }

  step_on_lem : (p : Part) → On t ws ls p → any_due p.cursor.due ≡ false → (step_of p.desk).verdict ≡ Ok tt → On t ws ls (step_on p (step_of p.desk))
  step_on_lem p k still taken =
      let x = step_of p.desk in
      let time : p.cursor.clock < last_instant = subst (λ n. n < last_instant) (sym k.clock) (step_in_time p.desk taken) in
      let name = step_names p.desk taken in
      record {
        tells = subst (λ us. Tells t us (ls ++ p.lines) (stepped p.cursor x.who)) (append_assoc ws p.names (x.who ∷ [])) (tells_step k.tells still x.who (named_few x.who name) time);
        clock = ap (◌+ 1) k.clock ∙ sym (step_clock p.desk taken);
        each = each_append Named p.names (x.who ∷ []) k.each (name, tt);
      }

  carried_on : (size n : ℕ) (p : Part) → On t ws ls p → On t ws ls (carried size n p)
  unfolding carried goes_on
  carried_on size zero p k = k
  carried_on size (suc n) p k = by_case (goes_on p) refl (carried_on size n (filled size (step_on p (step_of p.desk))))
    where
      by_case : (b : Bool) → goes_on p ≡ b
          → (On t ws ls (filled size (step_on p (step_of p.desk))) → On t ws ls (carried size n (filled size (step_on p (step_of p.desk)))))
          → On t ws ls (cond b (carried size n (filled size (step_on p (step_of p.desk)))) p)
      by_case false e rest = k
      by_case true e rest =
          let g = both (not (any_due p.cursor.due)) (is_yes (step_of p.desk).verdict) e in
          rest (filled_on size (step_on p (step_of p.desk)) (step_on_lem p k (not-true (any_due p.cursor.due) g.0) (is_yes_lem (step_of p.desk).verdict g.1)))

  -- a part that begins where the run stands
  pub part_on : (size most : ℕ) (d : Desk) (c : Cursor) → Tells t ws ls c → c.clock ≡ clock_of d → On t ws ls (part_of size most d c)
  unfolding part_of
  part_on size most d c k e =
      carried_on size most (filled size (part d c [] []))
      (filled_on size (part d c [] [])
      (record { tells = subst (λ us. Tells t us (ls ++ []) c) (sym (append-nil ws)) (subst (λ xs. Tells t ws xs c) (sym (append-nil ls)) k); clock = e; each = tt }))

-- A RUN THAT IS BEING WRITTEN: what is written and what is due are its lines so far
pub record Live (t : ℕ) (w : Written) : Type 0 where
  pub lines : List Token
  pub text : w.text ≡ bytes_of lines
  pub tells : Tells t w.names lines w.cursor
  pub each : Each Named w.names

-- ONE THAT IS CLOSED: what is written is its text
pub record Over (t : ℕ) (w : Written) : Type 0 where
  pub cursor : w.cursor ≡ none
  pub text : w.text ≡ text_of t w.names
  pub each : Each Named w.names
  pub within : t + length w.names ≤ last_instant

-- the text of lines
told_text : (t : ℕ) (ws : List Who) → bytes_of (told t ws) ≡ text_of t ws
told_text t ws = bytes_as_text (told t ws)

-- what closing leaves by its answer
abbrev closed_as : ℕ → Written → Verdict → Written
closed_as size w v =
    record {
      cursor = on_yes v (after_closing (closing_fitting size w.cursor) w.cursor) w.cursor;
      names = w.names;
      text = w.text ++ on_yes v (bytes_of (closing_fitting size w.cursor)) [];
    }

module _ (t : ℕ) (w : Written) where
  -- a call that changes nothing
  same_after : {v : Written} → w.cursor ≡ v.cursor → w.names ≡ v.names → w.text ≡ v.text → w ≡ v
  same_after c n x = λ i. record { cursor = c i; names = n i; text = x i }

  -- going on
  on_live : (size most : ℕ) (d : Desk) → Live t w → Live t (after_call (go_on size most d) w)
  unfolding went_of went_bytes went_names
  on_live size most d k = by_answer (go_answer size most d w.cursor) refl
    where
      by_answer : (v : Verdict) → go_answer size most d w.cursor ≡ v
          → Live t (record { cursor = on_yes v (part_of size most d w.cursor).cursor w.cursor; names = w.names ++ on_yes v (part_of size most d w.cursor).names []; text = w.text ++ on_yes v (bytes_of (part_of size most d w.cursor).lines) [] })
      by_answer (Err r) e = subst (Live t) (same_after refl (sym (append-nil w.names)) (sym (append-nil w.text))) k
      by_answer (Ok tt) e =
          let p = part_of size most d w.cursor in
          let stand : not (ordered_at (clock_of d) w.cursor) ≡ false = (yes_first _ _ (yes_first _ _ e).1).0 in
          let g = part_on size most d w.cursor k.tells (at_clock d w.cursor stand) in
          record {
            lines = k.lines ++ p.lines;
            text = ap (◌++ bytes_of p.lines) k.text ∙ sym (bytes_append k.lines p.lines);
            tells = g.tells;
            each = each_append Named w.names p.names k.each g.each;
          }

  -- closing
  close_live : (size : ℕ) → Live t w → Live t (after_call (close size) w) ⊎ Over t (after_call (close size) w)
  unfolding closed_of closing_bytes
  close_live size k = by_answer (first_of (close_stops size w.cursor)) refl
    where
      by_answer : (v : Verdict) → first_of (close_stops size w.cursor) ≡ v → Live t (closed_as size w v) ⊎ Over t (closed_as size w v)
      by_answer (Err r) e = inl (subst (Live t) (same_after refl refl (sym (append-nil w.text))) k)
      by_answer (Ok tt) e = either (closes_either size w.cursor (ordered_live w.cursor k.tells.order))
        where
          either : Closes size w.cursor (due_fitting size w.cursor) (wrote_all (due_fitting size w.cursor) w.cursor) ⊎ Closes size w.cursor (closing_lines w.cursor) none → Live t (closed_as size w (Ok tt)) ⊎ Over t (closed_as size w (Ok tt))
          either (inl q) =
              let fit = due_fitting size w.cursor in
              inl
              (record {
                lines = k.lines ++ fit;
                text = (λ i. k.text i ++ bytes_of (q.lines i)) ∙ sym (bytes_append k.lines fit);
                tells = subst (Tells t w.names (k.lines ++ fit)) (sym q.cursor) (tells_written k.tells size);
                each = k.each;
              })
          either (inr q) =
              inr
              (record {
                cursor = q.cursor;
                text = (λ i. k.text i ++ bytes_of (q.lines i)) ∙ sym (bytes_append k.lines (closing_lines w.cursor)) ∙ ap bytes_of (tells_closed k.tells) ∙ told_text t w.names;
                each = k.each;
                within = subst (λ n. n ≤ last_instant) k.tells.clock (ordered_clock w.cursor k.tells.order);
              })

-- an empty cursor is not in order, and stays
none_is_none : is_none none ≡ true
unfolding is_none any_value all_of
none_is_none = refl

none_disordered : (t : ℕ) → not (ordered_at t none) ≡ false → ⊥
unfolding ordered_at
none_disordered t h = false_not_true (sym (ordered_live none (both (eqb 0 t) (ordered none) (not-false _ h)).1) ∙ none_is_none)

over_closed : (t size : ℕ) (w : Written) → Over t w → Over t (after_call (close size) w)
unfolding closed_of closing_bytes bytes_of
over_closed t size w o = by_answer (first_of (close_stops size w.cursor))
  where
    q : Closes size w.cursor [] none
    q = closes_none size w.cursor (ap is_none o.cursor ∙ none_is_none)

    by_answer : (v : Verdict) → Over t (closed_as size w v)
    by_answer (Err r) = record { cursor = o.cursor; text = append-nil w.text ∙ o.text; each = o.each; within = o.within }
    by_answer (Ok tt) = record { cursor = q.cursor; text = ap (λ ls. w.text ++ bytes_of ls) q.lines ∙ append-nil w.text ∙ o.text; each = o.each; within = o.within }

-- A CLOSED RUN STAYS AS IT IS
over_stays : (t : ℕ) (k : Call) (w : Written) → Over t w → Over t (after_call k w)
unfolding went_of went_bytes went_names
over_stays t (go_on size most d) w o = by_answer (go_answer size most d w.cursor) refl
  where
    by_answer : (v : Verdict) → go_answer size most d w.cursor ≡ v
        → Over t (record { cursor = on_yes v (part_of size most d w.cursor).cursor w.cursor; names = w.names ++ on_yes v (part_of size most d w.cursor).names []; text = w.text ++ on_yes v (bytes_of (part_of size most d w.cursor).lines) [] })
    by_answer (Err r) e = subst (Over t) (same_after t w refl (sym (append-nil w.names)) (sym (append-nil w.text))) o
    by_answer (Ok tt) e =
        let stand : not (ordered_at (clock_of d) w.cursor) ≡ false = (yes_first _ _ (yes_first _ _ e).1).0 in
        absurd (none_disordered (clock_of d) (subst (λ c. not (ordered_at (clock_of d) c) ≡ false) o.cursor stand))
over_stays t (close size) w o = over_closed t size w o

-- a desk in order has a clock within its limits
in_time_lem : (d : Desk) → in_order d ≡ true → clock_of d ≤ last_instant
unfolding in_order ledger.in_order
in_time_lem d h = leb-true _ _ (all_of_lem _ (all_of_lem _ h).1.1.0).0

-- OVER ANY CALLS from the beginning of a run on
begun_live : (d : Desk) → verdict_of (begun_of d) ≡ Ok tt → Live (clock_of d) (begun_at d)
unfolding begun_of bytes_of
begun_live d e =
    let t = clock_of d in
    let says : first_of (disorder d ∷ []) ≡ Ok tt = sym (told_verdict (first_of (disorder d ∷ [])) (begun t)) ∙ e in
    subst (λ v. Live t (record { cursor = result_unwrap_or (yes_with v (begun t)) none; names = []; text = [] })) (sym says)
    (record { lines = []; text = refl; tells = tells_begun t (in_time_lem d (not-false _ (yes_first _ _ says).0)); each = tt })

calls_on : (t : ℕ) (ks : List Call) (w : Written) → Live t w ⊎ Over t w → Live t (after_calls ks w) ⊎ Over t (after_calls ks w)
calls_on t [] w h = h
calls_on t (go_on size most d ∷ ks) w (inl k) = calls_on t ks (after_call (go_on size most d) w) (inl (on_live t w size most d k))
calls_on t (close size ∷ ks) w (inl k) = calls_on t ks (after_call (close size) w) (close_live t w size k)
calls_on t (k ∷ ks) w (inr o) = calls_on t ks (after_call k w) (inr (over_stays t k w o))

pub the_parts_joined : (d : Desk) → verdict_of (begun_of d) ≡ Ok tt → (ks : List Call) → Live (clock_of d) (after_calls ks (begun_at d)) ⊎ Over (clock_of d) (after_calls ks (begun_at d))
the_parts_joined d e ks = calls_on (clock_of d) ks (begun_at d) (inl (begun_live d e))

-- CLOSED, THE PARTS JOINED ARE THE TEXT of the names that the steps gave
pub the_parts_are_the_text : (d : Desk) → verdict_of (begun_of d) ≡ Ok tt → (ks : List Call) → is_none (after_calls ks (begun_at d)).cursor ≡ true → Over (clock_of d) (after_calls ks (begun_at d))
the_parts_are_the_text d e ks closed = by_case (the_parts_joined d e ks)
  where
    by_case : Live (clock_of d) (after_calls ks (begun_at d)) ⊎ Over (clock_of d) (after_calls ks (begun_at d)) → Over (clock_of d) (after_calls ks (begun_at d))
    by_case (inl k) = absurd (false_not_true (sym (ordered_live (after_calls ks (begun_at d)).cursor k.tells.order) ∙ closed))
    by_case (inr o) = o

-- AND READING IT BACK GIVES THE NAMES, the start and the end, where each job's name is a number of 32 bits, as the calls have them
pub the_text_is_read_back : (d : Desk) → verdict_of (begun_of d) ≡ Ok tt → (ks : List Call) → is_none (after_calls ks (begun_at d)).cursor ≡ true
    → Each (λ v. job_wire v ≤ most_number) (after_calls ks (begun_at d)).names
    → let w = after_calls ks (begun_at d) in
    (judged w.text ≡ Well (clock_of d) (clock_of d + length w.names) (length (stretches_in w.text))) × (spread (stretches_in w.text) ≡ w.names)
the_text_is_read_back d e ks closed narrow =
    let w = after_calls ks (begun_at d) in
    let o = the_parts_are_the_text d e ks closed in
    let run : Run (clock_of d) w.names = record { names = all_nameable w.names o.each narrow; within = o.within } in
    read_back (clock_of d) w.names run w.text o.text
