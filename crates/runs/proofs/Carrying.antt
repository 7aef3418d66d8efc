-- A part under way: how each step carries it on, and where it stops.
use mathlib.Core.Path.{◌≡◌, refl, sym, ap, subst, ◌∙◌}
use mathlib.Core.Bool.{true, false, cond, not, ◌&&◌}
use mathlib.Core.List.{List, [], ◌∷◌, ◌++◌, append_assoc, append-nil}
use Prim.Native.Nat.{ℕ, zero, suc, ◌+◌, ◌-◌, ◌≤◌, ◌<◌}
use native.Mathlib.Omega.{arith}
use lib.ListN.{length, length-append}
use Rattle.text.specs.Put.{Put}
use Rattle.text.proofs.Texts.{put_nothing, put_after, put_length}
use Rattle.answers.specs.declared.Who.{Who}
use Rattle.answers.specs.Answers.{is_yes}
use Rattle.answers.proofs.Answers.{is_yes_lem}
use Rattle.desk.specs.declared.Desk.{Desk}
use Rattle.desk.specs.declared.Stepped.{Stepped}
use Rattle.desk.specs.Calls.{step_of}
use Rattle.desk.proofs.Named.{step_clock}
use Rattle.waveform.specs.declared.Token.{Token}
use Rattle.waveform.specs.declared.cursor.Cursor.{Cursor}
use Rattle.waveform.specs.Cursors.{any_due, stepped}
use Rattle.waveform.specs.Parts.{bytes_of, wrote_all, due_fitting}
use Rattle.waveform.proofs.Fitting.{bytes_append}
use Rattle.waveform.proofs.SoFar.{same_run}
use Rattle.runs.specs.Parts.{clock_of, Part, part, filled, step_on, goes_on, carried, part_of, Carried}

-- where it stops
pub stops_here : (size n : ℕ) (p : Part) → goes_on p ≡ false → carried size n p ≡ p
unfolding carried
stops_here size zero p e = refl
stops_here size (suc n) p e = rw e

module _ (p : Part) where
  pub due_stops : any_due p.cursor.due ≡ true → goes_on p ≡ false
  unfolding goes_on
  due_stops e = ap (λ b. not b && is_yes (step_of p.desk).verdict) e

  pub refusal_stops : any_due p.cursor.due ≡ false → is_yes (step_of p.desk).verdict ≡ false → goes_on p ≡ false
  unfolding goes_on
  refusal_stops e h = (λ i. not (e i) && h i)

  pub steps_on : (size n : ℕ) → any_due p.cursor.due ≡ false → is_yes (step_of p.desk).verdict ≡ true → carried size (suc n) p ≡ carried size n (filled size (step_on p (step_of p.desk)))
  unfolding carried goes_on
  steps_on size n e h = ap (λ b. cond b (carried size n (filled size (step_on p (step_of p.desk)))) p) (λ i. not (e i) && h i)

-- a step whose lines are written while they fit, by its cursor and the room
abbrev filled_as : List Who → List Token → Desk → Who → Cursor → ℕ → Part
filled_as ws ls d v c room = part d (wrote_all (due_fitting room c) c) (ws ++ (v ∷ [])) (ls ++ due_fitting room c)

-- WHAT IS DONE OF A PART: from the desk, the cursor and the place where it began, in whatever was written before it
pub record Going (d : List ℕ) (most : ℕ) (from : Desk) (first : Cursor) (at : ℕ) (e : List ℕ) (now : Desk) (c : Cursor) (to taken : ℕ) : Type 0 where
  pub names : List Who
  pub lines : List Token
  pub put : Put d e at to (bytes_of lines)
  pub same : (xs : List Token) → length (bytes_of xs) ≡ at
      → carried (length d) most (part from first [] xs) ≡ carried (length d) (most - taken) (part now c names (xs ++ lines))
  pub steps : taken ≡ length names
  pub few : taken ≤ most
  pub clock : c.clock ≡ clock_of now

-- before the first step
pub nothing_done : {d : List ℕ} {most : ℕ} {from : Desk} {first : Cursor} {at : ℕ} → at ≤ length d → first.clock ≡ clock_of from → Going d most from first at d from first at 0
unfolding bytes_of
nothing_done {d} {most} {from} {first} {at} h k =
    let z : most ≡ most - 0 = omega arith in
    record {
      names = [];
      lines = [];
      put = put_nothing d at h;
      same = λ xs e i. carried (length d) (z i) (part from first [] (sym (append-nil xs) i));
      steps = refl;
      few = omega arith;
      clock = k;
    }

module _ {d : List ℕ} {most : ℕ} {from : Desk} {first : Cursor} {at : ℕ} {e : List ℕ} {now : Desk} {c : Cursor} {to taken : ℕ} (g : Going d most from first at e now c to taken) where
  -- one step more
  pub one_more : {x : Stepped} {a b : Cursor} {f : List ℕ} {end : ℕ}
      → taken < most
      → any_due c.due ≡ false
      → x ≡ step_of now
      → is_yes x.verdict ≡ true
      → a ≡ stepped c x.who
      → Put e f to end (bytes_of (due_fitting (length e - to) a))
      → b ≡ wrote_all (due_fitting (length e - to) a) a
      → Going d most from first at f x.desk b end (taken + 1)
  one_more {x} {a} {b} {f} {end} more still ex ok ea p eb =
      let room = length e - to in
      let fit = due_fitting room a in
      let taken_on : is_yes (step_of now).verdict ≡ true = ap (λ y. is_yes y.verdict) (sym ex) ∙ ok in
      record {
        names = g.names ++ (x.who ∷ []);
        lines = g.lines ++ fit;
        put = subst (Put d f at end) (sym (bytes_append g.lines fit)) (put_after g.put p);
        same = λ xs h.
            let p₀ = part now c g.names (xs ++ g.lines) in
            let k = most - (taken + 1) in
            let after : Stepped → ℕ → Part = λ y r. filled_as g.names (xs ++ g.lines) y.desk y.who (stepped c y.who) r in
            let left : most - taken ≡ suc k = omega (arith, more) in
            let bytes : length (bytes_of (xs ++ g.lines)) ≡ length (bytes_of xs) + length (bytes_of g.lines) = ap length (bytes_append xs g.lines) ∙ length-append (bytes_of xs) (bytes_of g.lines) in
            let rooms : length d - length (bytes_of (xs ++ g.lines)) ≡ room = omega (arith, bytes, h, g.put.next, put_length g.put) in
            g.same xs h
            ∙ ap (λ n. carried (length d) n p₀) left
            ∙ steps_on p₀ (length d) k still taken_on
            ∙ ap (carried (length d) k)
            ((λ i. after (sym ex i) (rooms i))
            ∙ (λ i. filled_as g.names (xs ++ g.lines) x.desk x.who (sym ea i) room)
            ∙ (λ i. part x.desk (sym eb i) (g.names ++ (x.who ∷ [])) (append_assoc xs g.lines fit i)));
        steps = let n : length (g.names ++ (x.who ∷ [])) ≡ length g.names + 1 = length-append g.names (x.who ∷ []) in omega (arith, n, g.steps);
        few = omega (arith, more);
        clock = ap (λ y. y.clock) eb ∙ (same_run fit a).0 ∙ ap (λ y. y.clock) ea ∙ ap (◌+ 1) g.clock ∙ sym (step_clock now (is_yes_lem _ taken_on)) ∙ ap (λ y. clock_of y.desk) (sym ex);
      }

  -- where it stops: the part is what was done
  pub part_done : (xs : List Token) → length (bytes_of xs) ≡ at → goes_on (part now c g.names (xs ++ g.lines)) ≡ false
      → carried (length d) most (part from first [] xs) ≡ part now c g.names (xs ++ g.lines)
  part_done xs h e = g.same xs h ∙ stops_here (length d) (most - taken) (part now c g.names (xs ++ g.lines)) e

  -- all steps are taken
  pub part_full : (xs : List Token) → length (bytes_of xs) ≡ at → most ≤ taken
      → carried (length d) most (part from first [] xs) ≡ part now c g.names (xs ++ g.lines)
  unfolding carried
  part_full xs h e =
      let z : most - taken ≡ 0 = omega (arith, e) in
      g.same xs h ∙ ap (λ n. carried (length d) n (part now c g.names (xs ++ g.lines))) z

-- THE PART IS WHAT WAS DONE, behind the lines that were due when it began
pub finished : (entry : List ℕ) (most : ℕ) (from : Desk) (cursor : Cursor) {d : List ℕ} {first : Cursor} {at : ℕ} {e : List ℕ} {now : Desk} {c : Cursor} {to taken : ℕ}
    → Put entry d 0 at (bytes_of (due_fitting (length entry - 0) cursor)) × (first ≡ wrote_all (due_fitting (length entry - 0) cursor) cursor)
    → (g : Going d most from first at e now c to taken)
    → ((xs : List Token) → length (bytes_of xs) ≡ at → carried (length d) most (part from first [] xs) ≡ part now c g.names (xs ++ g.lines))
    → Carried entry e (part_of (length entry) most from cursor) now c to taken
unfolding part_of bytes_of
finished entry most from cursor {d} {first} {at} {e} {now} {c} {to} {taken} p g done =
    let fit = due_fitting (length entry - 0) cursor in
    let far : length (bytes_of fit) ≡ at = omega (arith, p.0.next) in
    let whole : part_of (length entry) most from cursor ≡ part now c g.names (fit ++ g.lines) = (λ i. carried (sym (put_length p.0) i) most (part from (sym p.1 i) [] fit)) ∙ done fit far in
    record {
      put = subst (λ q. Put entry e 0 to (bytes_of q.lines)) (sym whole) (subst (Put entry e 0 to) (sym (bytes_append fit g.lines)) (put_after p.0 g.put));
      desk = ap (λ q. q.desk) (sym whole);
      cursor = ap (λ q. q.cursor) (sym whole);
      steps = g.steps ∙ ap (λ q. length q.names) (sym whole);
    }
