-- The end of a run: by what fits, which lines closing writes and the cursor that it hands back.
use mathlib.Core.Path.{◌≡◌, refl, sym, ap, subst, ◌∙◌}
use mathlib.Core.Logic.{◌⊎◌, inl, inr}
use mathlib.Core.Bool.{Bool, true, false, cond, not, ◌&&◌}
use mathlib.Core.List.{List, [], ◌∷◌, ◌++◌, append-nil}
use Prim.Native.Nat.{ℕ, suc, ◌+◌, ◌-◌, ◌≤◌, ◌<◌}
use native.Mathlib.Omega.{arith}
use borrow.Author.Tests.{eq-eqb, ne_eqb, lt-ltb, leb-true, leb-false}
use lib.Dec.{eqb, leb, ltb}
use lib.ListN.{length, length-append}
use Rattle.lists.specs.Lists.{all_of}
use Rattle.lists.proofs.Tests.{both, false_not_true}
use Rattle.answers.specs.declared.Refusal.{Refusal}
use Rattle.std.specs.Prelude.{Ok, Err}
use Rattle.answers.specs.Answers.{first_of, on_yes}
use Rattle.waveform.specs.declared.Token.{Token}
use Rattle.waveform.specs.declared.Token.TheVariants as token
use Rattle.waveform.specs.declared.cursor.Cursor.{Cursor}
use Rattle.waveform.specs.declared.parts.Closed.{Closed}
use Rattle.waveform.specs.Texts.{as_line}
use Rattle.waveform.specs.Cursors.{flagged, due_lines, any_due, any_value, wrote}
use Rattle.waveform.specs.Order.{none, is_none}
use Rattle.waveform.specs.Parts.{bytes_of, fitting, wrote_all, due_fitting, stuck, closing_lines, closing_fitting, after_closing, close_stops, refused, closed_of, closing_bytes}
use Rattle.waveform.proofs.Lengths.{line_length}
use Rattle.waveform.proofs.Cursors.{due_first, due_none}
use Rattle.waveform.proofs.Fitting.{fits_first, fits_not, short_before, whole_before, due_left}

-- all of them are written, or not
after_all : (ls : List Token) (c : Cursor) → length ls ≡ length (closing_lines c) → after_closing ls c ≡ none
unfolding after_closing
after_all ls c h = rw (eq-eqb _ _ h)

after_some : (ls : List Token) (c : Cursor) → length ls < length (closing_lines c) → after_closing ls c ≡ wrote_all ls c
unfolding after_closing
after_some ls c h = rw (ne_eqb (length ls) (length (closing_lines c)) (λ e. absurd (omega (arith, e))))

-- what closing does with the lines that fit and the cursor behind them
pub record Closes (room : ℕ) (c : Cursor) (fit : List Token) (after : Cursor) : Type 0 where
  pub lines : closing_fitting room c ≡ fit
  pub cursor : after_closing (closing_fitting room c) c ≡ after

-- an empty cursor has no lines, and stays
pub closes_none : (room : ℕ) (c : Cursor) → is_none c ≡ true → Closes room c [] none
unfolding closing_lines fitting after_closing
closes_none room c e = record { lines = rw e; cursor = rw e }

module _ (room : ℕ) (c : Cursor) (live : is_none c ≡ false) where
  abbrev fit : List Token
  fit = due_fitting room c

  abbrev after : Cursor
  after = wrote_all (due_fitting room c) c

  abbrev end : Token
  end = token.Mark c.clock

  the_lines : closing_lines c ≡ due_lines c ++ flagged c.ran end
  unfolding closing_lines
  the_lines = rw live

  made : {ls : List Token} {a : Cursor} → closing_fitting room c ≡ ls → after_closing ls c ≡ a → Closes room c ls a
  made {ls} {a} e h = record { lines = e; cursor = ap (λ xs. after_closing xs c) e ∙ h }

  -- not all that is due fits
  pub closes_short : any_due after.due ≡ true → Closes room c fit after
  closes_short due =
      let n : length (due_lines c) ≡ length fit + suc (length (due_lines (wrote after))) = ap length (due_left room c) ∙ length-append fit (due_lines after) ∙ ap (λ xs. length fit + length xs) (due_first after due) in
      let short : length fit < length (due_lines c) = omega (arith, n) in
      let longer : length (closing_lines c) ≡ length (due_lines c) + length (flagged c.ran end) = ap length the_lines ∙ length-append (due_lines c) (flagged c.ran end) in
      made (ap (fitting room) the_lines ∙ short_before room (due_lines c) (flagged c.ran end) short) (after_some fit c (omega (arith, longer)))

  module _ (done : any_due after.due ≡ false) where
    all_due : due_lines c ≡ fit
    all_due = due_left room c ∙ ap (fit ++◌) (due_none after done) ∙ append-nil fit

    -- the mark at the end has the room behind them
    behind : closing_fitting room c ≡ fit ++ fitting (room - length (bytes_of fit)) (flagged c.ran end)
    behind =
        ap (fitting room) (the_lines)
        ∙ whole_before room (due_lines c) (flagged c.ran end) (ap length (sym all_due))
        ∙ (λ i. all_due i ++ fitting (room - length (bytes_of (all_due i))) (flagged c.ran end))

    -- all that closes it where no step was taken
    pub still_all : c.ran ≡ false → closing_lines c ≡ fit
    still_all e = the_lines ∙ (λ i. all_due i ++ flagged (e i) end) ∙ append-nil fit

    -- no step was taken
    pub closes_still : c.ran ≡ false → Closes room c fit none
    unfolding fitting
    closes_still e =
        let ls : closing_fitting room c ≡ fit = behind ∙ ap (λ b. fit ++ fitting (room - length (bytes_of fit)) (flagged b end)) e ∙ append-nil fit in
        made ls (after_all fit c (ap length (sym (still_all e))))

    module _ (ran : c.ran ≡ true) where
      -- all that closes it where one was
      pub marked_all : closing_lines c ≡ fit ++ (end ∷ [])
      marked_all = the_lines ∙ (λ i. all_due i ++ flagged (ran i) end)

      longer : length (closing_lines c) ≡ length fit + 1
      longer = ap length marked_all ∙ length-append fit (end ∷ [])

      -- the mark does not fit
      pub closes_unmarked : room - length (bytes_of fit) < length (as_line end) → Closes room c fit after
      closes_unmarked h =
          let ls : closing_fitting room c ≡ fit = behind ∙ ap (λ b. fit ++ fitting (room - length (bytes_of fit)) (flagged b end)) ran ∙ ap (fit ++◌) (fits_not _ end [] h) ∙ append-nil fit in
          made ls (after_some fit c (omega (arith, longer)))

      -- it does
      pub closes_marked : length (as_line end) ≤ room - length (bytes_of fit) → Closes room c (fit ++ (end ∷ [])) none
      unfolding fitting
      closes_marked h =
          let ls : closing_fitting room c ≡ fit ++ (end ∷ []) = behind ∙ ap (λ b. fit ++ fitting (room - length (bytes_of fit)) (flagged b end)) ran ∙ ap (fit ++◌) (fits_first _ end [] h) in
          made ls (after_all (fit ++ (end ∷ [])) c (length-append fit (end ∷ []) ∙ sym longer))

-- EITHER the lines that are due are written while they fit, OR all that closes the run is written
pub closes_either : (room : ℕ) (c : Cursor) → is_none c ≡ false
    → Closes room c (due_fitting room c) (wrote_all (due_fitting room c) c) ⊎ Closes room c (closing_lines c) none
closes_either room c live = go (any_due (wrote_all (due_fitting room c) c).due) refl c.ran refl
  where
    by_mark : any_due (wrote_all (due_fitting room c) c).due ≡ false → c.ran ≡ true → (b : Bool) → leb (length (as_line (token.Mark c.clock))) (room - length (bytes_of (due_fitting room c))) ≡ b
        → Closes room c (due_fitting room c) (wrote_all (due_fitting room c) c) ⊎ Closes room c (closing_lines c) none
    by_mark d r true e =
        inr
        (subst (λ ls. Closes room c ls none) (sym (marked_all room c live d r))
        (closes_marked room c live d r (leb-true (length (as_line (token.Mark c.clock))) (room - length (bytes_of (due_fitting room c))) e)))
    by_mark d r false e = inl (closes_unmarked room c live d r (leb-false (length (as_line (token.Mark c.clock))) (room - length (bytes_of (due_fitting room c))) e))

    go : (b : Bool) → any_due (wrote_all (due_fitting room c) c).due ≡ b → (r : Bool) → c.ran ≡ r
        → Closes room c (due_fitting room c) (wrote_all (due_fitting room c) c) ⊎ Closes room c (closing_lines c) none
    go true d r e = inl (closes_short room c live d)
    go false d false e = inr (subst (λ ls. Closes room c ls none) (sym (still_all room c live d e)) (closes_still room c live d e))
    go false d true e = by_mark d e (leb (length (as_line (token.Mark c.clock))) (room - length (bytes_of (due_fitting room c)))) refl

-- an empty cursor closes with nothing to write
none_closed : (c : Cursor) → is_none c ≡ true → closing_lines c ≡ []
unfolding closing_lines
none_closed c e = rw e

-- WHETHER IT IS STUCK: nothing is written, and the run is not over
pub stuck_says : (ls : List Token) (c : Cursor) → eqb (length (bytes_of ls)) 0 && not (is_none (after_closing ls c)) ≡ stuck (closing_lines c) ls
unfolding bytes_of after_closing wrote_all stuck is_none any_value all_of
stuck_says (l ∷ ls) c =
    ap (λ b. b && not (is_none (after_closing (l ∷ ls) c)))
    (ne_eqb (length (as_line l ++ bytes_of ls)) 0 (λ e. absurd (omega (arith, e, length-append (as_line l) (bytes_of ls), line_length l))))
    ∙ sym (ap (λ b. b && ltb 0 (length (closing_lines c))) (ne_eqb (suc (length ls)) 0 (λ e. absurd (omega (arith, e)))))
stuck_says [] c = go (closing_lines c) refl
  where
    go : (ks : List Token) → closing_lines c ≡ ks → not (is_none (cond (eqb 0 (length ks)) none c)) ≡ ltb 0 (length ks)
    go [] e = refl
    go (k ∷ ks) e =
        ap (λ b. not (is_none (cond b none c))) (ne_eqb 0 (suc (length ks)) (λ z. absurd (omega (arith, z))))
        ∙ ap not (still (is_none c) refl e)
        ∙ sym (lt-ltb 0 (suc (length ks)) (omega arith))
      where
        still : (b : Bool) → is_none c ≡ b → closing_lines c ≡ k ∷ ks → b ≡ false
        still false h e = refl
        still true h e = let n : 0 ≡ suc (length ks) = ap length (sym (none_closed c h) ∙ e) in absurd (omega (arith, n))

-- nothing is written then
pub stuck_nothing : (lines fit : List Token) → stuck lines fit ≡ true → bytes_of fit ≡ []
unfolding stuck bytes_of
stuck_nothing lines [] h = refl
stuck_nothing lines (l ∷ ls) h =
    let no = (both (eqb (suc (length ls)) 0) (ltb 0 (length lines)) h).0 in
    absurd (false_not_true (sym (ne_eqb (suc (length ls)) 0 (λ e. absurd (omega (arith, e)))) ∙ no))

-- what closing hands back by its answer
module _ (room : ℕ) (c : Cursor) where
  pub closed_no : (r : Refusal) → first_of (close_stops room c) ≡ Err r
      → (refused c r ≡ closed_of room c) × ([] ≡ closing_bytes room c)
  unfolding closed_of closing_bytes
  closed_no r e = (
    λ i. record {
      cursor = on_yes (sym e i) (after_closing (closing_fitting room c) c) c;
      verdict = sym e i;
      bytes = on_yes (sym e i) (length (bytes_of (closing_fitting room c))) 0;
    },
    λ i. on_yes (sym e i) (bytes_of (closing_fitting room c)) [],
  )

  pub closed_yes : first_of (close_stops room c) ≡ Ok tt
      → (◌≡◌ {A = Closed} (record { cursor = after_closing (closing_fitting room c) c; verdict = Ok tt; bytes = length (bytes_of (closing_fitting room c)) }) (closed_of room c))
      × (bytes_of (closing_fitting room c) ≡ closing_bytes room c)
  unfolding closed_of closing_bytes
  closed_yes e = (
    λ i. record {
      cursor = on_yes (sym e i) (after_closing (closing_fitting room c) c) c;
      verdict = sym e i;
      bytes = on_yes (sym e i) (length (bytes_of (closing_fitting room c))) 0;
    },
    λ i. on_yes (sym e i) (bytes_of (closing_fitting room c)) [],
  )
