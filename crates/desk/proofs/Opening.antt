-- What the openings' lines let pass, and the state that an opening hands back.
use mathlib.Core.Path.{◌≡◌, sym, ap, ◌∙◌}
use mathlib.Core.Bool.{true}
use mathlib.Core.List.{List, [], ◌∷◌, map}
use Prim.Native.Nat.{ℕ, ◌≤◌}
use lib.ListN.{length}
use borrow.Author.Tests.{not-false, leb-true}
use Rattle.ticks.specs.declared.Instant.{Instant}
use Rattle.ticks.specs.declared.Length.{Length}
use Rattle.ticks.specs.Ticks.{last_instant, most_charge, ticks}
use Rattle.feeds.specs.declared.Feed.{Feed}
use Rattle.jobs.specs.Sorted.{sorted}
use Rattle.feeds.specs.Feeds.{feeds_of}
use Rattle.feeds.specs.Lines.{shape_lines, feed_lines, feeds_in, Passing}
use Rattle.feeds.specs.Pieces.{arrived}
use Rattle.feeds.proofs.Passing.{in_use_of}
use Rattle.feeds.proofs.Lent.{read_passing}
use Rattle.edf.specs.Load.{opened, opened_feed}
use Rattle.std.specs.Prelude.{Ok}
use Rattle.answers.specs.Answers.{first_of}
use Rattle.answers.proofs.Answers.{yes_both, yes_first}
use Rattle.shares.specs.Shares.{share, is_share}
use Rattle.ledger.specs.State as ledger
use Rattle.ledger.specs.Books.{book_feeds, owing_as}
use Rattle.ledger.proofs.Pieces.{arrived_opened}
use Rattle.desk.specs.State.{empty, with}
use Rattle.desk.specs.Opening.{start_line, charge_line, share_line, front_lines, open_lines, shared_lines, opened_desk, Fresh}

-- the pieces released at the opening instant are ready
pub opened_ledger : (fs : List Feed) (charge : Length) (clock : Instant) → Fresh fs
    → with empty (ledger.laid clock charge (feeds_of (map (arrived charge clock) fs))) ≡ opened_desk fs charge clock
unfolding opened sorted
opened_ledger fs charge clock z =
    let feeds = ap feeds_of
    (arrived_opened charge clock 1 fs z ∙ ap (owing_as (map (opened_feed clock.0) (book_feeds charge 1 fs))) (sym (in_use_of fs))) in
    λ i. with empty (ledger.laid clock charge (feeds i))

module _ (xs : List ℕ) (start charge : ℕ) where
  -- what lines 12, 8, 3 and 18 let pass
  pub front_passes : first_of (front_lines xs start charge) ≡ Ok tt → (first_of (shape_lines (length xs)) ≡ Ok tt) × (start ≤ last_instant) × (charge ≤ most_charge)
  front_passes e =
      let t = yes_both (shape_lines (length xs)) (start_line start ∷ charge_line charge ∷ []) e in
      let u = yes_first (start_line start) (charge_line charge ∷ []) t.1 in
      let w = yes_first (charge_line charge) [] u.1 in
      (t.0, leb-true _ _ (not-false _ u.0), leb-true _ _ (not-false _ w.0))

  -- where no line holds, the feeds pass, the charge is within its limit and the clock can read the instant
  passed : first_of (front_lines xs start charge) ≡ Ok tt → first_of (feed_lines (ticks charge) (feeds_in xs)) ≡ Ok tt
      → Passing (ticks charge) (feeds_in xs) × (charge ≤ most_charge) × (start ≤ last_instant)
  passed e f = let t = front_passes e in (read_passing xs (ticks charge) t.0 f, t.2, t.1)

  pub opening_passes : first_of (open_lines xs start charge) ≡ Ok tt → Passing (ticks charge) (feeds_in xs) × (charge ≤ most_charge) × (start ≤ last_instant)
  opening_passes e = let t = yes_both (front_lines xs start charge) (feed_lines (ticks charge) (feeds_in xs)) e in passed t.0 t.1

  -- and where a share is carried, it is one
  pub shared_passes : (p q : ℕ) → first_of (shared_lines xs start charge p q) ≡ Ok tt
      → (is_share (share p q) ≡ true) × Passing (ticks charge) (feeds_in xs) × (charge ≤ most_charge) × (start ≤ last_instant)
  shared_passes p q e =
      let t = yes_both (front_lines xs start charge) (share_line (share p q) ∷ feed_lines (ticks charge) (feeds_in xs)) e in
      let u = yes_first (share_line (share p q)) (feed_lines (ticks charge) (feeds_in xs)) t.1 in
      let w = passed t.0 u.1 in
      (not-false _ u.0, w.0, w.1, w.2)
