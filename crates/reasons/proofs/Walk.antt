-- Laws of the walk to the first overbooked instant or the tightest one.
use mathlib.Core.Path.{◌≡◌, refl}
use mathlib.Core.Logic.{inl, inr}
use mathlib.Core.Bool.{cond}
use Prim.Native.Nat.{ℕ, ◌+◌, ◌-◌, ◌≤◌, ◌<◌}
use native.Mathlib.Nat.{le_refl}
use native.Mathlib.Decide.{dec_lt}
use native.Mathlib.Omega.{arith}
use Rattle.lists.proofs.Tests.{ltb_elim}
use Rattle.ticks.specs.declared.Instant.{Instant}
use Rattle.feeds.specs.Feeds.{in_use}
use Rattle.feeds.specs.Round.{periods, round_of}
use Rattle.edf.specs.Book.{Book}
use Rattle.edf.specs.Owed.{owed_by, RoomBelow}
use Rattle.edf.specs.Margin.{Overbooked, InTime, NoLarger, Smaller, FirstOverbooked, Tightest}
use Rattle.edf.proofs.Horizon.{room_within_horizon}
use Rattle.edf.proofs.Margin.{margin_within_horizon}
use Rattle.ledger.specs.declared.Ledger.{Ledger}
use Rattle.ledger.specs.State.{InOrder}
use Rattle.ledger.specs.Books.{book_of}
use Rattle.ledger.proofs.InOrder.{state_in_order, book_round}
use Rattle.room.specs.Ahead.{last_due, horizon_of}
use Rattle.room.specs.Owed.{Reach}
use Rattle.room.proofs.Ahead.{last_beyond, horizon_near}
use Rattle.reasons.specs.Until.{Until}
use Rattle.reasons.specs.declared.Debt.{Debt}
use Rattle.reasons.specs.Reasons.{debt_by, tighter, Tells}

-- the walk has come to `by`: before it there is room, and `best` is the earliest instant of the smallest margin
pub record Walked (b : Book) (best : Debt) (by : ℕ) : Type 0 where
  pub owed : best.owed.0 ≡ owed_by b best.at.0
  pub after : b.clock < best.at.0
  pub begun : best.at.0 ≤ by
  pub room : RoomBelow by b
  pub least : (E : ℕ) → b.clock < E → E < by → NoLarger b best.at.0 E
  pub first : (E : ℕ) → b.clock < E → E < best.at.0 → Smaller b best.at.0 E

-- nothing lies between the clock and the instant after it
pub walked_first : (b : Book) (by : Instant) → by.0 ≡ b.clock + 1 → Walked b (debt_by b by) by.0
unfolding RoomBelow
walked_first b by e =
    record {
      owed = refl;
      after = omega arith;
      begun = le_refl _;
      room = λ D h k. absurd (omega arith);
      least = λ E h k. absurd (omega arith);
      first = λ E h k. absurd (omega arith);
    }

-- an instant that is overbooked is the first one
pub walked_stops : (b : Book) (best : Debt) (by : ℕ) → Walked b best by → Overbooked b by → FirstOverbooked b by
unfolding RoomBelow
walked_stops b best by w s =
    record {
      after = omega (arith, w.after, w.begun);
      short = s;
      before = λ E h k. omega (arith, w.room E h k);
    }

module _ (b : Book) (best : Debt) (by : Instant) (till r : ℕ) (w : Walked b best by.0) (enough : InTime b by.0) (u : Until (owed_by b) by.0 till r) where
  room_goes_on : RoomBelow r b
  unfolding RoomBelow
  room_goes_on D h k = go (dec_lt D by.0)
    where
      go : Dec (D < by.0) → owed_by b D ≤ D - b.clock
      go (yes p) = w.room D h p
      go (no p) = omega (arith, u.still D (omega arith) k)

  -- from a due instant up to the next the margin grows, so that its smallest is at the due instant or before it
  pub walked_next : Walked b (tighter best (debt_by b by)) r
  walked_next =
      ltb_elim (λ t. Walked b (cond t (debt_by b by) best) r) (by.0 + best.owed.0) (best.at.0 + owed_by b by.0)
      (λ l. record {
        owed = refl;
        after = omega (arith, w.after, w.begun);
        begun = omega (arith, u.after);
        room = room_goes_on;
        least = λ E h k. nearer l E h k (dec_lt E by.0);
        first = λ E h k. omega (arith, l, w.owed, w.least E h k);
      })
      (λ l. record {
        owed = w.owed;
        after = w.after;
        begun = omega (arith, w.begun, u.after);
        room = room_goes_on;
        least = λ E h k. kept l E h k (dec_lt E by.0);
        first = w.first;
      })
    where
      nearer : by.0 + best.owed.0 < best.at.0 + owed_by b by.0 → (E : ℕ) → b.clock < E → E < r → Dec (E < by.0) → NoLarger b by.0 E
      nearer l E h k (yes p) = omega (arith, l, w.owed, w.least E h p)
      nearer l E h k (no p) = omega (arith, u.still E (omega arith) k)

      kept : best.at.0 + owed_by b by.0 ≤ by.0 + best.owed.0 → (E : ℕ) → b.clock < E → E < r → Dec (E < by.0) → NoLarger b best.at.0 E
      kept l E h k (yes p) = w.least E h p
      kept l E h k (no p) = omega (arith, l, w.owed, u.still E (omega arith) k)

pub tighter_before : (best next : Debt) (end : ℕ) → best.at.0 < end → next.at.0 < end → (tighter best next).at.0 < end
tighter_before best next end h k =
    ltb_elim (λ t. (cond t next best).at.0 < end) (next.at.0 + best.owed.0) (best.at.0 + next.owed.0) (λ l. k) (λ l. h)

-- past the horizon the best is the best of all
pub walked_done : (l : Ledger) (best : Debt) (by : ℕ) → InOrder l → (horizon_of l).0 < by → Walked (book_of l) best by → Tightest (book_of l) best.at.0
unfolding RoomBelow horizon_of
walked_done l best by o far w =
    let b = book_of l in
    let R = round_of (periods (in_use l.feeds)) in
    let order = state_in_order l o in
    let round = book_round l.charge 1 (in_use l.feeds) o.feeds.passing in
    record {
      after = w.after;
      room = room_within_horizon b R (last_due l).0 order round (last_beyond l) (λ D h k. w.room D h (omega arith));
      least = margin_within_horizon b R (last_due l).0 best.at.0 (owed_by b best.at.0) order round (last_beyond l)
          (λ E h k. w.least E h (omega arith));
      first = w.first;
    }

-- no instant up to the horizon lies out of reach
pub in_reach : (l : Ledger) (by : Instant) → InOrder l → by.0 ≤ (horizon_of l).0 → Reach l.clock by
in_reach l by o h = record { inside = o.clock; near = omega (arith, (horizon_near l o).1) }

-- THE FIRST OVERBOOKED INSTANT IS TOLD
pub told_first : (l : Ledger) (best : Debt) (by : Instant) → InOrder l → Walked (book_of l) best by.0 → by.0 ≤ (horizon_of l).0
    → Overbooked (book_of l) by.0 → Tells l.clock (book_of l) (debt_by (book_of l) by)
told_first l best by o w near short = record {
  telling = inl (walked_stops (book_of l) best by.0 w short);
  reach = in_reach l by o near;
  owed = refl;
}

-- OR WHERE THE WALK IS PAST THE HORIZON, THE TIGHTEST
pub told_last : (l : Ledger) (best : Debt) (by : ℕ) → InOrder l → Walked (book_of l) best by → (horizon_of l).0 < by → best.at.0 ≤ (horizon_of l).0
    → Tells l.clock (book_of l) best
told_last l best by o w far near = record {
  telling = inr (walked_done l best by o far w);
  reach = in_reach l best.at o near;
  owed = w.owed;
}
