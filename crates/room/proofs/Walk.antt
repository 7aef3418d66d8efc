-- Laws of the walk back from the horizon.
use mathlib.Core.Path.{◌≡◌, refl, sym, subst}
use mathlib.Core.Bool.{Bool, true, false}
use Prim.Native.Nat.{ℕ, suc, ◌+◌, ◌-◌, ◌≤◌, ◌<◌}
use native.Mathlib.Decide.{dec_le, dec_lt}
use native.Mathlib.Omega.{arith}
use Rattle.lists.proofs.Tests.{false_not_true}
use Rattle.feeds.specs.Feeds.{in_use}
use Rattle.feeds.specs.Round.{periods, round_of}
use Rattle.edf.specs.Book.{Book}
use Rattle.edf.specs.Owed.{owed_by, Room, RoomBelow}
use Rattle.edf.specs.Order.{InOrder as BookInOrder}
use Rattle.edf.proofs.Sound.{owed_by_past}
use Rattle.edf.proofs.Horizon.{room_jumps, room_within_horizon}
use Rattle.edf.proofs.Equality.{fits_iff_room}
use Rattle.ledger.specs.declared.Ledger.{Ledger}
use Rattle.ledger.specs.State.{InOrder}
use Rattle.ledger.specs.Books.{book_of}
use Rattle.ledger.proofs.InOrder.{state_in_order, state_light, book_round}
use Rattle.room.specs.Ahead.{last_due, horizon_of}
use Rattle.room.specs.Walk.{RoomFrom, RoomSays, FitsSays}
use Rattle.room.proofs.Ahead.{last_beyond}

-- nothing lies between the horizon and itself
pub room_last : (b : Book) (H : ℕ) → RoomFrom H H b
unfolding RoomFrom
room_last b H D c h k = absurd (omega arith)

-- room by one instant is room from the clock and what is owed by then on
pub room_back : (b : Book) (by H : ℕ) → owed_by b by ≤ by - b.clock → RoomFrom (suc by) H b → RoomFrom (b.clock + owed_by b by) H b
unfolding RoomFrom
room_back b by H h far D c k l = go (dec_le D by)
  where
    go : Dec (D ≤ by) → owed_by b D ≤ D - b.clock
    go (yes p) = room_jumps b by D k p
    go (no p) = far D c (omega arith) l

-- room from the instant after the clock on is room by all
pub room_all : (b : Book) (end H : ℕ) → end ≤ suc b.clock → RoomFrom end H b → RoomBelow H b
unfolding RoomFrom RoomBelow
room_all b end H h far D k l = far D k (omega arith) l

-- more is owed by an instant than there is time
pub room_stops : (b : Book) (by H : ℕ) → BookInOrder b → b.clock ≤ by → by < H → by - b.clock < owed_by b by → RoomBelow H b → ⊥
unfolding RoomBelow
room_stops b by H o c h k near = go (dec_lt b.clock by)
  where
    go : Dec (b.clock < by) → ⊥
    go (yes p) = omega (arith, near by p h)
    go (no p) = omega (arith, owed_by_past b by o (omega arith))

-- at the last instant before its end there is time enough, so it goes on before what is owed by then could be done
pub walk_on : (l : Ledger) (by end next H : ℕ) → RoomFrom end H (book_of l) → by + 1 ≡ end → owed_by (book_of l) by ≤ by - l.clock.0
    → next ≡ l.clock.0 + owed_by (book_of l) by → RoomFrom next H (book_of l)
walk_on l by end next H far e enough n =
    let b = book_of l in
    let here : suc by ≡ end = omega arith in
    subst (λ k. RoomFrom k H b) (sym n) (room_back b by H enough (subst (λ k. RoomFrom k H b) (sym here) far))

-- it has come to the clock
pub walk_done : (l : Ledger) (end H : ℕ) → RoomFrom end H (book_of l) → end ≤ l.clock.0 + 1 → RoomSays true H (book_of l)
walk_done l end H far h = record {
  yes = λ e. room_all (book_of l) end H (omega arith) far;
  no = λ e. absurd (false_not_true (sym e));
}

-- there is too little time by an instant
pub walk_stops : (l : Ledger) (by H : ℕ) → InOrder l → l.clock.0 ≤ by → by < H → by - l.clock.0 < owed_by (book_of l) by → RoomSays false H (book_of l)
walk_stops l by H o c h short = record {
  yes = λ e. absurd (false_not_true e);
  no = λ e. room_stops (book_of l) by H (state_in_order l o) c h short;
}

-- LINE 6: room below the horizon is what fits means, in both directions
pub fits_says : (l : Ledger) (r : Bool) → InOrder l → RoomSays r (horizon_of l).0 (book_of l) → FitsSays r (book_of l)
unfolding Room RoomBelow horizon_of
fits_says l r o s =
    let b = book_of l in
    let order = state_in_order l o in
    let same = fits_iff_room b order (state_light l o) in
    let round = book_round l.charge 1 (in_use l.feeds) o.feeds.passing in
    record {
      yes = λ e. same.1 (room_within_horizon b (round_of (periods (in_use l.feeds))) (last_due l).0 order round (last_beyond l) (s.yes e));
      no = λ e fit. s.no e (λ D h k. same.0 fit D h);
    }

-- TWO ANSWERS THAT THE CONTRACT OF LINE 6 ALLOWS ARE THE SAME
pub fits_said_once : (b : Book) (r s : Bool) → FitsSays r b → FitsSays s b → r ≡ s
fits_said_once b true true x y = refl
fits_said_once b true false x y = absurd (y.no refl (x.yes refl))
fits_said_once b false true x y = absurd (x.no refl (y.yes refl))
fits_said_once b false false x y = refl
