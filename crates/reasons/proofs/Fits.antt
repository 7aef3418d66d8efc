-- The instant that a customer is told of decides line 6.
use mathlib.Core.Path.{◌≡◌, refl, sym}
use mathlib.Core.Bool.{Bool, true, false, not}
use Prim.Native.Nat.{ℕ}
use lib.IntN.{pos}
use lib.Signed.{lt_z}
use Rattle.lists.proofs.Tests.{false_not_true}
use Rattle.edf.specs.Fits.{Fits}
use Rattle.edf.specs.Margin.{margin, FirstOverbooked, Tightest, Telling}
use Rattle.edf.proofs.Margin.{overbooked_does_not_fit, tightest_fits, below_zero_is_overbooked, not_below_zero_is_tightest}
use Rattle.ledger.specs.declared.Ledger.{Ledger}
use Rattle.ledger.specs.State.{InOrder}
use Rattle.ledger.specs.Books.{book_of}
use Rattle.ledger.proofs.InOrder.{state_in_order, state_light}
use Rattle.room.specs.Walk.{FitsSays}

module _ (l : Ledger) (D : ℕ) (o : InOrder l) where
  -- where it is overbooked, not everything fits
  pub overbooked_is_refused : FirstOverbooked (book_of l) D → Fits (book_of l) → ⊥
  overbooked_is_refused = overbooked_does_not_fit (book_of l) D (state_in_order l o) (state_light l o)

  -- where it is the tightest, everything does
  pub tightest_is_taken : Tightest (book_of l) D → Fits (book_of l)
  tightest_is_taken = tightest_fits (book_of l) D (state_in_order l o) (state_light l o)

  -- THE SIGN OF THE MARGIN THERE IS LINE 6
  pub sign_says : Telling (book_of l) D → FitsSays (not (lt_z (margin (book_of l) D) (pos 0))) (book_of l)
  sign_says t = go (lt_z (margin (book_of l) D) (pos 0)) (below_zero_is_overbooked (book_of l) D t) (not_below_zero_is_tightest (book_of l) D t)
    where
      go : (short : Bool) → (short ≡ true → FirstOverbooked (book_of l) D) → (short ≡ false → Tightest (book_of l) D) → FitsSays (not short) (book_of l)
      go true x y = record { yes = λ e. absurd (false_not_true e); no = λ e. overbooked_is_refused (x refl) }
      go false x y = record { yes = λ e. tightest_is_taken (y refl); no = λ e. absurd (false_not_true (sym e)) }
