-- What a share is, as facts.
use mathlib.Core.Path.{◌≡◌, refl}
use mathlib.Core.Bool.{Bool, true, false, ◌&&◌, ◌||◌}
use Prim.Native.Nat.{ℕ, ◌+◌, ◌*◌, ◌-◌, ◌≤◌}
use native.Mathlib.Nat.{div-le_self, mul-le-mul}
use native.Mathlib.Omega.{arith}
use borrow.Author.Tests.{leb-true}
use lib.Dec.{leb}
use Rattle.lists.proofs.Tests.{both}
use Rattle.edf.specs.Share.{at_share}
use Rattle.shares.specs.declared.Share.{Share}
use Rattle.shares.specs.Shares.{most_share, is_none, is_share, share_in}

-- a share is not nothing, not above all, and in numbers that are not too high
pub share_is : (s : Share) → is_share s ≡ true → (1 ≤ s.p) × (s.p ≤ s.q) × (s.q ≤ most_share)
share_is s h =
    let t = both (leb 1 s.p) (leb s.p s.q && leb s.q most_share) h in
    let u = both (leb s.p s.q) (leb s.q most_share) t.1 in
    (leb-true _ _ t.0, leb-true _ _ u.0, leb-true _ _ u.1)

-- a state may have any share
pub share_in_lem : (s : Share) → is_share s ≡ true → share_in s ≡ true
share_in_lem s h = go (is_none s) (is_share s) h
  where
    go : (a b : Bool) → b ≡ true → a || b ≡ true
    go true b e = refl
    go false b e = e

-- at no share does a job take longer than this
pub time_bounded : (s : Share) (work most : ℕ) → is_share s ≡ true → work ≤ most → at_share s.p s.q work ≤ most * most_share + most_share
unfolding at_share
time_bounded s work most h w =
    let t = share_is s h in
    omega (arith, div-le_self (work * s.q + (s.p - 1)) s.p, mul-le-mul w t.2, t.1, t.2)
