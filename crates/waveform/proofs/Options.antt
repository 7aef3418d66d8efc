-- A value under a test: what there is, and that there is none.
use mathlib.Core.Path.{◌≡◌, refl}
use mathlib.Core.Bool.{Bool, true, false, cond}
use Prim.Native.Nat.{ℕ}
use native.Mathlib.Omega.{arith}
use Rattle.std.specs.Prelude.{Some, None}

module _ {A : Type 0} (b : Bool) (x : A) where
  pub if_some : {y : A} → Some y ≡ cond b (Some x) None → (b ≡ true) × (y ≡ x)
  if_some {y} h = go b h
    where
      go : (b : Bool) → Some y ≡ cond b (Some x) None → (b ≡ true) × (y ≡ x)
      go true k = (refl, cc)
      go false k = let z : ◌≡◌ {A = ℕ} 0 1 = cc in absurd (omega arith)

  pub if_none : None ≡ cond b (Some x) None → b ≡ false
  if_none h = go b h
    where
      go : (b : Bool) → None ≡ cond b (Some x) None → b ≡ false
      go true k = let z : ◌≡◌ {A = ℕ} 0 1 = cc in absurd (omega arith)
      go false k = refl
