-- Laws of division that every crate above may need.
use mathlib.Core.Logic.{◌↔◌}
use Prim.Native.Nat.{ℕ, zero, suc, ◌*◌, ◌/◌, ◌≤◌}
use native.Mathlib.Nat.{div-zero, div-mul-le_self, le-div_iff_mul-le}
use native.Mathlib.Omega.{arith}

-- of more there is no less to share out
pub div_mono : (k m n : ℕ) → m ≤ n → m / k ≤ n / k
div_mono zero m n h = omega (arith, div-zero m, div-zero n)
div_mono (suc k) m n h =
    let i : (m / suc k ≤ n / suc k) ↔ (m / suc k * suc k ≤ n) = le-div_iff_mul-le (omega arith) in
    i.1 (omega (arith, div-mul-le_self m (suc k)))
