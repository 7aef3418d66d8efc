-- A tick given to the job of a number, in the list of live jobs and at the place of its number.
use mathlib.Core.Path.{◌≡◌, refl, ap, ◌∙◌}
use mathlib.Core.Bool.{Bool, true, false, cond}
use mathlib.Core.List.{List, [], ◌∷◌, ◌++◌, map}
use Prim.Native.Nat.{ℕ, zero, suc, ◌+◌, ◌-◌, ◌≤◌, ◌<◌}
use native.Mathlib.Omega.{arith}
use lib.Dec.{ltb, eqb}
use lib.ListN.{length, get_or, take, drop}
use borrow.Author.Tests.{lt-ltb, le-ltb}
use Rattle.lists.specs.Lists.{bit, eq, Each}
use Rattle.lists.proofs.Tests.{eq_refl}
use Rattle.lists.proofs.Lists.{total_keep_le, total_map}
use Rattle.ticks.specs.Ticks.{ticks}
use Rattle.jobs.specs.declared.Job.{Job}
use Rattle.jobs.specs.Jobs.{no_job, times, FoundAt}
use Rattle.jobs.specs.Served.{Owing, less_job, owing_less, served_job, served}

-- a job of another number stays as it is
past : (n : ℕ) (j : Job) (js : List Job) → eq n j.number ≡ 0 → Owing j → served n (j ∷ js) ≡ j ∷ served n js
past n j js none o =
    let z : j.owed.0 - eq n j.number ≡ j.owed.0 = omega arith in
    let test : ltb 0 (j.owed.0 - eq n j.number) ≡ true = ap (ltb 0) z ∙ lt-ltb 0 j.owed.0 o in
    ap (λ b. cond b (served_job n j ∷ served n js) (served n js)) test
    ∙ (λ i. record { number = j.number; owed = ticks (z i); deadline = j.deadline; figure = j.figure } ∷ served n js)

-- jobs of other numbers stay as they are
pub served_others : (n : ℕ) (js : List Job) → times n js ≡ 0 → Each Owing js → served n js ≡ js
unfolding eq
served_others n [] h o = refl
served_others n (j ∷ js) h o = past n j js (omega arith) o.0 ∙ ap (j ∷◌) (served_others n js (omega arith) o.1)

-- the number found further on
later : {n m : ℕ} {j : Job} {js : List Job} → FoundAt n (suc m) (j ∷ js) → FoundAt n m js
later f = record { inside = omega (arith, f.inside); number = f.number; first = omega (arith, f.first) }

-- the job of the number has its last tick: it is out
pub served_leaves :
    (n m : ℕ) (js : List Job) → FoundAt n m js → times n js ≤ 1 → Each Owing js → (get_or js m no_job).owed.0 ≤ 1 →
    served n js ≡ take m js ++ drop (m + 1) js
unfolding eq
served_leaves n m [] f t o l = absurd (omega (arith, f.inside))
served_leaves n zero (j ∷ js) f t o l =
    let one : eq n j.number ≡ 1 = ap (eq n) f.number ∙ eq_refl n in
    ap (λ b. cond b (served_job n j ∷ served n js) (served n js)) (le-ltb 0 (j.owed.0 - eq n j.number) (omega arith))
    ∙ served_others n js (omega arith) o.1
served_leaves n (suc m) (j ∷ js) f t o l =
    let e : suc m + 1 ≡ suc (m + 1) = omega arith in
    rw e (past n j js (omega (arith, f.first)) o.0 ∙ ap (j ∷◌) (served_leaves n m js (later f) (omega arith) o.1 l))

-- otherwise it has one tick less to get
pub served_stays :
    (n m : ℕ) (js : List Job) → FoundAt n m js → times n js ≤ 1 → Each Owing js → 1 < (get_or js m no_job).owed.0 →
    served n js ≡ owing_less m 1 js
unfolding eq
served_stays n m [] f t o l = absurd (omega (arith, f.inside))
served_stays n zero (j ∷ js) f t o l =
    let one : eq n j.number ≡ 1 = ap (eq n) f.number ∙ eq_refl n in
    ap (λ b. cond b (served_job n j ∷ served n js) (served n js)) (lt-ltb 0 (j.owed.0 - eq n j.number) (omega arith))
    ∙ (λ i. less_job (one i) j ∷ served_others n js (omega arith) o.1 i)
served_stays n (suc m) (j ∷ js) f t o l =
    past n j js (omega (arith, f.first)) o.0 ∙ ap (j ∷◌) (served_stays n m js (later f) (omega arith) o.1 l)

-- no job comes by a tick, and no number
pub served_few : (n : ℕ) (js : List Job) → length (served n js) ≤ length js
served_few n [] = omega arith
served_few n (j ∷ js) = go (ltb 0 (j.owed.0 - eq n j.number)) (served_few n js)
  where
    go : (b : Bool) → length (served n js) ≤ length js → length (cond b (served_job n j ∷ served n js) (served n js)) ≤ suc (length js)
    go true h = omega arith
    go false h = omega arith

pub served_once : (n k : ℕ) (js : List Job) → times k (served n js) ≤ times k js
served_once n k js =
    omega (arith, total_keep_le (λ j. bit (eqb k j.number)) (λ j. ltb 0 j.owed.0) (map (served_job n) js), total_map (λ j. bit (eqb k j.number)) (served_job n) js)
