-- Marks by the lowest byte of a number: a number whose mark is not set has not come yet.
use mathlib.Core.Path.{◌≡◌, refl, sym, ap, subst, ◌∙◌}
use mathlib.Core.Bool.{Bool, true, false}
use mathlib.Core.List.{List, [], ◌∷◌, ◌++◌}
use Prim.Native.Nat.{ℕ, ◌%◌, ◌<◌}
use native.Mathlib.Nat.{mod-lt}
use native.Mathlib.Decide.{ℕ_discrete}
use native.Mathlib.Omega.{arith}
use lib.Dec.{eqb}
use lib.ListN.{length, get_or, set}
use lib.Seq.{get_or-set_same, get_or-set_other}
use Rattle.lists.specs.Lists.{bit, Each}
use Rattle.lists.proofs.Tests.{eqb_elim}
use Rattle.lists.proofs.Lists.{each_imp, each_append, total_zero}
use Rattle.jobs.specs.declared.Job.{Job}
use Rattle.jobs.specs.Jobs.{times}

-- as many marks as a byte has values
abbrev pub marks_of : ℕ
marks_of = 256

-- the mark of a job is set
abbrev pub Set : List Bool → Job → Type 0
Set marks j = get_or marks (j.number % marks_of) false ≡ true

-- a mark that is set stays so when another is set
stays_set : (marks : List Bool) (m k : ℕ) → m < length marks → get_or marks k false ≡ true → get_or (set marks m true) k false ≡ true
stays_set marks m k h e = go (ℕ_discrete k m)
  where
    go : Dec (k ≡ m) → get_or (set marks m true) k false ≡ true
    go (yes p) = ap (λ n. get_or (set marks m true) n false) p ∙ get_or-set_same marks m true false h
    go (no p) = get_or-set_other marks m k true false p ∙ e

-- one more mark is set
pub set_more : (marks : List Bool) (js : List Job) (j : Job) → length marks ≡ marks_of → Each (Set marks) js → Each (Set (set marks (j.number % marks_of) true)) (js ++ (j ∷ []))
set_more marks js j l h =
    let inside : j.number % marks_of < length marks = omega (arith, l, mod-lt j.number {m = marks_of} (omega arith)) in
    each_append (Set (set marks (j.number % marks_of) true)) js (j ∷ [])
    (each_imp (Set marks) (Set (set marks (j.number % marks_of) true)) (λ k e. stays_set marks (j.number % marks_of) (k.number % marks_of) inside e) js h)
    (get_or-set_same marks (j.number % marks_of) true false inside, tt)

-- where the mark of a job is not set, its number stands nowhere among those whose are
pub not_set_is_new : (marks : List Bool) (js : List Job) (j : Job) → Each (Set marks) js → (Set marks j → ⊥) → times j.number js ≡ 0
not_set_is_new marks js j h n =
    total_zero (λ k. bit (eqb j.number k.number)) js
    (each_imp (Set marks) (λ k. bit (eqb j.number k.number) ≡ 0)
    (λ k e. eqb_elim (λ b. bit b ≡ 0) j.number k.number (λ p. absurd (n (subst (λ m. get_or marks (m % marks_of) false ≡ true) (sym p) e))) (λ p. refl)) js h)
