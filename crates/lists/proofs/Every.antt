-- Tests and sums of every element, as the library says them of `all` and `sum`.
use mathlib.Core.Path.{◌≡◌, refl, ap, ◌∙◌}
use mathlib.Core.Bool.{Bool, ◌&&◌}
use mathlib.Core.List.{List, [], ◌∷◌}
use Prim.Native.Nat.{ℕ, ◌+◌}
use Rattle.std.specs.List.{list_all, sum_by}
use Rattle.std.proofs.lemmas.List.Sums.{sum_by-cons}
use Rattle.lists.specs.Lists.{every, total}

pub every_is_all : {A : Type 0} (p : A → Bool) (xs : List A) → every p xs ≡ list_all p xs
unfolding every
every_is_all p [] = refl
every_is_all p (x ∷ xs) = ap (p x &&◌) (every_is_all p xs)

pub sum_is_total : {A : Type 0} (f : A → ℕ) (xs : List A) → sum_by f xs ≡ total f xs
sum_is_total f [] = refl
sum_is_total f (x ∷ xs) = sum_by-cons f x xs ∙ ap (f x +◌) (sum_is_total f xs)
