-- The figures: done afresh, and kept by adding and taking away.
use mathlib.Core.Path.{◌≡◌, refl, sym, ap, ap₂, ◌∙◌}
use mathlib.Core.Bool.{Bool, true, false, cond}
use mathlib.Core.List.{List, ◌∷◌, ◌++◌, map, map-map, map-id}
use Prim.Native.Nat.{ℕ, ◌+◌, ◌-◌, ◌*◌, ◌≤◌, ◌<◌}
use native.Mathlib.Omega.{arith}
use lib.Dec.{leb, eqb}
use lib.ListN.{length, get_or, take, drop, set, length-map}
use borrow.Author.Tests.{le-leb, lt-leb}
use Rattle.lists.specs.Lists.{Each, bit}
use Rattle.lists.proofs.Lists.{each, each_imp, each_map, total_map}
use Rattle.lists.proofs.Places.{each_get_or}
use Rattle.lists.proofs.Maps.{out, total_out, total_set, total_put, total_bound, map_same, map-append, map_take, map_drop, map_out, map_set}
use Rattle.ticks.specs.Ticks.{ticks}
use Rattle.jobs.specs.declared.Job.{Job}
use Rattle.jobs.specs.Jobs.{no_job, job, times}
use Rattle.jobs.specs.Served.{less_job, owing_less}
use Rattle.jobs.specs.Figures.{most_owed, Modest, owes_by, owed_by, figure_in, Figured, showing, figured, raised, lowered}

-- a job that is due by then owes what it owes, one that is due later nothing
pub owes_by_in : (D : ℕ) (j : Job) → j.deadline.0 ≤ D → owes_by D j ≡ j.owed.0
unfolding owes_by
owes_by_in D j h = ap (λ b. cond b j.owed.0 0) (le-leb j.deadline.0 D h)

pub owes_by_out : (D : ℕ) (j : Job) → D < j.deadline.0 → owes_by D j ≡ 0
unfolding owes_by
owes_by_out D j h = ap (λ b. cond b j.owed.0 0) (lt-leb j.deadline.0 D h)

-- it owes no more than it owes at all
pub owes_by_le : (D : ℕ) (j : Job) → owes_by D j ≤ j.owed.0
unfolding owes_by
owes_by_le D j = go (leb j.deadline.0 D)
  where
    go : (b : Bool) → cond b j.owed.0 0 ≤ j.owed.0
    go true = omega arith
    go false = omega arith

-- what a job owes by then is the part that is given to it and the rest
owes_by_parts : (D m : ℕ) (j : Job) → m ≤ j.owed.0 → owes_by D j ≡ owes_by D (less_job m j) + owes_by D (job j.number (ticks m) j.deadline)
unfolding owes_by
owes_by_parts D m j h = go (leb j.deadline.0 D)
  where
    go : (b : Bool) → cond b j.owed.0 0 ≡ cond b (j.owed.0 - m) 0 + cond b m 0
    go true = omega arith
    go false = refl

-- modest jobs owe no more together than as many times the most
pub owed_by_bound : (D : ℕ) (js : List Job) → Each Modest js → owed_by D js ≤ length js * most_owed
owed_by_bound D js h =
    total_bound (owes_by D) most_owed js (each_imp Modest (λ j. owes_by D j ≤ most_owed) (λ j m. omega (arith, owes_by_le D j)) js h)

-- a job with the figure that F says of its deadline
abbrev pub by : (ℕ → ℕ) → Job → Job
by F j = showing (F j.deadline.0) j

-- the sums do not look at figures
same_sums : (F : ℕ → ℕ) (js : List Job) (D : ℕ) → owed_by D (map (by F) js) ≡ owed_by D js
unfolding owes_by
same_sums F js D = total_map (owes_by D) (by F) js

by_same : (F G : ℕ → ℕ) (js : List Job) → ((D : ℕ) → F D ≡ G D) → map (by F) js ≡ map (by G) js
by_same F G js h = map_same (by F) (by G) js (each (λ j. by F j ≡ by G j) (λ j i. showing (h j.deadline.0 i) j) js)

-- FIGURES DONE AFRESH ARE STORED
pub figured_stores : (js : List Job) → Figured (figured js)
figured_stores js =
    each_map (λ j. j.figure.0 ≡ figure_in (figured js) j) (by (λ D. owed_by D js)) js
    (each (λ j. figure_in js j ≡ figure_in (figured js) j) (λ j. sym (same_sums (λ D. owed_by D js) js j.deadline.0)) js)

-- STORED FIGURES ARE THOSE DONE AFRESH
pub figured_own : (js : List Job) → Figured js → figured js ≡ js
figured_own js h =
    map_same (by (λ D. owed_by D js)) (λ j. j) js
    (each_imp (λ j. j.figure.0 ≡ figure_in js j) (λ j. by (λ D. owed_by D js) j ≡ j) (λ j e i. showing (sym e i) j) js h)
    ∙ map-id js

-- what was stored before does not matter
pub figured_again : (F : ℕ → ℕ) (js : List Job) → figured (map (by F) js) ≡ figured js
figured_again F js =
    map-map (by (λ D. owed_by D (map (by F) js))) (by F) js ∙ by_same (λ D. owed_by D (map (by F) js)) (λ D. owed_by D js) js (same_sums F js)

-- number, owed and deadline stay, and what holds by them
pub length_figured : (js : List Job) → length (figured js) ≡ length js
length_figured js = length-map js (by (λ D. owed_by D js))

pub times_figured : (n : ℕ) (js : List Job) → times n (figured js) ≡ times n js
times_figured n js = total_map (λ j. bit (eqb n j.number)) (by (λ D. owed_by D js)) js

pub each_figured : (P : Job → Type 0) → ((j : Job) (n : ℕ) → P j → P (showing n j)) → (js : List Job) → Each P js → Each P (figured js)
each_figured P h js e = each_map P (by (λ D. owed_by D js)) js (each_imp P (λ j. P (by (λ D. owed_by D js) j)) (λ j. h j (figure_in js j)) js e)

-- stored figures, and F that says of each deadline what a change of them comes to
by_stored : (F : ℕ → ℕ) (h : Job → Job) (js : List Job) → Figured js
    → ((j : Job) → j.figure.0 ≡ figure_in js j → by F j ≡ h j) → map (by F) js ≡ map h js
by_stored F h js stored e = map_same (by F) h js (each_imp (λ j. j.figure.0 ≡ figure_in js j) (λ j. by F j ≡ h j) e js stored)

-- one more job at a place: those due no earlier show it too, and it shows itself and those due no later
module _ (js : List Job) (j : Job) (m : ℕ) (stored : Figured js) where
  abbrev after : ℕ → ℕ
  after D = owed_by D (take m js ++ (j ∷ drop m js))

  more : (D : ℕ) → after D ≡ owed_by D js + owes_by D j
  more D = total_put (owes_by D) m j js

  others : map (by after) js ≡ map (raised j) js
  others = by_stored after (raised j) js stored (λ k e i. showing ((more k.deadline.0 ∙ ap (◌+ owes_by k.deadline.0 j) (sym e)) i) k)

  own : after j.deadline.0 ≡ owed_by j.deadline.0 js + j.owed.0
  own = more j.deadline.0 ∙ ap (owed_by j.deadline.0 js +◌) (owes_by_in j.deadline.0 j (omega arith))

  pub figured_put : figured (take m js ++ (j ∷ drop m js))
      ≡ take m (map (raised j) js) ++ (showing (owed_by j.deadline.0 js + j.owed.0) j ∷ drop m (map (raised j) js))
  figured_put =
      map-append (by after) (take m js) (j ∷ drop m js)
      ∙ (λ i. (map_take (by after) m js ∙ ap (take m) others) i ++ (showing (own i) j ∷ (map_drop (by after) m js ∙ ap (drop m) others) i))

-- so many ticks of what a job owes
abbrev pub part_of : ℕ → Job → Job
part_of m j = job j.number (ticks m) j.deadline

-- so many ticks fewer for the job at a place: it and those due no earlier show so many fewer
module _ (js : List Job) (stored : Figured js) (at m : ℕ) (inside : at < length js) (enough : m ≤ (get_or js at no_job).owed.0) where
  less : (D : ℕ) → owed_by D (owing_less at m js) + owes_by D (part_of m (get_or js at no_job)) ≡ owed_by D js
  less D =
      omega (arith, total_set (owes_by D) at no_job (less_job m (get_or js at no_job)) js inside, owes_by_parts D m (get_or js at no_job) enough)

  -- until then each of those shows them
  pub part_shown : Each (λ k. owes_by k.deadline.0 (part_of m (get_or js at no_job)) ≤ k.figure.0) js
  part_shown =
      each_imp (λ k. k.figure.0 ≡ figure_in js k) (λ k. owes_by k.deadline.0 (part_of m (get_or js at no_job)) ≤ k.figure.0)
      (λ k e. omega (arith, e, less k.deadline.0)) js stored

  rest : (k : Job) → k.figure.0 ≡ figure_in js k → owed_by k.deadline.0 (owing_less at m js) ≡ k.figure.0 - owes_by k.deadline.0 (part_of m (get_or js at no_job))
  rest k e = omega (arith, e, less k.deadline.0)

  pub figured_less : figured (owing_less at m js)
      ≡ set (map (lowered (part_of m (get_or js at no_job))) js) at (less_job m (lowered (part_of m (get_or js at no_job)) (get_or js at no_job)))
  figured_less =
      map_set (by (λ D. owed_by D (owing_less at m js))) at (less_job m (get_or js at no_job)) js
      ∙ ap₂ (λ ks k. set ks at k)
      (by_stored (λ D. owed_by D (owing_less at m js)) (lowered (part_of m (get_or js at no_job))) js stored (λ k e i. showing (rest k e i) k))
      (λ i. showing (rest (get_or js at no_job) (each_get_or (λ k. k.figure.0 ≡ figure_in js k) js at no_job stored inside) i) (less_job m (get_or js at no_job)))

-- a job that owes nothing counts nowhere: without it the others show the same
pub figured_out : (at : ℕ) (js : List Job) → at < length js → (get_or js at no_job).owed.0 ≡ 0 → out at (figured js) ≡ figured (out at js)
figured_out at js h z =
    sym (map_out (by (λ D. owed_by D js)) at js)
    ∙ by_same (λ D. owed_by D js) (λ D. owed_by D (out at js)) (out at js)
    (λ D. omega (arith, total_out (owes_by D) at no_job js h, owes_by_le D (get_or js at no_job)))
