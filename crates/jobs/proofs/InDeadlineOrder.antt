-- Figures of jobs that stand in the order of the table: the last job due by an instant shows what is owed by then, and one pass
-- tells whether all figures are the sums.
use mathlib.Core.Path.{◌≡◌, refl, sym, ap, subst, ◌∙◌}
use mathlib.Core.Bool.{Bool, true, false, cond, ◌&&◌}
use mathlib.Core.List.{List, [], ◌∷◌, ◌++◌, reverse, append_assoc}
use Prim.Native.Nat.{ℕ, zero, suc, ◌+◌, ◌≤◌, ◌<◌}
use native.Mathlib.Omega.{arith}
use lib.Dec.{eqb, leb}
use lib.ListN.{length, get_or, drop, length-append}
use lib.Seq.{drop_at, get_or-append_seam}
use Rattle.std.proofs.lemmas.List.{append-nil, reverse-append, reverse-reverse}
use Rattle.std.specs.Prelude.{Option, None, Some}
use Rattle.std.specs.List.{find}
use borrow.Author.Tests.{eqb-true, eq-eqb}
use Rattle.lists.specs.Lists.{Each, every}
use Rattle.lists.proofs.Tests.{eqb_elim, leb_elim}
use Rattle.lists.proofs.Lists.{each, each_imp, total_zero}
use Rattle.lists.proofs.Places.{each_get_or}
use Rattle.jobs.specs.declared.Job.{Job}
use Rattle.jobs.specs.Jobs.{no_job}
use Rattle.jobs.specs.Sorted.{Before, Sorted}
use Rattle.jobs.specs.Figures.{Figured, owes_by, owed_by, figure_in, agrees_beside, figure_agrees}
use Rattle.jobs.proofs.Figures.{owes_by_in, owes_by_out}

-- nothing is owed by jobs that are all due later
pub none_owed : (D : ℕ) (js : List Job) → Each (λ k. D < k.deadline.0) js → owed_by D js ≡ 0
none_owed D js h = total_zero (owes_by D) js (each_imp (λ k. D < k.deadline.0) (λ k. owes_by D k ≡ 0) (λ k l. owes_by_out D k l) js h)

-- THE LAST JOB DUE BY AN INSTANT SHOWS WHAT IS OWED BY THEN
pub last_shows : (D i : ℕ) (js : List Job) → Sorted js → i < length js → (get_or js i no_job).deadline.0 ≤ D → Each (λ k. D < k.deadline.0) (drop (i + 1) js)
    → owed_by D js ≡ owed_by (get_or js i no_job).deadline.0 js
last_shows D i [] s h d n = absurd (omega arith)
last_shows D zero (j ∷ js) s h d n =
    let none = none_owed D js n in
    let nor = none_owed j.deadline.0 js (each_imp (λ k. D < k.deadline.0) (λ k. j.deadline.0 < k.deadline.0) (λ k l. omega (arith, l, d)) js n) in
    omega (arith, none, nor, owes_by_in D j d, owes_by_in j.deadline.0 j (omega arith))
last_shows D (suc i) (j ∷ js) s h d n =
    let first : j.deadline.0 ≤ (get_or js i no_job).deadline.0 = (each_get_or (Before j) js i no_job s.0 (omega arith)).deadline in
    let ih = last_shows D i js s.1 (omega arith) d (later n) in
    omega (arith, ih, owes_by_in D j (omega (arith, first, d)), owes_by_in (get_or js i no_job).deadline.0 j first)
  where
    later : Each (λ k. D < k.deadline.0) (drop (suc i + 1) (j ∷ js)) → Each (λ k. D < k.deadline.0) (drop (i + 1) js)
    later h = let e : suc i + 1 ≡ suc (i + 1) = omega arith in rw e at h

-- what a job due by the instant shows that is looked for from the last on, or nothing
abbrev pub shown : Option Job → ℕ
shown None = 0
shown (Some j) = j.figure.0

-- those of which all later ones are due later, the last first
shown_from : (D : ℕ) (js rs later : List Job) → js ≡ reverse rs ++ later → Sorted js → Figured js → Each (λ k. D < k.deadline.0) later
    → shown (find (λ j. leb j.deadline.0 D) rs) ≡ owed_by D js
shown_from D js [] later e s f n = sym (none_owed D js (subst (Each (λ k. D < k.deadline.0)) (sym e) n))
shown_from D js (r ∷ rs) later e s f n =
    leb_elim (λ b. shown (cond b (Some r) (find (λ j. leb j.deadline.0 D) rs)) ≡ owed_by D js) r.deadline.0 D
    (λ due. here due)
    (λ l. shown_from D js rs (r ∷ later) on s f (l, n))
  where
    parted : js ≡ (reverse rs ++ (r ∷ [])) ++ later
    parted = e ∙ ap (◌++ later) (reverse-append (r ∷ []) rs)

    on : js ≡ reverse rs ++ (r ∷ later)
    on = parted ∙ append_assoc (reverse rs) (r ∷ []) later

    at : get_or js (length (reverse rs)) no_job ≡ r
    at = ap (λ l. get_or l (length (reverse rs)) no_job) on ∙ get_or-append_seam (reverse rs) r later no_job

    inside : length (reverse rs) < length js
    inside = omega (arith, ap length on, length-append (reverse rs) (r ∷ later))

    behind : drop (length (reverse rs) + 1) js ≡ later
    behind = ap (drop (length (reverse rs) + 1)) parted ∙ drop_at (reverse rs ++ (r ∷ [])) later (length (reverse rs) + 1) (length-append (reverse rs) (r ∷ []))

    here : r.deadline.0 ≤ D → r.figure.0 ≡ owed_by D js
    here due =
        let fig : r.figure.0 ≡ figure_in js r = subst (λ j. j.figure.0 ≡ figure_in js j) at (each_get_or (λ j. j.figure.0 ≡ figure_in js j) js (length (reverse rs)) no_job f inside) in
        let last = last_shows D (length (reverse rs)) js s inside (subst (λ j. j.deadline.0 ≤ D) (sym at) due) (subst (Each (λ k. D < k.deadline.0)) (sym behind) n) in
        fig ∙ ap (λ j. figure_in js j) (sym at) ∙ sym last

-- found from the last on, the first job due by an instant shows what is owed by then
pub last_due_shows : (D : ℕ) (js : List Job) → Sorted js → Figured js → shown (find (λ j. leb j.deadline.0 D) (reverse js)) ≡ owed_by D js
last_due_shows D js s f =
    shown_from D js (reverse js) [] (sym (append-nil (reverse (reverse js)) ∙ reverse-reverse js)) s f tt

-- the pass: from the job that was looked at last, and what the jobs up to it owe
unfoldable pub chain : Job → ℕ → List Job → Bool
chain last sum [] = eqb last.figure.0 sum
chain last sum (j ∷ js) = agrees_beside last j sum && chain j (sum + j.owed.0) js

pub chain_end : (last : Job) (sum : ℕ) → chain last sum [] ≡ eqb last.figure.0 sum
unfolding chain
chain_end last sum = refl

pub chain_past : (last : Job) (sum : ℕ) (j : Job) (js : List Job) → agrees_beside last j sum ≡ true → chain last sum (j ∷ js) ≡ chain j (sum + j.owed.0) js
unfolding chain
chain_past last sum j js e = ap (◌&& chain j (sum + j.owed.0) js) e

pub chain_stop : (last : Job) (sum : ℕ) (j : Job) (js : List Job) → agrees_beside last j sum ≡ false → chain last sum (j ∷ js) ≡ false
unfolding chain
chain_stop last sum j js e = ap (◌&& chain j (sum + j.owed.0) js) e

-- a figure beside the sum up to its place and what those after it owe by its deadline
abbrev beside : ℕ → List Job → Job → Bool
beside s js k = eqb k.figure.0 (s + owed_by k.deadline.0 js)

-- tests that agree on each element agree on the list
every_alike : (p q : Job → Bool) (js : List Job) → Each (λ k. p k ≡ q k) js → every p js ≡ every q js
unfolding every
every_alike p q [] h = refl
every_alike p q (j ∷ js) h = λ i. h.0 i && every_alike p q js h.1 i

-- the second of two tests, where it passes, says the same as the first
either_way : (x : Bool) (a c n : ℕ) → (b : Bool) → (b ≡ true → c ≡ n) → eqb a c && (b && x) ≡ eqb a n && (b && x)
either_way x a c n true h = ap (λ m. eqb a m && x) (h refl)
either_way x a c n false h = none (eqb a c) ∙ sym (none (eqb a n))
  where
    none : (d : Bool) → d && false ≡ false
    none true = refl
    none false = refl

-- ONE PASS IS ENOUGH: it says whether the last job and all those after it show the sums
pub chain_agrees : (last : Job) (s : ℕ) (js : List Job) → Sorted (last ∷ js) → chain last s js ≡ beside s js last && every (beside s js) js
unfolding chain every agrees_beside
chain_agrees last s [] h =
    let e : s ≡ s + 0 = omega arith in
    ap (eqb last.figure.0) e ∙ sym (and_true (eqb last.figure.0 (s + 0)))
  where
    and_true : (b : Bool) → b && true ≡ b
    and_true true = refl
    and_true false = refl
chain_agrees last s (k ∷ ks) h =
    ap (agrees_beside last k s &&◌) (chain_agrees k (s + k.owed.0) ks h.1 ∙ onward)
    ∙ first
  where
    -- seen from the next job, the sums are the same
    on : (x : Job) → k.deadline.0 ≤ x.deadline.0 → beside (s + k.owed.0) ks x ≡ beside s (k ∷ ks) x
    on x l =
        let e : s + k.owed.0 + owed_by x.deadline.0 ks ≡ s + (owes_by x.deadline.0 k + owed_by x.deadline.0 ks) = omega (arith, owes_by_in x.deadline.0 k l) in
        ap (eqb x.figure.0) e

    onward : beside (s + k.owed.0) ks k && every (beside (s + k.owed.0) ks) ks ≡ beside s (k ∷ ks) k && every (beside s (k ∷ ks)) ks
    onward =
        λ i. on k (omega arith) i && every_alike (beside (s + k.owed.0) ks) (beside s (k ∷ ks)) ks (each_imp (Before k) (λ x. beside (s + k.owed.0) ks x ≡ beside s (k ∷ ks) x) (λ x f. on x f.deadline) ks h.1.0) i

    -- those due later than the last owe nothing by its deadline
    alone : (last.deadline.0 ≡ k.deadline.0 → ⊥) → s ≡ s + owed_by last.deadline.0 (k ∷ ks)
    alone p =
        let later : last.deadline.0 < k.deadline.0 = omega (arith, h.0.0.deadline, p) in
        let none = none_owed last.deadline.0 (k ∷ ks) (later, each_imp (Before k) (λ x. last.deadline.0 < x.deadline.0) (λ x f. omega (arith, later, f.deadline)) ks h.1.0) in
        omega (arith, none)

    first : agrees_beside last k s && (beside s (k ∷ ks) k && every (beside s (k ∷ ks)) ks) ≡ beside s (k ∷ ks) last && (beside s (k ∷ ks) k && every (beside s (k ∷ ks)) ks)
    first =
        eqb_elim
        (λ e. cond e (eqb last.figure.0 k.figure.0) (eqb last.figure.0 s) && (beside s (k ∷ ks) k && every (beside s (k ∷ ks)) ks)
        ≡ beside s (k ∷ ks) last && (beside s (k ∷ ks) k && every (beside s (k ∷ ks)) ks))
        last.deadline.0 k.deadline.0
        (λ p. either_way (every (beside s (k ∷ ks)) ks) last.figure.0 k.figure.0 (s + owed_by last.deadline.0 (k ∷ ks)) (beside s (k ∷ ks) k)
        (λ t. eqb-true k.figure.0 (s + owed_by k.deadline.0 (k ∷ ks)) t ∙ ap (λ D. s + owed_by D (k ∷ ks)) (sym p)))
        (λ p. ap (λ n. eqb last.figure.0 n && (beside s (k ∷ ks) k && every (beside s (k ∷ ks)) ks)) (alone p))

-- from nothing on: whether each job shows the sum done afresh
pub chain_figures : (js : List Job) → Each (λ j. 0 < j.deadline.0) js → Sorted js → chain no_job 0 js ≡ every (figure_agrees js) js
chain_figures js h s =
    chain_agrees no_job 0 js (each_imp (λ j. 0 < j.deadline.0) (Before no_job) (λ j l. record { deadline = omega arith; number = λ e. absurd (omega arith) }) js h, s)
    ∙ ap (◌&& every (beside 0 js) js) nothing
    ∙ every_alike (beside 0 js) (figure_agrees js) js (each (λ j. beside 0 js j ≡ figure_agrees js j) (λ j. let e : 0 + figure_in js j ≡ figure_in js j = omega arith in ap (eqb j.figure.0) e) js)
  where
    nothing : beside 0 js no_job ≡ true
    nothing = let z : 0 ≡ 0 + owed_by 0 js = omega (arith, none_owed 0 js h) in eq-eqb 0 (0 + owed_by 0 js) z
