-- Laws of the bands: where a count lies, that the table is in order, and what follows for every work.
use mathlib.Core.Path.{◌≡◌, refl}
use mathlib.Core.Bool.{Bool, true, cond, ◌&&◌}
use mathlib.Core.List.{List, [], ◌∷◌, ◌++◌, map}
use Prim.Native.Nat.{ℕ, suc, ◌≤◌, ◌<◌}
use native.Mathlib.Nat.{le_refl}
use native.Mathlib.Omega.{arith}
use lib.Dec.{leb, ltb}
use lib.ListN.{drop}
use borrow.Author.Tests.{le-leb}
use Rattle.lists.proofs.Tests.{leb_elim, ltb_says, both}
use Rattle.ticks.specs.Ticks.{most_job}
use Rattle.mesh.specs.Bands.{Band, to, bands, above_work, work_in, work_of}

-- after this band the others reach further and further and want more and more, and a mesh above them all wants the most
unfoldable pub rises : Band → List Band → Bool
rises b [] = ltb b.work above_work
rises b (c ∷ cs) = (ltb b.last c.last && ltb b.work c.work) && rises c cs

-- the table is in order, from no triangles and no work on
pub bands_rise : rises (to 0 0) bands ≡ true
unfolding rises
bands_rise = refl

-- the last count of each band has the band's own work, and the one after it has the next band's
pub bands_end :
    (map (λ b. work_of b.last) bands ≡ map (λ b. b.work) bands)
    × (map (λ b. work_of (suc b.last)) bands ≡ map (λ b. b.work) (drop 1 bands) ++ (above_work ∷ []))
unfolding work_in
bands_end = (refl, refl)

-- what the test says of the next band
pub record Next (b c : Band) (cs : List Band) : Type 0 where
  pub further : b.last < c.last
  pub more : b.work < c.work
  pub rest : rises c cs ≡ true

next : (b c : Band) (cs : List Band) → rises b (c ∷ cs) ≡ true → Next b c cs
unfolding rises
next b c cs h =
    let t = both (ltb b.last c.last && ltb b.work c.work) (rises c cs) h in
    let u = both (ltb b.last c.last) (ltb b.work c.work) t.0 in
    record { further = ltb_says _ _ u.0; more = ltb_says _ _ u.1; rest = t.1 }

-- of bands that rise, each count wants more than the band before them, and at most what is wanted above them all
rises_within : (b : Band) (bs : List Band) (n : ℕ) → rises b bs ≡ true → (b.work < work_in bs n) × (work_in bs n ≤ above_work)
unfolding rises work_in
rises_within b [] n h = (ltb_says _ _ h, le_refl _)
rises_within b (c ∷ cs) n h =
    let t = next b c cs h in
    let ih = rises_within c cs n t.rest in
    leb_elim (λ r. (b.work < cond r c.work (work_in cs n)) × (cond r c.work (work_in cs n) ≤ above_work)) n c.last
    (λ _. (t.more, omega (arith, ih)))
    (λ _. (omega (arith, t.more, ih), ih.1))

-- every count wants from 1 tick up to the most that a job may want
pub work_within : (n : ℕ) → (1 ≤ work_of n) × (work_of n ≤ most_job)
work_within n = rises_within (to 0 0) bands n bands_rise

rises_on : (b : Band) (bs : List Band) (m n : ℕ) → rises b bs ≡ true → m ≤ n → work_in bs m ≤ work_in bs n
unfolding work_in
rises_on b [] m n h l = le_refl _
rises_on b (c ∷ cs) m n h l =
    let rest = (next b c cs h).rest in
    leb_elim (λ r. cond (leb m c.last) c.work (work_in cs m) ≤ cond r c.work (work_in cs n)) n c.last
    (λ p. rw (le-leb m c.last (omega arith)) (le_refl _))
    (λ _. leb_elim (λ r. cond r c.work (work_in cs m) ≤ work_in cs n) m c.last
    (λ _. omega (arith, rises_within c cs n rest))
    (λ _. rises_on c cs m n rest l))

-- a mesh with more triangles never wants less
pub more_wants_no_less : (m n : ℕ) → m ≤ n → work_of m ≤ work_of n
more_wants_no_less m n = rises_on (to 0 0) bands m n bands_rise
