-- The first line that holds, line after line.
use mathlib.Core.Path.{◌≡◌, refl, sym, ap, ◌∙◌}
use mathlib.Core.Bool.{Bool, true, false, not, cond, ◌&&◌}
use mathlib.Core.List.{List, [], ◌∷◌, ◌++◌}
use Prim.Native.Nat.{ℕ}
use native.Mathlib.Omega.{arith}
use Rattle.answers.specs.declared.Refusal.{Refusal}
use Rattle.answers.specs.Verdicts.{Verdict}
use Rattle.std.specs.Prelude.{Ok, Err}
use Rattle.answers.specs.Answers.{Line, line, first_of, passes, number_of, answer_of, is_yes, on_yes, yes_with, verdict_of}

-- a line that holds stops
pub stops : (l : Line) (ls : List Line) → l.holds ≡ true → first_of (l ∷ ls) ≡ Err l.refusal
unfolding first_of
stops l ls h = ap (λ b. cond b (Err l.refusal) (first_of ls)) h

-- one that does not leaves the answer to the rest
pub goes_on_lem : (l : Line) (ls : List Line) (v : Verdict) → l.holds ≡ false → first_of ls ≡ v → first_of (l ∷ ls) ≡ v
unfolding first_of
goes_on_lem l ls v h e = ap (λ b. cond b (Err l.refusal) (first_of ls)) h ∙ e

pub no_line : first_of [] ≡ Ok tt
unfolding first_of
no_line = refl

pub yes_is_not_no : (x : Refusal) → ◌≡◌ {A = Verdict} (Ok tt) (Err x) → ⊥
yes_is_not_no x e = let z : ◌≡◌ {A = ℕ} 0 1 = cc in omega arith

pub is_yes_lem : (v : Verdict) → is_yes v ≡ true → v ≡ Ok tt
is_yes_lem (Ok tt) h = refl
is_yes_lem (Err r) h = let z : ◌≡◌ {A = ℕ} 0 1 = cc in absurd (omega arith)

-- where the answer is yes, the first line does not hold, and neither does one of the rest
pub yes_first : (l : Line) (ls : List Line) → first_of (l ∷ ls) ≡ Ok tt → (l.holds ≡ false) × (first_of ls ≡ Ok tt)
unfolding first_of
yes_first l ls = go l.holds
  where
    go : (b : Bool) → cond b (Err l.refusal) (first_of ls) ≡ Ok tt → (b ≡ false) × (first_of ls ≡ Ok tt)
    go true h = absurd (yes_is_not_no _ (sym h))
    go false h = (refl, h)

-- the lines that all pass are those whose answer is yes
pub passes_is : (ls : List Line) → passes ls ≡ is_yes (first_of ls)
unfolding passes first_of
passes_is [] = refl
passes_is (l ∷ ls) = go l.holds (passes_is ls)
  where
    go : (b : Bool) → passes ls ≡ is_yes (first_of ls) → not b && passes ls ≡ is_yes (cond b (Err l.refusal) (first_of ls))
    go true ih = refl
    go false ih = ih

pub passes_yes : (ls : List Line) → passes ls ≡ true → first_of ls ≡ Ok tt
passes_yes ls h = is_yes_lem (first_of ls) (sym (passes_is ls) ∙ h)

pub yes_passes : (ls : List Line) → first_of ls ≡ Ok tt → passes ls ≡ true
yes_passes ls h = passes_is ls ∙ ap is_yes h

-- lines before other lines: the answer is theirs where one of them holds
pub stops_before : (ls ms : List Line) (r : Refusal) → first_of ls ≡ Err r → first_of (ls ++ ms) ≡ Err r
unfolding first_of
stops_before [] ms r h = absurd (yes_is_not_no r h)
stops_before (l ∷ ls) ms r h = go l.holds h (stops_before ls ms r)
  where
    go : (b : Bool) → cond b (Err l.refusal) (first_of ls) ≡ Err r → (first_of ls ≡ Err r → first_of (ls ++ ms) ≡ Err r)
        → cond b (Err l.refusal) (first_of (ls ++ ms)) ≡ Err r
    go true e ih = e
    go false e ih = ih e

-- and that of the others where none does
pub goes_past : (ls ms : List Line) → first_of ls ≡ Ok tt → first_of (ls ++ ms) ≡ first_of ms
unfolding first_of
goes_past [] ms h = refl
goes_past (l ∷ ls) ms h =
    let t = yes_first l ls h in
    goes_on_lem l (ls ++ ms) (first_of ms) t.0 (goes_past ls ms t.1)

-- of both, none holds
pub yes_both : (ls ms : List Line) → first_of (ls ++ ms) ≡ Ok tt → (first_of ls ≡ Ok tt) × (first_of ms ≡ Ok tt)
unfolding first_of
yes_both [] ms h = (refl, h)
yes_both (l ∷ ls) ms h =
    let t = yes_first l (ls ++ ms) h in
    let r = yes_both ls ms t.1 in
    (goes_on_lem l ls (Ok tt) t.0 r.0, r.1)

-- lines that stop leave nothing to the others
pub not_yes_before : (ls ms : List Line) → is_yes (first_of ls) ≡ false → first_of (ls ++ ms) ≡ first_of ls
not_yes_before ls ms h = go (first_of ls) refl h
  where
    go : (v : Verdict) → first_of ls ≡ v → is_yes v ≡ false → first_of (ls ++ ms) ≡ first_of ls
    go (Ok tt) e k = let z : ◌≡◌ {A = ℕ} 0 1 = cc in absurd (omega arith)
    go (Err r) e k = stops_before ls ms r e ∙ sym e

-- a refusal of another number comes from a later line
pub from_later : (l : Line) (ls : List Line) (x : Refusal) → first_of (l ∷ ls) ≡ Err x → (number_of l.refusal ≡ number_of x → ⊥) → first_of ls ≡ Err x
from_later l ls x e differ = go l.holds refl
  where
    go : (b : Bool) → l.holds ≡ b → first_of ls ≡ Err x
    go true h = absurd (differ (ap answer_of (sym (stops l ls h) ∙ e)))
    go false h = sym (goes_on_lem l ls (first_of ls) h refl) ∙ e

-- what is handed back by the answer
module _ {A : Type 0} (v : Verdict) (a b : A) where
  pub on_yes_lem : is_yes v ≡ true → on_yes v a b ≡ a
  on_yes_lem h = ap (λ w. on_yes w a b) (is_yes_lem v h)

  pub on_no : is_yes v ≡ false → on_yes v a b ≡ b
  on_no = go v
    where
      go : (w : Verdict) → is_yes w ≡ false → on_yes w a b ≡ b
      go (Ok tt) h = let z : ◌≡◌ {A = ℕ} 0 1 = cc in absurd (omega arith)
      go (Err r) h = refl

-- A LINE THAT IS TOLD BY `when`: one that holds stops, and one that does not leaves the answer to the rest
module _ (b : Bool) (r : Refusal) (ls : List Line) where
  pub stopped_by : (e : Refusal) → ◌≡◌ {A = Verdict} (cond b (Err r) (Ok tt)) (Err e) → first_of (line b r ∷ ls) ≡ Err e
  unfolding first_of
  stopped_by e = go b
    where
      go : (a : Bool) → ◌≡◌ {A = Verdict} (cond a (Err r) (Ok tt)) (Err e) → cond a (Err r) (first_of ls) ≡ Err e
      go true h = h
      go false h = absurd (yes_is_not_no e h)

  pub passed_by : (u : Unit {0}) → ◌≡◌ {A = Verdict} (cond b (Err r) (Ok tt)) (Ok u) → (b ≡ false) × (first_of (line b r ∷ ls) ≡ first_of ls)
  unfolding first_of
  passed_by u = go b
    where
      go : (a : Bool) → ◌≡◌ {A = Verdict} (cond a (Err r) (Ok tt)) (Ok u) → (a ≡ false) × (cond a (Err r) (first_of ls) ≡ first_of ls)
      go true h = absurd (yes_is_not_no r (sym h))
      go false h = (refl, refl)

-- the last line
pub last_by : (b : Bool) (r : Refusal) → ◌≡◌ {A = Verdict} (cond b (Err r) (Ok tt)) (first_of (line b r ∷ []))
unfolding first_of
last_by b r = refl

-- WHAT A CALL THAT MAY BE REFUSED HANDS OUT
module _ {A : Type 0} (v : Verdict) (a : A) where
  pub told_no : (r : Refusal) → yes_with v a ≡ Err r → v ≡ Err r
  told_no r = go v
    where
      go : (w : Verdict) → yes_with w a ≡ Err r → w ≡ Err r
      go (Ok tt) e = let z : ◌≡◌ {A = ℕ} 0 1 = cc in absurd (omega arith)
      go (Err s) e = let z : s ≡ r = cc in ap Err z

  pub told_yes : (b : A) → yes_with v a ≡ Ok b → (v ≡ Ok tt) × (b ≡ a)
  told_yes b = go v
    where
      go : (w : Verdict) → yes_with w a ≡ Ok b → (w ≡ Ok tt) × (b ≡ a)
      go (Ok tt) e = let z : b ≡ a = cc in (refl, z)
      go (Err s) e = let z : ◌≡◌ {A = ℕ} 0 1 = cc in absurd (omega arith)

-- a line that is told to stop holds, and its refusal is told
pub stopped_is : (b : Bool) (r e : Refusal) → ◌≡◌ {A = Verdict} (cond b (Err r) (Ok tt)) (Err e) → (b ≡ true) × (e ≡ r)
stopped_is true r e h = let z : e ≡ r = cc in (refl, z)
stopped_is false r e h = absurd (yes_is_not_no e h)

pub told_verdict : {A : Type 0} (v : Verdict) (a : A) → verdict_of (yes_with v a) ≡ v
told_verdict (Ok tt) a = refl
told_verdict (Err r) a = refl
