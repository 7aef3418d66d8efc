-- Going on takes no more steps than it may, and writes no more than the buffer holds.
use mathlib.Core.Path.{◌≡◌, refl, ap, ◌∙◌}
use mathlib.Core.Bool.{Bool, true, false, cond}
use mathlib.Core.List.{List, [], ◌∷◌, ◌++◌}
use Prim.Native.Nat.{ℕ, zero, suc, ◌+◌, ◌≤◌}
use native.Mathlib.Omega.{arith}
use lib.ListN.{length, length-append}
use Rattle.answers.specs.Verdicts.{Verdict}
use Rattle.std.specs.Prelude.{Ok, Err}
use Rattle.answers.specs.Answers.{on_yes}
use Rattle.desk.specs.declared.Desk.{Desk}
use Rattle.desk.specs.Calls.{step_of}
use Rattle.waveform.specs.declared.cursor.Cursor.{Cursor}
use Rattle.waveform.specs.Parts.{bytes_of}
use Rattle.runs.specs.declared.Went.{Went}
use Rattle.runs.specs.Parts.{Part, part, filled, step_on, goes_on, carried, part_of, go_answer, went_of, went_bytes}

-- a text at the front of a buffer is no longer than the buffer
pub inside : (t more : List ℕ) {e : List ℕ} → e ≡ t ++ more → length t ≤ length e
inside t more {e} h = let n : length e ≡ length t + length more = ap length h ∙ length-append t more in omega (arith, n)

-- how many bytes there are by an answer
pub counted : (v : Verdict) (t : List ℕ) → on_yes v (length t) 0 ≡ length (on_yes v t [])
counted (Ok tt) t = refl
counted (Err r) t = refl

-- each turn of a part takes one step at most
few_carried : (size n : ℕ) (p : Part) → length (carried size n p).names ≤ length p.names + n
unfolding carried
few_carried size zero p = omega arith
few_carried size (suc n) p =
    let q = filled size (step_on p (step_of p.desk)) in
    let one : length q.names ≡ length p.names + 1 = length-append p.names ((step_of p.desk).who ∷ []) in
    let more : length (carried size n q).names ≤ length q.names + n = few_carried size n q in
    by_test (goes_on p) (carried size n q) (omega (arith, one, more))
  where
    by_test : (b : Bool) (q : Part) → length q.names ≤ length p.names + suc n → length (cond b q p).names ≤ length p.names + suc n
    by_test true q h = h
    by_test false q h = omega arith

module _ (size most : ℕ) (d : Desk) (c : Cursor) {r : Went} (e : r ≡ went_of size most d c) where
  -- NO MORE STEPS THAN IT MAY TAKE
  pub few_steps : r.steps ≤ most
  unfolding went_of part_of
  few_steps =
      let few : length (part_of size most d c).names ≤ 0 + most = few_carried size most (filled size (part d c [] [])) in
      let steps : r.steps ≡ on_yes (go_answer size most d c) (length (part_of size most d c).names) 0 = ap (λ x. x.steps) e in
      let bound : on_yes (go_answer size most d c) (length (part_of size most d c).names) 0 ≤ most = by_answer (go_answer size most d c) _ (omega (arith, few)) in
      omega (arith, steps, bound)
    where
      by_answer : (v : Verdict) (n : ℕ) → n ≤ most → on_yes v n 0 ≤ most
      by_answer (Ok tt) n h = h
      by_answer (Err x) n h = omega arith

  -- NO MORE BYTES THAN THERE ARE
  pub few_bytes : (more : List ℕ) {exit : List ℕ} → exit ≡ went_bytes size most d c ++ more → r.bytes ≤ length exit
  unfolding went_of went_bytes
  few_bytes more {exit} h =
      let bytes : r.bytes ≡ length (went_bytes size most d c) = ap (λ x. x.bytes) e ∙ counted (go_answer size most d c) (bytes_of (part_of size most d c).lines) in
      omega (arith, bytes, inside (went_bytes size most d c) more h)
