-- What is answered by lines before other lines, and by another desk on a yes.
use mathlib.Core.Path.{◌≡◌, refl, sym, ap, ◌∙◌}
use mathlib.Core.Bool.{true, false}
use mathlib.Core.List.{List, ◌∷◌, ◌++◌}
use Rattle.std.specs.Prelude.{Ok, Err}
use Rattle.answers.specs.declared.Refusal.{Refusal}
use Rattle.answers.specs.Verdicts.{Verdict}
use Rattle.answers.specs.Answers.{Line, first_of, is_yes, on_yes, yes_with}
use Rattle.answers.proofs.Answers.{stops, goes_on_lem, goes_past, not_yes_before, on_yes_lem, on_no}
use Rattle.desk.specs.declared.Desk.{Desk}
use Rattle.desk.specs.declared.Answer.{Answer}
use Rattle.desk.specs.Answers.{answered, handed}

module _ (new old : Desk) where
  -- lines that say the same answer the same
  pub answered_alike : (ls ms : List Line) → first_of ls ≡ first_of ms → answered ls new old ≡ answered ms new old
  answered_alike ls ms e = λ i. record { desk = on_yes (e i) new old; verdict = e i }

  -- the first lines stop
  pub answered_before : (ls ms : List Line) → is_yes (first_of ls) ≡ false → ◌≡◌ {A = Answer} (record { desk = old; verdict = first_of ls }) (answered (ls ++ ms) new old)
  answered_before ls ms h =
      (λ i. record { desk = sym (on_no (first_of ls) new old h) i; verdict = first_of ls })
      ∙ answered_alike ls (ls ++ ms) (sym (not_yes_before ls ms h))

  -- they pass
  pub answered_past : (ls ms : List Line) → first_of ls ≡ Ok tt → answered ms new old ≡ answered (ls ++ ms) new old
  answered_past ls ms y = answered_alike ms (ls ++ ms) (sym (goes_past ls ms y))

  -- the next line stops
  pub answered_stopped : (l : Line) (ls : List Line) → l.holds ≡ true → ◌≡◌ {A = Answer} (record { desk = old; verdict = Err l.refusal }) (answered (l ∷ ls) new old)
  answered_stopped l ls h = λ i. record { desk = on_yes (sym (stops l ls h) i) new old; verdict = sym (stops l ls h) i }

  -- it passes
  pub answered_on : (l : Line) (ls : List Line) → l.holds ≡ false → answered ls new old ≡ answered (l ∷ ls) new old
  answered_on l ls h = answered_alike ls (l ∷ ls) (sym (goes_on_lem l ls (first_of ls) h refl))

-- a refusal hands back the old desk, whatever the new one is
pub refused_alike : (ls : List Line) (new newer old : Desk) → is_yes (first_of ls) ≡ false → answered ls new old ≡ answered ls newer old
refused_alike ls new newer old h =
    λ i. record { desk = (on_no (first_of ls) new old h ∙ sym (on_no (first_of ls) newer old h)) i; verdict = first_of ls }

-- a yes hands back what is made of the new one
pub made_on_yes : (f : Desk → Desk) (ls : List Line) (new old : Desk) → is_yes (first_of ls) ≡ true
    → ◌≡◌ {A = Answer} (record { desk = f (answered ls new old).desk; verdict = first_of ls }) (answered ls (f new) old)
made_on_yes f ls new old h =
    λ i. record { desk = (ap f (on_yes_lem (first_of ls) new old h) ∙ sym (on_yes_lem (first_of ls) (f new) old h)) i; verdict = first_of ls }

-- a refusal, and a yes, as they are handed back
module _ (ls : List Line) (new old : Desk) where
  pub handed_no : (r : Refusal) → first_of ls ≡ Err r → handed old (Err r) ≡ answered ls new old
  handed_no r e = λ i. record { desk = on_yes (sym e i) new old; verdict = sym e i }

  pub handed_yes : first_of ls ≡ Ok tt → handed old (Ok new) ≡ answered ls new old
  handed_yes e = λ i. record { desk = on_yes (sym e i) new old; verdict = sym e i }

-- what the lines tell, as it is handed back
pub handed_told : (ls : List Line) (new old : Desk) → handed old (yes_with (first_of ls) new) ≡ answered ls new old
handed_told ls new old = go (first_of ls)
  where
    go : (v : Verdict) → ◌≡◌ {A = Answer} (handed old (yes_with v new)) (record { desk = on_yes v new old; verdict = v })
    go (Ok tt) = refl
    go (Err r) = refl
