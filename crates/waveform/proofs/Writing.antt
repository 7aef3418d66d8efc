-- A run that is written while it goes: each step adds its lines, and the mark at the end makes the text of the run.
use mathlib.Core.Path.{◌≡◌, refl, sym, ap, ◌∙◌}
use mathlib.Core.List.{List, [], ◌∷◌, ◌++◌, append_assoc, append-nil}
use Prim.Native.Nat.{ℕ, suc, ◌+◌}
use native.Mathlib.Omega.{arith}
use lib.ListN.{length}
use Rattle.answers.specs.declared.Who.{Who}
use Rattle.waveform.specs.declared.Token.TheVariants as token
use Rattle.waveform.specs.Runs.{head_count, heads_from, job_wire, feed_wire, changed, changes, body, told}
use Rattle.waveform.specs.Writing.{changes_so_far, body_so_far, told_so_far, last_mark, step_lines}

-- THE MARK AT THE END MAKES THE LINES OF THE RUN
changes_closed : (t : ℕ) (w : Who) (vs : List Who) → changes t w vs ≡ changes_so_far t w vs ++ (token.Mark (t + length vs) ∷ [])
unfolding changes changes_so_far
changes_closed t w [] = let here : t ≡ t + 0 = omega arith in ap (λ n. token.Mark n ∷ []) here
changes_closed t w (v ∷ vs) =
    let far : suc t + length vs ≡ t + suc (length vs) = omega arith in
    ap (changed t w v ++◌) (changes_closed (suc t) v vs ∙ ap (λ n. changes_so_far (suc t) v vs ++ (token.Mark n ∷ [])) far)
    ∙ sym (append_assoc (changed t w v) (changes_so_far (suc t) v vs) (token.Mark (t + suc (length vs)) ∷ []))

body_closed : (t : ℕ) (ws : List Who) → body t ws ≡ body_so_far t ws ++ last_mark t ws
unfolding body body_so_far
body_closed t [] = refl
body_closed t (w ∷ ws) = ap (λ xs. token.Job (job_wire w) ∷ token.Feed (feed_wire w) ∷ xs) (changes_closed (suc t) w ws)

pub told_closed : (t : ℕ) (ws : List Who) → told t ws ≡ told_so_far t ws ++ last_mark t ws
unfolding told told_so_far
told_closed t ws =
    ap (λ xs. heads_from head_count 0 ++ (token.Mark t ∷ xs)) (body_closed t ws)
    ∙ sym (append_assoc (heads_from head_count 0) (token.Mark t ∷ body_so_far t ws) (last_mark t ws))

-- EACH STEP ADDS ITS LINES
changes_step : (t : ℕ) (w : Who) (vs : List Who) (v : Who) → changes_so_far t w (vs ++ (v ∷ [])) ≡ changes_so_far t w vs ++ step_lines (t + length vs) (w ∷ vs) v
unfolding changes_so_far
changes_step t w [] v = let here : t ≡ t + 0 = omega arith in append-nil (changed t w v) ∙ ap (λ n. changed n w v) here
changes_step t w (x ∷ vs) v =
    let far : suc t + length vs ≡ t + suc (length vs) = omega arith in
    ap (changed t w x ++◌) (changes_step (suc t) x vs v ∙ ap (λ n. changes_so_far (suc t) x vs ++ step_lines n (x ∷ vs) v) far)
    ∙ sym (append_assoc (changed t w x) (changes_so_far (suc t) x vs) (step_lines (t + suc (length vs)) (x ∷ vs) v))

body_step : (t : ℕ) (ws : List Who) (v : Who) → body_so_far t (ws ++ (v ∷ [])) ≡ body_so_far t ws ++ step_lines (t + length ws) ws v
unfolding body_so_far changes_so_far
body_step t [] v = refl
body_step t (w ∷ ws) v =
    let far : suc t + length ws ≡ t + suc (length ws) = omega arith in
    ap (λ xs. token.Job (job_wire w) ∷ token.Feed (feed_wire w) ∷ xs) (changes_step (suc t) w ws v ∙ ap (λ n. changes_so_far (suc t) w ws ++ step_lines n (w ∷ ws) v) far)

pub told_step : (t : ℕ) (ws : List Who) (v : Who) → told_so_far t (ws ++ (v ∷ [])) ≡ told_so_far t ws ++ step_lines (t + length ws) ws v
unfolding told_so_far
told_step t ws v =
    ap (λ xs. heads_from head_count 0 ++ (token.Mark t ∷ xs)) (body_step t ws v)
    ∙ sym (append_assoc (heads_from head_count 0) (token.Mark t ∷ body_so_far t ws) (step_lines (t + length ws) ws v))
