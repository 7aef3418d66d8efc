-- Writing a run while it goes: the lines that are told so far, those of one step more, and the mark at the end.
use Rattle.std.specs.Prelude.{List, [], ◌∷◌, ◌++◌, ℕ, suc, ◌+◌, length}
use Rattle.answers.specs.declared.Who.{Who}
use Rattle.waveform.specs.declared.Token.{Token}
use Rattle.waveform.specs.declared.Token.TheVariants as token
use Rattle.waveform.specs.Runs.{head_count, heads_from, job_wire, feed_wire, changed}

-- the lines of a run that is still going: all but the mark at its end
unfoldable pub changes_so_far : ℕ → Who → List Who → List Token
changes_so_far t w [] = []
changes_so_far t w (v ∷ vs) = changed t w v ++ changes_so_far (suc t) v vs

unfoldable pub body_so_far : ℕ → List Who → List Token
body_so_far t [] = []
body_so_far t (w ∷ ws) = token.Job (job_wire w) ∷ token.Feed (feed_wire w) ∷ changes_so_far (suc t) w ws

unfoldable pub told_so_far : ℕ → List Who → List Token
told_so_far t ws = heads_from head_count 0 ++ (token.Mark t ∷ body_so_far t ws)

-- the mark at its end; none where no step was taken
abbrev pub last_mark : ℕ → List Who → List Token
last_mark t [] = []
last_mark t (w ∷ ws) = token.Mark (suc t + length ws) ∷ []

-- the lines of one step more, at the instant u, after these
abbrev pub step_lines : ℕ → List Who → Who → List Token
step_lines u [] v = token.Job (job_wire v) ∷ token.Feed (feed_wire v) ∷ []
step_lines u (w ∷ []) v = changed u w v
step_lines u (w ∷ x ∷ ws) v = step_lines u (x ∷ ws) v
