-- What a text tells of a run: its stretches, each of ticks that went to the same one.
use Rattle.std.specs.Prelude.{List, [], ◌∷◌, ◌++◌, ℕ, ◌-◌, replicate}
use Rattle.answers.specs.declared.Who.{Who}
use Rattle.waveform.specs.declared.Token.{Token}
use Rattle.waveform.specs.declared.Token.TheVariants as token
use Rattle.waveform.specs.declared.State.{State}
use Rattle.waveform.specs.declared.State.TheVariants.{Heading, Opened, Jobbed, Going, Marked, Halfway, Dead}
use Rattle.waveform.specs.declared.stretches.Stretch.{Stretch}
use Rattle.waveform.specs.Reading.{who_by, next}

-- the ticks from one instant up to another went to this one
abbrev pub stretch : ℕ → ℕ → Who → Stretch
stretch from to who = record { from = from; to = to; who = who }

-- a mark ends the stretch that is going
abbrev pub ended_by : State → Token → List Stretch
ended_by (Heading k) x = []
ended_by (Opened t) x = []
ended_by (Jobbed t j) x = []
ended_by (Going t j f) (token.Head i) = []
ended_by (Going t j f) (token.Mark u) = stretch t u (who_by j f) ∷ []
ended_by (Going t j f) (token.Job i) = []
ended_by (Going t j f) (token.Feed g) = []
ended_by (Going t j f) token.Other = []
ended_by (Marked t j f) x = []
ended_by (Halfway t j f) (token.Head i) = []
ended_by (Halfway t j f) (token.Mark u) = stretch t u (who_by j f) ∷ []
ended_by (Halfway t j f) (token.Job i) = []
ended_by (Halfway t j f) (token.Feed g) = []
ended_by (Halfway t j f) token.Other = []
ended_by Dead x = []

-- THE STRETCHES that lines tell of, from a state on
unfoldable pub stretches : State → List Token → List Stretch
stretches s [] = []
stretches s (x ∷ xs) = ended_by s x ++ stretches (next s x) xs

-- whom each tick of them went to
unfoldable pub spread : List Stretch → List Who
spread [] = []
spread (s ∷ ss) = replicate (s.to - s.from) s.who ++ spread ss
