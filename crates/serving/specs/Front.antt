-- The pieces that want the tick, as the code has them, and which of them goes first.
use Rattle.std.specs.Prelude.{Bool, cond, List, [], ◌∷◌, map, ℕ, suc}
use Rattle.ticks.specs.declared.Instant.{Instant}
use Rattle.ticks.specs.Ticks.{instant, ticks}
use Rattle.feeds.specs.declared.Feed.{Feed}
use Rattle.jobs.specs.declared.Job.{Job}
use Rattle.plans.specs.Plans.{due}
use Rattle.edf.specs.Pieces.{Piece as BookPiece}
use Rattle.edf.specs.Step.{sooner, goes_before, nobody}
use Rattle.answers.specs.declared.Who.TheVariants as who
use Rattle.ledger.specs.Books.{who_of, who_is}
use Rattle.serving.specs.declared.Piece.{Piece}

-- a piece of the mathematics as the code has it: who, when due and what is owed
abbrev pub front_of : BookPiece → Piece
front_of p = record { who = who_is p.who; due = instant p.due; owes = ticks p.owes }

-- and back; from when on it is ready does not matter to who goes first
abbrev pub piece_of : Piece → BookPiece
piece_of p = record { who = who_of p.who; from = 0; due = p.due.0; owes = p.owes.0 }

abbrev pub sooner_of : Piece → Piece → Bool
sooner_of p q = sooner (piece_of p) (piece_of q)

abbrev pub goes_before_of : Piece → Piece → Bool
goes_before_of p q = goes_before (piece_of p) (piece_of q)

-- the one of the two that goes first
abbrev pub first_of_two : Piece → Piece → Piece
first_of_two p q = cond (goes_before_of p q) p q

abbrev pub nobody_front : Piece
nobody_front = front_of nobody

abbrev pub job_front : Job → Piece
job_front j = record { who = who.Job j.number; due = j.deadline; owes = j.owed }

-- the current piece of the feed at a position
abbrev pub feed_front : Instant → ℕ → Feed → Piece
feed_front t k f = record { who = who.Feed k; due = instant (due f.plan t.0); owes = f.owes }

-- the one of these that goes first, and where none of them goes before it, the last
unfoldable pub foremost_over : List Piece → Piece → Piece
foremost_over [] last = last
foremost_over (p ∷ ps) last = first_of_two p (foremost_over ps last)

abbrev pub job_fronts : List Job → List Piece
job_fronts js = map job_front js

-- the current pieces of feeds at their positions from k on
abbrev pub feed_fronts : Instant → ℕ → List Feed → List Piece
feed_fronts t k [] = []
feed_fronts t k (f ∷ fs) = feed_front t k f ∷ feed_fronts t (suc k) fs
