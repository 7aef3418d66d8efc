-- The starred bench examples of the rules as one table, row by row and in their order, each feed due at its period's end, and
-- behind them rows where the charge, a deadline length or the share decides: a row is an opening with what it answers, and calls
-- from there on, each with what it answers. 0 is yes, any other number the refusal.
use Rattle.std.specs.Prelude.{◌≡◌, List, [], ◌∷◌, ℕ}
use Rattle.desk.specs.declared.Desk.{Desk}
use Rattle.desk.specs.declared.Answer.{Answer}
use Rattle.answers.specs.Answers.{answer_of}
use Rattle.desk.specs.declared.Stepped.{Stepped}
use Rattle.desk.specs.Calls.{step_of, end_of, rest_of}
use Rattle.desk.specs.Asking.{Asked}
use Rattle.desk.specs.Undated.{AskedUndated}
use Rattle.promises.specs.Runs.{Carried, nothing, share, answer_with}

-- a call and what it answers: an ask by number, work and lead, one with no date by number and work, a step, an end by number, or
-- a rest by position
pub data Said : Type 0 where
  asks : ℕ → ℕ → ℕ → ℕ → Said
  undated : ℕ → ℕ → ℕ → Said
  steps : ℕ → Said
  ends : ℕ → ℕ → Said
  rests : ℕ → ℕ → Said

-- a row: the feed list, four numbers a feed (period, work, offset, deadline length), the instant, the charge, the share, what the
-- opening answers, and the calls
pub record Row : Type 0 where
  pub feeds : List ℕ
  pub start : ℕ
  pub charge : ℕ
  pub carried : Carried
  pub opens : ℕ
  pub calls : List Said

-- where changing work costs nothing, as in the rules
abbrev pub row : List ℕ → ℕ → List Said → Row
row feeds opens calls = record { feeds = feeds; start = 0; charge = 0; carried = nothing; opens = opens; calls = calls }

-- where each job and each piece owes a charge too
abbrev pub charged : ℕ → List ℕ → ℕ → List Said → Row
charged charge feeds opens calls = record { feeds = feeds; start = 0; charge = charge; carried = nothing; opens = opens; calls = calls }

-- where the opening carries a share p/q for jobs with no date
abbrev pub shared : ℕ → ℕ → ℕ → ℕ → List ℕ → ℕ → List Said → Row
shared p q start charge feeds opens calls =
    record { feeds = feeds; start = start; charge = charge; carried = share p q; opens = opens; calls = calls }

-- the answer is this number, and so it goes on from the state that is handed back
abbrev pub Then : ℕ → (Desk → Type 0) → Answer → Type 0
Then answer Next r = (answer_of r.verdict ≡ answer) × Next r.desk

-- a step as an answer
abbrev pub answer_of_step : Stepped → Answer
answer_of_step s = record { desk = s.desk; verdict = s.verdict }

-- each call answers so, on the state that the last one handed back: an ask in every answer that its contract allows
unfoldable pub Goes : List Said → Desk → Type 0
Goes [] d = Unit {0}
Goes (asks number work lead answer ∷ cs) d = (r : Answer) → Asked d number work lead r → Then answer (Goes cs) r
Goes (undated number work answer ∷ cs) d = (r : Answer) → AskedUndated d number work r → Then answer (Goes cs) r
Goes (steps answer ∷ cs) d = Then answer (Goes cs) (answer_of_step (step_of d))
Goes (ends number answer ∷ cs) d = Then answer (Goes cs) (end_of d number)
Goes (rests position answer ∷ cs) d = Then answer (Goes cs) (rest_of d position)

-- THE ONE STATEMENT
unfoldable pub Holds : Row → Type 0
Holds r = Then r.opens (Goes r.calls) (answer_with r.carried r.feeds r.start r.charge)

-- X of the bench examples
abbrev pub x : List ℕ
x = 4 ∷ 1 ∷ 0 ∷ 4 ∷ 6 ∷ 2 ∷ 0 ∷ 6 ∷ []

-- feeds that want every tick
abbrev pub every_tick : List ℕ
every_tick = 2 ∷ 1 ∷ 0 ∷ 2 ∷ 4 ∷ 2 ∷ 0 ∷ 4 ∷ []

-- THE TABLE
abbrev pub table : List Row
table =
    -- X: work 3 lead 6 is taken; with work 4, 7 are owed by instant 6
    row x 0 (asks 1 3 6 0 ∷ [])
    ∷ row x 0 (asks 1 4 6 6 ∷ [])
    -- a tick later there is room for it
    ∷ row x 0 (asks 1 4 7 0 ∷ [])
    -- by instant 12 the feeds leave 5 ticks, and by 13 one more
    ∷ row x 0 (asks 1 5 12 0 ∷ [])
    ∷ row x 0 (asks 1 6 12 6 ∷ [])
    ∷ row x 0 (asks 1 6 13 0 ∷ [])
    -- where the feeds want every tick, no lead is long enough
    ∷ row every_tick 0 (asks 1 1 65536 6 ∷ [])
    -- a layer that is rested leaves its tick
    ∷ row every_tick 0 (rests 1 0 ∷ asks 1 1 1 0 ∷ [])
    -- the job would be in time, and the layer late
    ∷ row (4 ∷ 4 ∷ 0 ∷ 4 ∷ []) 0 (asks 1 1 1 6 ∷ [])
    -- the second job would be in time, and the first, promised before it, late
    ∷ row [] 0 (asks 1 3 4 0 ∷ asks 2 2 2 6 ∷ [])
    -- a layer may not be due after the next one comes; three numbers are no whole feeds
    ∷ row (4 ∷ 1 ∷ 0 ∷ 6 ∷ []) 2 []
    ∷ row (4 ∷ 1 ∷ 0 ∷ []) 12 []
    -- periods 40,319 and 2: the round is too long. The rules name the periods alone; these works and offsets break no line
    ∷ row (40319 ∷ 1 ∷ 0 ∷ 40319 ∷ 2 ∷ 1 ∷ 0 ∷ 2 ∷ []) 9 []
    -- a half and two thirds are more than there is
    ∷ row (2 ∷ 1 ∷ 0 ∷ 2 ∷ 3 ∷ 2 ∷ 0 ∷ 3 ∷ []) 10 []
    -- no feeds: a job of 4 by 4 fits, and under a charge of 1 it owes 5
    ∷ row [] 0 (asks 1 4 4 0 ∷ [])
    ∷ charged 1 [] 0 (asks 1 4 4 6 ∷ asks 1 4 5 0 ∷ [])
    -- each layer to come owes the charge too: by 8 the feed owes 4
    ∷ charged 1 (4 ∷ 1 ∷ 0 ∷ 4 ∷ []) 0 (asks 1 4 8 6 ∷ asks 1 3 8 0 ∷ [])
    -- so does a job that was taken before
    ∷ charged 1 [] 0 (asks 1 3 8 0 ∷ asks 2 4 8 6 ∷ asks 2 3 8 0 ∷ [])
    -- X under a charge of 1 wants every tick, and what a rested layer leaves is 2 of them
    ∷ charged 1 x 0 (asks 1 1 65536 6 ∷ rests 1 0 ∷ asks 1 2 6 6 ∷ asks 1 1 6 0 ∷ [])
    -- a layer that is rested leaves its tick and its charge
    ∷ charged 1 (4 ∷ 3 ∷ 0 ∷ 4 ∷ []) 0 (asks 1 3 4 6 ∷ rests 1 0 ∷ asks 1 3 4 0 ∷ [])
    -- a feed that leaves a tick in four can pay a charge of 1 and not of 2; X under a charge of 2 wants 17 of 12
    ∷ row (4 ∷ 3 ∷ 0 ∷ 4 ∷ []) 0 []
    ∷ charged 1 (4 ∷ 3 ∷ 0 ∷ 4 ∷ []) 0 []
    ∷ charged 2 (4 ∷ 3 ∷ 0 ∷ 4 ∷ []) 10 []
    ∷ charged 2 x 10 []
    -- 16 is the highest charge, and 18 comes before the lines of the feeds
    ∷ charged 16 [] 0 []
    ∷ charged 17 [] 18 []
    ∷ charged 17 (0 ∷ 0 ∷ 0 ∷ 0 ∷ []) 18 []
    ∷ charged 16 (0 ∷ 0 ∷ 0 ∷ 0 ∷ []) 2 []
    ∷ charged 17 (4 ∷ 1 ∷ 0 ∷ []) 12 []
    -- a layer of 2 in 4 leaves its first tick to a short job only where it need not be done by 2
    ∷ row (4 ∷ 2 ∷ 0 ∷ 4 ∷ []) 0 (asks 1 2 2 0 ∷ [])
    ∷ row (4 ∷ 2 ∷ 0 ∷ 2 ∷ []) 0 (asks 1 2 2 6 ∷ asks 1 2 4 0 ∷ [])
    -- with the layer at rest the next one comes at 4: a job of 5 by 5 is in time, and where that layer is due by 6, it is late
    ∷ row (4 ∷ 2 ∷ 0 ∷ 4 ∷ []) 0 (rests 1 0 ∷ asks 1 5 5 0 ∷ [])
    ∷ row (4 ∷ 2 ∷ 0 ∷ 2 ∷ []) 0 (rests 1 0 ∷ asks 1 5 5 6 ∷ asks 1 4 5 0 ∷ [])
    -- two layers of 2 that are due 2 ticks after they come: at other times they would do, and 10 is judged as if they came together
    ∷ row (4 ∷ 2 ∷ 0 ∷ 2 ∷ 4 ∷ 2 ∷ 2 ∷ 2 ∷ []) 10 []
    ∷ row (4 ∷ 2 ∷ 0 ∷ 2 ∷ 4 ∷ 2 ∷ 2 ∷ 4 ∷ []) 0 []
    -- a stretch longer than any period decides: in 11 ticks three layers of 2 and two of 3 come and are due
    ∷ row (4 ∷ 2 ∷ 0 ∷ 3 ∷ 6 ∷ 3 ∷ 0 ∷ 5 ∷ []) 10 []
    ∷ row (4 ∷ 2 ∷ 0 ∷ 3 ∷ 6 ∷ 3 ∷ 0 ∷ 6 ∷ []) 0 []
    -- due in the tick that they come: a charge is then too much
    ∷ row (4 ∷ 1 ∷ 0 ∷ 1 ∷ []) 0 []
    ∷ charged 1 (4 ∷ 1 ∷ 0 ∷ 1 ∷ []) 10 []
    ∷ charged 1 (4 ∷ 1 ∷ 0 ∷ 2 ∷ []) 0 []
    -- a deadline length from 1 to the period
    ∷ row (4 ∷ 1 ∷ 0 ∷ 0 ∷ []) 2 []
    ∷ row (4 ∷ 1 ∷ 0 ∷ 5 ∷ []) 2 []
    ∷ []

-- THE SAME OF JOBS WITH NO DATE
abbrev pub undated_table : List Row
undated_table =
    -- with no share nothing is asked for without a date; line 1 comes before that
    row x 0 (undated 1 1 19 ∷ undated 0 1 1 ∷ [])
    -- a share is not nothing, not above all, and in numbers up to 1,000; 18 comes before 19, and 19 before the feeds' lines
    ∷ shared 0 0 0 0 [] 19 []
    ∷ shared 0 1 0 0 [] 19 []
    ∷ shared 1 0 0 0 [] 19 []
    ∷ shared 2 1 0 0 [] 19 []
    ∷ shared 1 1001 0 0 [] 19 []
    ∷ shared 1000 1000 0 0 [] 0 (undated 1 2 0 ∷ [])
    ∷ shared 0 0 0 17 [] 18 []
    ∷ shared 0 0 0 0 (0 ∷ 0 ∷ 0 ∷ 0 ∷ []) 19 []
    ∷ shared 1 2 0 0 (0 ∷ 0 ∷ 0 ∷ 0 ∷ []) 2 []
    -- a work outside its limits, and a lead that comes to 66,000
    ∷ shared 1 1000 0 0 [] 0 (undated 1 0 2 ∷ undated 1 65537 2 ∷ undated 1 66 2 ∷ [])
    -- two jobs of 3 at four fifths take 4 ticks each; rounded down, 3 of them would be the second's and it would not fit
    ∷ shared 4 5 0 0 (5 ∷ 1 ∷ 0 ∷ 5 ∷ []) 0 (undated 1 3 0 ∷ undated 2 3 0 ∷ [])
    -- the charge takes its time too: without it the job would be due 4 ticks sooner, and would not fit
    ∷ shared 1 4 3 1 (4 ∷ 2 ∷ 0 ∷ 4 ∷ []) 0 (steps 0 ∷ undated 1 3 0 ∷ [])
    -- an end gives no time back: the next deadline counts from that of the job that was ended, or it would not fit
    ∷ shared 1 3 3 0 (3 ∷ 2 ∷ 0 ∷ 3 ∷ []) 0 (undated 1 2 0 ∷ undated 2 1 0 ∷ steps 0 ∷ ends 2 0 ∷ undated 3 5 0 ∷ [])
    -- nor does a last tick: the second counts from the first one's deadline, though that job has left
    ∷ shared 1 2 0 0 (10 ∷ 5 ∷ 0 ∷ 10 ∷ []) 0 (undated 1 5 0 ∷ steps 0 ∷ steps 0 ∷ steps 0 ∷ steps 0 ∷ steps 0 ∷ undated 2 1 0 ∷ [])
    -- what the theorem asks for is needed: a job with a lead of its own in between, one that has left too,
    ∷ shared 1 2 0 0 (2 ∷ 1 ∷ 0 ∷ 2 ∷ []) 0 (asks 1 1 2 0 ∷ undated 2 1 6 ∷ [])
    ∷ shared 1 2 0 0 (10 ∷ 5 ∷ 0 ∷ 10 ∷ []) 0 (asks 1 5 5 0 ∷ steps 0 ∷ steps 0 ∷ steps 0 ∷ steps 0 ∷ steps 0 ∷ undated 2 1 6 ∷ [])
    -- a layer that is due before the next comes,
    ∷ shared 1 2 0 0 (4 ∷ 2 ∷ 0 ∷ 2 ∷ []) 0 (undated 1 1 6 ∷ [])
    -- shares that are together more than all
    ∷ shared 2 3 0 0 (2 ∷ 1 ∷ 0 ∷ 2 ∷ []) 0 (undated 1 2 0 ∷ undated 2 2 6 ∷ [])
    ∷ []
