-- THE ORDER OF THE TABLE IS NOT SEEN: for any calls from an opening the desk answers as the one that keeps its jobs in the order
-- of their yes. That one is told by its book and the deadline of the last job that it took with no date: what each call makes of
-- them, and what it answers.
use Rattle.std.specs.Prelude.{◌≡◌, ◌↔◌, not, cond, List, [], ◌∷◌, ◌++◌, map, ℕ, ◌+◌, ◌-◌, ◌*◌, ltb, eqb, length, drop}
use Rattle.lists.specs.Lists.{total}
use Rattle.ticks.specs.Ticks.{last_instant, instant, ticks}
use Rattle.mesh.specs.Bands.{work_of}
use Rattle.mesh.specs.Meshes.{triangles_of, mesh_lines}
use Rattle.jobs.specs.Jobs.{numbers_a_job, lacks, live, table_of}
use Rattle.jobs.specs.Figures.{owes_by, figured}
use Rattle.jobs.specs.Sorted.{sorted}
use Rattle.listing.specs.Words.{words}
use Rattle.answers.specs.declared.Who.TheVariants.{Idle}
use Rattle.answers.specs.declared.Refusal.{Refusal}
use Rattle.answers.specs.declared.Refusal.TheVariants.{PastLast, DoesNotFit, NothingThere, ShortBuffer}
use Rattle.answers.specs.Verdicts.{Verdict}
use Rattle.std.specs.Prelude.{Ok, Err}
use Rattle.answers.specs.Answers.{Line, line, first_of, on_yes, yes_with}
use Rattle.edf.specs.Book.{Feed, Job, Book}
use Rattle.edf.specs.Fits.{Fits}
use Rattle.edf.specs.Step as edf
use Rattle.edf.specs.Step.{ran, runner}
use Rattle.edf.specs.Margin.{Telling}
use Rattle.edf.specs.Calls.{taking, ending, resting}
use Rattle.edf.specs.Reordered.{Reordered}
use Rattle.edf.specs.Runs.{after}
use Rattle.edf.specs.Share.{deadline_at}
use Rattle.shares.specs.declared.Share.{Share}
use Rattle.ledger.specs.Books.{job_of, who_is}
use Rattle.desk.specs.declared.Desk.{Desk}
use Rattle.desk.specs.declared.Answer.{Answer}
use Rattle.desk.specs.State.{book}
use Rattle.desk.specs.Calls.{step_of, end_of, rest_of, counted_of, listed_of, runner_of}
use Rattle.desk.specs.Opening.{share_line}
use Rattle.desk.specs.Asking.{number_line, request_lines, place_lines, requested, with_job, Asked}
use Rattle.desk.specs.Undated.{AskedUndated}
use Rattle.questions.specs.Meshes.{AskedMesh}
use Rattle.promises.specs.Runs.{Call, Calls, ask, ask_mesh, ask_undated, step, end, rest, look, Made, Opening, opened, charge_of, share_of}

-- the job that is asked for under a charge: it owes its work and the charge, and is due the lead after the clock
abbrev pub job_asked : ℕ → Book → ℕ → ℕ → ℕ → Job
job_asked charge b number work lead = record { number = number; owes = work + charge; due = b.clock + lead }

-- what that desk has: its book, the jobs in the order of their yes, and the deadline of the last one taken with no date
pub record Arrived : Type 0 where
  pub book : Book
  pub previous : ℕ

-- the deadline that the rule gives under a charge and a share, and as a lead
abbrev pub ruled : ℕ → Share → Arrived → ℕ → ℕ
ruled charge s k work = deadline_at s.p s.q k.previous k.book.clock (work + charge)

abbrev pub lead_of : ℕ → Share → Arrived → ℕ → ℕ
lead_of charge s k work = ruled charge s k work - k.book.clock

-- what a call with its answer makes of the book: a job that is taken stands behind the others
unfoldable pub book_after : ℕ → Share → Call → Arrived → Book
book_after charge s (ask number work lead r) k = on_yes r.verdict (taking (job_asked charge k.book number work lead) k.book) k.book
book_after charge s (ask_mesh bytes size number lead r) k =
    on_yes r.verdict (taking (job_asked charge k.book number (work_of (triangles_of bytes)) lead) k.book) k.book
book_after charge s (ask_undated number work r) k =
    on_yes r.verdict (taking (job_asked charge k.book number work (lead_of charge s k work)) k.book) k.book
book_after charge s (step r) k = on_yes r.verdict (edf.step k.book) k.book
book_after charge s (end n r) k = on_yes r.verdict (ending n k.book) k.book
book_after charge s (rest p r) k = on_yes r.verdict (resting p k.book) k.book
book_after charge s look k = k.book

-- and of the deadline: a yes to an ask with no date sets it, and nothing else does
unfoldable pub previous_after : ℕ → Share → Call → Arrived → ℕ
previous_after charge s (ask number work lead r) k = k.previous
previous_after charge s (ask_mesh bytes size number lead r) k = k.previous
previous_after charge s (ask_undated number work r) k = on_yes r.verdict (ruled charge s k work) k.previous
previous_after charge s (step r) k = k.previous
previous_after charge s (end n r) k = k.previous
previous_after charge s (rest p r) k = k.previous
previous_after charge s look k = k.previous

abbrev pub follows : ℕ → Share → Call → Arrived → Arrived
follows charge s c k = record { book = book_after charge s c k; previous = previous_after charge s c k }

-- after any calls
unfoldable pub in_order_of_arrival : ℕ → Share → Calls → Arrived → Arrived
in_order_of_arrival charge s [] k = k
in_order_of_arrival charge s (x ∷ xs) k = in_order_of_arrival charge s xs (follows charge s x.call k)

-- lines 1 to 5 of an ask
abbrev pub asked_lines : Book → ℕ → ℕ → ℕ → List Line
asked_lines b number work lead =
    request_lines (instant b.clock) number (ticks work) (ticks lead) ++ place_lines (table_of (map job_of b.jobs)) number

-- what an ask answers: the first line that holds, then line 6 by fits itself
pub record Answers (charge : ℕ) (b : Book) (number work lead : ℕ) (v : Verdict) : Type 0 where
  pub stopped : (x : Refusal) → first_of (asked_lines b number work lead) ≡ Err x → v ≡ Err x
  pub fits : first_of (asked_lines b number work lead) ≡ Ok tt → Fits (taking (job_asked charge b number work lead) b) → v ≡ Ok tt
  pub not : first_of (asked_lines b number work lead) ≡ Ok tt → (Fits (taking (job_asked charge b number work lead) b) → ⊥) → v ≡ Err DoesNotFit

-- an ask with a mesh: the first of its own lines that holds, then what an ask for its band's work answers
pub record MeshAnswers (charge : ℕ) (b : Book) (s : List ℕ) (size number lead : ℕ) (v : Verdict) : Type 0 where
  pub stopped : (x : Refusal) → first_of (mesh_lines s size) ≡ Err x → v ≡ Err x
  pub asked : first_of (mesh_lines s size) ≡ Ok tt → Answers charge b number (work_of (triangles_of s)) lead v

-- an ask with no date: line 1 or 19, then what an ask with the lead of the rule answers
pub record UndatedAnswers (charge : ℕ) (s : Share) (k : Arrived) (number work : ℕ) (v : Verdict) : Type 0 where
  pub stopped : (x : Refusal) → first_of (number_line number ∷ share_line s ∷ []) ≡ Err x → v ≡ Err x
  pub asked : first_of (number_line number ∷ share_line s ∷ []) ≡ Ok tt → Answers charge k.book number work (lead_of charge s k work) v

-- what the current piece of the feed at a position owes; nothing where there is none
abbrev pub owes_in : ℕ → List Feed → ℕ
owes_in p [] = 0
owes_in p (f ∷ fs) = cond (eqb p f.position) f.owes (owes_in p fs)

-- line 3 of a step, line 7 of an end and of a rest, line 11 of a list into so many places
abbrev pub stepped : Book → Verdict
stepped b = first_of (line (not (ltb b.clock last_instant)) PastLast ∷ [])

abbrev pub ended_by : Book → ℕ → Verdict
ended_by b n = first_of (line (lacks n (map job_of b.jobs)) NothingThere ∷ [])

abbrev pub rested_by : Book → ℕ → Verdict
rested_by b p = first_of (line (eqb (owes_in p b.feeds) 0) NothingThere ∷ [])

abbrev pub listed_by : Book → ℕ → Verdict
listed_by b size = first_of (line (ltb size (numbers_a_job * length b.jobs)) ShortBuffer ∷ [])

-- the list's numbers: earliest deadline first, lower number first on equal ones, the figures done afresh
abbrev pub listing : Book → List ℕ
listing b = words (figured (sorted (map job_of b.jobs)))

-- the desk answers as this one does, and its book is the same but for the order of the jobs
pub record AnswersAs (charge : ℕ) (s : Share) (k : Arrived) (d : Desk) : Type 0 where
  pub jobs : Reordered k.book (book d)
  pub previous : d.previous.0 ≡ k.previous
  pub ask : (number work lead : ℕ) (r : Answer) → Asked d number work lead r → Answers charge k.book number work lead r.verdict
  pub mesh : (bytes : List ℕ) (size number lead : ℕ) (r : Answer)
      → AskedMesh d bytes size number lead r → MeshAnswers charge k.book bytes size number lead r.verdict
  pub undated : (number work : ℕ) (r : Answer) → AskedUndated d number work r → UndatedAnswers charge s k number work r.verdict
  -- a step
  pub verdict : (step_of d).verdict ≡ stepped k.book
  pub who : (step_of d).who ≡ on_yes (stepped k.book) (who_is (ran k.book).who) Idle
  pub owes : (step_of d).owes ≡ on_yes (stepped k.book) (ticks (ran k.book).owes) (ticks 0)
  pub end : (n : ℕ) → (end_of d n).verdict ≡ ended_by k.book n
  pub rest : (p : ℕ) → (rest_of d p).verdict ≡ rested_by k.book p
  -- a list
  pub counted : (size : ℕ) → counted_of d size ≡ yes_with (listed_by k.book size) (length k.book.jobs)
  pub listed : (buffer : List ℕ)
      → listed_of d buffer ≡ on_yes (listed_by k.book (length buffer)) (listing k.book ++ drop (numbers_a_job * length k.book.jobs) buffer) buffer
  -- the label is that of whom the next step would name
  pub label : runner_of d ≡ on_yes (stepped k.book) (who_is (runner k.book).who) Idle
  -- the instant that a customer is told of, and what the live jobs owe by it
  pub instants : (number work lead D : ℕ)
      → Telling (taking (job_asked charge k.book number work lead) k.book) D ↔ Telling (with_job d (requested d number work lead)) D
  pub parts : (D : ℕ) → total (owes_by D) (live d.ledger.table) ≡ total (owes_by D) (map job_of k.book.jobs)

-- for any calls from an opening, refused ones among them
unfoldable pub AnswersAsInOrderOfArrival : Type 0
AnswersAsInOrderOfArrival =
    (o : Opening) (cs : Calls) → Made cs (opened o)
    → AnswersAs (charge_of o) (share_of o)
    (in_order_of_arrival (charge_of o) (share_of o) cs (record { book = book (opened o); previous = 0 }))
    (after cs (opened o))
