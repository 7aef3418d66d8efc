-- DEMAND 3. Over any calls from an opening, when the clock reaches its deadline every job taken and not ended has been named by
-- exactly its charged work in steps since its yes, up to its leaving; so has every layer piece not rested, since its release. Nothing
-- is asked of the calls but that each answer is one that its contract allows: refused calls, numbers that are used again, ends
-- and rests are all among them. A refused opening hands back the empty desk, and the promises hold from there too.
use Rattle.std.specs.Prelude.{◌≡◌, ◌⊎◌, true, List, [], ◌∷◌, ◌++◌, ℕ, ◌+◌, ◌≤◌, ◌<◌}
use Rattle.lists.specs.Lists.{Some}
use Rattle.mesh.specs.Bands.{work_of}
use Rattle.mesh.specs.Meshes.{triangles_of}
use Rattle.ticks.specs.Ticks.{ticks}
use Rattle.feeds.specs.Lines.{feeds_in}
use Rattle.std.specs.Prelude.{Ok}
use Rattle.edf.specs.Book.{Feed, job, feed}
use Rattle.edf.specs.Releases.{since}
use Rattle.edf.specs.Runs.{Did, after, named}
use Rattle.edf.specs.Kept as edf
use Rattle.edf.specs.Load.{Sound}
use Rattle.ledger.specs.Books.{book_feeds}
use Rattle.desk.specs.declared.Desk.{Desk}
use Rattle.desk.specs.declared.Answer.{Answer}
use Rattle.desk.specs.State.{book, in_order}
use Rattle.desk.specs.Undated.{undated_deadline}
use Rattle.promises.specs.Runs.{Call, Calls, Made, Ends, Rests, Opening, answer_to, opened, charge_of, asked, asked_mesh, asked_undated}

-- no call changes the charge: it stays the one that the opening set
unfoldable pub TheChargeStays : Type 0
TheChargeStays =
    (o : Opening) (cs : Calls) → Made cs (opened o)
    → ((after cs (opened o)).ledger.charge.0 ≡ charge_of o) × ((answer_to o).verdict ≡ Ok tt → charge_of o ≡ o.charge)

-- every state handed back from an opening onward is in order, and all that is promised can be done
unfoldable pub EveryStateIsInOrder : Type 0
EveryStateIsInOrder =
    (o : Opening) (cs : Calls) → Made cs (opened o)
    → (in_order (after cs (opened o)) ≡ true) × Sound (book (after cs (opened o)))

-- a job by its number, its deadline and its work, over calls from a desk on: still live, gone with all its work in time, or
-- ended by a call that was answered yes
abbrev pub JobKept : ℕ → ℕ → ℕ → Calls → Desk → Type 0
JobKept n due work cs d = edf.JobKept book Ends n due work cs d

abbrev pub Over : ℕ → ℕ → ℕ → Calls → Desk → Type 0
Over n due work cs d = edf.HasLeft book n due work cs d ⊎ edf.WasEnded book Ends n due work cs d

-- EVERY YES IS KEPT
unfoldable pub EveryYesIsKept : Type 0
EveryYesIsKept =
    (o : Opening) (before : Calls) (number work lead : ℕ) (r : Answer) (later : Calls)
    → Made (before ++ (asked number work lead r ∷ later)) (opened o) → r.verdict ≡ Ok tt
    → JobKept number ((after before (opened o)).ledger.clock.0 + lead) (work + charge_of o) later r.desk

-- and of an ask with a mesh
unfoldable pub EveryMeshYesIsKept : Type 0
EveryMeshYesIsKept =
    (o : Opening) (before : Calls) (s : List ℕ) (size number lead : ℕ) (r : Answer) (later : Calls)
    → Made (before ++ (asked_mesh s size number lead r ∷ later)) (opened o) → r.verdict ≡ Ok tt
    → JobKept number ((after before (opened o)).ledger.clock.0 + lead) (work_of (triangles_of s) + charge_of o) later r.desk

-- and of an ask with no date, by the deadline that the rule gives it
unfoldable pub EveryUndatedYesIsKept : Type 0
EveryUndatedYesIsKept =
    (o : Opening) (before : Calls) (number work : ℕ) (r : Answer) (later : Calls)
    → Made (before ++ (asked_undated number work r ∷ later)) (opened o) → r.verdict ≡ Ok tt
    → JobKept number (undated_deadline (after before (opened o)) work) (work + charge_of o) later r.desk

-- once the clock has reached its deadline it is over: the job has left with all its work in time, or was ended
unfoldable pub DoneByItsDeadline : Type 0
DoneByItsDeadline =
    (n due work : ℕ) (cs : Calls) (d : Desk) → JobKept n due work cs d → due ≤ (after cs d).ledger.clock.0 → Over n due work cs d

-- a feed of the list that was lent, at its position; its work is the charged one
abbrev pub Lent : Opening → Feed → Type 0
Lent o f = Some (λ g. g ≡ f) (book_feeds (ticks o.charge) 1 (feeds_in o.feeds))

abbrev pub PieceKept : ℕ → ℕ → ℕ → Calls → Desk → Type 0
PieceKept p due work cs d = edf.PieceKept book Rests p due work cs d

abbrev pub PieceOver : ℕ → ℕ → ℕ → Calls → Desk → Type 0
PieceOver p due work cs d = edf.WasServed book p due work cs d ⊎ edf.WasRested book Rests p due work cs d

-- EVERY LAYER PIECE IS KEPT, from the call that brought the clock to its release
unfoldable pub EveryPieceIsKept : Type 0
EveryPieceIsKept =
    (o : Opening) → (answer_to o).verdict ≡ Ok tt → (f : Feed) → Lent o f
    → (before : Calls) (x : Did Call Desk) (later : Calls) → Made (before ++ (x ∷ later)) (opened o)
    → (after before (opened o)).ledger.clock.0 < x.came.state.ledger.clock.0
    → since f.plan x.came.state.ledger.clock.0 ≡ 0
    → PieceKept f.position (x.came.state.ledger.clock.0 + f.plan.lead) f.plan.work later x.came.state

-- and those that come with the opening
unfoldable pub EveryOpenedPieceIsKept : Type 0
EveryOpenedPieceIsKept =
    (o : Opening) → (answer_to o).verdict ≡ Ok tt → (f : Feed) → Lent o f → since f.plan o.start ≡ 0
    → (later : Calls) → Made later (opened o)
    → PieceKept f.position (o.start + f.plan.lead) f.plan.work later (opened o)

-- once the clock has reached its deadline it is over: the piece has got all its work by then, or was rested before
unfoldable pub ServedByItsDeadline : Type 0
ServedByItsDeadline =
    (p due work : ℕ) (cs : Calls) (d : Desk) → PieceKept p due work cs d → due ≤ (after cs d).ledger.clock.0 → PieceOver p due work cs d

-- THE FIGURE THAT A STEP REPORTS, of a job that was taken: whenever an answer names its number, what it tells as still owed is
-- the charged work less the steps that named it since its yes, this one included; or the job was over before
unfoldable pub EveryReportIsRight : Type 0
EveryReportIsRight =
    (o : Opening) (before : Calls) (number work lead : ℕ) (r : Answer) (since_then : Calls) (x : Did Call Desk) (later : Calls)
    → Made (before ++ (asked number work lead r ∷ (since_then ++ (x ∷ later)))) (opened o) → r.verdict ≡ Ok tt
    → x.came.who ≡ job number → 1 ≤ x.came.ticks
    → (x.came.owes + named (job number) (since_then ++ (x ∷ [])) ≡ work + charge_of o)
    ⊎ Over number ((after before (opened o)).ledger.clock.0 + lead) (work + charge_of o) since_then r.desk

-- the same of a job that was taken with a mesh
unfoldable pub EveryMeshReportIsRight : Type 0
EveryMeshReportIsRight =
    (o : Opening) (before : Calls) (s : List ℕ) (size number lead : ℕ) (r : Answer) (since_then : Calls) (x : Did Call Desk) (later : Calls)
    → Made (before ++ (asked_mesh s size number lead r ∷ (since_then ++ (x ∷ later)))) (opened o) → r.verdict ≡ Ok tt
    → x.came.who ≡ job number → 1 ≤ x.came.ticks
    → (x.came.owes + named (job number) (since_then ++ (x ∷ [])) ≡ work_of (triangles_of s) + charge_of o)
    ⊎ Over number ((after before (opened o)).ledger.clock.0 + lead) (work_of (triangles_of s) + charge_of o) since_then r.desk

-- and of one that was taken with no date
unfoldable pub EveryUndatedReportIsRight : Type 0
EveryUndatedReportIsRight =
    (o : Opening) (before : Calls) (number work : ℕ) (r : Answer) (since_then : Calls) (x : Did Call Desk) (later : Calls)
    → Made (before ++ (asked_undated number work r ∷ (since_then ++ (x ∷ later)))) (opened o) → r.verdict ≡ Ok tt
    → x.came.who ≡ job number → 1 ≤ x.came.ticks
    → (x.came.owes + named (job number) (since_then ++ (x ∷ [])) ≡ work + charge_of o)
    ⊎ Over number (undated_deadline (after before (opened o)) work) (work + charge_of o) since_then r.desk

-- and of a layer piece since its release
unfoldable pub EveryPieceReportIsRight : Type 0
EveryPieceReportIsRight =
    (o : Opening) → (answer_to o).verdict ≡ Ok tt → (f : Feed) → Lent o f
    → (before : Calls) (released : Did Call Desk) (since_then : Calls) (x : Did Call Desk) (later : Calls)
    → Made (before ++ (released ∷ (since_then ++ (x ∷ later)))) (opened o)
    → (after before (opened o)).ledger.clock.0 < released.came.state.ledger.clock.0
    → since f.plan released.came.state.ledger.clock.0 ≡ 0
    → x.came.who ≡ feed f.position → 1 ≤ x.came.ticks
    → (x.came.owes + named (feed f.position) (since_then ++ (x ∷ [])) ≡ f.plan.work)
    ⊎ PieceOver f.position (released.came.state.ledger.clock.0 + f.plan.lead) f.plan.work since_then released.came.state

-- and of one that came with the opening
unfoldable pub EveryOpenedPieceReportIsRight : Type 0
EveryOpenedPieceReportIsRight =
    (o : Opening) → (answer_to o).verdict ≡ Ok tt → (f : Feed) → Lent o f → since f.plan o.start ≡ 0
    → (since_then : Calls) (x : Did Call Desk) (later : Calls) → Made (since_then ++ (x ∷ later)) (opened o)
    → x.came.who ≡ feed f.position → 1 ≤ x.came.ticks
    → (x.came.owes + named (feed f.position) (since_then ++ (x ∷ [])) ≡ f.plan.work)
    ⊎ PieceOver f.position (o.start + f.plan.lead) f.plan.work since_then (opened o)
