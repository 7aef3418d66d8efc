-- The calls on a desk, each with its answer, and what comes of it: the state that it hands back, and whom it names.
use Rattle.std.specs.Prelude.{◌≡◌, List, ℕ}
use Rattle.lists.specs.Lists.{bit}
use Rattle.std.specs.Prelude.{Ok}
use Rattle.answers.specs.Answers.{is_yes}
use Rattle.edf.specs.Book.{idle}
use Rattle.shares.specs.declared.Share.{Share}
use Rattle.edf.specs.Runs.{Came, Did, Allowed}
use Rattle.ledger.specs.Books.{who_of}
use Rattle.desk.specs.declared.Desk.{Desk}
use Rattle.desk.specs.declared.Answer.{Answer}
use Rattle.desk.specs.declared.Stepped.{Stepped}
use Rattle.desk.specs.Opening.{opened_of, opened_shared_of}
use Rattle.desk.specs.Calls.{step_of, end_of, rest_of}
use Rattle.desk.specs.Asking.{Asked}
use Rattle.desk.specs.Undated.{AskedUndated}
use Rattle.questions.specs.Meshes.{AskedMesh}

-- a call with its answer: an ask (number, work, lead), an ask with a mesh (the bytes lent, the file's length, number, lead), an
-- ask with no date (number, work), a step, an end (number), a rest (position), or a look that changes nothing (the list, the
-- label, why)
pub data Call : Type 0 where
  ask : ℕ → ℕ → ℕ → Answer → Call
  ask_mesh : List ℕ → ℕ → ℕ → ℕ → Answer → Call
  ask_undated : ℕ → ℕ → Answer → Call
  step : Stepped → Call
  end : ℕ → Answer → Call
  rest : ℕ → Answer → Call
  look : Call

-- what comes of a call that moves no clock: it names nobody
abbrev pub quiet : Desk → Came Desk
quiet d = record { state = d; who = idle; ticks = 0; owes = 0 }

-- what comes of a step: whom its answer names, for one tick unless it is refused, and what that piece of work still owes
abbrev pub told : Stepped → Came Desk
told r = record { state = r.desk; who = who_of r.who; ticks = bit (is_yes r.verdict); owes = r.owes.0 }

-- the answer is one that the call's contract allows, and this is what comes of it
unfoldable pub allows : Call → Desk → Came Desk → Type 0
allows (ask number work lead r) d c = Asked d number work lead r × (c ≡ quiet r.desk)
allows (ask_mesh s size number lead r) d c = AskedMesh d s size number lead r × (c ≡ quiet r.desk)
allows (ask_undated number work r) d c = AskedUndated d number work r × (c ≡ quiet r.desk)
allows (step r) d c = (r ≡ step_of d) × (c ≡ told r)
allows (end n r) d c = (r ≡ end_of d n) × (c ≡ quiet r.desk)
allows (rest p r) d c = (r ≡ rest_of d p) × (c ≡ quiet r.desk)
allows look d c = c ≡ quiet d

-- any calls, one after the other, with what came of each
abbrev pub Calls : Type 0
Calls = List (Did Call Desk)

-- they may be made so, from this desk on
abbrev pub Made : Calls → Desk → Type 0
Made xs d = Allowed allows xs d

-- an end of the job of this number that was answered yes
unfoldable pub Ends : ℕ → Did Call Desk → Type 0
Ends n x = (r : Answer) × (x.call ≡ end n r) × (r.verdict ≡ Ok tt)

-- a rest of the feed at this position that was answered yes
unfoldable pub Rests : ℕ → Did Call Desk → Type 0
Rests p x = (r : Answer) × (x.call ≡ rest p r) × (r.verdict ≡ Ok tt)

-- the share that an opening may carry for jobs with no date
pub data Carried : Type 0 where
  nothing : Carried
  share : ℕ → ℕ → Carried

-- an opening: the feed list that is lent, the instant, the charge, and the share
pub record Opening : Type 0 where
  pub feeds : List ℕ
  pub start : ℕ
  pub charge : ℕ
  pub carried : Carried

-- what it answers, and the desk that it hands back, the empty one where it is refused
abbrev pub answer_with : Carried → List ℕ → ℕ → ℕ → Answer
answer_with nothing xs start charge = opened_of xs start charge
answer_with (share p q) xs start charge = opened_shared_of xs start charge p q

abbrev pub answer_to : Opening → Answer
answer_to o = answer_with o.carried o.feeds o.start o.charge

abbrev pub opened : Opening → Desk
opened o = (answer_to o).desk

-- the charge that it sets: its own, and 0 where it is refused
abbrev pub charge_of : Opening → ℕ
charge_of o = (opened o).ledger.charge.0

-- the share that it sets: the one that it carries; none where it carries none or is refused
abbrev pub share_of : Opening → Share
share_of o = (opened o).share

-- an ask that was made, one with a mesh, and one with no date
abbrev pub asked : ℕ → ℕ → ℕ → Answer → Did Call Desk
asked number work lead r = record { call = ask number work lead r; came = quiet r.desk }

abbrev pub asked_mesh : List ℕ → ℕ → ℕ → ℕ → Answer → Did Call Desk
asked_mesh s size number lead r = record { call = ask_mesh s size number lead r; came = quiet r.desk }

abbrev pub asked_undated : ℕ → ℕ → Answer → Did Call Desk
asked_undated number work r = record { call = ask_undated number work r; came = quiet r.desk }
