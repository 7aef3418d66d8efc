-- The desk's answers as flat numbers: 0 for yes, else the refusal's number; the values of each case beside it.
use Rattle.std.specs.Prelude.{◌≡◌, Result, Ok, Err, List, ℕ}
use Rattle.listing.specs.declared.Lent.{Lent}
use Rattle.listing.specs.declared.Lent.TheVariants.{Jobs, Feeds}
use Rattle.listing.specs.declared.Part.{Part}
use Rattle.desk.specs.declared.Desk.{Desk}
use Rattle.desk.specs.declared.Answer as answer
use Rattle.desk.specs.declared.Stepped as stepped
use Rattle.questions.specs.declared.Because.{Because}
use Rattle.answers.specs.declared.Refusal.{Refusal}
use Rattle.answers.specs.Answers.{number_of, answer_of, kind_of, name_of}
use Rattle.desk.specs.Asking.{Asked}
use Rattle.desk.specs.Undated.{AskedUndated}
use Rattle.questions.specs.Meshes.{AskedMesh}
use Rattle.questions.specs.Whys.{Explained}
use Rattle.desk_c.specs.declared.Answer.{Answer}
use Rattle.desk_c.specs.declared.Stepped.{Stepped}
use Rattle.desk_c.specs.declared.Reason.{Reason}
use Rattle.desk_c.specs.declared.Listed.{Listed}
use Rattle.desk_c.specs.declared.Label.{Label}

-- the state as it is handed back, and the number of the answer
abbrev pub flat_answer : answer.Answer → Answer
flat_answer a = record { desk = a.desk; refusal = answer_of a.verdict }

-- whom a step named: kind 1 a job by its number, kind 2 a feed by its position, kind 0 idle; all 0 where it is refused
abbrev pub flat_step : stepped.Stepped → Stepped
flat_step s =
    record {
      desk = s.desk;
      refusal = answer_of s.verdict;
      kind = kind_of s.who;
      number = name_of s.who;
      owes = s.owes.0;
    }

-- how many jobs were listed, none where the call is refused
abbrev pub flat_count : Result ℕ Refusal → Listed
flat_count (Ok count) = record { refusal = 0; count = count }
flat_count (Err refusal) = record { refusal = number_of refusal; count = 0 }

-- the lent list that holds a label: 1 the job labels, 2 the feed labels
abbrev pub list_number : Lent → ℕ
list_number Jobs = 1
list_number Feeds = 2

-- the place of a label
abbrev pub flat_part : Part → Label
flat_part p = record { list = list_number p.list; from = p.from; size = p.size }

-- the flat form of an answer that asking allows
pub record AskedFlat (d : Desk) (number work lead : ℕ) (r : Answer) : Type 0 where
  pub answer : answer.Answer
  pub asked : Asked d number work lead answer
  pub flat : r ≡ flat_answer answer

-- the flat form of an answer that asking with a mesh allows
pub record AskedMeshFlat (d : Desk) (s : List ℕ) (size number lead : ℕ) (r : Answer) : Type 0 where
  pub answer : answer.Answer
  pub asked : AskedMesh d s size number lead answer
  pub flat : r ≡ flat_answer answer

-- the flat form of an answer that asking with no date allows
pub record AskedUndatedFlat (d : Desk) (number work : ℕ) (r : Answer) : Type 0 where
  pub answer : answer.Answer
  pub asked : AskedUndated d number work answer
  pub flat : r ≡ flat_answer answer

-- what is told of a request: the refusal alone, 6 with the instant, who owes how much and the margin, or 0 with the instant
-- and the margin
abbrev pub flat_why : Because → Reason
flat_why w =
    record {
      refusal = answer_of w.verdict;
      at = w.reason.at.0;
      jobs = w.reason.jobs.0;
      feeds = w.reason.feeds.0;
      job = w.reason.job.0;
      margin = w.reason.margin;
    }

-- the flat form of what may be told
pub record WhyFlat (d : Desk) (number work lead : ℕ) (r : Reason) : Type 0 where
  pub why : Because
  pub explained : Explained d number work lead why
  pub flat : r ≡ flat_why why
