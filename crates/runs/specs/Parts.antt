-- A run of the desk's steps, part by part: what going on by so many steps writes into so many bytes, and what it hands back.
use Rattle.std.specs.Prelude.{◌≡◌, Bool, cond, not, ◌&&◌, List, [], ◌∷◌, ◌++◌, ℕ, zero, suc, ◌-◌, eqb, length}
use Rattle.text.specs.Put.{Put}
use Rattle.answers.specs.declared.Who.{Who}
use Rattle.answers.specs.declared.Refusal.{Refusal}
use Rattle.answers.specs.declared.Refusal.TheVariants.{ShortBuffer, NotInOrder}
use Rattle.answers.specs.Verdicts.{Verdict}
use Rattle.std.specs.Prelude.{Result, Err}
use Rattle.answers.specs.Answers.{Line, line, first_of, on_yes, yes_with, is_yes}
use Rattle.desk.specs.declared.Desk.{Desk}
use Rattle.desk.specs.declared.Stepped.{Stepped}
use Rattle.desk.specs.Calls.{disorder, step_of}
use Rattle.waveform.specs.declared.Token.{Token}
use Rattle.waveform.specs.declared.cursor.Cursor.{Cursor}
use Rattle.waveform.specs.Cursors.{any_due, begun, stepped}
use Rattle.waveform.specs.Order.{ordered}
use Rattle.waveform.specs.Parts.{bytes_of, wrote_all, due_fitting}
use Rattle.runs.specs.declared.Went.{Went}

-- the desk's clock
abbrev pub clock_of : Desk → ℕ
clock_of d = d.ledger.clock.0

-- A RUN BEGINS at the clock of a desk in order (13), else there is none
unfoldable pub begun_of : Desk → Result Cursor Refusal
begun_of d = yes_with (first_of (disorder d ∷ [])) (begun (clock_of d))

-- a part of a run: the desk and the cursor behind it, whom its steps went to, and the lines that it wrote
pub record Part : Type 0 where
  pub desk : Desk
  pub cursor : Cursor
  pub names : List Who
  pub lines : List Token

abbrev pub part : Desk → Cursor → List Who → List Token → Part
part d c ws ls = record { desk = d; cursor = c; names = ws; lines = ls }

-- the room that is left of so many bytes
abbrev pub room_in : ℕ → Part → ℕ
room_in size p = size - length (bytes_of p.lines)

-- the lines that are due are written while they fit
abbrev pub filled : ℕ → Part → Part
filled size p =
    part p.desk (wrote_all (due_fitting (room_in size p) p.cursor) p.cursor) p.names (p.lines ++ due_fitting (room_in size p) p.cursor)

-- one step more, which makes its lines due
abbrev pub step_on : Part → Stepped → Part
step_on p x = part x.desk (stepped p.cursor x.who) (p.names ++ (x.who ∷ [])) p.lines

-- a step is taken where nothing is due and the desk does not refuse it
unfoldable pub goes_on : Part → Bool
goes_on p = not (any_due p.cursor.due) && is_yes (step_of p.desk).verdict

-- as many steps as that, at most
unfoldable pub carried : ℕ → ℕ → Part → Part
carried size zero p = p
carried size (suc n) p = cond (goes_on p) (carried size n (filled size (step_on p (step_of p.desk)))) p

-- A PART of so many bytes and steps at most
unfoldable pub part_of : ℕ → ℕ → Desk → Cursor → Part
part_of size most d c = carried size most (filled size (part d c [] []))

-- a part as the buffer and the fields have it
pub record Carried (entry exit : List ℕ) (p : Part) (d : Desk) (c : Cursor) (at taken : ℕ) : Type 0 where
  pub put : Put entry exit 0 at (bytes_of p.lines)
  pub desk : d ≡ p.desk
  pub cursor : c ≡ p.cursor
  pub steps : taken ≡ length p.names

-- in order, and at this instant
unfoldable pub ordered_at : ℕ → Cursor → Bool
ordered_at t c = eqb c.clock t && ordered c

-- a line is due, and not even the first one fitted
unfoldable pub stuck : Part → Bool
stuck p = eqb (length (bytes_of p.lines)) 0 && any_due p.cursor.due

-- a desk not in order, a cursor not in order at its clock (13); a first line that does not fit (11)
abbrev pub go_stops : ℕ → ℕ → Desk → Cursor → List Line
go_stops size most d c = disorder d ∷ line (not (ordered_at (clock_of d) c)) NotInOrder ∷ line (stuck (part_of size most d c)) ShortBuffer ∷ []

abbrev pub go_answer : ℕ → ℕ → Desk → Cursor → Verdict
go_answer size most d c = first_of (go_stops size most d c)

-- what a refused part hands back
abbrev pub refused_went : Desk → Cursor → Refusal → Went
refused_went d c r = record { desk = d; cursor = c; verdict = Err r; bytes = 0; steps = 0 }

-- GOING ON: what it hands back, and the bytes that it writes
unfoldable pub went_of : ℕ → ℕ → Desk → Cursor → Went
went_of size most d c =
    record {
      desk = on_yes (go_answer size most d c) (part_of size most d c).desk d;
      cursor = on_yes (go_answer size most d c) (part_of size most d c).cursor c;
      verdict = go_answer size most d c;
      bytes = on_yes (go_answer size most d c) (length (bytes_of (part_of size most d c).lines)) 0;
      steps = on_yes (go_answer size most d c) (length (part_of size most d c).names) 0;
    }

unfoldable pub went_bytes : ℕ → ℕ → Desk → Cursor → List ℕ
went_bytes size most d c = on_yes (go_answer size most d c) (bytes_of (part_of size most d c).lines) []

-- whom the steps of the call went to
unfoldable pub went_names : ℕ → ℕ → Desk → Cursor → List Who
went_names size most d c = on_yes (go_answer size most d c) (part_of size most d c).names []
