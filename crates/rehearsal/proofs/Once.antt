-- A session's answer is one: two replies, and two reads, that the contracts allow are the same.
use mathlib.Core.Path.{◌≡◌, refl, sym, ap, ◌∙◌}
use mathlib.Core.Bool.{Bool, true, false}
use mathlib.Core.List.{List}
use Prim.Native.Nat.{ℕ}
use Rattle.std.specs.Prelude.{Option, Some, None}
use Rattle.words.specs.declared.Line.{Line}
use Rattle.text.specs.Fields.{line_end}
use Rattle.desk.proofs.Asking.{asked_once}
use Rattle.sayings.specs.declared.Said.{Said}
use Rattle.rehearsal.specs.declared.Session.{Session}
use Rattle.rehearsal.specs.declared.Reply.{Reply}
use Rattle.rehearsal.specs.declared.Place.{Place}
use Rattle.rehearsal.specs.declared.Read.{Read}
use Rattle.rehearsal.specs.Session.{call_of}
use Rattle.rehearsal.specs.Hearing.{AskOf, Heard, HeardTo, Answers}

asks_once : (s : Session) (line number work lead : ℕ) (r t : Reply) → AskOf s line number work lead r → AskOf s line number work lead t → r ≡ t
asks_once s line number work lead r t a b = go s.opened refl
  where
    go : (o : Bool) → s.opened ≡ o → r ≡ t
    go true e =
        let x = a.after e in
        let y = b.after e in
        x.told ∙ ap (call_of s (Said.Ask number)) (asked_once s.desk number work lead x.answer y.answer x.asked y.asked) ∙ sym y.told
    go false e = a.early e ∙ sym (b.early e)

-- TWO REPLIES THAT A LINE ALLOWS ARE THE SAME
pub heard_once : (s : Session) (line : ℕ) (means : Line) (r t : Reply) → Heard s line means r → Heard s line means t → r ≡ t
unfolding Heard
heard_once s line (Line.Feed period work offset lead) r t a b = a ∙ sym b
heard_once s line (Line.Go start charge) r t a b = a ∙ sym b
heard_once s line (Line.Ask number work lead) r t a b = asks_once s line number work lead r t a b
heard_once s line (Line.End number) r t a b = a ∙ sym b
heard_once s line (Line.Rest position) r t a b = a ∙ sym b
heard_once s line (Line.Run ticks) r t a b = a ∙ sym b
heard_once s line Line.Bad r t a b = a ∙ sym b

-- two reads of the same reply that stand at the same byte and line
same_read : (r t : Read) → r.reply ≡ t.reply → r.place.from ≡ t.place.from → r.place.lines ≡ t.place.lines → r ≡ t
same_read r t reply from lines = λ i. record { reply = reply i; place = record { from = from i; lines = lines i } }

-- TWO READS THAT AN INPUT ALLOWS ARE THE SAME
pub read_once : (s : Session) (input : List ℕ) (p : Place) (r t : Read) → Answers s input p r → Answers s input p t → r ≡ t
unfolding HeardTo
read_once s input p r t a b = go (line_end input p.from) a.heard b.heard
  where
    lines : r.place.lines ≡ t.place.lines
    lines = a.counted ∙ sym b.counted

    go : (f : Option ℕ) → HeardTo s input p f r → HeardTo s input p f t → r ≡ t
    go (Some end) x y = same_read r t (heard_once s _ _ r.reply t.reply x.0 y.0) (x.1 ∙ sym y.1) lines
    go None x y = same_read r t (x.0 ∙ sym y.0) (x.1 ∙ sym y.1) lines
