-- Every line and every tick hands back a good desk and leads further on; a tick is the desk's step.
use mathlib.Core.Path.{◌≡◌, refl, sym, ap, subst, ◌∙◌}
use mathlib.Core.Bool.{Bool, true, false, cond, ◌||◌}
use mathlib.Core.List.{List}
use Prim.Native.Nat.{ℕ, ◌*◌, ◌≤◌, ◌<◌}
use native.Mathlib.Omega.{arith}
use lib.Dec.{leb, ltb}
use lib.ListN.{length, take}
use Rattle.words.specs.declared.Line.{Line}
use Rattle.text.specs.Fields.{line_end, newline}
use Rattle.text.proofs.Fields.{found_at}
use Rattle.answers.specs.Verdicts.{Verdict}
use Rattle.std.specs.Prelude.{Option, Some, None, Result, Ok, Err}
use Rattle.answers.specs.declared.Refusal.{Refusal}
use Rattle.feeds.specs.Feeds.{numbers_a_feed}
use Rattle.serving.specs.declared.Stepped.{Stepped}
use Rattle.serving.specs.Tick as serving
use Rattle.desk.specs.State.{Good}
use Rattle.desk.specs.Calls as desk
use Rattle.desk.specs.Calls.{stepped_desk}
use Rattle.desk.proofs.Calls.{step_by_serving}
use Rattle.desk.proofs.Good.{opening_is_good, step_is_good, end_is_good, rest_is_good, ask_is_good}
use Rattle.rehearsal.specs.declared.Session.{Session}
use Rattle.rehearsal.specs.declared.Reply.{Reply}
use Rattle.rehearsal.specs.declared.Place.{Place}
use Rattle.rehearsal.specs.declared.Read.{Read}
use Rattle.rehearsal.specs.Session.{most_feed_lines, feed_of, go_of, end_of, rest_of, run_of, stopped_of, or_stopped, stepped_of, tick_of}
use Rattle.rehearsal.specs.Hearing.{Heard, HeardTo, Answers}

-- A TICK IS THE DESK'S STEP
module _ (s : Session) (g : Good s.desk) where
  -- what comes of the step of the state is told as the desk's
  stepped : (x : Result Stepped Refusal) → x ≡ serving.stepped_of s.desk.ledger → stepped_of s (stepped_desk s.desk x) ≡ tick_of s
  unfolding tick_of
  stepped x e = ap (λ y. stepped_of s (stepped_desk s.desk y)) e ∙ ap (stepped_of s) (step_by_serving s.desk g.order)

  -- one that is given
  pub given : (x : Stepped) → Ok x ≡ serving.stepped_of s.desk.ledger → stepped_of s (stepped_desk s.desk (Ok x)) ≡ tick_of s
  given x e = stepped (Ok x) e

  -- one that is refused
  pub refused : (r : Refusal) → Err r ≡ serving.stepped_of s.desk.ledger → stopped_of s r ≡ tick_of s
  refused r e = stepped (Err r) e

-- what holds of a reply to a given step and of each to a refused step holds of the tick's
by_step : (P : Reply → Type 0) (s : Session) (v : Verdict) (r : Reply) → P r → ((x : Refusal) → P (stopped_of s x)) → P (or_stopped s v r)
by_step P s (Ok tt) r p q = p
by_step P s (Err x) r p q = q x

-- and so by a test
by_test : (P : Reply → Type 0) (t : Bool) (a b : Reply) → P a → P b → P (cond t a b)
by_test P true a b p q = p
by_test P false a b p q = q

-- A TICK LEAVES FEWER TICKS OF ITS RUN
pub tick_less : (s : Session) → 0 < s.left → (tick_of s).session.left < s.left
unfolding tick_of
tick_less s h = by_step (λ r. r.session.left < s.left) s (desk.step_of s.desk).verdict _ (omega arith) (λ x. omega arith)

-- EVERY DESK OF A SESSION IS GOOD
abbrev pub GoodReply : Reply → Type 0
GoodReply r = Good r.session.desk

pub tick_good : (s : Session) → Good s.desk → GoodReply (tick_of s)
unfolding tick_of
tick_good s g = by_step GoodReply s (desk.step_of s.desk).verdict _ (step_is_good s.desk g) (λ x. g)

pub hear_good : (s : Session) (line : ℕ) (means : Line) (r : Reply) → Good s.desk → Heard s line means r → GoodReply r
unfolding Heard feed_of go_of end_of rest_of run_of
hear_good s line (Line.Feed period work offset lead) r g h = subst GoodReply (sym h) (by_test GoodReply (s.opened || leb most_feed_lines s.feeds) _ _ g g)
hear_good s line (Line.Go start charge) r g h =
    subst GoodReply (sym h) (by_test GoodReply (s.opened || ltb most_feed_lines s.feeds) _ _ g (opening_is_good (take (numbers_a_feed * s.feeds) s.list) start charge))
hear_good s line (Line.Ask number work lead) r g h = go s.opened refl
  where
    go : (b : Bool) → s.opened ≡ b → GoodReply r
    go true e =
        let told = h.after e in
        subst GoodReply (sym told.told) (ask_is_good s.desk g number work lead told.answer told.asked)
    go false e = subst GoodReply (sym (h.early e)) g
hear_good s line (Line.End number) r g h = subst GoodReply (sym h) (by_test GoodReply s.opened _ _ (end_is_good s.desk g number) g)
hear_good s line (Line.Rest position) r g h = subst GoodReply (sym h) (by_test GoodReply s.opened _ _ (rest_is_good s.desk g position) g)
hear_good s line (Line.Run ticks) r g h = subst GoodReply (sym h) (by_test GoodReply s.opened _ _ g g)
hear_good s line Line.Bad r g h = subst GoodReply (sym h) g

pub read_good : (s : Session) (input : List ℕ) (p : Place) (r : Read) → Good s.desk → Answers s input p r → GoodReply r.reply
unfolding HeardTo
read_good s input p r g a = go (line_end input p.from) a.heard
  where
    go : (f : Option ℕ) → HeardTo s input p f r → GoodReply r.reply
    go (Some end) x = hear_good s _ _ r.reply g x.0
    go None x = subst GoodReply (sym x.0) g

-- EACH LINE LEADS FURTHER ON, within the input, and no more lines than bytes were read
pub record Onward (input : List ℕ) (p q : Place) : Type 0 where
  pub further : p.from < q.from
  pub inside : q.from ≤ length input
  pub lines : q.lines ≤ q.from

pub read_on : (s : Session) (input : List ℕ) (p : Place) (r : Read) → Answers s input p r → p.lines ≤ p.from → p.from < length input
    → Onward input p r.place
unfolding HeardTo
read_on s input p r a h i = go (line_end input p.from) refl a.heard
  where
    go : (f : Option ℕ) → line_end input p.from ≡ f → HeardTo s input p f r → Onward input p r.place
    go (Some end) e x =
        let there = found_at newline _ _ _ e in
        record {
          further = omega (arith, there.after, x.1);
          inside = omega (arith, there.inside, x.1);
          lines = omega (arith, there.after, x.1, a.counted);
        }
    go None e x =
        record { further = omega (arith, x.1); inside = omega (arith, x.1); lines = omega (arith, x.1, a.counted) }
