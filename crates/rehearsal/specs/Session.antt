-- What each line and each tick of a rehearsal says, and the session after it.
use Rattle.std.specs.Prelude.{true, false, not, cond, ◌||◌, ℕ, ◌+◌, ◌*◌, ◌-◌, leb, ltb, take, set, replicate, Ok, Err}
use Rattle.desk.specs.declared.Desk.{Desk}
use Rattle.desk.specs.declared.Answer.{Answer}
use Rattle.desk.specs.declared.Stepped.{Stepped}
use Rattle.answers.specs.declared.Refusal.{Refusal}
use Rattle.answers.specs.Verdicts.{Verdict}
use Rattle.answers.specs.Answers.{number_of, answer_of, is_yes}
use Rattle.feeds.specs.Feeds.{numbers_a_feed}
use Rattle.desk.specs.State.{empty}
use Rattle.desk.specs.Opening.{opened_of}
use Rattle.desk.specs.Calls as desk
use Rattle.sayings.specs.declared.Said.{Said}
use Rattle.rehearsal.specs.declared.Session.{Session}
use Rattle.rehearsal.specs.declared.Reply.{Reply}

-- at most so many feed lines
abbrev pub most_feed_lines : ℕ
most_feed_lines = 17

-- a session that has heard nothing
abbrev pub begun : Session
begun = record { desk = empty; list = replicate (numbers_a_feed * most_feed_lines) 0; feeds = 0; opened = false; over = false; left = 0 }

-- the session with another desk
abbrev pub with_desk : Session → Desk → Session
with_desk s d =
    record { desk = d; list = s.list; feeds = s.feeds; opened = s.opened; over = s.over; left = s.left }

-- the session with so many ticks to run
abbrev pub with_left : Session → ℕ → Session
with_left s n =
    record { desk = s.desk; list = s.list; feeds = s.feeds; opened = s.opened; over = s.over; left = n }

abbrev pub reply : Session → Said → Reply
reply s said = record { session = s; said = said }

-- a bad line ends the rehearsal
abbrev pub bad_of : Session → ℕ → Reply
bad_of s line =
    reply
    (record { desk = s.desk; list = s.list; feeds = s.feeds; opened = s.opened; over = true; left = s.left })
    (Said.Bad line)

-- the list with the numbers of one feed more
abbrev pub fed : Session → ℕ → ℕ → ℕ → ℕ → Session
fed s period work offset lead =
    record {
      desk = s.desk;
      list = set
          (set (set (set s.list (numbers_a_feed * s.feeds) period) (numbers_a_feed * s.feeds + 1) work) (numbers_a_feed * s.feeds + 2) offset)
          (numbers_a_feed * s.feeds + 3) lead;
      feeds = s.feeds + 1;
      opened = s.opened;
      over = s.over;
      left = s.left;
    }

-- `feed`: only before `go`, and at most 17 of them
unfoldable pub feed_of : Session → ℕ → ℕ → ℕ → ℕ → ℕ → Reply
feed_of s line period work offset lead =
    cond (s.opened || leb most_feed_lines s.feeds) (bad_of s line) (reply (fed s period work offset lead) Said.Nothing)

-- the session after an opening: it is over where the opening is refused
abbrev pub gone : Session → Answer → Session
gone s a =
    record {
      desk = a.desk;
      list = s.list;
      feeds = s.feeds;
      opened = true;
      over = not (is_yes a.verdict);
      left = s.left;
    }

abbrev pub gone_of : Session → Answer → Reply
gone_of s a = reply (gone s a) (Said.Go (answer_of a.verdict))

-- `go`: only once, with the feeds heard so far
unfoldable pub go_of : Session → ℕ → ℕ → ℕ → Reply
go_of s line start charge =
    cond (s.opened || ltb most_feed_lines s.feeds) (bad_of s line)
    (gone_of s (opened_of (take (numbers_a_feed * s.feeds) s.list) start charge))

-- a call after `go`: the desk that it hands back, and its answer
abbrev pub call_of : Session → (ℕ → Said) → Answer → Reply
call_of s said a = reply (with_desk s a.desk) (said (answer_of a.verdict))

unfoldable pub end_of : Session → ℕ → ℕ → Reply
end_of s line number = cond s.opened (call_of s Said.End (desk.end_of s.desk number)) (bad_of s line)

unfoldable pub rest_of : Session → ℕ → ℕ → Reply
rest_of s line position = cond s.opened (call_of s Said.Rest (desk.rest_of s.desk position)) (bad_of s line)

-- `run` says nothing itself
unfoldable pub run_of : Session → ℕ → ℕ → Reply
run_of s line ticks = cond s.opened (reply (with_left s ticks) Said.Nothing) (bad_of s line)

-- a refused step ends its run
abbrev pub stopped_of : Session → Refusal → Reply
stopped_of s refusal = reply (with_left s 0) (Said.Stopped (number_of refusal))

-- the reply to a step: this where the step is given
abbrev pub or_stopped : Session → Verdict → Reply → Reply
or_stopped s (Ok tt) r = r
or_stopped s (Err refusal) r = stopped_of s refusal

-- a tick of a run by what the desk's step hands back
abbrev pub stepped_of : Session → Stepped → Reply
stepped_of s x =
    or_stopped s x.verdict (reply (with_left (with_desk s x.desk) (s.left - 1)) (Said.Tick s.desk.ledger.clock.0 x.who))

-- one tick of a run: its instant and whom the step names
unfoldable pub tick_of : Session → Reply
tick_of s = stepped_of s (desk.step_of s.desk)
