-- The openings: lines 12, 8, 3, 18, 2, 9 and 10 in this order, and 19 after 18 where a share is carried; a refused opening hands
-- back the empty state.
use Rattle.std.specs.Prelude.{◌≡◌, not, List, [], ◌∷◌, ◌++◌, ℕ, leb, length}
use Rattle.lists.specs.Lists.{Each}
use Rattle.ticks.specs.declared.Instant.{Instant}
use Rattle.ticks.specs.declared.Length.{Length}
use Rattle.ticks.specs.Ticks.{last_instant, most_charge, instant, ticks}
use Rattle.feeds.specs.declared.Feed.{Feed}
use Rattle.feeds.specs.Feeds.{feeds_of}
use Rattle.feeds.specs.Lines.{shape_lines, feed_lines, feeds_in}
use Rattle.edf.specs.Load.{opened}
use Rattle.shares.specs.declared.Share.{Share}
use Rattle.shares.specs.Shares.{share, is_share}
use Rattle.answers.specs.declared.Refusal.TheVariants.{PastLast, ChargeTooHigh, NoShare}
use Rattle.answers.specs.Answers.{Line, line}
use Rattle.ledger.specs.State as ledger
use Rattle.ledger.specs.Books.{book_feeds}
use Rattle.desk.specs.declared.Desk.{Desk}
use Rattle.desk.specs.declared.Answer.{Answer}
use Rattle.desk.specs.Answers.{answered}
use Rattle.desk.specs.State.{empty, with, sharing, rewritten}

-- the instant is past the clock's last (3)
abbrev pub start_line : ℕ → Line
start_line start = line (not (leb start last_instant)) PastLast

-- the charge is above its limit (18)
abbrev pub charge_line : ℕ → Line
charge_line charge = line (not (leb charge most_charge)) ChargeTooHigh

-- these numbers are no share (19)
abbrev pub share_line : Share → Line
share_line s = line (not (is_share s)) NoShare

-- lines 12, 8, 3 and 18
abbrev pub front_lines : List ℕ → ℕ → ℕ → List Line
front_lines xs start charge = shape_lines (length xs) ++ (start_line start ∷ charge_line charge ∷ [])

-- lines 12, 8, 3, 18, 2, 9 and 10
abbrev pub open_lines : List ℕ → ℕ → ℕ → List Line
open_lines xs start charge = front_lines xs start charge ++ feed_lines (ticks charge) (feeds_in xs)

-- lines 12, 8, 3, 18, 19, 2, 9 and 10
abbrev pub shared_lines : List ℕ → ℕ → ℕ → ℕ → ℕ → List Line
shared_lines xs start charge p q = front_lines xs start charge ++ (share_line (share p q) ∷ feed_lines (ticks charge) (feeds_in xs))

-- a desk with these feeds under a charge, no piece come yet
abbrev pub laid : List Feed → Length → Instant → Desk
laid fs charge clock = with empty (ledger.laid clock charge (feeds_of fs))

-- the desk with these feeds as the mathematics opens it: the pieces released at the opening instant are ready
abbrev pub opened_desk : List Feed → Length → Instant → Desk
opened_desk fs charge clock = rewritten (laid fs charge clock) (opened clock.0 (book_feeds charge 1 fs))

-- no piece of these feeds has come
abbrev pub Fresh : List Feed → Type 0
Fresh fs = Each (λ f. f.owes.0 ≡ 0) fs

-- the answer, and the state
unfoldable pub opened_of : List ℕ → ℕ → ℕ → Answer
opened_of xs start charge =
    answered (open_lines xs start charge) (opened_desk (feeds_in xs) (ticks charge) (instant start)) empty

-- and of the opening that carries a share
unfoldable pub opened_shared_of : List ℕ → ℕ → ℕ → ℕ → ℕ → Answer
opened_shared_of xs start charge p q =
    answered (shared_lines xs start charge p q)
    (sharing (share p q) (opened_desk (feeds_in xs) (ticks charge) (instant start)))
    empty
