-- The state of a box as the calls have it: how it is read as a book of the mathematics and written anew from one.
use Rattle.std.specs.Prelude.{◌≡◌, Bool, true, [], ◌∷◌}
use Rattle.lists.specs.Lists.{all_of}
use Rattle.ticks.specs.declared.Instant.{Instant}
use Rattle.ticks.specs.Ticks.{within, instant}
use Rattle.shares.specs.declared.Share.{Share}
use Rattle.shares.specs.Shares.{no_share, share_in}
use Rattle.edf.specs.Book.{Book}
use Rattle.edf.specs.Load.{Sound}
use Rattle.ledger.specs.declared.Ledger.{Ledger}
use Rattle.ledger.specs.State as ledger
use Rattle.ledger.specs.Books as books
use Rattle.desk.specs.declared.Desk.{Desk}

-- the empty state: clock 0, charge 0, no feeds, no jobs, no share
abbrev pub empty : Desk
empty = record { ledger = ledger.empty; share = no_share; previous = instant 0 }

-- the desk with another state of the box; what the calls keep beside it stays
abbrev pub with : Desk → Ledger → Desk
with d l = record { ledger = l; share = d.share; previous = d.previous }

-- the desk with a share for exports with no date
abbrev pub sharing : Share → Desk → Desk
sharing s d = record { ledger = d.ledger; share = s; previous = d.previous }

-- the desk once an export with no date was taken that is due then
abbrev pub since : Instant → Desk → Desk
since deadline d = record { ledger = d.ledger; share = d.share; previous = deadline }

-- in order: the share is one or there is none, the clock can read the previous deadline, and the state of the box is in order
unfoldable pub in_order : Desk → Bool
in_order d = all_of (share_in d.share ∷ within d.previous ∷ ledger.in_order d.ledger ∷ [])

-- the desk read as a book
abbrev pub book : Desk → Book
book d = books.book_of d.ledger

-- the desk written anew from a book: the clock, what is owed and the jobs are the book's, everything else stays
abbrev pub rewritten : Desk → Book → Desk
rewritten d b = with d (books.rewritten d.ledger b)

-- a state in order whose book is sound: what every call from an opening onward hands back
pub record Good (d : Desk) : Type 0 where
  pub sized : ledger.Sized d.ledger
  pub order : in_order d ≡ true
  pub sound : Sound (book d)
