-- Where the label of the one that runs stands in the lent lists.
use Rattle.std.specs.Prelude.{◌≡◌, cond, ◌&&◌, List, ℕ, zero, suc, ◌+◌, ◌*◌, ◌-◌, ◌/◌, leb, eqb, length, get_or, take, drop, Option, Some, None}
use Rattle.std.specs.Borrow.{Bor}
use Rattle.listing.specs.declared.Lent.{Lent}
use Rattle.listing.specs.declared.Lent.TheVariants.{Jobs, Feeds}
use Rattle.listing.specs.declared.Part.{Part}
use Rattle.answers.specs.declared.Who.{Who}
use Rattle.answers.specs.declared.Who.TheVariants.{Job, Feed, Idle}

-- a part of one of the two lent lists: where it begins, and how many bytes it has
abbrev pub place : Lent → ℕ → ℕ → Part
place l f s = record { list = l; from = f; size = s }

-- the empty beginning of the job labels
abbrev pub nowhere : Part
nowhere = place Jobs 0 0

-- a record of the job labels: a number, then a label; the feed labels are labels alone
abbrev pub number_bytes : ℕ
number_bytes = 4

abbrev pub label_bytes : ℕ
label_bytes = 8

abbrev pub record_bytes : ℕ
record_bytes = number_bytes + label_bytes

-- the number in the four bytes from here on, the highest first
abbrev pub big_endian : List ℕ → ℕ → ℕ
big_endian s at = ((get_or s at 0 * 256 + get_or s (at + 1) 0) * 256 + get_or s (at + 2) 0) * 256 + get_or s (at + 3) 0

-- the number of the record k of the job labels, counted from 0
abbrev pub record_number : List ℕ → ℕ → ℕ
record_number s k = big_endian s (record_bytes * k)

-- the first of m records from record k on that has the number
unfoldable pub record_from : ℕ → List ℕ → ℕ → ℕ → Option ℕ
record_from zero s n k = None
record_from (suc m) s n k = cond (eqb (record_number s k) n) (Some k) (record_from m s n (suc k))

-- as many records as are wholly there
abbrev pub whole : List ℕ → ℕ
whole s = length s / record_bytes

-- the first whole record that has the number
abbrev pub record_of : List ℕ → ℕ → Option ℕ
record_of s n = record_from (whole s) s n 0

-- the label of a record stands behind its number
abbrev pub job_place : Option ℕ → Part
job_place (Some k) = place Jobs (record_bytes * k + number_bytes) label_bytes
job_place None = nowhere

-- the position's bytes, positions from 1, if they are wholly there
abbrev pub feed_place : ℕ → ℕ → Part
feed_place p long = cond (leb 1 p && leb (label_bytes * p) long) (place Feeds (label_bytes * (p - 1)) label_bytes) nowhere

-- the place of the runner's label; for idle, or where no label is there, the empty beginning of the job labels
abbrev pub label_of : Who → List ℕ → List ℕ → Part
label_of (Job n) s f = job_place (record_of s n)
label_of (Feed p) s f = feed_place p (length f)
label_of Idle s f = nowhere

-- of the two lent lists the one that a place names
abbrev pub lent : Lent → Bor (List ℕ) → Bor (List ℕ) → Bor (List ℕ)
lent Jobs s f = s
lent Feeds s f = f

-- a part that was handed back is this place: it holds the bytes that stand there, and lies there
pub record PartAt (p : Part) (s f r : Bor (List ℕ)) : Type 0 where
  pub text : r.now ≡ take p.size (drop p.from (lent p.list s f).now)
  pub block : r.ref_ptr.0 ≡ (lent p.list s f).ref_ptr.0
  pub offset : r.ref_ptr.1 ≡ p.from + (lent p.list s f).ref_ptr.1
