-- Instants and lengths, and the limits of each.
use Rattle.std.specs.Prelude.{Bool, cond, ◌&&◌, ℕ, ◌+◌, ◌-◌, ◌%◌, leb, ltb}
use Rattle.ticks.specs.declared.Instant.{Instant}
use Rattle.ticks.specs.declared.Length.{Length}

-- the last instant that the clock can read, 2 to the 40th
abbrev pub last_instant : ℕ
last_instant = 1099511627776

-- the most ticks that a job may want, and the longest lead
abbrev pub most_job : ℕ
most_job = 65536

-- the longest period, and the most ticks that a feed's piece may want
abbrev pub most_feed : ℕ
most_feed = 40320

-- the longest round
abbrev pub most_round : ℕ
most_round = 40320

-- the highest charge for a change of work
abbrev pub most_charge : ℕ
most_charge = 16

abbrev pub instant : ℕ → Instant
instant n = record { 0 = n }

abbrev pub ticks : ℕ → Length
ticks n = record { 0 = n }

-- the clock can read it
abbrev pub within : Instant → Bool
within t = leb t.0 last_instant

-- from 1 tick up to the most
abbrev pub from_one : ℕ → Length → Bool
from_one most l = leb 1 l.0 && leb l.0 most

-- a work or a lead that a job may have
abbrev pub job_length : Length → Bool
job_length = from_one most_job

-- what a live job may still owe under a charge: up to all its work and the charge
abbrev pub owed_length : Length → Length → Bool
owed_length charge = from_one (most_job + charge.0)

-- a period or a work that a feed may have
abbrev pub feed_length : Length → Bool
feed_length = from_one most_feed

-- an instant and a length make an instant
abbrev pub plus : Instant → Length → Instant
plus t l = instant (t.0 + l.0)

-- a tick later
abbrev pub next : Instant → Instant
next t = instant (t.0 + 1)

-- a tick earlier
abbrev pub previous : Instant → Instant
previous t = instant (t.0 - 1)

-- so many ticks earlier, and the first instant where there are not so many
abbrev pub back : Instant → Length → Instant
back t l = instant (t.0 - l.0)

-- an instant less an earlier one is a length
abbrev pub ticks_since : Instant → Instant → Length
ticks_since t earlier = ticks (t.0 - earlier.0)

-- what is left of the time since the first instant when it is divided by a period
abbrev pub remainder : Instant → Length → Length
remainder t period = ticks (t.0 % period.0)

abbrev pub later_of : Instant → Instant → Instant
later_of t u = cond (ltb t.0 u.0) u t

abbrev pub earlier_of : Instant → Instant → Instant
earlier_of t u = cond (ltb u.0 t.0) u t

-- a length and so many ticks more
abbrev pub sum : Length → Length → Length
sum l more = ticks (l.0 + more.0)

-- a length without so many ticks of it
abbrev pub less : Length → Length → Length
less l by = ticks (l.0 - by.0)
