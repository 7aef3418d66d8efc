-- `showing::room` meets its contract: so many zeros are so many, by the law, which does not count them.
use Prim.Native.Nat.{ℕ}
use lib.ListN.{length-replicate}
use Rattle.showing.proofs.room.Goals as goal

pub returns : goal.returns
returns c = length-replicate {0} {A = ℕ} 1048577 0
