-- The number without its last digit is smaller.
use Rattle.text.proofs.put.+number_in.Given as goal

abbrev pub decreases-number_in : goal.decreases-number_in
decreases-number_in l = l.n
