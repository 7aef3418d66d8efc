-- Euclid's rule ends: the second number falls, as a remainder is below what it is divided by.
use Rattle.plans.proofs.euclid.+divisor.Given as goal

abbrev pub decreases-divisor : goal.decreases-divisor
decreases-divisor l = l.b
