use Rattle.ieee.proofs.+pow_mod.Given as goal

abbrev pub decreases-pow_mod : goal.decreases-pow_mod
decreases-pow_mod l = l.k
