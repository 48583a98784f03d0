use Rattle.ieee.proofs.+mul_mod.Given as goal

abbrev pub decreases-mul_mod : goal.decreases-mul_mod
decreases-mul_mod l = l.y
