-- What the first stages give of an input: the refusal's number of questions 1 to 8 and 12, or 0, and the worklist's pops.
use Rattle.std.specs.Prelude.{ℕ}
use Rattle.graph.specs.Decode.{Verdict, accepted, refused}
use Rattle.model.specs.Demands.{fold_of}

unfoldable pub number_in : Verdict → ℕ
number_in (accepted g) = 0
number_in (refused n p) = n

unfoldable pub pops_in : Verdict → ℕ
pops_in (accepted g) = (fold_of g).pops
pops_in (refused n p) = 0
