-- `extended::sqrt` meets its contract.
use native.Mathlib.Omega.{arith}
use lib.Ieee.{Float}
use Rattle.root.specs.Sqrt.{sqrt_of}
use Rattle.std.proofs.lemmas.Grind.{common_steps}
use Rattle.extended.specs.Extended.{float, on_float}
use Rattle.extended.proofs.Laws.{on_float_lem}
use Rattle.extended.proofs.sqrt.Goals as goal

pub returns : goal.returns
unfolding on_float
returns c = on_float_lem _ (λ (x : Float). on_float (sqrt_of x) float) (λ x h. grind (arith, common_steps)) c.on_float.ensures
