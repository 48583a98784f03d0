-- `whole::int_of_bool` meets its contract.
use mathlib.Core.Path.{◌≡◌, refl, ap, ◌∙◌}
use mathlib.Core.Bool.{Bool, true, false}
use lib.IntN.{pos}
use mir.Val.{bool_byte}
use Rattle.whole.specs.Convert.{int_of_bool}
use Rattle.whole.proofs.Laws.{read_back}
use Rattle.whole.proofs.int_of_bool.Goals as goal

by_cases : (b : Bool) → read_back (pos (bool_byte b)) ≡ int_of_bool b
unfolding int_of_bool
by_cases false = refl
by_cases true = refl

pub returns : goal.returns
returns c = ap read_back c.from.ensures ∙ by_cases c.args.b
