-- `text::Text::is_false` meets its contract.
use native.Mathlib.Omega.{arith}
use mathlib.Core.Path.{◌≡◌, ap, ◌∙◌}
use mathlib.Core.Bool.{Bool, ◌||◌, ◌&&◌}
use lib.Dec.{eqb}
use Rattle.std.proofs.lemmas.Bool.Decides.{nat_tests}
use Rattle.text.proofs.Texts.{false_test}
use Rattle.text.proofs.Text.is_false.Goals as goal
use Rattle.text.proofs.Text.is_false.Goals.{in-0, in_default}

pub returns : goal.returns
returns c =
    let low = c.args.self.low in
    let t : c.match-matches.matches ≡ ((eqb low 0 || eqb low 48) || eqb low 435728179558) =
    elim c.match-matches.branch [ in-0 w ↦ grind (arith, nat_tests) | in_default w ↦ grind (arith, nat_tests) ] in
    ap (λ (b : Bool). b && eqb c.args.self.high 0) t ∙ false_test low c.args.self.high (omega arith) (omega arith)
