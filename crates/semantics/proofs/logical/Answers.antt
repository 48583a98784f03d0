-- `semantics::logical` meets its contract.
use mathlib.Core.Path.{◌≡◌, ◌∙◌, ap}
use native.Mathlib.Omega.{arith}
use Rattle.semantics.specs.Eval.{eval_of}
use Rattle.semantics.proofs.logical.Goals as goal

pub returns-in_default : goal.returns-in_default
returns-in_default c =
    let e : 17 ≡ c.args.class = omega arith in
    c.logical_nor.ensures ∙ ap (λ n. eval_of n c.args.a c.args.b c.args.c) e
