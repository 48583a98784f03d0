-- `semantics::whole_math` meets its contract.
use mathlib.Core.Path.{◌≡◌, refl}
use native.Mathlib.Omega.{arith}
use Rattle.arithmetic.specs.declared.MathOp.{MathOp}
use Rattle.semantics.proofs.Whole.{whole_rule}
use borrow.Author.Rules.{rules}
use Rattle.semantics.proofs.whole_math.Goals as goal

pub returns-in-18 : goal.returns-in-18
returns-in-18 c = whole_rule MathOp.Add 18 (λ x y z. refl) c.in-18.is (search (rules, c.whole_math.ensures))

pub returns-in-19 : goal.returns-in-19
returns-in-19 c = whole_rule MathOp.Subtract 19 (λ x y z. refl) c.in-19.is (search (rules, c.whole_math-in-19.ensures))

pub returns-in-20 : goal.returns-in-20
returns-in-20 c = whole_rule MathOp.Multiply 20 (λ x y z. refl) c.in-20.is (search (rules, c.whole_math-in-20.ensures))

pub returns-in-21 : goal.returns-in-21
returns-in-21 c = whole_rule MathOp.Divide 21 (λ x y z. refl) c.in-21.is (search (rules, c.whole_math-in-21.ensures))

pub returns-in_default : goal.returns-in_default
returns-in_default c =
    let e : c.args.class ≡ 22 = omega arith in
    whole_rule MathOp.Modulo 22 (λ x y z. refl) e (search (rules, c.whole_math-in_default.ensures))
