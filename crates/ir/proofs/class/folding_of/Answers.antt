-- `ir::class::folding_of` meets its contract.
use Prim.Native.Nat.{ℕ}
use mathlib.Core.Path.{◌∙◌, sym}
use native.Mathlib.Omega.{arith}
use lib.ListN.{get_or-eq_default}
use borrow.Author.Tests.{ltb-true, ltb-false}
use Rattle.ir.specs.Classes.{class_count, classes}
use Rattle.ir.specs.declared.Folding.{Folding}
use Rattle.ir.proofs.Tables.{unary, binary}
use Rattle.ir.proofs.class.folding_of.Goals as goal

pub returns-then-unary : goal.returns-then-unary
returns-then-unary c =
    let k : ℕ = c.args.class in
    unary k (omega arith) (ltb-true k class_count (sym c.is_class.ensures ∙ c.if-is_class.true)) c.if-class-eq-MATH_CLAMP.false c.if-unary.true

pub returns-then-is_class : goal.returns-then-is_class
returns-then-is_class c =
    let k : ℕ = c.args.class in
    binary k (omega arith) (ltb-true k class_count (sym c.is_class.ensures ∙ c.if-is_class.true)) c.if-class-eq-MATH_CLAMP.false c.if-unary.false

pub returns : goal.returns
returns c =
    let k : ℕ = c.args.class in
    sym (get_or-eq_default classes Folding.Never {n = k} (ltb-false k class_count (sym c.is_class.ensures ∙ c.if-is_class.false)))
