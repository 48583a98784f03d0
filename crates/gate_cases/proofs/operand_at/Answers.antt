-- `gate_cases::operand_at` meets its contract.
use Rattle.std.specs.Prelude.{Option, Some}
use Rattle.gate_cases.proofs.Sizes.{value_size_lem, variant_role}
use Rattle.gate_cases.specs.Cases.{variant_kind, operand_at}
use Rattle.encoding.specs.Values.{value_at}
use Rattle.encoding.specs.Numbers.{byte}
use borrow.Author.Tests.{lt-ltb, le-leb, lt-leb}
use mathlib.Core.Path.{◌≡◌, ap, ◌∙◌}
use native.Mathlib.Omega.{arith}
use Prim.Native.Nat.{ℕ, ◌+◌}
use Rattle.gate_cases.proofs.operand_at.Goals as goal
use Rattle.value.specs.declared.Value.{Value}

pub read_value-requires : goal.read_value-requires
read_value-requires c =
    let v = byte c.args.case.now c.args.at in
    rw c.kind_of.ensures (variant_role v (omega arith) (omega arith), omega (arith, c.requires, value_size_lem (variant_kind v)))

pub returns-in-1-to-8 : goal.returns-in-1-to-8
unfolding operand_at
returns-in-1-to-8 c =
    let a = c.args in
    let v = byte a.case.now a.at in
    ap {B = Option Value} Some (c.read_value.ensures.value ∙ ap (λ (k : ℕ). value_at k a.case.now (a.at + 1)) c.kind_of.ensures) ∙ simp (lt-ltb 0 v (omega arith), le-leb v 8 (omega arith))

pub returns-in_default : goal.returns-in_default
unfolding operand_at
returns-in_default c = let e : byte c.args.case.now c.args.at ≡ 0 = omega arith in rw e

pub returns-in_default-2 : goal.returns-in_default-2
unfolding operand_at
returns-in_default-2 c =
    let v = byte c.args.case.now c.args.at in
    simp (lt-ltb 0 v (omega arith), lt-leb v 8 (omega arith))
