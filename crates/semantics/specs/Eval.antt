-- What each gate gives, by class (document 01, "Classes" and "Corners of semantics.rs").
use Rattle.std.specs.Prelude.{ℕ, List, [], ◌∷◌, get_or, Option, None}
use Rattle.comparison.specs.Comparison.{equal_of, not_equal_of, less_of, less_or_equal_of, greater_of, greater_or_equal_of, logical_and_of, logical_or_of, logical_xor_of, logical_not_of, logical_nand_of, logical_nor_of}
use Rattle.arithmetic.specs.Arithmetic.{math_of}
use Rattle.arithmetic.specs.declared.MathOp.{MathOp}
use Rattle.extended.specs.Extended.{abs_of, sign_of, negate_of, min_operands, max_operands, clamp_of, modulo_floored_of, round_gate, floor_gate, ceil_gate, sqrt_gate}
use Rattle.bitwise.specs.Bitwise.{bitwise_and_of, bitwise_or_of, bitwise_xor_of, bitwise_not_of, bitwise_nand_of, bitwise_nor_of, bitwise_shift_left_of, bitwise_shift_right_of, bitwise_bit_count_of}
use Rattle.value.specs.declared.Value.{Value}

-- a rule on the operands at the input ports, in order; a gate of fewer inputs leaves the rest aside
abbrev pub Rule : Type 0
Rule = Option Value → Option Value → Option Value → Option Value

abbrev pub no_gate : Rule
no_gate a b c = None

abbrev unary : (Option Value → Option Value) → Rule
unary f a b c = f a

abbrev binary : (Option Value → Option Value → Option Value) → Rule
binary f a b c = f a b

-- by class, from 0. The first six are no gates
abbrev pub rules : List Rule
rules =
    no_gate ∷ no_gate ∷ no_gate ∷ no_gate ∷ no_gate ∷ no_gate
    ∷ binary equal_of ∷ binary not_equal_of ∷ binary less_of ∷ binary less_or_equal_of ∷ binary greater_of ∷ binary greater_or_equal_of
    ∷ binary logical_and_of ∷ binary logical_or_of ∷ binary logical_xor_of ∷ unary logical_not_of ∷ binary logical_nand_of ∷ binary logical_nor_of
    ∷ binary (math_of MathOp.Add) ∷ binary (math_of MathOp.Subtract) ∷ binary (math_of MathOp.Multiply) ∷ binary (math_of MathOp.Divide) ∷ binary (math_of MathOp.Modulo)
    ∷ unary abs_of ∷ unary sign_of ∷ unary negate_of ∷ binary min_operands ∷ binary max_operands ∷ clamp_of ∷ binary modulo_floored_of
    ∷ unary round_gate ∷ unary floor_gate ∷ unary ceil_gate
    ∷ binary bitwise_and_of ∷ binary bitwise_or_of ∷ binary bitwise_xor_of ∷ unary bitwise_not_of ∷ binary bitwise_nand_of ∷ binary bitwise_nor_of
    ∷ binary bitwise_shift_left_of ∷ binary bitwise_shift_right_of ∷ unary bitwise_bit_count_of
    ∷ unary sqrt_gate
    ∷ []

abbrev pub eval_of : ℕ → Option Value → Option Value → Option Value → Option Value
eval_of class a b c = get_or rules class no_gate a b c
