-- Gate cases as bytes, for runs beside the Rust: a class and three operands in, what the gate gives out. An operand has 33 bytes: its
-- variant, then its value as in a record, filled with zeros.
use Rattle.std.specs.Prelude.{ℕ, zero, suc, ◌+◌, ◌*◌, cond, ◌&&◌, List, [], ◌∷◌, eqb, ltb, leb, Float, Option, None, Some}
use Rattle.std.specs.Float.{nan}
use Rattle.ir.specs.Kinds.{text_kind}
use Rattle.ir.specs.Variants.{text_variant}
use Rattle.value.specs.Variants.{variant_of}
use Rattle.encoding.specs.Numbers.{byte, splice}
use Rattle.encoding.specs.Values.{value_at, value_bytes}
use Rattle.semantics.specs.Eval.{eval_of}
use Rattle.value.specs.declared.Value.{Value}

-- variants 1 to 7 are those of the record kinds 03 to 09, 8 that of 0C
abbrev pub variant_kind : ℕ → ℕ
variant_kind variant = cond (eqb variant text_variant) text_kind (variant + 2)

abbrev pub operand_size : ℕ
operand_size = 33

-- the operand at an offset; of a text the bytes say the length
unfoldable pub operand_at : List ℕ → ℕ → Option Value
operand_at s at =
    cond (ltb 0 (byte s at) && leb (byte s at) text_variant) (Some (value_at (variant_kind (byte s at)) s (at + 1))) None

abbrev pub given_of : List ℕ → Option Value
given_of s = eval_of (byte s 0) (operand_at s 1) (operand_at s (1 + operand_size)) (operand_at s (1 + 2 * operand_size))

unfoldable pub zeros : ℕ → List ℕ
zeros zero = []
zeros (suc n) = 0 ∷ zeros n

-- the bytes of what a gate gives, all zeros for None
abbrev pub answer_bytes : Option Value → List ℕ
answer_bytes None = zeros operand_size
answer_bytes (Some v) = splice (splice (zeros operand_size) 0 (variant_of v ∷ [])) 1 (value_bytes v)

-- the float, or NaN for None
abbrev pub or_nan : Option Float → Float
or_nan None = nan
or_nan (Some y) = y
