-- The bitwise gates (document 01, "Corners of semantics.rs": "Bitwise gates take Int and Bool (as 0 or 1); others, Unwired and text too, give None.
-- Shifts need 0 to 63; left drops high bits, right carries the sign. BitCount is the count of ones of the 64 bits").
use Rattle.std.specs.Prelude.{ℤ, Option, None, Some}
use Rattle.whole.specs.Bits.{and_of, or_of, xor_of, not_of, nand_of, nor_of, shift_left_of, shift_right_of, bit_count_of}
use Rattle.value.specs.declared.Value.{Value}
use Rattle.conversions.specs.Conversions.{as_int_of, given_int}

abbrev pub int : ℤ → Option Value
int n = Some (Value.Int n)

-- the rule f on an operand that was read as a whole number, else None
unfoldable pub on_int : Option ℤ → (ℤ → Option Value) → Option Value
on_int None f = None
on_int (Some n) f = f n

abbrev pub bitwise_and_of : Option Value → Option Value → Option Value
bitwise_and_of a b = on_int (as_int_of a) (λ m. on_int (as_int_of b) (λ n. int (and_of m n)))

abbrev pub bitwise_or_of : Option Value → Option Value → Option Value
bitwise_or_of a b = on_int (as_int_of a) (λ m. on_int (as_int_of b) (λ n. int (or_of m n)))

abbrev pub bitwise_xor_of : Option Value → Option Value → Option Value
bitwise_xor_of a b = on_int (as_int_of a) (λ m. on_int (as_int_of b) (λ n. int (xor_of m n)))

abbrev pub bitwise_not_of : Option Value → Option Value
bitwise_not_of a = on_int (as_int_of a) (λ n. int (not_of n))

abbrev pub bitwise_nand_of : Option Value → Option Value → Option Value
bitwise_nand_of a b = on_int (as_int_of a) (λ m. on_int (as_int_of b) (λ n. int (nand_of m n)))

abbrev pub bitwise_nor_of : Option Value → Option Value → Option Value
bitwise_nor_of a b = on_int (as_int_of a) (λ m. on_int (as_int_of b) (λ n. int (nor_of m n)))

abbrev pub bitwise_shift_left_of : Option Value → Option Value → Option Value
bitwise_shift_left_of a b = on_int (as_int_of a) (λ m. on_int (as_int_of b) (λ n. given_int (shift_left_of m n)))

abbrev pub bitwise_shift_right_of : Option Value → Option Value → Option Value
bitwise_shift_right_of a b = on_int (as_int_of a) (λ m. on_int (as_int_of b) (λ n. given_int (shift_right_of m n)))

abbrev pub bitwise_bit_count_of : Option Value → Option Value
bitwise_bit_count_of a = on_int (as_int_of a) (λ n. int (bit_count_of n))
