-- The 64 bits of an Int, and the bitwise gates on Ints (document 01, "Corners of semantics.rs" and "Records").
use Rattle.std.specs.Prelude.{ℕ, zero, suc, ◌+◌, ◌-◌, ◌*◌, ◌/◌, ◌%◌, ◌^◌, Bool, ◌&&◌, cond, ℤ, pos, nat_abs, Option, None, Some}
use Rattle.std.specs.Int.Bits.{bit_and, bit_or, bit_xor}
use Rattle.std.specs.Int.Signed.{le_z, shr_z}
use Rattle.std.specs.Int.{w64}
use Rattle.std.proofs.Common.{of_z, to_z}

-- "Ints in two's complement": the bits of n are the number n, those of -n the number 2^64 - n.
abbrev pub to_bits : ℤ → ℕ
to_bits z = of_z w64 z

-- The Int that has these bits.
abbrev pub from_bits : ℕ → ℤ
from_bits n = to_z w64 n

-- Each of 64 bits inverted.
abbrev pub complement : ℕ → ℕ
complement n = 2 ^ 64 - 1 - n

abbrev pub and_of : ℤ → ℤ → ℤ
and_of a b = from_bits (bit_and (to_bits a) (to_bits b))

abbrev pub or_of : ℤ → ℤ → ℤ
or_of a b = from_bits (bit_or (to_bits a) (to_bits b))

abbrev pub xor_of : ℤ → ℤ → ℤ
xor_of a b = from_bits (bit_xor (to_bits a) (to_bits b))

abbrev pub not_of : ℤ → ℤ
not_of a = from_bits (complement (to_bits a))

abbrev pub nand_of : ℤ → ℤ → ℤ
nand_of a b = from_bits (complement (bit_and (to_bits a) (to_bits b)))

abbrev pub nor_of : ℤ → ℤ → ℤ
nor_of a b = from_bits (complement (bit_or (to_bits a) (to_bits b)))

-- "Shifts need 0 to 63"; z where they have it.
unfoldable pub shift_in_range : ℤ → Bool
shift_in_range k = le_z (pos 0) k && le_z k (pos 63)

unfoldable pub shifted : ℤ → ℤ → Option ℤ
shifted k z = cond (shift_in_range k) (Some z) None

-- "left drops high bits"
abbrev pub shift_left_of : ℤ → ℤ → Option ℤ
shift_left_of a k = shifted k (from_bits (to_bits a * 2 ^ nat_abs k % 2 ^ 64))

-- "right carries the sign": the quotient by 2^k, rounded down.
abbrev pub shift_right_of : ℤ → ℤ → Option ℤ
shift_right_of a k = shifted k (shr_z a (2 ^ nat_abs k))

-- Bit i of a number, and the sum of its bits below k.
abbrev pub bit : ℕ → ℕ → ℕ
bit n i = n / 2 ^ i % 2

unfoldable pub bit_sum : ℕ → ℕ → ℕ
bit_sum n zero = 0
bit_sum n (suc k) = bit_sum n k + bit n k

-- "BitCount is the count of ones of the 64 bits."
abbrev pub bit_count_of : ℤ → ℤ
bit_count_of n = pos (bit_sum (to_bits n) 64)
