-- Bit patterns: document 01, "floats as their IEEE 754 bits". The float of a pattern is `lib.Ieee.of_bits`, which has one NaN.
use Rattle.std.specs.Prelude.{ℕ, cond, is_nan, to_bits}
use lib.Ieee.{Float, binary64}

-- the pattern of a float; "all NaNs count alike", and the one that is written is 7FF8000000000000
unfoldable pub bits_of : Float → ℕ
bits_of x = cond (is_nan x) 0x7ff8_0000_0000_0000 (to_bits binary64 x)
