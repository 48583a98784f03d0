-- Rounding to an integer: document 01, "Round goes half away from zero; Floor and Ceil are those of IEEE 754. A zero that one of the three
-- gives has its operand's sign."
use Rattle.std.specs.Prelude.{ℕ, ◌+◌, ◌-◌, ◌*◌, ◌/◌, true, false, Float}
use Rattle.std.specs.Float.{nan, inf, fin, binary64}
use Rattle.std.specs.Float.Ieee.{up, down, round}
use Rattle.ieee.specs.declared.Direction.{Direction}
use Rattle.ieee.specs.declared.Direction.TheVariants.{TowardZero, AwayFromZero, TiesToAway}

-- the magnitude n / d rounded to an integer: its floor, its ceiling, the floor of n / d + 1 / 2
abbrev pub rounded : Direction → ℕ → ℕ → ℕ
rounded TowardZero n d = n / d
rounded AwayFromZero n d = (n + (d - 1)) / d
rounded TiesToAway n d = (n * 2 + d) / (d * 2)

-- A finite float has its magnitude rounded, in the first direction where the sign is clear and in the second where it is set, and keeps its
-- sign, a zero too. A NaN and an infinity stay as they are.
unfoldable pub round_to_integral : Direction → Direction → Float → Float
round_to_integral positive negative nan = nan
round_to_integral positive negative (inf s) = inf s
round_to_integral positive negative (fin false m e) = round binary64 false (rounded positive (m * up e) (down e)) 1
round_to_integral positive negative (fin true m e) = round binary64 true (rounded negative (m * up e) (down e)) 1

-- Floor, IEEE 754's roundToIntegralTowardNegative
abbrev pub floor_of : Float → Float
floor_of = round_to_integral TowardZero AwayFromZero

-- Ceil, roundToIntegralTowardPositive
abbrev pub ceil_of : Float → Float
ceil_of = round_to_integral AwayFromZero TowardZero

-- Round, roundToIntegralTiesToAway
abbrev pub round_of : Float → Float
round_of = round_to_integral TiesToAway TiesToAway
