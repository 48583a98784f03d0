-- The sign of a float.
use Rattle.std.specs.Prelude.{Bool, false, Float}
use Rattle.std.specs.Float.{nan, inf, fin}

-- isSignMinus of IEEE 754-2019, 5.7.2: whether x has the negative sign, zeros and infinities too. lib.Ieee has one NaN, which has no sign.
abbrev pub is_sign_minus : Float → Bool
is_sign_minus nan = false
is_sign_minus (inf s) = s
is_sign_minus (fin s m e) = s
