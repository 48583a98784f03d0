-- Finite floats, and document 01's S.
use Rattle.std.specs.Prelude.{Bool, true, false, cond, from_bits, Float}
use Rattle.std.specs.Float.{nan, inf, fin, binary64}

-- neither a NaN nor an infinity
unfoldable pub finite_of : Float → Bool
finite_of nan = false
finite_of (inf s) = false
finite_of (fin s m e) = true

-- S, "a float with a non-finite one replaced by 0"
unfoldable pub sanitize_of : Float → Float
sanitize_of x = cond (finite_of x) x (from_bits binary64 0)
