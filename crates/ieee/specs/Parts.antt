-- A finite binary64 in units of the smallest value, of which 2 ^ low binary64 are one.
use Rattle.std.specs.Prelude.{ℕ, ◌-◌, ◌*◌, ◌^◌, ◌<◌, ◌≤◌, Bool, Float}
use Rattle.std.specs.Float.{binary64}
use Rattle.std.specs.Float.Ieee.{prec, emax, low}
use Rattle.std.specs.Float.Ieee.Exact.{HasValue}

-- x has the sign s and is m * 2 ^ e units in size; m has 53 binary digits, or fewer where e is 0
pub record PartsOf (x : Float) (s : Bool) (m e : ℕ) : Type 0 where
  pub value : HasValue x s (m * 2 ^ e) (2 ^ low binary64)
  pub digits : m < 2 ^ prec binary64
  pub leading : 0 < e → 2 ^ (prec binary64 - 1) ≤ m
  pub exponent : e < 2 * emax binary64
