-- Document 01, "the square root of IEEE 754, rounded to nearest even, and -0.0 for -0.0. Another negative operand or a non-finite one gives
-- None". In whole numbers: a finite f64 is some number of units, each the smallest f64 above 0; 2 ^ low binary64 units are 1.0.
use Rattle.std.specs.Prelude.{◌≡◌, true, false, ℕ, zero, suc, ◌+◌, ◌*◌, ◌/◌, ◌^◌, ◌<◌, T, Float, Option, None, Some}
use Rattle.std.specs.Float.{nan, inf, fin, binary64}
use Rattle.std.specs.Float.Ieee.{low, round, fits}
use Rattle.std.specs.Float.Ieee.Positive.{num, den}
use Rattle.ieee.specs.Finite.{finite_of}
use Rattle.ieee.specs.Signs.{is_sign_minus}
use Rattle.root.specs.WholeRoot.{whole_root_of}

-- the size of a finite float in units; 0 for a NaN or an infinity
unfoldable pub units_of : Float → ℕ
units_of x = num x * 2 ^ low binary64 / den x

-- the square of the root of u units: r units are that root where r * r is this
abbrev pub radicand : ℕ → ℕ
radicand u = u * 2 ^ low binary64

-- the whole root of u units, in units, "rounded to nearest even". No root is half way between two f64s, and the whole root has 538 binary
-- digits or more: so the f64 nearest to it is the one nearest to the root itself, as `NearestRoot` says.
unfoldable pub rounded_root : ℕ → Float
rounded_root u = round binary64 false (whole_root_of (radicand u)) (2 ^ low binary64)

unfoldable pub sqrt_of : Float → Option Float
sqrt_of nan = None
sqrt_of (inf s) = None
sqrt_of (fin s zero e) = Some (fin s zero e)
sqrt_of (fin true (suc m) e) = None
sqrt_of (fin false (suc m) e) = Some (rounded_root (units_of (fin false (suc m) e)))

pub record FiniteF64 (x : Float) : Type 0 where
  pub f64 : T (fits binary64 x)
  pub finite : finite_of x ≡ true

-- x is finite and not below zero, and y is nearer to its root than any other f64 z: the middle of the sizes of y and z is below the root
-- where z is smaller than y, and above it where z is larger. Both sides are doubled and squared. So there are no ties.
pub record NearestRoot (x y : Float) : Type 0 where
  pub operand : FiniteF64 x
  pub not_negative : is_sign_minus x ≡ true → units_of x ≡ 0
  pub result : FiniteF64 y
  pub same_sign : is_sign_minus y ≡ is_sign_minus x
  pub smaller : (z : Float) → FiniteF64 z → units_of z < units_of y → (units_of y + units_of z) * (units_of y + units_of z) < 4 * radicand (units_of x)
  pub larger : (z : Float) → FiniteF64 z → units_of y < units_of z → 4 * radicand (units_of x) < (units_of y + units_of z) * (units_of y + units_of z)
