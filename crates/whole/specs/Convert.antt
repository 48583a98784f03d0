-- A Bool as an Int and an Int as a float (document 01, "Corners of semantics.rs").
use Rattle.std.specs.Prelude.{◌+◌, ◌^◌, ◌≡◌, Bool, true, false, not, cond, T, ℤ, pos, nat_abs, Float, Option, None, Some}
use Rattle.std.specs.Int.Signed.{non_neg}
use Rattle.std.specs.Float.{fin, binary64}
use Rattle.std.specs.Float.Ieee.{fits, eq, of_int, of_bits}
use Rattle.whole.specs.Checked.{smallest, largest}

-- "Bool (as 0 or 1)"
unfoldable pub int_of_bool : Bool → ℤ
int_of_bool false = pos 0
int_of_bool true = pos 1

-- n as a number of lib.Ieee, with all its digits
abbrev pub unrounded : ℤ → Float
unrounded n = fin (not (non_neg n)) (nat_abs n) (pos 0)

-- "some f64 equals it exactly": x is an f64 and equals n
pub record EqualsInt (x : Float) (n : ℤ) : Type 0 where
  pub f64 : T (fits binary64 x)
  pub equal : T (eq x (unrounded n))

-- "An Int becomes a float whenever some f64 equals it exactly, else None": the f64 nearest to n, where it equals n. For 0 that is 0.0
unfoldable pub int_as_f64 : ℤ → Option Float
int_as_f64 n = cond (eq (of_int binary64 n) (unrounded n)) (Some (of_int binary64 n)) None

-- "2^60 and the smallest Int do, 2^53+1 and the largest Int don't", with the bits of the floats
pub record Examples : Type 0 where
  pub power : int_as_f64 (pos (2 ^ 60)) ≡ Some (of_bits binary64 0x43b0_0000_0000_0000)
  pub least : int_as_f64 smallest ≡ Some (of_bits binary64 0xc3e0_0000_0000_0000)
  pub odd : int_as_f64 (pos (2 ^ 53 + 1)) ≡ None
  pub greatest : int_as_f64 largest ≡ None
