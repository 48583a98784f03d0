-- Add to Modulo, Abs and Negate of whole operands (document 01, "Corners of semantics.rs").
use Rattle.std.specs.Prelude.{◌-◌, ◌^◌, Bool, ◌&&◌, cond, ℤ, pos, neg_ℤ, nat_abs, ◌+ℤ◌, ◌-ℤ◌, ◌*ℤ◌, Option, None, Some}
use Rattle.std.specs.Int.Signed.{le_z, quot_z, rem_z}
use Rattle.whole.specs.Compare.{eq_z}

-- The Ints are the whole numbers from -2^63 to 2^63 - 1.
abbrev pub smallest : ℤ
smallest = neg_ℤ (pos (2 ^ 63))

abbrev pub largest : ℤ
largest = pos (2 ^ 63 - 1)

unfoldable pub in_range : ℤ → Bool
in_range z = le_z smallest z && le_z z largest

-- "overflow None"
unfoldable pub checked : ℤ → Option ℤ
checked z = cond (in_range z) (Some z) None

abbrev pub checked_add_of : ℤ → ℤ → Option ℤ
checked_add_of a b = checked (a +ℤ b)

abbrev pub checked_sub_of : ℤ → ℤ → Option ℤ
checked_sub_of a b = checked (a -ℤ b)

abbrev pub checked_mul_of : ℤ → ℤ → Option ℤ
checked_mul_of a b = checked (a *ℤ b)

-- "divisor 0 gives Int 0; the smallest Int by -1 None"; else z
unfoldable pub division_overflows : ℤ → ℤ → Bool
division_overflows a b = eq_z a smallest && eq_z b (neg_ℤ (pos 1))

unfoldable pub divided : ℤ → ℤ → ℤ → Option ℤ
divided a b z =
    cond (eq_z b (pos 0)) (Some (pos 0))
    (cond (division_overflows a b) None (Some z))

-- The quotient, rounded toward zero.
abbrev pub div_of : ℤ → ℤ → Option ℤ
div_of a b = divided a b (quot_z a b)

-- The remainder, with the dividend's sign.
abbrev pub rem_of : ℤ → ℤ → Option ℤ
rem_of a b = divided a b (rem_z a b)

-- "Abs of the smallest Int is None."
abbrev pub checked_abs_of : ℤ → Option ℤ
checked_abs_of n = checked (pos (nat_abs n))

-- "Negate keeps Int, None for the smallest."
abbrev pub checked_neg_of : ℤ → Option ℤ
checked_neg_of n = checked (neg_ℤ n)
