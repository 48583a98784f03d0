-- Laws on Equal and NotEqual, of operands as they count beside each other, and on the order gates. Assumes nothing.
use Rattle.std.specs.Prelude.{Option, None, Some}
use mathlib.Core.Path.{◌≡◌, refl, ap}
use mathlib.Core.Bool.{Bool, true, false, cond, beq}
use lib.IntN.{ℤ}
use lib.Signed.{lt_z, le_z}
use lib.Ieee.{Float, lt, le}
use Rattle.value.specs.declared.Value.{Value}
use Rattle.conversions.specs.Conversions.{scalar_of, only_int_of}
use Rattle.comparison.specs.Comparison.{eq_value, zero_like, or_zero_like, given, contrary, equal_of, not_equal_of, floats_by, ints_by, order_by, swapped_if, less_of, less_or_equal_of, greater_of, greater_or_equal_of}

-- ---- Equal and NotEqual, as the code has them: of the operands as they count beside each other

abbrev same_as : Bool → Option Bool → Option Value
same_as equal None = None
same_as equal (Some same) = Some (Value.Bool (beq same equal))

abbrev compared : Bool → Option Value → Option Value → Option Value
compared equal (Some x) (Some y) = same_as equal (eq_value x y)
compared equal (Some x) None = None
compared equal None b = None

same_as_lem : (equal : Bool) (r : Option Bool) → same_as equal r ≡ cond equal (given r) (given (contrary r))
same_as_lem true None = refl
same_as_lem true (Some true) = refl
same_as_lem true (Some false) = refl
same_as_lem false None = refl
same_as_lem false (Some true) = refl
same_as_lem false (Some false) = refl

pub equality_as : (equal : Bool) (a b : Option Value) → compared equal (or_zero_like a b) (or_zero_like b a) ≡ cond equal (equal_of a b) (not_equal_of a b)
unfolding equal_of not_equal_of
equality_as equal None None = same_as_lem equal None
equality_as equal None (Some b) = same_as_lem equal (eq_value (zero_like b) b)
equality_as equal (Some a) None = same_as_lem equal (eq_value a (zero_like a))
equality_as equal (Some a) (Some b) = same_as_lem equal (eq_value a b)

-- ---- The order gates, as the code has them: a test of the numbers, or of the numbers swapped

floats_swapped : (f : Float → Float → Bool) (p q : Option Float) → floats_by (swapped_if true f) p q ≡ floats_by f q p
floats_swapped f (Some x) (Some y) = refl
floats_swapped f (Some x) None = refl
floats_swapped f None (Some y) = refl
floats_swapped f None None = refl

ints_swapped : (z : ℤ → ℤ → Bool) (p q : Option ℤ) {r s : Option Bool} → r ≡ s → ints_by (swapped_if true z) p q r ≡ ints_by z q p s
ints_swapped z (Some m) (Some n) e = refl
ints_swapped z (Some m) None e = e
ints_swapped z None (Some n) e = e
ints_swapped z None None e = e

order_swapped : (z : ℤ → ℤ → Bool) (f : Float → Float → Bool) (a b : Option Value) → given (order_by (swapped_if true z) (swapped_if true f) a b) ≡ given (order_by z f b a)
order_swapped z f a b = ap given (ints_swapped z (only_int_of a) (only_int_of b) (floats_swapped f (scalar_of a) (scalar_of b)))

pub order_as :
    (e s : Bool) (a b : Option Value) →
    given (order_by (swapped_if s (cond e le_z lt_z)) (swapped_if s (cond e le lt)) a b)
    ≡ cond s (cond e (greater_or_equal_of a b) (greater_of a b)) (cond e (less_or_equal_of a b) (less_of a b))
unfolding less_of less_or_equal_of
order_as true true a b = order_swapped le_z le a b
order_as false true a b = order_swapped lt_z lt a b
order_as true false a b = refl
order_as false false a b = refl
