-- "Min and Max of floats are minimumNumber and maximumNumber of IEEE 754-2019: a NaN operand yields the other, and -0.0 is below 0.0" (document 01, "Corners of
-- semantics.rs"). The quotes below are the standard's, 9.6. lib.Ieee has one NaN: quiet and signaling play no part.
use Rattle.std.specs.Prelude.{◌≡◌, Bool, false, not, ◌&&◌, ◌||◌, cond, ◌⊎◌, Float}
use Rattle.std.specs.Float.Ieee.{is_nan, lt, eq}
use Rattle.ieee.specs.Signs.{is_sign_minus}

-- x < y, where "−0 compares less than +0": by value and, of two that are equal in value, by sign. Only zeros are equal and differ in sign.
unfoldable pub precedes : Float → Float → Bool
precedes x y = lt x y || eq x y && (is_sign_minus x && not (is_sign_minus y))

-- x > y, likewise
abbrev pub follows : Float → Float → Bool
follows x y = precedes y x

-- "x if x < y, y if y < x, and the number if one operand is a number and the other is a NaN", with an order for <. What is left is two NaNs, or two f64s that are
-- equal in value and sign: "it is either x or y".
abbrev pub extreme_number : (Float → Float → Bool) → Float → Float → Float
extreme_number before x y = cond (before x y) x (cond (before y x) y (cond (is_nan x) y x))

unfoldable pub minimum_number : Float → Float → Float
minimum_number x y = extreme_number precedes x y

unfoldable pub maximum_number : Float → Float → Float
maximum_number x y = extreme_number follows x y

-- r is one of x and y, and so that float where they are equal in every bit; it is a NaN only where both are, and neither of them comes before it
pub record Extreme (before : Float → Float → Bool) (x y r : Float) : Type 0 where
  pub operand : (r ≡ x) ⊎ (r ≡ y)
  pub same : x ≡ y → r ≡ x
  pub number : is_nan r ≡ is_nan x && is_nan y
  pub x_not_before : before x r ≡ false
  pub y_not_before : before y r ≡ false
