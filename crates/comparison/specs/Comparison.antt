-- Equality, order and logic (document 01, "Corners of semantics.rs").
use Rattle.std.specs.Prelude.{ℕ, Bool, true, false, not, cond, ◌&&◌, ◌||◌, List, [], ◌∷◌, eqb, ℤ, pos, Float, Option, None, Some}
use Rattle.std.specs.Bool.{beq}
use Rattle.std.specs.Int.Signed.{lt_z, le_z}
use Rattle.std.specs.Float.Ieee.{eq, lt, le}
use Rattle.ieee.specs.Finite.{sanitize_of}
use Rattle.whole.specs.Compare.{eq_z}
use Rattle.whole.specs.Convert.{int_of_bool, int_as_f64}
use Rattle.text.specs.Text.{text_of, is_text}
use Rattle.text.specs.Decimal.{is_decimal}
use Rattle.value.specs.declared.Value.{Value}
use Rattle.value.specs.Variants.{variant_of}
use Rattle.conversions.specs.Conversions.{float_zero, truthy_of, scalar_of, only_int_of}

-- two floats "by S"
unfoldable pub eq_s : Float → Float → Bool
eq_s x y = eq (sanitize_of x) (sanitize_of y)

-- "Float with .. Int by S", the Int as a float; None where no f64 equals it
abbrev pub eq_option_s : Option Float → Float → Option Bool
eq_option_s (Some x) y = Some (eq x (sanitize_of y))
eq_option_s None y = None

abbrev pub eq_int_float : ℤ → Float → Option Bool
eq_int_float n y = eq_option_s (int_as_f64 n) y

-- "Equal: Int with Int, Int with Bool (as 0 or 1), Bool with Bool, Float with Float or Int by S"
abbrev pub eq_int : ℤ → Value → Option Bool
eq_int n (Value.Int m) = Some (eq_z n m)
eq_int n (Value.Float y) = eq_int_float n y
eq_int n (Value.Bool b) = Some (eq_z n (int_of_bool b))
eq_int n (Value.Vector x y z) = None
eq_int n (Value.Rotator p y r) = None
eq_int n (Value.Quat x y z w) = None
eq_int n (Value.Color r g b a) = None
eq_int n (Value.Text low high) = Some (is_decimal low high n)

abbrev pub eq_float : Float → Value → Option Bool
eq_float x (Value.Int m) = eq_int_float m x
eq_float x (Value.Float y) = Some (eq_s x y)
eq_float x (Value.Bool b) = None
eq_float x (Value.Vector x' y z) = None
eq_float x (Value.Rotator p y r) = None
eq_float x (Value.Quat x' y z w) = None
eq_float x (Value.Color r g b a) = None
eq_float x (Value.Text low high) = None

abbrev pub eq_bool : Bool → Value → Option Bool
eq_bool b (Value.Int m) = Some (eq_z m (int_of_bool b))
eq_bool b (Value.Float y) = None
eq_bool b (Value.Bool c) = Some (beq b c)
eq_bool b (Value.Vector x y z) = None
eq_bool b (Value.Rotator p y r) = None
eq_bool b (Value.Quat x y z w) = None
eq_bool b (Value.Color r g b' a) = None
eq_bool b (Value.Text low high) = None

-- "composites of one kind part by part by S"
abbrev pub parts : Value → List Float
parts (Value.Int n) = []
parts (Value.Float x) = []
parts (Value.Bool b) = []
parts (Value.Vector x y z) = x ∷ y ∷ z ∷ []
parts (Value.Rotator p y r) = p ∷ y ∷ r ∷ []
parts (Value.Quat x y z w) = x ∷ y ∷ z ∷ w ∷ []
parts (Value.Color r g b a) = r ∷ g ∷ b ∷ a ∷ []
parts (Value.Text low high) = []

abbrev pub eq_parts : List Float → List Float → Bool
eq_parts [] [] = true
eq_parts [] (y ∷ ys) = false
eq_parts (x ∷ xs) [] = false
eq_parts (x ∷ xs) (y ∷ ys) = eq_s x y && eq_parts xs ys

abbrev pub eq_composite : Value → Value → Option Bool
eq_composite a b = cond (eqb (variant_of a) (variant_of b)) (Some (eq_parts (parts a) (parts b))) None

-- "text with text byte for byte, text with Int by its plain decimal form", each other pair None
abbrev pub eq_text : ℕ → ℕ → Value → Option Bool
eq_text low high (Value.Int n) = Some (is_decimal low high n)
eq_text low high (Value.Float x) = None
eq_text low high (Value.Bool b) = None
eq_text low high (Value.Vector x y z) = None
eq_text low high (Value.Rotator p y r) = None
eq_text low high (Value.Quat x y z w) = None
eq_text low high (Value.Color r g b a) = None
eq_text low high (Value.Text l h) = Some (is_text low high (text_of l h))

-- ".. each pair not named here: None"
abbrev pub eq_value : Value → Value → Option Bool
eq_value (Value.Int n) b = eq_int n b
eq_value (Value.Float x) b = eq_float x b
eq_value (Value.Bool c) b = eq_bool c b
eq_value (Value.Vector x y z) b = eq_composite (Value.Vector x y z) b
eq_value (Value.Rotator p y r) b = eq_composite (Value.Rotator p y r) b
eq_value (Value.Quat x y z w) b = eq_composite (Value.Quat x y z w) b
eq_value (Value.Color r g b' a) b = eq_composite (Value.Color r g b' a) b
eq_value (Value.Text low high) b = eq_text low high b

-- "Unwired takes the other's zero, beside text the empty text."
abbrev pub zero_like : Value → Value
zero_like (Value.Int n) = Value.Int (pos 0)
zero_like (Value.Float x) = Value.Float float_zero
zero_like (Value.Bool b) = Value.Bool false
zero_like (Value.Vector x y z) = Value.Vector float_zero float_zero float_zero
zero_like (Value.Rotator p y r) = Value.Rotator float_zero float_zero float_zero
zero_like (Value.Quat x y z w) = Value.Quat float_zero float_zero float_zero float_zero
zero_like (Value.Color r g b a) = Value.Color float_zero float_zero float_zero float_zero
zero_like (Value.Text low high) = Value.Text 0 0

-- an operand as it counts beside another; of two Unwired neither gets a zero
abbrev pub or_zero_like : Option Value → Option Value → Option Value
or_zero_like (Some a) b = Some a
or_zero_like None (Some b) = Some (zero_like b)
or_zero_like None None = None

-- "Two Unwired ..: None."
abbrev pub eq_of : Option Value → Option Value → Option Bool
eq_of None None = None
eq_of None (Some b) = eq_value (zero_like b) b
eq_of (Some a) None = eq_value a (zero_like a)
eq_of (Some a) (Some b) = eq_value a b

-- what a gate gives that answers true or false
abbrev pub given : Option Bool → Option Value
given None = None
given (Some b) = Some (Value.Bool b)

abbrev pub contrary : Option Bool → Option Bool
contrary None = None
contrary (Some b) = Some (not b)

unfoldable pub equal_of : Option Value → Option Value → Option Value
equal_of a b = given (eq_of a b)

-- "NotEqual is the contrary, None with it."
unfoldable pub not_equal_of : Option Value → Option Value → Option Value
not_equal_of a b = given (contrary (eq_of a b))

-- "Order gates: two Ints exactly; else by float with S, Unwired 0, Bool 0 or 1; composites None. Question 12 keeps text from
-- them"; a text gives None
abbrev pub floats_by : (Float → Float → Bool) → Option Float → Option Float → Option Bool
floats_by f (Some x) (Some y) = Some (f x y)
floats_by f (Some x) None = None
floats_by f None y = None

abbrev pub ints_by : (ℤ → ℤ → Bool) → Option ℤ → Option ℤ → Option Bool → Option Bool
ints_by z (Some m) (Some n) other = Some (z m n)
ints_by z (Some m) None other = other
ints_by z None n other = other

abbrev pub order_by : (ℤ → ℤ → Bool) → (Float → Float → Bool) → Option Value → Option Value → Option Bool
order_by z f a b = ints_by z (only_int_of a) (only_int_of b) (floats_by f (scalar_of a) (scalar_of b))

-- a test of two numbers, or of the two swapped
abbrev pub swapped_if : {N : Type 0} → Bool → (N → N → Bool) → N → N → Bool
swapped_if true f x y = f y x
swapped_if false f x y = f x y

unfoldable pub less_of : Option Value → Option Value → Option Value
less_of a b = given (order_by lt_z lt a b)

unfoldable pub less_or_equal_of : Option Value → Option Value → Option Value
less_or_equal_of a b = given (order_by le_z le a b)

abbrev pub greater_of : Option Value → Option Value → Option Value
greater_of a b = less_of b a

abbrev pub greater_or_equal_of : Option Value → Option Value → Option Value
greater_or_equal_of a b = less_or_equal_of b a

-- "Logical gates combine the T of their operands."
abbrev pub truth : Bool → Option Value
truth b = Some (Value.Bool b)

unfoldable pub logical_and_of : Option Value → Option Value → Option Value
logical_and_of a b = truth (truthy_of a && truthy_of b)

unfoldable pub logical_or_of : Option Value → Option Value → Option Value
logical_or_of a b = truth (truthy_of a || truthy_of b)

unfoldable pub logical_xor_of : Option Value → Option Value → Option Value
logical_xor_of a b = truth (not (beq (truthy_of a) (truthy_of b)))

unfoldable pub logical_not_of : Option Value → Option Value
logical_not_of a = truth (not (truthy_of a))

unfoldable pub logical_nand_of : Option Value → Option Value → Option Value
logical_nand_of a b = truth (not (truthy_of a && truthy_of b))

unfoldable pub logical_nor_of : Option Value → Option Value → Option Value
logical_nor_of a b = truth (not (truthy_of a || truthy_of b))
