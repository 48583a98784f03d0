-- Document 01, "Variants: 0 Unwired, 1 Int, 2 Float, 3 Bool, 4 Vector, 5 Rotator, 6 Quat, 7 Color, 8 Text".
use Rattle.std.specs.Prelude.{ℕ, Option, None, Some}
use Rattle.ir.specs.Variants.{text_variant}
use Rattle.value.specs.declared.Value.{Value}
use Rattle.value.specs.declared.Value.TheVariants.{Int, Float, Bool, Vector, Rotator, Quat, Color, Text}

abbrev pub variant_of : Value → ℕ
variant_of (Int n) = 1
variant_of (Float x) = 2
variant_of (Bool b) = 3
variant_of (Vector x y z) = 4
variant_of (Rotator p y r) = 5
variant_of (Quat x y z w) = 6
variant_of (Color r g b a) = 7
variant_of (Text low high) = text_variant

abbrev pub in_variant : Option Value → ℕ
in_variant None = 0
in_variant (Some v) = variant_of v
