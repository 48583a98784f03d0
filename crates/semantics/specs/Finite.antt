-- Which values may be planned (document 01, "a value that isn't a non-finite Float is planned as literal"), and demand 3, "each planned
-- number is finite".
use Rattle.std.specs.Prelude.{Bool, true, false, not, ◌&&◌}
use Rattle.ieee.specs.Finite.{finite_of}
use Rattle.value.specs.declared.Value.{Value}

abbrev pub non_finite_float : Value → Bool
non_finite_float (Value.Int n) = false
non_finite_float (Value.Float x) = not (finite_of x)
non_finite_float (Value.Bool b) = false
non_finite_float (Value.Vector x y z) = false
non_finite_float (Value.Rotator p y r) = false
non_finite_float (Value.Quat x y z w) = false
non_finite_float (Value.Color r g b a) = false
non_finite_float (Value.Text low high) = false

-- a value that a gate may give, every number of it finite: no gate gives a Rotator, Quat, Color or text
abbrev pub finite_value : Value → Bool
finite_value (Value.Int n) = true
finite_value (Value.Float x) = finite_of x
finite_value (Value.Bool b) = true
finite_value (Value.Vector x y z) = finite_of x && finite_of y && finite_of z
finite_value (Value.Rotator p y r) = false
finite_value (Value.Quat x y z w) = false
finite_value (Value.Color r g b a) = false
finite_value (Value.Text low high) = false
