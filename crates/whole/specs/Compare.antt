-- Equality, Min and Max of Ints (document 01, "Corners of semantics.rs"). Their order is `lt_z` and `le_z` of lib.Signed.
use Rattle.std.specs.Prelude.{Bool, false, cond, eqb, ℤ, pos, negsuc}
use lib.Signed.{lt_z}

-- "Equal: Int with Int"
unfoldable pub eq_z : ℤ → ℤ → Bool
eq_z (pos a) (pos b) = eqb a b
eq_z (pos a) (negsuc b) = false
eq_z (negsuc a) (pos b) = false
eq_z (negsuc a) (negsuc b) = eqb a b

-- "Min, Max, Clamp on Ints and Bools stay Int": the lower and the higher of two
unfoldable pub min_of : ℤ → ℤ → ℤ
min_of a b = cond (lt_z b a) b a

unfoldable pub max_of : ℤ → ℤ → ℤ
max_of a b = cond (lt_z a b) b a
