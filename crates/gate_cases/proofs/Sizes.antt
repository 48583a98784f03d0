-- A value has at most 32 bytes.
use Prim.Native.Nat.{ℕ, zero, suc, ◌≤◌, ◌<◌, max}
use native.Mathlib.Omega.{arith}
use mathlib.Core.List.{List, [], ◌∷◌}
use lib.ListN.{length, get_or}
use mathlib.Core.Path.{◌≡◌, refl}
use Rattle.ir.specs.Kinds.{Kind, kinds, unlisted, role_of}
use Rattle.ir.specs.declared.Role.TheVariants.{Property}
use Rattle.value.specs.declared.Value.{Value}
use Rattle.value.specs.declared.Value.TheVariants.{Int, Float, Bool, Vector, Rotator, Quat, Color, Text}
use Rattle.encoding.specs.Numbers.{bytes_of}
use Rattle.encoding.specs.Values.{value_size, value_bytes}
use Rattle.gate_cases.specs.Cases.{variant_kind}

-- the longest body of these kinds
most : List Kind → ℕ
most [] = 0
most (k ∷ ks) = max k.body (most ks)

within : (ks : List Kind) (k : ℕ) → (get_or ks k unlisted).body ≤ most ks
unfolding most
within [] k = omega arith
within (x ∷ ks) zero = omega arith
within (x ∷ ks) (suc k) = omega (arith, within ks k)

pub value_size_lem : (k : ℕ) → value_size k ≤ 32
unfolding most
value_size_lem k = omega (arith, within kinds k)

pub value_length : (v : Value) → length (value_bytes v) ≤ 32
unfolding bytes_of
value_length (Int n) = omega arith
value_length (Float x) = omega arith
value_length (Bool b) = omega arith
value_length (Vector x y z) = omega arith
value_length (Rotator p y r) = omega arith
value_length (Quat x y z w) = omega arith
value_length (Color r g b a) = omega arith
value_length (Text low high) = omega arith

-- the kind of a variant is that of a property
pub variant_role : (v : ℕ) → 0 < v → v ≤ 8 → role_of (variant_kind v) ≡ Property
variant_role zero l h = absurd (omega arith)
variant_role (suc zero) l h = refl
variant_role (suc (suc zero)) l h = refl
variant_role (suc (suc (suc zero))) l h = refl
variant_role (suc (suc (suc (suc zero)))) l h = refl
variant_role (suc (suc (suc (suc (suc zero))))) l h = refl
variant_role (suc (suc (suc (suc (suc (suc zero)))))) l h = refl
variant_role (suc (suc (suc (suc (suc (suc (suc zero))))))) l h = refl
variant_role (suc (suc (suc (suc (suc (suc (suc (suc zero)))))))) l h = refl
variant_role (suc (suc (suc (suc (suc (suc (suc (suc (suc v))))))))) l h = absurd (omega arith)
