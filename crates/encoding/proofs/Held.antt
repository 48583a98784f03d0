-- The words of a value hold it.
use Prim.Native.Nat.{ℕ, ◌^◌, ◌≤◌, ◌<◌}
use mathlib.Core.Path.{◌≡◌, refl, sym, ap, ◌∙◌}
use mathlib.Core.Bool.{Bool as Flag, true, false}
use mathlib.Core.List.{[], ◌∷◌}
use lib.ListN.{length}
use lib.Dec.{T, eqb}
use lib.IntN.{ℤ}
use lib.Ieee.{Float as IeeeFloat, fits, of_bits, binary64}
use mir.Val.{SFits, bool_byte as byte_of_flag}
use mir.Syntax.{w64}
use mir.Facts.{to_z-of_z}
use mir.ValLaws.{of_z-to_z}
use native.Mathlib.Omega.{arith}
use native.Mathlib.Decide.{ℕ_discrete, dec_lt}
use borrow.Author.Tests.{ne_eqb}
use Rattle.ieee.specs.Bits.{bits_of}
use Rattle.ieee.proofs.Bits.{of_bits_bits_of}
use Rattle.whole.specs.Bits.{to_bits, from_bits}
use Rattle.value.specs.declared.Value.{Value}
use Rattle.value.specs.declared.Value.TheVariants.{Int, Float, Bool, Vector, Rotator, Quat, Color, Text}
use Rattle.ir.specs.Kinds.{role_of}
use Rattle.ir.specs.declared.Role.TheVariants.{Property}
use Rattle.encoding.specs.Numbers.{bytes_of}
use Rattle.encoding.specs.Values.{kind_of, float_bytes, bool_byte, three_bytes, four_bytes, text_bytes, value_bytes}
use Rattle.encoding.specs.declared.words.Words.{Words}
use Rattle.encoding.specs.Words.{held_composite_or_text, held_value, held_by, ThreeFloats, FourFloats}
use Rattle.encoding.proofs.Sizes.{by_kind}

pub float_back : {x : IeeeFloat} {a : ℕ} → T (fits binary64 x) → a ≡ bits_of x → of_bits binary64 a ≡ x
float_back {x} f e = ap (of_bits binary64) e ∙ of_bits_bits_of x f

module _ (w : Words) where
  pub held_int : {n : ℤ} → SFits w64 n → w.a ≡ to_bits n → held_by 3 w ≡ Int n
  unfolding held_value held_composite_or_text
  held_int f e = ap {B = Value} Int (ap from_bits e ∙ to_z-of_z f)

  pub held_float : {x : IeeeFloat} → T (fits binary64 x) → w.a ≡ bits_of x → held_by 4 w ≡ Float x
  unfolding held_value held_composite_or_text
  held_float f e = ap {B = Value} Float (float_back f e)

  pub held_bool : {b : Flag} → eqb w.a 1 ≡ b → held_by 5 w ≡ Bool b
  unfolding held_value held_composite_or_text
  held_bool e = ap {B = Value} Bool e

  pub held_vector : {x y z : IeeeFloat} → ThreeFloats w x y z → held_by 6 w ≡ Vector x y z
  unfolding held_value held_composite_or_text
  held_vector t = rw (t.first, t.second, t.third)

  pub held_rotator : {x y z : IeeeFloat} → ThreeFloats w x y z → held_by 7 w ≡ Rotator x y z
  unfolding held_value held_composite_or_text
  held_rotator t = rw (t.first, t.second, t.third)

  pub held_quat : {x y z u : IeeeFloat} → FourFloats w x y z u → held_by 8 w ≡ Quat x y z u
  unfolding held_value held_composite_or_text
  held_quat t = rw (t.three.first, t.three.second, t.three.third, t.fourth)

  pub held_color : {x y z u : IeeeFloat} → FourFloats w x y z u → held_by 9 w ≡ Color x y z u
  unfolding held_value held_composite_or_text
  held_color t = rw (t.three.first, t.three.second, t.three.third, t.fourth)

pub held_text : {w : Words} {low high : ℕ} → w ≡ record { a = low; b = high; c = 0; d = 0 } → held_by 12 w ≡ Text low high
unfolding held_value held_composite_or_text
held_text e = rw e refl

-- a value of another kind than Int, Float and Bool
pub held_other : (kind a b c d : ℕ) → (kind ≡ 3 → ⊥) → (kind ≡ 4 → ⊥) → (kind ≡ 5 → ⊥) → held_value kind a b c d ≡ held_composite_or_text kind a b c d
unfolding held_value
held_other kind a b c d p q r = rw (ne_eqb kind 3 p, ne_eqb kind 4 q, ne_eqb kind 5 r)

module _ (k a b c d : ℕ) where
  -- the bytes of what words of a kind hold
  pub int_bytes : k ≡ 3 → a < 2 ^ 64 → bytes_of 8 a ≡ value_bytes (held_value k a b c d)
  unfolding held_value
  int_bytes e f = rw e (ap (bytes_of 8) (sym (of_z-to_z w64 a (record { fits = f }))))

  pub float_bytes_lem : k ≡ 4 → float_bytes (of_bits binary64 a) ≡ value_bytes (held_value k a b c d)
  unfolding held_value
  float_bytes_lem e = rw e refl

  pub bool_bytes : k ≡ 5 → bool_byte (eqb a 1) ∷ [] ≡ value_bytes (held_value k a b c d)
  unfolding held_value
  bool_bytes e = rw e refl

  pub text_bytes_lem : k ≡ 12 → text_bytes a b ≡ value_bytes (held_value k a b c d)
  unfolding held_value held_composite_or_text
  text_bytes_lem e = rw e refl

-- the kind of a value is that of a property
pub kind_role : (v : Value) → role_of (kind_of v) ≡ Property
kind_role (Int n) = refl
kind_role (Float x) = refl
kind_role (Bool b) = refl
kind_role (Vector x y z) = refl
kind_role (Rotator p y r) = refl
kind_role (Quat x y z w) = refl
kind_role (Color r g b a) = refl
kind_role (Text low high) = refl

module _ (a b c d : ℕ) where
  pub kind_held : (k : ℕ) → role_of k ≡ Property → kind_of (held_value k a b c d) ≡ k
  unfolding held_value held_composite_or_text
  kind_held = by_kind (λ k. kind_of (held_value k a b c d) ≡ k) refl refl refl refl refl refl refl refl

module _ (k a b c d : ℕ) where
  -- the bytes of a composite
  pub three_held : 5 < k → k ≤ 7 → three_bytes (of_bits binary64 a) (of_bits binary64 b) (of_bits binary64 c) ≡ value_bytes (held_composite_or_text k a b c d)
  unfolding held_composite_or_text
  three_held l h = pick (ℕ_discrete k 6)
    where
      pick : Dec (k ≡ 6) → three_bytes (of_bits binary64 a) (of_bits binary64 b) (of_bits binary64 c) ≡ value_bytes (held_composite_or_text k a b c d)
      pick (yes e) = rw e refl
      pick (no n) = let e : k ≡ 7 = omega arith in rw e refl

  pub four_held : 7 < k → k < 10 → four_bytes (of_bits binary64 a) (of_bits binary64 b) (of_bits binary64 c) (of_bits binary64 d) ≡ value_bytes (held_composite_or_text k a b c d)
  unfolding held_composite_or_text
  four_held l h = pick (ℕ_discrete k 8)
    where
      pick : Dec (k ≡ 8) → four_bytes (of_bits binary64 a) (of_bits binary64 b) (of_bits binary64 c) (of_bits binary64 d) ≡ value_bytes (held_composite_or_text k a b c d)
      pick (yes e) = rw e refl
      pick (no n) = let e : k ≡ 9 = omega arith in rw e refl

  -- three floats at least
  pub three_least : 5 < k → k < 10 → 24 ≤ length (value_bytes (held_composite_or_text k a b c d))
  unfolding bytes_of
  three_least l h = pick (dec_lt k 8)
    where
      pick : Dec (k < 8) → 24 ≤ length (value_bytes (held_composite_or_text k a b c d))
      pick (yes s) = omega (arith, ap length (three_held l (omega arith)))
      pick (no n) = omega (arith, ap length (four_held (omega arith) h))

-- the library's byte of a flag
pub flag_byte : (b : Flag) → byte_of_flag b ≡ bool_byte b
flag_byte true = refl
flag_byte false = refl
