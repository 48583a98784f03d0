-- Values as words, one for each number: "Ints in two's complement, floats as their IEEE 754 bits", a Bool as 0 or 1, a text as its 16 bytes.
use Rattle.std.specs.Prelude.{ℕ, ◌≡◌, cond, eqb, Float as IeeeFloat}
use Rattle.std.specs.Float.Ieee.{of_bits}
use Rattle.std.specs.Float.{binary64}
use Rattle.whole.specs.Bits.{from_bits}
use Rattle.value.specs.declared.Value.{Value}
use Rattle.value.specs.declared.Value.TheVariants.{Int, Float, Bool, Vector, Rotator, Quat, Color, Text}
use Rattle.encoding.specs.declared.words.Words.{Words}

-- the value of a kind from 06 on that these words hold
unfoldable pub held_composite_or_text : ℕ → ℕ → ℕ → ℕ → ℕ → Value
held_composite_or_text kind a b c d =
    cond (eqb kind 6) (Vector (of_bits binary64 a) (of_bits binary64 b) (of_bits binary64 c))
    (cond (eqb kind 7) (Rotator (of_bits binary64 a) (of_bits binary64 b) (of_bits binary64 c))
    (cond (eqb kind 8) (Quat (of_bits binary64 a) (of_bits binary64 b) (of_bits binary64 c) (of_bits binary64 d))
    (cond (eqb kind 9) (Color (of_bits binary64 a) (of_bits binary64 b) (of_bits binary64 c) (of_bits binary64 d))
    (Text a b))))

-- the value of a kind that these words hold
unfoldable pub held_value : ℕ → ℕ → ℕ → ℕ → ℕ → Value
held_value kind a b c d =
    cond (eqb kind 3) (Int (from_bits a))
    (cond (eqb kind 4) (Float (of_bits binary64 a))
    (cond (eqb kind 5) (Bool (eqb a 1))
    (held_composite_or_text kind a b c d)))

abbrev pub held_by : ℕ → Words → Value
held_by kind w = held_value kind w.a w.b w.c w.d

-- words hold these floats
pub record ThreeFloats (w : Words) (x y z : IeeeFloat) : Type 0 where
  pub first : of_bits binary64 w.a ≡ x
  pub second : of_bits binary64 w.b ≡ y
  pub third : of_bits binary64 w.c ≡ z

pub record FourFloats (w : Words) (x y z u : IeeeFloat) : Type 0 where
  pub three : ThreeFloats w x y z
  pub fourth : of_bits binary64 w.d ≡ u
