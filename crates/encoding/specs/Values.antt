-- Document 01, "03 Int, 04 Float: node 2, port 1, value 8; 05 Bool: node 2, port 1, 0 or 1; 06 Vector, 07 Rotator: .. three floats of 8;
-- 08 Quat, 09 Color: .. four floats of 8; 0C text: .. length 1 (0 to 16), then 16 bytes", "Ints in two's complement, floats as their IEEE 754 bits".
use Rattle.std.specs.Prelude.{ℕ, ◌+◌, ◌-◌, ◌≡◌, Bool as Flag, cond, List, [], ◌∷◌, ◌++◌, eqb, take, drop, Float as IeeeFloat}
use Rattle.std.specs.Float.Ieee.{of_bits}
use Rattle.std.specs.Float.{binary64}
use Rattle.ieee.specs.Bits.{bits_of}
use Rattle.whole.specs.Bits.{to_bits, from_bits}
use Rattle.text.specs.Text.{text_of, text_length}
use Rattle.text.specs.Listed.{text_value_size}
use Rattle.ir.specs.Kinds.{body_of, text_kind}
use Rattle.value.specs.declared.Value.{Value}
use Rattle.value.specs.declared.Value.TheVariants.{Int, Float, Bool, Vector, Rotator, Quat, Color, Text}
use Rattle.encoding.specs.Numbers.{byte, u16_at, u64_at, bytes_of}

-- the bytes of a property's value: those past its node and port
abbrev pub value_size : ℕ → ℕ
value_size kind = body_of kind - 3

-- ---- reading

-- the float whose bits stand at an offset
abbrev pub float_at : List ℕ → ℕ → IeeeFloat
float_at s i = of_bits binary64 (u64_at s i)

-- the text whose length and 16 bytes stand from an offset on. The bytes say the length: question 4 sees that it is the one that stands there
abbrev pub text_at : List ℕ → ℕ → Value
text_at s i = Text (u64_at s (i + 1)) (u64_at s (i + 9))

-- the value of a kind from 06 on, whose floats, or whose text, stand from an offset on
unfoldable pub composite_or_text_at : ℕ → List ℕ → ℕ → Value
composite_or_text_at kind s i =
    cond (eqb kind 6) (Vector (float_at s i) (float_at s (i + 8)) (float_at s (i + 16)))
    (cond (eqb kind 7) (Rotator (float_at s i) (float_at s (i + 8)) (float_at s (i + 16)))
    (cond (eqb kind 8) (Quat (float_at s i) (float_at s (i + 8)) (float_at s (i + 16)) (float_at s (i + 24)))
    (cond (eqb kind 9) (Color (float_at s i) (float_at s (i + 8)) (float_at s (i + 16)) (float_at s (i + 24)))
    (text_at s i))))

-- the value of a kind, whose bytes stand from an offset on
unfoldable pub value_at : ℕ → List ℕ → ℕ → Value
value_at kind s i =
    cond (eqb kind 3) (Int (from_bits (u64_at s i)))
    (cond (eqb kind 4) (Float (float_at s i))
    (cond (eqb kind 5) (Bool (eqb (byte s i) 1))
    (composite_or_text_at kind s i)))

-- ---- writing

abbrev pub kind_of : Value → ℕ
kind_of (Int n) = 3
kind_of (Float x) = 4
kind_of (Bool b) = 5
kind_of (Vector x y z) = 6
kind_of (Rotator p y r) = 7
kind_of (Quat x y z w) = 8
kind_of (Color r g b a) = 9
kind_of (Text low high) = text_kind

abbrev pub float_bytes : IeeeFloat → List ℕ
float_bytes x = bytes_of 8 (bits_of x)

abbrev pub bool_byte : Flag → ℕ
bool_byte b = cond b 1 0

abbrev pub three_bytes : IeeeFloat → IeeeFloat → IeeeFloat → List ℕ
three_bytes x y z = float_bytes x ++ (float_bytes y ++ float_bytes z)

abbrev pub four_bytes : IeeeFloat → IeeeFloat → IeeeFloat → IeeeFloat → List ℕ
four_bytes x y z w = three_bytes x y z ++ float_bytes w

-- "length 1 (0 to 16), then 16 bytes"
abbrev pub text_bytes : ℕ → ℕ → List ℕ
text_bytes low high = text_length low high ∷ (bytes_of 8 low ++ bytes_of 8 high)

-- the bytes of a value alone
abbrev pub value_bytes : Value → List ℕ
value_bytes (Int n) = bytes_of 8 (to_bits n)
value_bytes (Float x) = float_bytes x
value_bytes (Bool b) = bool_byte b ∷ []
value_bytes (Vector x y z) = three_bytes x y z
value_bytes (Rotator p y r) = three_bytes p y r
value_bytes (Quat x y z w) = four_bytes x y z w
value_bytes (Color r g b a) = four_bytes r g b a
value_bytes (Text low high) = text_bytes low high

-- a record's kind and node, and the record of a property
abbrev pub head_bytes : ℕ → ℕ → List ℕ
head_bytes kind node = kind ∷ bytes_of 2 node

abbrev pub property_bytes : ℕ → ℕ → Value → List ℕ
property_bytes node port v = head_bytes (kind_of v) node ++ (port ∷ value_bytes v)

-- "node 2, port 1, value 8": what is read of the record of a property
pub record PropertyBack (node port : ℕ) (v : Value) (s : List ℕ) (at : ℕ) : Type 0 where
  pub kind : byte s at ≡ kind_of v
  pub node_id : u16_at s (at + 1) ≡ node
  pub its_port : byte s (at + 3) ≡ port
  pub value : value_at (byte s at) s (at + 4) ≡ v

-- of a text record that question 4 lets through: the text that is read is its used bytes, and written it is the record again, its length too
pub record TextRead (s : List ℕ) (i : ℕ) : Type 0 where
  pub used : text_of (u64_at s (i + 1)) (u64_at s (i + 9)) ≡ take (byte s i) (drop (i + 1) s)
  pub again : value_bytes (text_at s i) ≡ take text_value_size (drop i s)
