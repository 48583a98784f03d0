-- What was written is read back, and what was read of a wire is written again.
use Prim.Native.Nat.{ℕ, zero, suc, ◌+◌, ◌/◌, ◌%◌, ◌^◌, ◌≤◌, ◌<◌}
use native.Mathlib.Omega.{arith}
use native.Mathlib.Nat.{add-zero, pow-suc}
use mathlib.Core.Path.{◌≡◌, refl, sym, ap, ◌∙◌}
use mathlib.Core.Bool.{true, false}
use mathlib.Core.List.{List, [], ◌∷◌, ◌++◌}
use lib.ListN.{length, get_or, take, drop, length-append, get_or-append}
use lib.Seq.{drop-cons, get_or-append-add}
use lib.Dec.{T}
use lib.Ieee.{Float as IeeeFloat, fits, of_bits, binary64}
use lib.Ieee.Bits.{of_bits-fits}
use mir.Val.{SFits, of_z}
use mir.Syntax.{w64}
use mir.Facts.{to_z-of_z}
use mir.ValLaws.{of_z_fits, to_z-Fits}
use Rattle.ir.specs.Kinds.{role_of}
use Rattle.ir.specs.declared.Role.TheVariants.{Property}
use Rattle.ir.specs.declared.Wire.{Wire}
use Rattle.ieee.specs.Bits.{bits_of}
use Rattle.whole.specs.Bits.{from_bits}
use Rattle.text.specs.Text.{text_length}
use Rattle.value.specs.declared.Value.{Value}
use Rattle.value.specs.declared.Value.TheVariants.{Int, Float, Bool, Vector, Rotator, Quat, Color, Text}
use Rattle.encoding.specs.Numbers.{byte, number_at, u16_at, bytes_of, splice, Written}
use Rattle.encoding.specs.Wires.{wire_at, wire_bytes, port_ref_bytes}
use Rattle.encoding.specs.Values.{float_at, composite_or_text_at, value_at, kind_of, float_bytes, three_bytes, four_bytes, value_bytes, head_bytes, property_bytes, PropertyBack}
use Rattle.ieee.proofs.Bits.{bits_of_lt, of_bits_bits_of}
use Rattle.encoding.specs.Words.{held_composite_or_text, held_value}
use Rattle.encoding.proofs.Sizes.{by_kind}
use Rattle.encoding.proofs.Held.{kind_held}
use Rattle.encoding.proofs.Splices.{splice_at}

-- these bytes stand from an offset on
abbrev pub Stands : List ℕ → List ℕ → ℕ → Type 0
Stands bs s i = (k : ℕ) → k < length bs → byte s (i + k) ≡ get_or bs k 0

module _ (xs ys s : List ℕ) (i : ℕ) (h : Stands (xs ++ ys) s i) where
  pub left : Stands xs s i
  left k l = h k (omega (arith, length-append xs ys)) ∙ get_or-append xs ys 0 k l

  pub right : (j : ℕ) → i + length xs ≡ j → Stands ys s j
  right j e k l =
      ap (byte s) (omega arith) ∙ h (length xs + k) (omega (arith, length-append xs ys)) ∙ get_or-append-add xs ys k 0

bytes_length : (n x : ℕ) → length (bytes_of n x) ≡ n
unfolding bytes_of
bytes_length zero x = refl
bytes_length (suc n) x = ap suc (bytes_length n (x / 256))

-- ---- numbers

number_back : (n x : ℕ) (s : List ℕ) (i : ℕ) → x < 256 ^ n → Stands (bytes_of n x) s i → number_at n s i ≡ x
unfolding number_at bytes_of
number_back zero x s i h b = omega arith
number_back (suc n) x s i h b =
    let low : byte s i ≡ x % 256 = ap (byte s) (sym (add-zero i)) ∙ b 0 (omega arith) in
    let high : number_at n s (i + 1) ≡ x / 256 = number_back n (x / 256) s (i + 1) (omega (arith, pow-suc 256 n)) (λ k l. ap (byte s) (omega arith) ∙ b (suc k) (omega arith)) in
    omega arith

byte_back : (x : ℕ) (s : List ℕ) (i : ℕ) → Stands (x ∷ []) s i → byte s i ≡ x
byte_back x s i h = ap (byte s) (sym (add-zero i)) ∙ h 0 (omega arith)

float_back : (x : IeeeFloat) (s : List ℕ) (i : ℕ) → T (fits binary64 x) → Stands (float_bytes x) s i → float_at s i ≡ x
float_back x s i f h = ap (of_bits binary64) (number_back 8 (bits_of x) s i (bits_of_lt x f) h) ∙ of_bits_bits_of x f

-- ---- values

-- a value of 64-bit numbers, as each value of a program is
abbrev pub Stored : Value → Type 0
Stored (Int n) = SFits w64 n
Stored (Float x) = T (fits binary64 x)
Stored (Bool b) = Unit {0}
Stored (Vector x y z) = T (fits binary64 x) × T (fits binary64 y) × T (fits binary64 z)
Stored (Rotator p y r) = T (fits binary64 p) × T (fits binary64 y) × T (fits binary64 r)
Stored (Quat x y z w) = T (fits binary64 x) × T (fits binary64 y) × T (fits binary64 z) × T (fits binary64 w)
Stored (Color r g b a) = T (fits binary64 r) × T (fits binary64 g) × T (fits binary64 b) × T (fits binary64 a)
Stored (Text low high) = (low < 2 ^ 64) × (high < 2 ^ 64)

module _ (x y z : IeeeFloat) (s : List ℕ) (i : ℕ) (h : Stands (three_bytes x y z) s i) where
  second_third : Stands (float_bytes y ++ float_bytes z) s (i + 8)
  second_third = right (float_bytes x) (float_bytes y ++ float_bytes z) s i h (i + 8) (omega (arith, bytes_length 8 (bits_of x)))

  three_1 : T (fits binary64 x) → float_at s i ≡ x
  three_1 f = float_back x s i f (left (float_bytes x) (float_bytes y ++ float_bytes z) s i h)

  three_2 : T (fits binary64 y) → float_at s (i + 8) ≡ y
  three_2 f = float_back y s (i + 8) f (left (float_bytes y) (float_bytes z) s (i + 8) second_third)

  three_3 : T (fits binary64 z) → float_at s (i + 16) ≡ z
  three_3 f =
      float_back z s (i + 16) f
      (right (float_bytes y) (float_bytes z) s (i + 8) second_third (i + 16) (omega (arith, bytes_length 8 (bits_of y))))

three_length : (x y z : IeeeFloat) → length (three_bytes x y z) ≡ 24
unfolding bytes_of
three_length x y z = refl

module _ (x y z w : IeeeFloat) (s : List ℕ) (i : ℕ) (h : Stands (four_bytes x y z w) s i) where
  first_three : Stands (three_bytes x y z) s i
  first_three = left (three_bytes x y z) (float_bytes w) s i h

  four_4 : T (fits binary64 w) → float_at s (i + 24) ≡ w
  four_4 f =
      float_back w s (i + 24) f
      (right (three_bytes x y z) (float_bytes w) s i h (i + 24) (omega (arith, three_length x y z)))

-- THE LAW: reading the bytes of a value gives the value. A NaN is one: it is written 7FF8000000000000
pub value_back : (v : Value) (s : List ℕ) (i : ℕ) → Stored v → Stands (value_bytes v) s i → value_at (kind_of v) s i ≡ v
unfolding value_at composite_or_text_at
value_back (Int n) s i f h = ap {B = Value} Int (ap from_bits (number_back 8 (of_z w64 n) s i (of_z_fits w64 n f).fits h) ∙ to_z-of_z f)
value_back (Float x) s i f h = ap {B = Value} Float (float_back x s i f h)
value_back (Bool true) s i f h = rw (byte_back 1 s i h)
value_back (Bool false) s i f h = rw (byte_back 0 s i h)
value_back (Vector x y z) s i f h = rw (three_1 x y z s i h f.0, three_2 x y z s i h f.1, three_3 x y z s i h f.2)
value_back (Rotator x y z) s i f h = rw (three_1 x y z s i h f.0, three_2 x y z s i h f.1, three_3 x y z s i h f.2)
value_back (Quat x y z w) s i f h =
    let t = first_three x y z w s i h in
    rw (three_1 x y z s i t f.0, three_2 x y z s i t f.1, three_3 x y z s i t f.2, four_4 x y z w s i h f.3)
value_back (Color x y z w) s i f h =
    let t = first_three x y z w s i h in
    rw (three_1 x y z s i t f.0, three_2 x y z s i t f.1, three_3 x y z s i t f.2, four_4 x y z w s i h f.3)
value_back (Text low high) s i f h =
    let words : Stands (bytes_of 8 low ++ bytes_of 8 high) s (i + 1) = right (text_length low high ∷ []) (bytes_of 8 low ++ bytes_of 8 high) s i h (i + 1) refl in
    rw (
      number_back 8 low s (i + 1) f.0 (left (bytes_of 8 low) (bytes_of 8 high) s (i + 1) words),
      number_back 8 high s (i + 9) f.1 (right (bytes_of 8 low) (bytes_of 8 high) s (i + 1) words (i + 9) (omega (arith, bytes_length 8 low))),
    )

-- ---- values that words hold

module _ {a b c d : ℕ} (fa : a < 2 ^ 64) (fb : b < 2 ^ 64) (fc : c < 2 ^ 64) (fd : d < 2 ^ 64) where
  float_held : (x : ℕ) → T (fits binary64 (of_bits binary64 x))
  float_held x = of_bits-fits binary64 x

  stored_held : (k : ℕ) → role_of k ≡ Property → Stored (held_value k a b c d)
  unfolding held_value held_composite_or_text
  stored_held =
      by_kind (λ k. Stored (held_value k a b c d)) (to_z-Fits w64 a (record { fits = fa })) (float_held a) tt
      (float_held a, float_held b, float_held c) (float_held a, float_held b, float_held c)
      (float_held a, float_held b, float_held c, float_held d) (float_held a, float_held b, float_held c, float_held d)
      (fa, fb)

  -- a value that was written is read back
  pub held_back : (k : ℕ) {l m : List ℕ} {at next : ℕ} → role_of k ≡ Property → at + length (value_bytes (held_value k a b c d)) ≤ length l → Written (value_bytes (held_value k a b c d)) l m at next → Written (value_bytes (held_value k a b c d)) l m at next × (value_at k m at ≡ held_value k a b c d)
  held_back k {l} {m} {at} {next} e room w =
      let v = held_value k a b c d in
      let back : value_at (kind_of v) (splice l at (value_bytes v)) at ≡ v = value_back v _ at (stored_held k e) (splice_at l at (value_bytes v) room) in
      (w, ap (λ (j : ℕ). value_at j m at) (sym (kind_held a b c d k e)) ∙ ap (λ (s : List ℕ). value_at (kind_of v) s at) w.wrote ∙ back)

-- ---- records

pub property_back : {node port : ℕ} {v : Value} {l s : List ℕ} {at next : ℕ} → at + length (property_bytes node port v) ≤ length l → Written (property_bytes node port v) l s at next → {past : ℕ} → past ≡ at + 4 → (k : ℕ) → kind_of v ≡ k → value_at k s past ≡ v → node < 65536 → PropertyBack node port v s at
property_back {node} {port} {v} {l} {s} {at} room w {past} e k f given n =
    let all : Stands (property_bytes node port v) s at = rw w.wrote (splice_at l at (property_bytes node port v) room) in
    let head : Stands ((kind_of v ∷ []) ++ bytes_of 2 node) s at = left (head_bytes (kind_of v) node) (port ∷ value_bytes v) s at all in
    let rest : Stands ((port ∷ []) ++ value_bytes v) s (at + 3) = right (head_bytes (kind_of v) node) (port ∷ value_bytes v) s at all (at + 3) (omega (arith, bytes_length 2 node)) in
    let kind : byte s at ≡ kind_of v = byte_back (kind_of v) s at (left (kind_of v ∷ []) (bytes_of 2 node) s at head) in
    record {
      kind = kind;
      node_id = number_back 2 node s (at + 1) n (right (kind_of v ∷ []) (bytes_of 2 node) s at head (at + 1) refl);
      its_port = byte_back port s (at + 3) (left (port ∷ []) (value_bytes v) s (at + 3) rest);
      value = ap (λ (k : ℕ). value_at k s (at + 4)) kind ∙ ap (value_at (kind_of v) s) (sym e) ∙ ap (λ (j : ℕ). value_at j s past) f ∙ given;
    }

pub wire_back : (w : Wire) {l s : List ℕ} {at next : ℕ} → at + 7 ≤ length l → Written (wire_bytes w) l s at next → w.source.node_id < 65536 → w.target.node_id < 65536 → wire_at s at ≡ w
wire_back w {l} {s} {at} room wrote a b =
    let seven : length (wire_bytes w) ≡ 7 = unfold bytes_of in refl in
    let all : Stands ((2 ∷ []) ++ (port_ref_bytes w.source ++ port_ref_bytes w.target)) s at = rw wrote.wrote (splice_at l at (wire_bytes w) (omega arith)) in
    let both : Stands (port_ref_bytes w.source ++ port_ref_bytes w.target) s (at + 1) = right (2 ∷ []) (port_ref_bytes w.source ++ port_ref_bytes w.target) s at all (at + 1) refl in
    let source : Stands (port_ref_bytes w.source) s (at + 1) = left (port_ref_bytes w.source) (port_ref_bytes w.target) s (at + 1) both in
    let target : Stands (port_ref_bytes w.target) s (at + 4) = right (port_ref_bytes w.source) (port_ref_bytes w.target) s (at + 1) both (at + 4) (omega (arith, length-append (bytes_of 2 w.source.node_id) (w.source.port ∷ []), bytes_length 2 w.source.node_id)) in
    rw (
      number_back 2 w.source.node_id s (at + 1) a (left (bytes_of 2 w.source.node_id) (w.source.port ∷ []) s (at + 1) source),
      byte_back w.source.port s (at + 3) (right (bytes_of 2 w.source.node_id) (w.source.port ∷ []) s (at + 1) source (at + 3) (omega (arith, bytes_length 2 w.source.node_id))),
      number_back 2 w.target.node_id s (at + 4) b (left (bytes_of 2 w.target.node_id) (w.target.port ∷ []) s (at + 4) target),
      byte_back w.target.port s (at + 6) (right (bytes_of 2 w.target.node_id) (w.target.port ∷ []) s (at + 4) target (at + 6) (omega (arith, bytes_length 2 w.target.node_id))),
    )

-- ---- what was read is written again

number_again : (s : List ℕ) (i : ℕ) → ((k : ℕ) → byte s k < 256) → (byte s i ≡ u16_at s i % 256) × (byte s (i + 1) ≡ u16_at s i / 256 % 256)
unfolding number_at
number_again s i small = (omega (arith, small i, small (i + 1)), omega (arith, small i, small (i + 1)))

-- THE LAW: a wire's record is the bytes of the wire that it says
pub wire_again : (s : List ℕ) (at : ℕ) → ((k : ℕ) → byte s k < 256) → byte s at ≡ 2 → at + 7 ≤ length s → take 7 (drop at s) ≡ wire_bytes (wire_at s at)
unfolding bytes_of
wire_again s at small kind room =
    let b1 : byte s (suc at) ≡ u16_at s (at + 1) % 256 = ap (byte s) (omega arith) ∙ (number_again s (at + 1) small).0 in
    let b2 : byte s (suc (suc at)) ≡ u16_at s (at + 1) / 256 % 256 = ap (byte s) (omega arith) ∙ (number_again s (at + 1) small).1 in
    let b3 : byte s (suc (suc (suc at))) ≡ byte s (at + 3) = ap (byte s) (omega arith) in
    let b4 : byte s (suc (suc (suc (suc at)))) ≡ u16_at s (at + 4) % 256 = ap (byte s) (omega arith) ∙ (number_again s (at + 4) small).0 in
    let b5 : byte s (suc (suc (suc (suc (suc at))))) ≡ u16_at s (at + 4) / 256 % 256 = ap (byte s) (omega arith) ∙ (number_again s (at + 4) small).1 in
    let b6 : byte s (suc (suc (suc (suc (suc (suc at)))))) ≡ byte s (at + 6) = ap (byte s) (omega arith) in
    rw (
      drop-cons s at 0 (omega arith),
      drop-cons s (suc at) 0 (omega arith),
      drop-cons s (suc (suc at)) 0 (omega arith),
      drop-cons s (suc (suc (suc at))) 0 (omega arith),
      drop-cons s (suc (suc (suc (suc at)))) 0 (omega arith),
      drop-cons s (suc (suc (suc (suc (suc at))))) 0 (omega arith),
      drop-cons s (suc (suc (suc (suc (suc (suc at)))))) 0 (omega arith),
    )
    cc
