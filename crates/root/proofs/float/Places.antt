-- The digits that a division brings to a whole root: with n = s * s + r, and q and u what r * 2 ^ 22 gives by 2 * s, the square of
-- s * 2 ^ 22 + q is n * 4 ^ 22 + q * q - u * 2 ^ 22.
use mathlib.Core.Path.{◌≡◌, subst}
use Prim.Native.Nat.{ℕ, ◌+◌, ◌-◌, ◌*◌, ◌/◌, ◌%◌, ◌^◌, ◌≤◌, ◌<◌}
use native.Mathlib.Nat.{lt_of_not-le, mul-le-mul, mul-le-mul_right, mod-lt, div-add-mod'}
use native.Mathlib.Omega.{arith}
use Rattle.root.specs.WholeRoot.{IsWholeRoot, whole_root_of}
use Rattle.root.proofs.Squares.{Floor, floor_same, root_lt, square_lt}
use Rattle.root.proofs.Floors.{floor_root}

pub record Division (n s r q u : ℕ) : Type 0 where
  pub low : 2 ^ 31 ≤ s
  pub high : s < 2 ^ 32
  pub remainder : r ≤ 2 * s
  pub digits : q ≤ 2 ^ 22
  pub square : q * q ≤ 2 ^ 44
  pub rest : u < 2 * s
  pub sum : (s * 2 ^ 22 + q) * (s * 2 ^ 22 + q) + u * 2 ^ 22 ≡ n * 4 ^ 22 + q * q

-- a root of 2 ^ 62 or more
low_root : (n s r : ℕ) → 2 ^ 62 ≤ n → IsWholeRoot n s r → 2 ^ 31 ≤ s
low_root n s r h k = let l = square_lt (2 ^ 31) (s + 1) (omega (arith, k.sum, k.bound)) in omega arith

products : (n s r q u : ℕ) → s * s + r ≡ n → q * (2 * s) + u ≡ r * 2 ^ 22 → (s * 2 ^ 22 + q) * (s * 2 ^ 22 + q) + u * 2 ^ 22 ≡ n * 4 ^ 22 + q * q
products n s r q u e f = omega arith

at_most : (s r q u : ℕ) → 0 < s → r ≤ 2 * s → q * (2 * s) + u ≡ r * 2 ^ 22 → q ≤ 2 ^ 22
at_most s r q u p h e = lt_of_not_le_suc (λ (g : 4194305 ≤ q). let k = mul-le-mul_right (2 * s) g in clash k)
  where
    clash : 4194305 * (2 * s) ≤ q * (2 * s) → ⊥
    clash k = omega arith

    lt_of_not_le_suc : (4194305 ≤ q → ⊥) → q ≤ 2 ^ 22
    lt_of_not_le_suc f = let l = lt_of_not-le f in omega arith

pub division : (n s r : ℕ) → 2 ^ 62 ≤ n → n < 2 ^ 64 → IsWholeRoot n s r → Division n s r (r * 2 ^ 22 / (2 * s)) (r * 2 ^ 22 % (2 * s))
division n s r h l k =
    let low : 2 ^ 31 ≤ s = low_root n s r h k in
    let pos : 0 < 2 * s = omega arith in
    let e : r * 2 ^ 22 / (2 * s) * (2 * s) + r * 2 ^ 22 % (2 * s) ≡ r * 2 ^ 22 = div-add-mod' (r * 2 ^ 22) (2 * s) in
    let d : r * 2 ^ 22 / (2 * s) ≤ 2 ^ 22 = at_most s r (r * 2 ^ 22 / (2 * s)) (r * 2 ^ 22 % (2 * s)) (omega arith) k.bound e in
    record {
      low = low;
      high = root_lt s n (omega (arith, k.sum)) l;
      remainder = k.bound;
      digits = d;
      square = mul-le-mul d d;
      rest = mod-lt (r * 2 ^ 22) pos;
      sum = products n s r (r * 2 ^ 22 / (2 * s)) (r * 2 ^ 22 % (2 * s)) k.sum e;
    }

-- the root is R, or one less
whole : (N R square over : ℕ) → R * R + over ≡ N + square → square ≤ over → over ≤ 2 * R → R ≡ whole_root_of N
whole N R square over e h l = floor_same (record { low = omega arith; high = omega arith }) (floor_root N)

one_less : (N R square over : ℕ) → R * R + over ≡ N + square → over < square → square ≤ R → R - 1 ≡ whole_root_of N
one_less N R square over e h l = floor_same (less (R - 1) (omega arith)) (floor_root N)
  where
    less : (p : ℕ) → R ≡ p + 1 → Floor N p
    less p g =
        let f : (p + 1) * (p + 1) + over ≡ N + square = subst (λ (x : ℕ). x * x + over ≡ N + square) g e in
        record { low = omega arith; high = omega arith }

pub at_root : {n s r q u : ℕ} → Division n s r q u → q * q ≤ u * 2 ^ 22 → s * 2 ^ 22 + q ≡ whole_root_of (n * 4 ^ 22)
at_root {n} {s} {r} {q} {u} d h = whole (n * 4 ^ 22) (s * 2 ^ 22 + q) (q * q) (u * 2 ^ 22) d.sum h (omega (arith, d))

pub below_root : {n s r q u : ℕ} → Division n s r q u → u * 2 ^ 22 < q * q → s * 2 ^ 22 + q - 1 ≡ whole_root_of (n * 4 ^ 22)
below_root {n} {s} {r} {q} {u} d h = one_less (n * 4 ^ 22) (s * 2 ^ 22 + q) (q * q) (u * 2 ^ 22) d.sum h (omega (arith, d))
