-- Whole roots: squares keep the order, and a number has one root.
use mathlib.Core.Path.{◌≡◌, ap}
use Prim.Native.Nat.{ℕ, ◌+◌, ◌*◌, ◌^◌, ◌≤◌, ◌<◌}
use native.Mathlib.Nat.{lt_of_not-le, not-le_of_lt, mul-le-mul, le_antisymm}
use native.Mathlib.Omega.{arith}
use Rattle.root.specs.WholeRoot.{IsWholeRoot, OnlyWholeRoot}

pub square_lt : (a b : ℕ) → a * a < b * b → a < b
square_lt a b h = lt_of_not-le (λ (g : b ≤ a). not-le_of_lt h (mul-le-mul g g))

-- the root of a u64 is a u32
pub root_lt : (a n : ℕ) → a * a ≤ n → n < 2 ^ 64 → a < 2 ^ 32
root_lt a n h l = square_lt a (2 ^ 32) (omega arith)

-- r is the largest number whose square is at most n
pub record Floor (n r : ℕ) : Type 0 where
  pub low : r * r ≤ n
  pub high : n < (r + 1) * (r + 1)

pub floor_of_lem : {n r s : ℕ} → IsWholeRoot n r s → Floor n r
floor_of_lem {n} {r} {s} h = record { low = omega (arith, h.sum); high = omega (arith, h.sum, h.bound) }

floor_le : {n a b : ℕ} → Floor n a → Floor n b → a ≤ b
floor_le {n} {a} {b} h k = let l = square_lt a (b + 1) (omega (arith, h.low, k.high)) in omega arith

pub floor_same : {n a b : ℕ} → Floor n a → Floor n b → a ≡ b
floor_same h k = le_antisymm (floor_le h k) (floor_le k h)

pub only_root : {n r s : ℕ} → IsWholeRoot n r s → OnlyWholeRoot n r s
only_root {n} {r} {s} h = record {
  same_root = λ a b k. floor_same (floor_of_lem k) (floor_of_lem h);
  same_remainder = λ a b k.
      let e : a * a ≡ r * r = ap (λ (x : ℕ). x * x) (floor_same (floor_of_lem k) (floor_of_lem h)) in
      omega (arith, h.sum, k.sum);
}
