-- `sheet_line::hex_word` meets its contract by `word`. No sum wraps: the masks bound each word. Assumes nothing.
use Prim.Native.Nat.{ℕ, ◌+◌, ◌-◌, ◌*◌, ◌/◌, ◌^◌, ◌≤◌, ◌<◌}
use native.Mathlib.Omega.{arith}
use lib.Bits.{and_le_l, and_le_r}
use Rattle.sheet_line.proofs.Lanes.{fours, pairs, digits, word}
use Rattle.sheet_line.proofs.hex_word.Goals as goal

pairs_lt : (n : ℕ) → n < 2 ^ 32 → pairs n < 2 ^ 57
pairs_lt n h = sum (fours n) _ (omega arith) (and_le_r (fours n) 0x000000FF000000FF)
  where
    sum : (x b : ℕ) → x < 2 ^ 48 → b ≤ 0x000000FF000000FF → (x - b) / 256 + b * 65536 < 2 ^ 57
    sum x b h l = omega arith

digits_lt : (n : ℕ) → n < 2 ^ 32 → digits n < 2 ^ 61
digits_lt n h = sum (pairs n) _ (pairs_lt n h) (and_le_r (pairs n) 0x000F000F000F000F)
  where
    sum : (x b : ℕ) → x < 2 ^ 57 → b ≤ 0x000F000F000F000F → (x - b) / 16 + b * 256 < 2 ^ 61
    sum x b h l = omega arith

pub overflow_mul-fours : goal.overflow_mul-fours
overflow_mul-fours c = omega arith

pub overflow_add-fours : goal.overflow_add-fours
overflow_add-fours c = omega arith

pub overflow_sub-pairs : goal.overflow_sub-pairs
overflow_sub-pairs c = and_le_l _ _

pub overflow_mul-pairs : goal.overflow_mul-pairs
overflow_mul-pairs c = omega (arith, and_le_r (fours c.args.n) 0x000000FF000000FF)

pub overflow_add-pairs : goal.overflow_add-pairs
overflow_add-pairs c = omega (arith, pairs_lt c.args.n c.requires)

pub overflow_sub-digits : goal.overflow_sub-digits
overflow_sub-digits c = and_le_l _ _

pub overflow_mul-digits : goal.overflow_mul-digits
overflow_mul-digits c = omega (arith, and_le_r (pairs c.args.n) 0x000F000F000F000F)

pub overflow_add-digits : goal.overflow_add-digits
overflow_add-digits c = omega (arith, digits_lt c.args.n c.requires)

pub overflow_add-carried : goal.overflow_add-carried
overflow_add-carried c = omega (arith, digits_lt c.args.n c.requires)

pub overflow_sub-letters : goal.overflow_sub-letters
overflow_sub-letters c = and_le_l _ _

pub overflow_add-result : goal.overflow_add-result
overflow_add-result c = omega (arith, digits_lt c.args.n c.requires)

pub overflow_mul-result : goal.overflow_mul-result
overflow_mul-result c = omega (arith, digits_lt c.args.n c.requires)

pub overflow_add-result-2 : goal.overflow_add-result-2
overflow_add-result-2 c = omega (arith, digits_lt c.args.n c.requires)

pub returns : goal.returns
returns c = word c.args.n c.requires
