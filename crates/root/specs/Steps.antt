-- How far each step of a root has come: what passes between the functions.
use Rattle.std.specs.Prelude.{◌≡◌, ℕ, ◌+◌, ◌-◌, ◌*◌, ◌%◌, ◌^◌, ◌≤◌, ◌<◌}

-- n is above 0, and a less than 1 away from its root
pub record Near (n a : ℕ) : Type 0 where
  pub below : (a - 1) * (a - 1) < n
  pub above : n < (a + 1) * (a + 1)

-- significand * 2 ^ shift has its highest digit in one of the two highest places of a u64, and is at most the largest significand's shifted
-- by 11; shift and exponent are both even or both odd
pub record EvenShift (significand exponent shift : ℕ) : Type 0 where
  pub within : shift < 64
  pub least : 2 ^ 62 ≤ significand * 2 ^ shift
  pub most : significand * 2 ^ shift + 2 ^ 11 ≤ 2 ^ 64
  pub even : (exponent + shift) % 2 ≡ 0
