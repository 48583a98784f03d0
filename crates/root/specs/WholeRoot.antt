-- Document 01, "for any unsigned 64-bit number its whole root and the exact remainder".
use Rattle.std.specs.Prelude.{◌≡◌, cond, ℕ, zero, suc, ◌+◌, ◌*◌, ◌≤◌, leb}

-- "Root squared plus remainder is the number, and the remainder is at most twice the root"
pub record IsWholeRoot (n root remainder : ℕ) : Type 0 where
  pub sum : root * root + remainder ≡ n
  pub bound : remainder ≤ 2 * root

-- no other two numbers are the root and remainder of n
pub record OnlyWholeRoot (n root remainder : ℕ) : Type 0 where
  pub same_root : (a b : ℕ) → IsWholeRoot n a b → a ≡ root
  pub same_remainder : (a b : ℕ) → IsWholeRoot n a b → b ≡ remainder

-- the largest r up to k with r * r ≤ n
unfoldable pub root_up_to : ℕ → ℕ → ℕ
root_up_to zero n = 0
root_up_to (suc k) n = cond (leb (suc k * suc k) n) (suc k) (root_up_to k n)

-- the largest r with r * r ≤ n
unfoldable pub whole_root_of : ℕ → ℕ
whole_root_of n = root_up_to n n
