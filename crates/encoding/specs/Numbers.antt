-- Document 01, "Records": "little-endian". Bytes are read and written in place: `s` is the whole list and `i` an offset in it.
use Rattle.std.specs.Prelude.{ℕ, zero, suc, ◌+◌, ◌*◌, ◌/◌, ◌%◌, ◌≡◌, List, [], ◌∷◌, ◌++◌, length, get_or, take, drop}

abbrev pub byte : List ℕ → ℕ → ℕ
byte s i = get_or s i 0

-- the number that n bytes write, the low byte first
unfoldable pub number_at : ℕ → List ℕ → ℕ → ℕ
number_at zero s i = 0
number_at (suc n) s i = byte s i + 256 * number_at n s (i + 1)

abbrev pub u16_at : List ℕ → ℕ → ℕ
u16_at = number_at 2

abbrev pub u64_at : List ℕ → ℕ → ℕ
u64_at = number_at 8

-- the n low bytes of a number, the lowest first
unfoldable pub bytes_of : ℕ → ℕ → List ℕ
bytes_of zero x = []
bytes_of (suc n) x = x % 256 ∷ bytes_of n (x / 256)

-- the list with these bytes in place of those from an offset on
unfoldable pub splice : List ℕ → ℕ → List ℕ → List ℕ
splice s i bs = take i s ++ (bs ++ drop (i + length bs) s)

-- these bytes were written from an offset on, and nothing else; `next` is the offset past them
pub record Written (bs before after : List ℕ) (at next : ℕ) : Type 0 where
  pub wrote : after ≡ splice before at bs
  pub past : next ≡ at + length bs
