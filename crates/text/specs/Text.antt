-- Document 01, "0C text: .. length 1 (0 to 16), then 16 bytes, each used one from 32 to 126 decimal and the rest 0". The 16 bytes are two words,
-- low byte first. A used byte isn't 0, so the words say the length too.
use Rattle.std.specs.Prelude.{ℕ, zero, suc, ◌+◌, ◌*◌, ◌/◌, ◌%◌, ◌^◌, Bool, true, false, cond, ◌&&◌, ◌||◌, List, [], ◌∷◌, eqb, length}

-- how many bytes a text has at most
abbrev pub max_text : ℕ
max_text = 16

-- at most n bytes of a number, from the lowest to the last that isn't 0
unfoldable pub used_bytes : ℕ → ℕ → List ℕ
used_bytes zero x = []
used_bytes (suc n) x = cond (eqb x 0) [] (x % 256 ∷ used_bytes n (x / 256))

-- the words as one number
abbrev pub words_number : ℕ → ℕ → ℕ
words_number low high = low + 2 ^ 64 * high

-- the bytes of the text that the words hold
abbrev pub text_of : ℕ → ℕ → List ℕ
text_of low high = used_bytes max_text (words_number low high)

abbrev pub text_length : ℕ → ℕ → ℕ
text_length low high = length (text_of low high)

-- "byte for byte"
unfoldable pub eq_bytes : List ℕ → List ℕ → Bool
eq_bytes [] [] = true
eq_bytes [] (b ∷ ys) = false
eq_bytes (a ∷ xs) [] = false
eq_bytes (a ∷ xs) (b ∷ ys) = eqb a b && eq_bytes xs ys

abbrev pub is_text : ℕ → ℕ → List ℕ → Bool
is_text low high bs = eq_bytes (text_of low high) bs

-- `0` and `false`
abbrev pub zero_text : List ℕ
zero_text = 48 ∷ []

abbrev pub false_text : List ℕ
false_text = 102 ∷ 97 ∷ 108 ∷ 115 ∷ 101 ∷ []

-- "Text is false for empty, `0` and `false`, else true"
unfoldable pub is_false : ℕ → ℕ → Bool
is_false low high = is_text low high [] || is_text low high zero_text || is_text low high false_text

-- ---- a word by itself

abbrev pub word_length : ℕ → ℕ
word_length x = length (used_bytes 8 x)
