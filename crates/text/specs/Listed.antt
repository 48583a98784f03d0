-- Document 01, question 4: "Is .. a text's length and each of its bytes" one listed? "each used one from 32 to 126 decimal and the rest 0".
use Rattle.std.specs.Prelude.{ℕ, zero, suc, ◌+◌, Bool, true, cond, ◌&&◌, List, ltb, leb, eqb, get_or}
use Rattle.text.specs.Text.{max_text}

-- from space to tilde
abbrev pub first_char : ℕ
first_char = 32

abbrev pub last_char : ℕ
last_char = 126

-- whether a byte may stand at a place of a text of this length
abbrev pub is_char : ℕ → ℕ → ℕ → Bool
is_char length place x = cond (ltb place length) (leb first_char x && leb x last_char) (eqb x 0)

-- the first n bytes of a text of this length, from an offset on
unfoldable pub are_chars : ℕ → ℕ → List ℕ → ℕ → Bool
are_chars length zero s at = true
are_chars length (suc n) s at = are_chars length n s at && is_char length n (get_or s (at + n) 0)

-- the length and the bytes of a text, and how many bytes these are
abbrev pub text_value_size : ℕ
text_value_size = 1 + max_text

-- whether they stand at an offset
unfoldable pub is_listed_text : List ℕ → ℕ → Bool
is_listed_text s at = leb (get_or s at 0) max_text && are_chars (get_or s at 0) max_text s (at + 1)
