-- Document 01, "The service sheet": what a line says, in characters.
use Rattle.std.specs.Prelude.{ℕ, zero, suc, ◌+◌, ◌-◌, ◌/◌, ◌%◌, ◌≤◌, ◌≡◌, cond, List, [], ◌∷◌, ◌++◌, ltb, length, replicate}
use Prim.Native.Char.{code}
use Prim.Native.String as Text
use Prim.Native.String.{String}
use Rattle.sheet_line.specs.Limits.{line_width}
use Rattle.text.specs.Listed.{first_char, last_char}
use Rattle.model.specs.Maps.{All}
use Rattle.model.specs.Answer.{each}
use Rattle.sheet_line.specs.declared.Fate.{Fate}
use Rattle.sheet_line.specs.declared.Fate.TheVariants.{Kept, Removed, Int, Float, Bool, Vector}
use Rattle.sheet_line.specs.declared.Line.{Line}

-- ---- characters

-- those of a fixed text
abbrev pub ascii : String → List ℕ
ascii Text.[] = []
ascii (Text.◌∷◌ c s) = code c ∷ ascii s

abbrev pub space : ℕ
space = code " "

abbrev pub spaces : ℕ → List ℕ
spaces n = replicate n space

-- "decimal": the last digit of a number
abbrev pub digit : ℕ → ℕ
digit n = code "0" + n % 10

-- a number "right-aligned" in so many places
unfoldable pub aligned : ℕ → ℕ → List ℕ
aligned zero n = []
aligned (suc places) n = cond (ltb n 10) (spaces places) (aligned places (n / 10)) ++ (digit n ∷ [])

-- "capital hexadecimal": the last digit of a number
abbrev pub hex_digit : ℕ → ℕ
hex_digit n = cond (ltb (n % 16) 10) (code "0" + n % 16) (code "A" + (n % 16 - 10))

-- so many of its last digits, the most significant first
unfoldable pub hex : ℕ → ℕ → List ℕ
hex zero n = []
hex (suc places) n = hex places (n / 16) ++ (hex_digit n ∷ [])

-- ---- a line

-- "the node number right-aligned in 4, two spaces, the class right-aligned in 2, both decimal, two spaces"
abbrev pub head_text : ℕ → ℕ → List ℕ
head_text node class = aligned 4 node ++ (spaces 2 ++ (aligned 2 class ++ spaces 2))

-- "K for kept, R for removed, or I, F, B, V for made an Int, Float, Bool, Vector literal"
abbrev pub letter_of : Fate → ℕ
letter_of Kept = code "K"
letter_of Removed = code "R"
letter_of (Int a) = code "I"
letter_of (Float a) = code "F"
letter_of (Bool b) = code "B"
letter_of (Vector x y z) = code "V"

-- "an Int or Float as its bits, a Bool as 0 or 1, a Vector as three"
abbrev pub numbers_of : Fate → List ℕ
numbers_of Kept = []
numbers_of Removed = []
numbers_of (Int a) = a ∷ []
numbers_of (Float a) = a ∷ []
numbers_of (Bool b) = cond b 1 0 ∷ []
numbers_of (Vector x y z) = x ∷ y ∷ z ∷ []

-- "two spaces and 16 capital hexadecimal digits for each number"
abbrev pub number_text : ℕ → List ℕ
number_text n = spaces 2 ++ hex 16 n

unfoldable pub fate_text : Fate → List ℕ
fate_text f = letter_of f ∷ each number_text (numbers_of f)

unfoldable pub text : Line → List ℕ
text l = head_text l.node l.class ++ fate_text l.fate

-- "Spaces fill the line"
unfoldable pub filled : List ℕ → List ℕ
filled t = t ++ spaces (line_width - length t)

-- the 72 characters of a line
abbrev pub characters : Line → List ℕ
characters l = filled (text l)

-- "each of 72 characters and a newline"
abbrev pub ended : List ℕ → List ℕ
ended t = filled t ++ (code "\n" ∷ [])

-- "the fixed text `NODE  CL  F`"
abbrev pub header_text : List ℕ
header_text = ascii "NODE  CL  F"

-- ---- "every line has its width"

-- from space to tilde
abbrev pub Printable : ℕ → Type 0
Printable c = (first_char ≤ c) × (c ≤ last_char)

-- 72 characters that can be printed, and a newline
pub record Wide (line : List ℕ) : Type 0 where
  pub characters : List ℕ
  pub width : length characters ≡ line_width
  pub printable : All Printable characters
  pub is_ended : line ≡ characters ++ (code "\n" ∷ [])
