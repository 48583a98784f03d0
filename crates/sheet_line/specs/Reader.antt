-- "the fates can be read back from it": what a line says, by its 72 characters alone.
use Rattle.std.specs.Prelude.{ℕ, zero, suc, ◌+◌, ◌-◌, ◌*◌, ◌^◌, ◌<◌, ◌≡◌, cond, List, eqb, ltb, get_or, Option, None, Some}
use Prim.Native.Char.{code}
use Rattle.text.specs.Text.{eq_bytes}
use Rattle.model.specs.Maps.{All}
use Rattle.sheet_line.specs.declared.Fate.{Fate}
use Rattle.sheet_line.specs.declared.Fate.TheVariants.{Kept, Removed, Int, Float, Bool, Vector}
use Rattle.sheet_line.specs.declared.Line.{Line}
use Rattle.sheet_line.specs.Characters.{numbers_of, characters}

-- the number that n characters from a column on write, a space as 0
unfoldable pub decimal_at : ℕ → List ℕ → ℕ → ℕ
decimal_at zero s column = 0
decimal_at (suc n) s column = 10 * decimal_at n s column + (get_or s (column + n) 0 - code "0")

abbrev pub hex_value : ℕ → ℕ
hex_value c = cond (ltb c (code "A")) (c - code "0") (10 + (c - code "A"))

unfoldable pub hex_at : ℕ → List ℕ → ℕ → ℕ
hex_at zero s column = 0
hex_at (suc n) s column = 16 * hex_at n s column + hex_value (get_or s (column + n) 0)

-- a fate by its letter and what stands in the columns of three numbers
abbrev pub fate_at : ℕ → ℕ → ℕ → ℕ → Fate
fate_at letter x y z =
    cond (eqb letter (code "R")) Removed
    (cond (eqb letter (code "I")) (Int x)
    (cond (eqb letter (code "F")) (Float x)
    (cond (eqb letter (code "B")) (Bool (eqb x 1))
    (cond (eqb letter (code "V")) (Vector x y z)
    Kept))))

-- what stands in the columns of a line
abbrev pub columns : List ℕ → Line
columns s = record { node = decimal_at 4 s 0; class = decimal_at 2 s 6; fate = fate_at (get_or s 10 0) (hex_at 16 s 13) (hex_at 16 s 31) (hex_at 16 s 49) }

-- that, where these are the characters of its line, and nothing where they are those of no line
unfoldable pub read_line : List ℕ → Option Line
read_line s = cond (eq_bytes s (characters (columns s))) (Some (columns s)) None

-- the number and the class of a line fit its columns, and the numbers of its fate have 64 bits
pub record Fits (l : Line) : Type 0 where
  pub node : l.node < 10 ^ 4
  pub class : l.class < 10 ^ 2
  pub numbers : All (λ x. x < 16 ^ 16) (numbers_of l.fate)

-- a line that fits is read back from its characters, and no other characters are read as it
pub record ReadsBack (l : Line) : Type 0 where
  pub back : Fits l → read_line (characters l) ≡ Some l
  pub only : (s : List ℕ) → read_line s ≡ Some l → s ≡ characters l
