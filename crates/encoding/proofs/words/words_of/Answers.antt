-- `encoding::words::words_of` meets its contract.
use mathlib.Core.Path.{◌≡◌, refl, ◌∙◌, ap}
use mir.Facts.{to_z-of_z}
use mir.Syntax.{w64}
use mir.Val.{of_z, bool_byte}
use lib.Dec.{eqb}
use mathlib.Core.Bool.{Bool, true, false}
use borrow.Author.Rules.{rules}
use Rattle.encoding.proofs.Held.{held_int, held_float, held_bool, held_vector, held_rotator, held_quat, held_color, held_text}
use Rattle.encoding.proofs.words.words_of.Goals as goal

-- the library's word of a flag
one_if : (b : Bool) → eqb (bool_byte b) 1 ≡ b
one_if true = refl
one_if false = refl

pub returns-in-Int : goal.returns-in-Int
returns-in-Int c = rw c.in-Int.is (held_int _ (search rules) (c.to_bits.ensures ∙ ap (of_z w64) (to_z-of_z {w = w64} {z = c.in-Int.n} (search rules))))

pub returns-in-Float : goal.returns-in-Float
returns-in-Float c = rw c.in-Float.is (held_float _ (search rules) c.to_bits-in-Float.ensures)

pub returns-in-Bool : goal.returns-in-Bool
returns-in-Bool c = rw c.in-Bool.is (held_bool _ (ap (λ n. eqb n 1) c.from.ensures ∙ one_if c.in-Bool.b))

pub returns-in-Vector : goal.returns-in-Vector
returns-in-Vector c = rw c.in-Vector.is (held_vector c.three_words.result c.three_words.ensures)

pub returns-in-Rotator : goal.returns-in-Rotator
returns-in-Rotator c = rw c.in-Rotator.is (held_rotator c.three_words-in-Rotator.result c.three_words-in-Rotator.ensures)

pub returns-in-Quat : goal.returns-in-Quat
returns-in-Quat c = rw c.in-Quat.is (held_quat c.four_words.result c.four_words.ensures)

pub returns-in-Color : goal.returns-in-Color
returns-in-Color c = rw c.in-Color.is (held_color c.four_words-in-Color.result c.four_words-in-Color.ensures)

pub returns-in-Text : goal.returns-in-Text
returns-in-Text c = rw c.in-Text.is (held_text refl)
