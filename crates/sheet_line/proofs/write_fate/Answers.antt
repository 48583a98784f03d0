-- `sheet_line::write_fate` meets its contract.
use Rattle.sheet_line.proofs.Pieces.{letter_alone, letter_number, as_fate, bool_number}
use Rattle.sheet_line.specs.declared.Fate.{Fate}
use Prim.Native.Nat.{ℕ}
use mathlib.Core.List.{[], ◌∷◌}
use mathlib.Core.Path.{refl, sym, ap, ◌∙◌}
use Rattle.sheet_line.proofs.write_fate.Goals as goal

pub returns-in-Kept : goal.returns-in-Kept
returns-in-Kept c = letter_alone Fate.Kept c.in-Kept.is refl c.write_byte.ensures

pub returns-in-Removed : goal.returns-in-Removed
returns-in-Removed c = letter_alone Fate.Removed c.in-Removed.is refl c.write_byte-in-Removed.ensures

pub returns-in-Int : goal.returns-in-Int
returns-in-Int c = letter_number (Fate.Int _) c.in-Int.is _ refl c.write_one.ensures

pub returns-in-Float : goal.returns-in-Float
returns-in-Float c = letter_number (Fate.Float _) c.in-Float.is _ refl c.write_one-in-Float.ensures

pub returns-in-Bool : goal.returns-in-Bool
returns-in-Bool c = letter_number (Fate.Bool _) c.in-Bool.is _ (ap (λ (n : ℕ). n ∷ []) (bool_number _ ∙ sym c.from.ensures)) c.write_one-in-Bool.ensures

pub returns-in-Vector : goal.returns-in-Vector
returns-in-Vector c = as_fate c.in-Vector.is c.write_vector.ensures
