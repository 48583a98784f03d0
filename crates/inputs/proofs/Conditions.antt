-- Variants of kinds and of inputs, and rows of the table.
use Rattle.std.specs.Prelude.{Option}
use Rattle.std.proofs.lemmas.Bool.Decides.{nat_tests}
use Prim.Native.Nat.{ℕ, ◌<◌}
use native.Mathlib.Omega.{arith}
use mathlib.Core.Path.{◌≡◌, refl, ◌∙◌}
use mathlib.Core.Bool.{Bool, true, cond}
use mathlib.Core.List.{List, [], ◌∷◌}
use lib.Dec.{eqb}
use Rattle.ir.specs.Classes.{class_count}
use Rattle.ir.specs.Variants.{variant_count}
use Rattle.value.specs.Variants.{variant_of, in_variant}
use Rattle.value.specs.declared.Value.{Value}
use Rattle.encoding.specs.Values.{value_at, composite_or_text_at}
use Rattle.encoding.specs.Words.{held_composite_or_text, held_value}
use Rattle.graph.specs.Graph.{Graph}
use Rattle.graph.specs.declared.Row.{Row}
use Rattle.table.specs.Table.{covers as tableCovers, has_cell}
use Rattle.model.specs.Maps.{any}
use Rattle.model.specs.Inputs.{carried, operand_of}
use Rattle.model.specs.Offer.{row_of, same_row, covers}
use Rattle.model.specs.declared.Resolved.{Resolved}
use Rattle.state.specs.Held.{held}
use Rattle.inputs.specs.Inputs.{input_if, kind_variant}

-- ---- the variant of a kind

module _ (x y z u v w q t : Value) (hx : variant_of x ≡ 1) (hy : variant_of y ≡ 2) (hz : variant_of z ≡ 3) (hu : variant_of u ≡ 4) (hv : variant_of v ≡ 5) (hw : variant_of w ≡ 6) (hq : variant_of q ≡ 7) (ht : variant_of t ≡ 8) where
  abbrev by_kind : ℕ → Value
  by_kind k = cond (eqb k 3) x (cond (eqb k 4) y (cond (eqb k 5) z (cond (eqb k 6) u (cond (eqb k 7) v (cond (eqb k 8) w (cond (eqb k 9) q t))))))

  kind_variant_lem : (k : ℕ) → variant_of (by_kind k) ≡ kind_variant k
  kind_variant_lem k = grind (arith, nat_tests)

held_value_lem : (k a b c d : ℕ) → variant_of (held_value k a b c d) ≡ kind_variant k
unfolding held_value held_composite_or_text
held_value_lem k a b c d = kind_variant_lem _ _ _ _ _ _ _ _ refl refl refl refl refl refl refl refl k

pub value_at_lem : (k : ℕ) (s : List ℕ) (i : ℕ) → variant_of (value_at k s i) ≡ kind_variant k
unfolding value_at composite_or_text_at
value_at_lem k s i = kind_variant_lem _ _ _ _ _ _ _ _ refl refl refl refl refl refl refl refl k

pub held_some : (k a b c d : ℕ) → (k ≡ 0 → ⊥) → kind_variant k ≡ in_variant (operand_of (carried (held k a b c d)))
unfolding held
held_some k a b c d e = grind (arith, nat_tests, held_value_lem)

-- ---- an input that a gate may have

pub has_input : {has : Bool} (i : Resolved) → has ≡ true → i ≡ input_if has i
has_input i e = rw e

-- ---- rows

among : (rows : List Row) (row : Row) → tableCovers rows row ≡ any (λ q. same_row q row) rows
unfolding tableCovers any
among [] row = refl
among (r ∷ rows) row = cc (among rows row)

-- t says whether the table has the row of these operands
pub covers_row : (g : Graph) (class : ℕ) (os : List (Option Value)) {t : Bool} → t ≡ tableCovers g.rows (row_of class os) → t ≡ covers g class os
unfolding covers
covers_row g class os e = e ∙ among g.rows (row_of class os)

pub few_in : (o : Option Value) → in_variant o < variant_count
few_in o = grind (arith, nat_tests)

-- a row of variants has a cell
pub has_cell_lem : {class x y z : ℕ} → class < class_count → x < variant_count → y < variant_count → z < variant_count → has_cell (record { class = class; first = x; second = y; third = z }) ≡ true
has_cell_lem h p q r = grind (arith, nat_tests)
