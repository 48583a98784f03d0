-- The numbers of rows, and the set of them.
use Prim.Native.Nat.{ℕ, ◌+◌, ◌/◌, ◌≤◌, ◌<◌}
use native.Mathlib.Numerals.{add-one}
use native.Mathlib.Omega.{arith}
use mathlib.Core.Logic.{◌↔◌}
use mathlib.Core.Path.{◌≡◌, refl, sym, ap, ap₂, subst, ◌∙◌}
use mathlib.Core.Bool.{Bool, true, false, cond, ◌&&◌, ◌||◌, or_assoc, or-false, false≢true}
use mathlib.Core.List.{List, [], ◌∷◌, ◌++◌}
use lib.Dec.{eqb, ltb, leb}
use lib.ListN.{length, get_or, take, replicate, length-replicate, get_or-eq_default}
use lib.Seq.{take-suc, take_all}
use borrow.Author.Tests.{ltb-true, ltb-false, leb-true, lt-ltb, eqb-true, eq-eqb, ne_eqb}
use Rattle.ir.specs.Classes.{classes, class_count, folding_of, input_count, has_rows}
use Rattle.ir.specs.declared.Folding.{Folding}
use Rattle.ir.specs.declared.Role.TheVariants.{Row as RowRole}
use Rattle.graph.specs.Graph.{row_at}
use Rattle.graph.specs.Questions.{is_variant, is_listed}
use Rattle.graph.specs.declared.Row.{Row}
use Rattle.graph.proofs.Roles.{and_left, and_right}
use Rattle.records.specs.Access.{rows_of, no_row}
use Rattle.ir.specs.Variants.{text_variant, variant_count}
use Rattle.table.specs.Table.{covers, is_row, has_cell, row_number, VariantsFit, SameNumber, number_count, word_count, Marks, Cells}
use Rattle.records.proofs.Runs.{rows_length}
use Rattle.table.proofs.Bits.{none_set}

covers_snoc : (xs : List Row) (x row : Row) → covers (xs ++ (x ∷ [])) row ≡ (covers xs row || is_row x row)
unfolding covers
covers_snoc [] x row = or-false (is_row x row)
covers_snoc (y ∷ xs) x row =
    ap (λ (t : Bool). is_row y row || t) (covers_snoc xs x row) ∙ sym (or_assoc (is_row y row) (covers xs row) (is_row x row))

all_four : (a b c d : Bool) → (a && b && c && d) ≡ true → (a ≡ true) × (b ≡ true) × (c ≡ true) × (d ≡ true)
all_four a b c d e =
    let abc = and_left (a && b && c) d e in
    let ab = and_left (a && b) c abc in
    (and_left a b ab, and_right a b ab, and_right (a && b) c abc, and_right (a && b && c) d e)

-- ---- rows that are the same

same : (q r : Row) → q.class ≡ r.class → q.first ≡ r.first → q.second ≡ r.second → q.third ≡ r.third → q ≡ r
same q r a b c d = λ i. record { class = a i; first = b i; second = c i; third = d i }

is_row_lem : (q r : Row) → is_row q r ≡ true → q ≡ r
is_row_lem q r e =
    let h = all_four (eqb q.class r.class) (eqb q.first r.first) (eqb q.second r.second) (eqb q.third r.third) e in
    same q r (eqb-true _ _ h.0) (eqb-true _ _ h.1) (eqb-true _ _ h.2) (eqb-true _ _ h.3)

row_is : (q r : Row) → q ≡ r → is_row q r ≡ true
row_is q r e =
    ap (is_row q) (sym e)
    ∙ rw (eq-eqb q.class q.class refl, eq-eqb q.first q.first refl, eq-eqb q.second q.second refl, eq-eqb q.third q.third refl) refl

-- ---- the rows that the table answers for

listed : (r : Row) → has_cell r ≡ true → (r.class < class_count) × VariantsFit r
listed r e =
    let h = all_four (ltb r.class class_count) (ltb r.first variant_count) (ltb r.second variant_count) (ltb r.third variant_count) e in
    (ltb-true _ _ h.0, (ltb-true _ _ h.1, ltb-true _ _ h.2, ltb-true _ _ h.3))

pub within : (r : Row) → has_cell r ≡ true → row_number r < number_count
within r h = let l = listed r h in omega (arith, l.0, l.1.0, l.1.1, l.1.2)

-- a class that has rows is listed, and so is a variant that passes question 4
class_listed : (class : ℕ) → has_rows (folding_of class) ≡ true → ltb class class_count ≡ true
class_listed class h = go (ltb class class_count) refl
  where
    go : (b : Bool) → ltb class class_count ≡ b → b ≡ true
    go true e = refl
    go false e = absurd (false≢true (sym (ap has_rows (get_or-eq_default classes Folding.Never {n = class} (ltb-false class class_count e))) ∙ h))

variant_listed : (inputs place variant : ℕ) → is_variant inputs place variant ≡ true → ltb variant variant_count ≡ true
variant_listed inputs place variant = go (ltb place inputs)
  where
    go : (b : Bool) → cond b (leb variant text_variant) (eqb variant 0) ≡ true → ltb variant variant_count ≡ true
    go true e = lt-ltb variant variant_count (omega (arith, leb-true variant text_variant e))
    go false e = lt-ltb variant variant_count (omega (arith, eqb-true variant 0 e))

row_listed : (s : List ℕ) (at : ℕ) → is_listed RowRole s at ≡ true → has_cell (row_at s at) ≡ true
row_listed s at e =
    let row = row_at s at in
    let inputs = input_count (folding_of row.class) in
    let h = all_four (has_rows (folding_of row.class)) (is_variant inputs 0 row.first) (is_variant inputs 1 row.second) (is_variant inputs 2 row.third) e in
    rw (class_listed row.class h.0, variant_listed inputs 0 row.first h.1, variant_listed inputs 1 row.second h.2, variant_listed inputs 2 row.third h.3) refl

pub answers : (r : Row) {t : Bool} → t ≡ has_cell r
    → (t ≡ has_cell r) × (((s : List ℕ) (at : ℕ) → row_at s at ≡ r → is_listed RowRole s at ≡ true → t ≡ true) × (t ≡ true → VariantsFit r))
answers r e = (e, (λ s at q h. e ∙ ap has_cell (sym q) ∙ row_listed s at h, λ h. (listed r (sym e ∙ h)).1))

-- ---- the number of a row

-- two rows have the same number exactly when their class and all three variants agree
one_row : (q r : Row) → VariantsFit q → VariantsFit r → row_number q ≡ row_number r → q ≡ r
one_row q r (a, b, c) (x, y, z) e =
    let class : q.class ≡ r.class = omega (arith, a, b, c, x, y, z, e) in
    let first : q.first ≡ r.first = omega (arith, class, b, c, y, z, e) in
    let second : q.second ≡ r.second = omega (arith, class, first, c, z, e) in
    same q r class first second (omega (arith, class, first, second, e))

pub numbered : (q : Row) {n : ℕ} → n ≡ row_number q → (n ≡ row_number q) × ((r : Row) → SameNumber q r)
numbered q e = (e, λ r h k. (one_row q r h k, ap row_number))

-- ---- marking

decides : (q r : Row) → (row_number q ≡ row_number r) ↔ (q ≡ r) → eqb (row_number q) (row_number r) ≡ is_row q r
decides q r (to, from) = go (is_row q r) refl
  where
    go : (b : Bool) → is_row q r ≡ b → eqb (row_number q) (row_number r) ≡ b
    go true e = eq-eqb (row_number q) (row_number r) (from (is_row_lem q r e))
    go false e = ne_eqb (row_number q) (row_number r) (λ z. false≢true (sym e ∙ row_is q r (to z)))

-- y is the row x as it was read, and t whether the table answers for it
module _ (before : List Row) {x y : Row} (e : y ≡ x) {t : Bool} (h : t ≡ has_cell y) {cells : List ℕ} (m : Cells before cells) where
  pub marks_row : t ≡ true → (t ≡ true → VariantsFit y) → {n : ℕ} → n ≡ row_number y → ((r : Row) → SameNumber y r) → {after : List ℕ} → Marks cells n after → Cells (before ++ (x ∷ [])) after
  marks_row k fits {n} number law s =
      record {
        long = s.long ∙ m.long;
        marked = λ r l.
            s.numbers (row_number r)
            ∙ ap₂ ◌||◌ (m.marked r l) (ap (λ (i : ℕ). eqb i (row_number r)) number ∙ decides y r (law r (fits k) (listed r l).1) ∙ ap (λ (q : Row). is_row q r) e)
            ∙ sym (covers_snoc before x r);
      }

  pub passes_row : t ≡ false → Cells (before ++ (x ∷ [])) cells
  passes_row k = record { long = m.long; marked = λ r l. m.marked r l ∙ sym (covers_snoc before x r ∙ ap (λ (b : Bool). covers before r || b) (other r l (is_row x r) refl) ∙ or-false (covers before r)) }
    where
      other : (r : Row) → has_cell r ≡ true → (b : Bool) → is_row x r ≡ b → b ≡ false
      other r l true q = absurd (false≢true (sym k ∙ h ∙ ap has_cell (e ∙ is_row_lem x r q) ∙ l))
      other r l false q = refl

pub none_marked : Cells [] (replicate word_count 0)
unfolding covers
none_marked = record { long = length-replicate {A = ℕ} word_count 0; marked = λ r k. none_set word_count (row_number r) (omega (arith, within r k)) }

-- ---- the run of rows

module _ (rows : List ℕ) where
  pub further : (n k : ℕ) (cells after : List ℕ) → n ≡ length rows / 5 → k < n
      → ((before : List Row) → Cells before cells → Cells (before ++ (get_or (rows_of rows) k no_row ∷ [])) after)
      → Cells (take k (rows_of rows)) cells → Cells (take (k + 1) (rows_of rows)) after
  further n k cells after e h step m =
      subst (λ (l : List Row). Cells l after)
      (sym (ap (λ (i : ℕ). take i (rows_of rows)) (add-one k) ∙ take-suc (rows_of rows) k no_row (omega (arith, rows_length rows))))
      (step (take k (rows_of rows)) m)

  pub end : (n k : ℕ) (cells : List ℕ) → n ≡ length rows / 5 → n ≤ k → Cells (take k (rows_of rows)) cells → Cells (rows_of rows) cells
  end n k cells e h m = subst (λ (l : List Row). Cells l cells) (take_all k (rows_of rows) (omega (arith, rows_length rows))) m
