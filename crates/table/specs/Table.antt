-- Document 01, "`covers` is membership of the exact row", and "0B annihilator: .. 12 (a false settles it) or 13 (a true settles it)".
use Rattle.std.specs.Prelude.{ℕ, ◌+◌, ◌-◌, ◌*◌, ◌/◌, ◌%◌, ◌^◌, ◌<◌, ◌≡◌, ◌↔◌, Bool, true, false, cond, ◌&&◌, ◌||◌, List, [], ◌∷◌, eqb, ltb, length, get_or, Option, None, Some}
use Rattle.ir.specs.Classes.{class_count, is_class}
use Rattle.ir.specs.Variants.{variant_count}
use Rattle.whole.specs.Bits.{bit}
use Rattle.graph.specs.declared.Counts.{Counts}
use Rattle.graph.specs.declared.Row.{Row}
use Rattle.table.specs.declared.AnnihilatorKind.{AnnihilatorKind}
use Rattle.table.specs.declared.AnnihilatorKind.TheVariants.{AndFalse, OrTrue}

-- whether two rows agree in class and all three variants
abbrev pub is_row : Row → Row → Bool
is_row a b = eqb a.class b.class && eqb a.first b.first && eqb a.second b.second && eqb a.third b.third

-- whether a row is among rows
unfoldable pub covers : List Row → Row → Bool
covers [] row = false
covers (r ∷ rs) row = is_row r row || covers rs row

-- the rows that the table answers for, those that have a cell: of a listed class and listed variants
abbrev pub has_cell : Row → Bool
has_cell r = is_class r.class && ltb r.first variant_count && ltb r.second variant_count && ltb r.third variant_count

-- Document 02, Wish 3, "form the wanted row as a single number": the class, then the variants as three digits to the base of their count
abbrev pub row_number : Row → ℕ
row_number r = ((r.class * variant_count + r.first) * variant_count + r.second) * variant_count + r.third

-- each variant is such a digit
abbrev pub VariantsFit : Row → Type 0
VariantsFit r = (r.first < variant_count) × (r.second < variant_count) × (r.third < variant_count)

-- "two rows have the same number exactly when their class and all three variants agree", of rows whose variants are such digits
abbrev pub SameNumber : Row → Row → Type 0
SameNumber q r = VariantsFit q → VariantsFit r → (row_number q ≡ row_number r) ↔ (q ≡ r)

-- how many numbers there are of rows of a listed class whose variants fit, and how many words hold a bit for each
abbrev pub number_count : ℕ
number_count = class_count * variant_count ^ 3

abbrev pub word_bits : ℕ
word_bits = 64

abbrev pub word_count : ℕ
word_count = (number_count + word_bits - 1) / word_bits

-- the table of rows: words, whose bits are a set of numbers; whether it has a number, and whether it has a row
abbrev pub RowTable : Type 0
RowTable = List ℕ

abbrev pub has_number : RowTable → ℕ → Bool
has_number cells n = eqb (bit (get_or cells (n / word_bits) 0) (n % word_bits)) 1

abbrev pub is_marked : RowTable → Row → Bool
is_marked cells r = has_number cells (row_number r)

-- after has n beside the numbers that cells has, and no others
pub record Marks (cells : RowTable) (n : ℕ) (after : RowTable) : Type 0 where
  pub long : length after ≡ length cells
  pub numbers : (m : ℕ) → has_number after m ≡ (has_number cells m || eqb n m)

-- of the rows that it answers for, the table has these and no others
pub record Cells (rows : List Row) (cells : RowTable) : Type 0 where
  pub long : length cells ≡ word_count
  pub marked : (r : Row) → has_cell r ≡ true → is_marked cells r ≡ covers rows r

-- the Bool of each case: "a false settles it", "a true settles it"
abbrev pub bool_of : AnnihilatorKind → Bool
bool_of AndFalse = false
bool_of OrTrue = true

abbrev pub settling : Option AnnihilatorKind → Option Bool
settling None = None
settling (Some kind) = Some (bool_of kind)

-- whether an annihilator record of the class was counted
abbrev pub counted : Counts → ℕ → Bool
counted c class = cond (eqb class 12) c.and_false (cond (eqb class 13) c.or_true false)
