-- Document 01, "Classes: 0 any other, never folded; 1 Literal; ..".
use Rattle.std.specs.Prelude.{ℕ, Bool, true, false, cond, ◌||◌, ◌&&◌, List, [], ◌∷◌, length, get_or, ltb, leb, eqb, Option, None, Some}
use Rattle.ir.specs.declared.Folding.{Folding}
use Rattle.ir.specs.declared.Folding.TheVariants.{Never, Literal, Microchip, Select, Branch, Unary, Binary, Ternary}
use Rattle.ir.specs.Ports.{input_a, input_b, third_input, b_select_b, b_cond, rer_input}

-- how each class folds, by its number; "Logical and bitwise NOT, Abs, Sign, Negate, Round, Floor, Ceil, BitCount and MathSqrt have one input .. ;
-- Clamp has three ..; the other gates from 6 have two". Row by row: any other, Literal, the two Microchips, Select, Branch; Equal to GreaterOrEqual;
-- logical AND, OR, XOR, NOT, NAND, NOR; Add to Modulo; Abs, Sign, Negate, Min, Max, Clamp, ModuloFloored; Round, Floor, Ceil;
-- bitwise AND, OR, XOR, NOT, NAND, NOR, ShiftLeft, ShiftRight, BitCount; MathSqrt
abbrev pub classes : List Folding
classes =
    Never ∷ Literal ∷ Microchip ∷ Microchip ∷ Select ∷ Branch
    ∷ Binary ∷ Binary ∷ Binary ∷ Binary ∷ Binary ∷ Binary
    ∷ Binary ∷ Binary ∷ Binary ∷ Unary ∷ Binary ∷ Binary
    ∷ Binary ∷ Binary ∷ Binary ∷ Binary ∷ Binary
    ∷ Unary ∷ Unary ∷ Unary ∷ Binary ∷ Binary ∷ Ternary ∷ Binary
    ∷ Unary ∷ Unary ∷ Unary
    ∷ Binary ∷ Binary ∷ Binary ∷ Unary ∷ Binary ∷ Binary ∷ Binary ∷ Binary ∷ Unary
    ∷ Unary
    ∷ []

-- how many classes there are
abbrev pub class_count : ℕ
class_count = length classes

abbrev pub is_class : ℕ → Bool
is_class class = ltb class class_count

-- "Less, LessOrEqual, Greater, GreaterOrEqual"
abbrev pub is_order : ℕ → Bool
is_order class = leb 8 class && leb class 11

abbrev pub folding_of : ℕ → Folding
folding_of class = get_or classes class Never

-- "1 Literal"
abbrev pub literal : ℕ
literal = 1

-- the gates that give a value, from Equal to MathSqrt: "classes 6 to 42"
abbrev pub is_gate : ℕ → Bool
is_gate class = leb 6 class && is_class class

-- "2 MicrochipInput"
abbrev pub microchip_input : ℕ
microchip_input = 2

-- "Logical and bitwise NOT, .. have one input, port 2; Clamp has three, ports 2, 3 and 9; the other gates from 6 have two, ports 2 and 3"
abbrev pub input_ports : Folding → List ℕ
input_ports Never = []
input_ports Literal = []
input_ports Microchip = rer_input ∷ []
input_ports Select = b_select_b ∷ []
input_ports Branch = b_cond ∷ []
input_ports Unary = input_a ∷ []
input_ports Binary = input_a ∷ input_b ∷ []
input_ports Ternary = input_a ∷ input_b ∷ third_input ∷ []

abbrev pub input_count : Folding → ℕ
input_count f = length (input_ports f)

-- "Rows are for 4 to 42"
abbrev pub has_rows : Folding → Bool
has_rows Never = false
has_rows Literal = false
has_rows Microchip = false
has_rows Select = true
has_rows Branch = true
has_rows Unary = true
has_rows Binary = true
has_rows Ternary = true

-- "0B annihilator: class 1: decimal 12 (a false settles it) or 13 (a true settles it)"
abbrev pub is_annihilator : ℕ → Bool
is_annihilator class = eqb class 12 || eqb class 13

-- the Bool that settles a class: "a false settles it", "a true settles it"
unfoldable pub settles : ℕ → Option Bool
settles class = cond (eqb class 12) (Some false) (cond (eqb class 13) (Some true) None)
