-- Document 01, "Questions at the door", 2 to 8 and 12: "for each record from the front".
use Rattle.std.specs.Prelude.{ℕ, ◌+◌, Bool, true, false, cond, not, ◌&&◌, ◌||◌, List, [], ◌∷◌, ltb, leb, eqb, length, Option, None, Some}
use Rattle.ir.specs.Kinds.{text_kind}
use Rattle.ir.specs.Variants.{text_variant}
use Rattle.ir.specs.Classes.{is_class, is_order, folding_of, input_count, has_rows, is_annihilator}
use Rattle.ir.specs.Flags.{is_flags}
use Rattle.ir.specs.Limits.{max_nodes, max_wires, max_properties, max_rows}
use Rattle.ir.specs.Ports.{value_port}
use Rattle.ir.specs.declared.Role.{Role}
use Rattle.ir.specs.declared.Role.TheVariants.{Unlisted, Node, Wire, Property, Row, Annihilator}
use Rattle.text.specs.Listed.{is_listed_text}
use Rattle.encoding.specs.Numbers.{byte, u16_at}
use Rattle.graph.specs.Graph.{Graph, lookup, member, counts_of}
use Rattle.graph.specs.Layout.{role_at, size_at}
use Rattle.graph.specs.declared.Counts.{Counts}
use Rattle.value.specs.declared.Value.{Value}

-- what a record is judged by: the input, its offset, the kind before it, and the graph of the records before it
pub record Context : Type 0 where
  pub input : List ℕ
  pub at : ℕ
  pub last : ℕ
  pub graph : Graph

-- 2. "Is the kind 01 to 0C?"
abbrev pub is_kind : Role → Bool
is_kind Unlisted = false
is_kind Node = true
is_kind Wire = true
is_kind Property = true
is_kind Row = true
is_kind Annihilator = true

-- 3. "Is its body whole?"
abbrev pub is_whole : List ℕ → ℕ → Bool
is_whole s at = leb (at + size_at s at) (length s)

-- 4. "Is every class, flag, port, variant and Bool byte one listed for its kind, and a text's length and each of its bytes?"
abbrev pub is_wire_port : ℕ → Bool
is_wire_port port = ltb port value_port

abbrev pub is_property_port : ℕ → Bool
is_property_port port = leb port value_port

-- a Bool record's byte is 0 or 1; the first byte of another value is any here
abbrev pub is_value_byte : ℕ → ℕ → Bool
is_value_byte kind b = not (eqb kind 5) || leb b 1

-- "Variants: 0 Unwired, .., 8 Text; places past the input count are 0, which question 4 checks"
abbrev pub is_variant : ℕ → ℕ → ℕ → Bool
is_variant inputs place variant = cond (ltb place inputs) (leb variant text_variant) (eqb variant 0)

abbrev pub is_listed : Role → List ℕ → ℕ → Bool
is_listed Unlisted s at = false
is_listed Node s at = is_class (byte s (at + 1)) && is_flags (byte s (at + 2))
is_listed Wire s at = is_wire_port (byte s (at + 3)) && is_wire_port (byte s (at + 6))
is_listed Property s at = is_property_port (byte s (at + 3)) && is_value_byte (byte s at) (byte s (at + 4))
is_listed Row s at =
    let folding = folding_of (byte s (at + 1)) in
    let inputs = input_count folding in
    has_rows folding
    && is_variant inputs 0 (byte s (at + 2))
    && is_variant inputs 1 (byte s (at + 3))
    && is_variant inputs 2 (byte s (at + 4))
is_listed Annihilator s at = is_annihilator (byte s (at + 1))

-- a text's length and bytes stand past its node and port
abbrev pub has_listed_text : List ℕ → ℕ → Bool
has_listed_text s at = cond (eqb (byte s at) text_kind) (is_listed_text s (at + 4)) true

-- 12. "Does no row of classes 8 to 11 name variant 8?"
abbrev pub orders_no_text : Role → List ℕ → ℕ → Bool
orders_no_text Unlisted s at = true
orders_no_text Node s at = true
orders_no_text Wire s at = true
orders_no_text Property s at = true
orders_no_text Row s at = not (is_order (byte s (at + 1)) && (eqb (byte s (at + 2)) text_variant || eqb (byte s (at + 3)) text_variant || eqb (byte s (at + 4)) text_variant))
orders_no_text Annihilator s at = true

-- 5. "Is its kind at least the one before?"
abbrev pub is_in_order : ℕ → List ℕ → ℕ → Bool
is_in_order last s at = leb last (byte s at)

-- 6. "Are its nodes present?", where there are n nodes
abbrev pub has_nodes : ℕ → Role → List ℕ → ℕ → Bool
has_nodes n Unlisted s at = true
has_nodes n Node s at = true
has_nodes n Wire s at = ltb (u16_at s (at + 1)) n && ltb (u16_at s (at + 4)) n
has_nodes n Property s at = ltb (u16_at s (at + 1)) n
has_nodes n Row s at = true
has_nodes n Annihilator s at = true

-- 7. "Is it the first property of its node and port, or annihilator of its class?" "Equal rows and wires may repeat."
abbrev pub is_none : Option Value → Bool
is_none None = true
is_none (Some v) = false

abbrev pub is_first : Graph → Role → List ℕ → ℕ → Bool
is_first g Unlisted s at = true
is_first g Node s at = true
is_first g Wire s at = true
is_first g Property s at = is_none (lookup (u16_at s (at + 1)) (byte s (at + 3)) g.properties)
is_first g Row s at = true
is_first g Annihilator s at = not (member (byte s (at + 1)) g.annihilators)

-- 8. "Is it within 1,024 nodes, 4,096 wires, 2,048 properties, 1,024 rows?"
abbrev pub has_room : Counts → Role → Bool
has_room c Unlisted = true
has_room c Node = ltb c.nodes max_nodes
has_room c Wire = ltb c.wires max_wires
has_room c Property = ltb c.properties max_properties
has_room c Row = ltb c.rows max_rows
has_room c Annihilator = true

-- a question: its number, and whether a record answers it with yes
pub record Question : Type 0 where
  pub number : ℕ
  pub holds : Context → Bool

abbrev role : Context → Role
role x = role_at x.input x.at

-- the questions in their order; 4 is asked of a record's listed bytes, then of its text
abbrev pub questions : List Question
questions =
    record { number = 2; holds = λ x. is_kind (role x) }
    ∷ record { number = 3; holds = λ x. is_whole x.input x.at }
    ∷ record { number = 4; holds = λ x. is_listed (role x) x.input x.at }
    ∷ record { number = 4; holds = λ x. has_listed_text x.input x.at }
    ∷ record { number = 12; holds = λ x. orders_no_text (role x) x.input x.at }
    ∷ record { number = 5; holds = λ x. is_in_order x.last x.input x.at }
    ∷ record { number = 6; holds = λ x. has_nodes (length x.graph.nodes) (role x) x.input x.at }
    ∷ record { number = 7; holds = λ x. is_first x.graph (role x) x.input x.at }
    ∷ record { number = 8; holds = λ x. has_room (counts_of x.graph) (role x) }
    ∷ []

-- the number of the first that is answered with no, or 0
unfoldable pub first_no : List Question → Context → ℕ
first_no [] x = 0
first_no (q ∷ qs) x = cond (q.holds x) (first_no qs x) q.number
