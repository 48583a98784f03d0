-- The graph that the records of an input say. A record is read in place: `s` is the whole input and `at` the offset of its kind byte.
use Rattle.std.specs.Prelude.{ℕ, ◌+◌, Bool, false, cond, ◌&&◌, ◌||◌, List, [], ◌∷◌, ◌++◌, eqb, length, Option, None, Some}
use Rattle.ir.specs.Variants.{text_variant}
use Rattle.ir.specs.declared.Role.{Role}
use Rattle.ir.specs.declared.Role.TheVariants.{Unlisted as NoRole, Node as NodeRole, Wire as WireRole, Property as PropertyRole, Row as RowRole, Annihilator as AnnihilatorRole}
use Rattle.ir.specs.declared.Wire.{Wire}
use Rattle.value.specs.Variants.{variant_of}
use Rattle.encoding.specs.Numbers.{byte, u16_at}
use Rattle.encoding.specs.Wires.{wire_at}
use Rattle.encoding.specs.Values.{value_at}
use Rattle.graph.specs.declared.Node.{Node}
use Rattle.graph.specs.declared.Property.{Property}
use Rattle.graph.specs.declared.Row.{Row}
use Rattle.graph.specs.declared.Counts.{Counts}
use Rattle.value.specs.declared.Value.{Value}

pub record Graph : Type 0 where
  pub nodes : List Node
  pub wires : List Wire
  pub properties : List Property
  pub rows : List Row
  pub annihilators : List ℕ

abbrev pub empty : Graph
empty = record { nodes = []; wires = []; properties = []; rows = []; annihilators = [] }

-- "01 node: class 1 byte, flags 1 byte"
abbrev pub node_at : List ℕ → ℕ → Node
node_at s at = record { class = byte s (at + 1); flags = byte s (at + 2) }

-- "03 Int ..: node 2, port 1, value"
abbrev pub property_at : List ℕ → ℕ → Property
property_at s at = record { node_id = u16_at s (at + 1); port = byte s (at + 3); value = value_at (byte s at) s (at + 4) }

-- "0A row: class 1, three variants"
abbrev pub row_at : List ℕ → ℕ → Row
row_at s at = record { class = byte s (at + 1); first = byte s (at + 2); second = byte s (at + 3); third = byte s (at + 4) }

-- "0B annihilator: class 1"
abbrev pub annihilator_at : List ℕ → ℕ → ℕ
annihilator_at s at = byte s (at + 1)

-- the list with one more at its end
abbrev pub snoc {ℓ} : {A : Type ℓ} → List A → A → List A
snoc xs x = xs ++ (x ∷ [])

-- the graph with one more node, wire, property, row, annihilator
abbrev pub add_node : Graph → Node → Graph
add_node g x = record { nodes = snoc g.nodes x; wires = g.wires; properties = g.properties; rows = g.rows; annihilators = g.annihilators }

abbrev pub add_wire : Graph → Wire → Graph
add_wire g x = record { nodes = g.nodes; wires = snoc g.wires x; properties = g.properties; rows = g.rows; annihilators = g.annihilators }

abbrev pub add_property : Graph → Property → Graph
add_property g x = record { nodes = g.nodes; wires = g.wires; properties = snoc g.properties x; rows = g.rows; annihilators = g.annihilators }

abbrev pub add_row : Graph → Row → Graph
add_row g x = record { nodes = g.nodes; wires = g.wires; properties = g.properties; rows = snoc g.rows x; annihilators = g.annihilators }

abbrev pub add_annihilator : Graph → ℕ → Graph
add_annihilator g x = record { nodes = g.nodes; wires = g.wires; properties = g.properties; rows = g.rows; annihilators = snoc g.annihilators x }

-- the graph with the record at an offset, of this role
abbrev pub add : Role → Graph → List ℕ → ℕ → Graph
add NoRole g s at = g
add NodeRole g s at = add_node g (node_at s at)
add WireRole g s at = add_wire g (wire_at s at)
add PropertyRole g s at = add_property g (property_at s at)
add RowRole g s at = add_row g (row_at s at)
add AnnihilatorRole g s at = add_annihilator g (annihilator_at s at)

-- the first property of a node and a port
unfoldable pub lookup : ℕ → ℕ → List Property → Option Value
lookup node port [] = None
lookup node port (p ∷ ps) = cond (eqb p.node_id node && eqb p.port port) (Some p.value) (lookup node port ps)

-- whether the list has the number
unfoldable pub member : ℕ → List ℕ → Bool
member x [] = false
member x (y ∷ ys) = eqb y x || member x ys

-- how many properties are texts
unfoldable pub texts : List Property → ℕ
texts [] = 0
texts (p ∷ ps) = cond (eqb (variant_of p.value) text_variant) 1 0 + texts ps

-- what is counted of a graph
abbrev pub counts_of : Graph → Counts
counts_of g =
    record {
      nodes = length g.nodes;
      wires = length g.wires;
      properties = length g.properties;
      texts = texts g.properties;
      rows = length g.rows;
      annihilators = length g.annihilators;
      and_false = member 12 g.annihilators;
      or_true = member 13 g.annihilators;
    }
