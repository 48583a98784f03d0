-- What a lookup of an input reads, and what the types of the code say in the model's terms.
use Rattle.std.specs.Prelude.{ℕ, ◌-◌, ◌≤◌, ◌<◌, ◌≡◌, Bool, true, false, cond, ◌&&◌, List, eqb, leb, get_or, Option, None, Some, IfSome}
use Rattle.ir.specs.declared.Wire.{Wire}
use Rattle.std.specs.Float.Ieee.{of_bits}
use Rattle.std.specs.Float.{binary64}
use Rattle.whole.specs.Bits.{from_bits}
use Rattle.value.specs.declared.Value.{Value}
use Rattle.value.specs.Variants.{in_variant}
use Rattle.encoding.specs.Numbers.{byte, u64_at}
use Rattle.graph.specs.Graph.{Graph}
use Rattle.graph.specs.Decode.{graph_of}
use Rattle.graph.specs.Index.{Indexed}
use Rattle.records.specs.Access.{wires_of, Bounded}
use Rattle.model.specs.Maps.{Map, keep}
use Rattle.ir.specs.Variants.{text_variant}
use Rattle.ir.specs.Limits.{max_nodes}
use Rattle.model.specs.Inputs.{size, is_port, carried, is_resolved, operand_of, resolve_input, resolve_data_input}
use Rattle.model.specs.declared.Resolved.{Resolved}
use Rattle.wire_index.specs.Chains.{Feeds as Chains}
use Rattle.state.specs.Held.{known_of}
use Rattle.inputs.specs.declared.Located.{Located}
use Rattle.inputs.specs.declared.Feeds.{Feeds}
use Rattle.inputs.specs.declared.Feeds.TheVariants.{One, Many}

-- ---- wires into a port

-- the wires into a port, in wire order
unfoldable pub feeds_in : List Wire → ℕ → ℕ → List Wire
feeds_in ws n p = keep (λ w. is_port w.target n p) ws

-- what the chain of a slot says: no wire, the number of the only one, or more
unfoldable pub feeds_of : List ℕ → List ℕ → ℕ → Feeds
feeds_of first next slot =
    let code : ℕ = get_or first slot 0 in
    cond (eqb code 0) Feeds.None (cond (eqb (get_or next (code - 1) 0) 0) (One (code - 1)) Many)

-- the wires of a graph of so many nodes, with their chains
pub record Wired (wires first next : List ℕ) : Type 0 where
  pub nodes : ℕ
  pub bounded : Bounded (wires_of wires) nodes
  pub chains : Chains (wires_of wires) first next

-- ---- inputs

-- the part of `Reads` by which an input is looked up
pub record Inputs (g : Graph) (input table wires first next : List ℕ) : Type 0 where
  pub properties : Indexed g.properties input table
  pub wires_part : wires_of wires ≡ g.wires
  pub bounded : Bounded g.wires (size g)
  pub chains : Chains g.wires first next

-- what the ports of node n have, by their wires, and with the node's properties
abbrev pub wired_port : List ℕ → List ℕ → List ℕ → ℕ → ℕ → Resolved
wired_port input kinds words n = resolve_input (graph_of input) (known_of kinds words) n

abbrev pub port_of : List ℕ → List ℕ → List ℕ → ℕ → ℕ → Resolved
port_of input kinds words n = resolve_data_input (graph_of input) n (wired_port input kinds words n)

-- an input, where a gate has it
abbrev pub input_if : Bool → Resolved → Resolved
input_if has input = cond has input Resolved.Unwired

-- ---- variants

-- the variant of the values of a kind: 1 to 7 of 03 to 09, and that of text
abbrev pub kind_variant : ℕ → ℕ
kind_variant kind = cond (leb 3 kind && leb kind 9) (kind - 2) text_variant

-- ---- where an input is found

-- the word that holds a scalar property of a kind, whose bytes stand from an offset on
abbrev pub word_at : ℕ → List ℕ → ℕ → ℕ
word_at kind s i = cond (eqb kind 5) (byte s i) (u64_at s i)

-- the operand of a variant up to Bool, which a word holds
abbrev pub scalar_operand : ℕ → ℕ → Option Value
scalar_operand variant word =
    cond (eqb variant 0) None
    (cond (eqb variant 1) (Some (Value.Int (from_bits word)))
    (cond (eqb variant 2) (Some (Value.Float (of_bits binary64 word)))
    (Some (Value.Bool (eqb word 1)))))

-- an input of a node that is resolved, by the node's property there and the known values
pub record Locates (i : Resolved) (property : Option Value) (known : Map Value) (l : Located) : Type 0 where
  pub resolved : is_resolved i ≡ true
  pub variant : l.variant ≡ in_variant (operand_of i)
  pub scalar : l.variant ≤ 3 → operand_of i ≡ scalar_operand l.variant l.word
  -- of an input with no value the word is 0, as which Add to Modulo read it
  pub unwired : l.variant ≡ 0 → l.word ≡ 0
  pub within : IfSome l.source (λ m. m < max_nodes)
  pub by_wire : IfSome l.source (λ m. operand_of i ≡ operand_of (carried (known m)))
  pub by_property : l.source ≡ None → 0 < l.variant → operand_of i ≡ operand_of (carried property)

-- what a lookup of an input finds; None where it is unresolved
pub record LooksUp (i : Resolved) (property : Option Value) (known : Map Value) (r : Option Located) : Type 0 where
  pub unresolved : r ≡ None → is_resolved i ≡ false
  pub found : (l : Located) → r ≡ Some l → Locates i property known l
