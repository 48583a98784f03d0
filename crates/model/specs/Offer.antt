-- What a trial of a node would give, by what is known (document 01, "Corners of lower/fold/mod.rs").
use Rattle.std.specs.Prelude.{ℕ, Bool, true, false, cond, not, ◌&&◌, List, [], ◌∷◌, map, eqb, get_or, Option, None, Some}
use Rattle.ir.specs.Classes.{folding_of, input_ports, settles}
use Rattle.ir.specs.Flags.{nofold}
use Rattle.ir.specs.Ports.{input_a, input_b, b_select_b, b_cond, exec_out_a, exec_out_b, rer_input, value_port}
use Rattle.ir.specs.declared.Folding.{Folding}
use Rattle.ir.specs.declared.PortRef.{PortRef}
use Rattle.ir.specs.declared.Wire.{Wire}
use Rattle.value.specs.Variants.{in_variant}
use Rattle.value.specs.declared.Value.{Value}
use Rattle.conversions.specs.Conversions.{truthy_of}
use Rattle.semantics.specs.Eval.{eval_of}
use Rattle.semantics.specs.Finite.{non_finite_float}
use Rattle.graph.specs.Graph.{Graph, member}
use Rattle.graph.specs.declared.Node.{Node}
use Rattle.graph.specs.declared.Row.{Row}
use Rattle.model.specs.Maps.{Map, or_else, any}
use Rattle.model.specs.Inputs.{node_of, feeds, targets, property, resolve_input, resolve_data_input, is_resolved, all_resolved, value_in, operand_of}
use Rattle.model.specs.declared.Resolved.{Resolved}

-- what is done with a planned node
pub data PlanAction : Type 0 where
  BecomeLiteral : (value : Value) → PlanAction
  ShortCircuit : (chosenSrc : PortRef) → PlanAction
  Truncate : (taken_targets : List PortRef) → PlanAction

pub record Offer : Type 0 where
  pub plan : Option PlanAction
  pub value : Option Value

unfoldable pub no_offer : Offer
no_offer = record { plan = None; value = None }

-- a value and no plan
unfoldable pub value_offer : Option Value → Offer
value_offer o = record { plan = None; value = o }

-- a value, planned as literal. "The trial that plans a literal .. makes it known too."
unfoldable pub literal_offer : Option Value → Offer
literal_offer None = no_offer
literal_offer (Some v) = record { plan = Some (BecomeLiteral v); value = Some v }

-- ---- the table

abbrev pub operand_at : List (Option Value) → ℕ → Option Value
operand_at os i = get_or os i None

-- the row of a class and its operands; "places past the input count are 0"
abbrev pub row_of : ℕ → List (Option Value) → Row
row_of c os = record { class = c; first = in_variant (operand_at os 0); second = in_variant (operand_at os 1); third = in_variant (operand_at os 2) }

abbrev pub same_row : Row → Row → Bool
same_row q r = eqb q.class r.class && eqb q.first r.first && eqb q.second r.second && eqb q.third r.third

-- "`covers` is membership of the exact row."
unfoldable pub covers : Graph → ℕ → List (Option Value) → Bool
covers g c os = any (λ q. same_row q (row_of c os)) g.rows

-- ---- Select and Branch

-- "a resolved condition whose one-variant row is in the table": its truth
unfoldable pub resolve_condition : Graph → ℕ → Resolved → Option Bool
resolve_condition g c i = cond (is_resolved i && covers g c (operand_of i ∷ [])) (Some (truthy_of (operand_of i))) None

-- "exactly one wire at the chosen port .. It is planned ShortCircuit though its source may be unknown"; the source's value is the Select's
unfoldable pub chosen_offer : List Wire → Option Value → Offer
chosen_offer [] o = no_offer
chosen_offer (w ∷ []) o = record { plan = Some (ShortCircuit w.source); value = o }
chosen_offer (w ∷ v ∷ ws) o = no_offer

-- "the chosen port: InputB when truthy, else InputA"
unfoldable pub select_offer : Graph → ℕ → (ℕ → Resolved) → Option Bool → Offer
select_offer g n r None = no_offer
select_offer g n r (Some b) = let p : ℕ = cond b input_b input_a in chosen_offer (feeds g n p) (value_in (r p))

-- "Truncate with the wire targets of ExecOutA when truthy, else ExecOutB, in wire order. A Branch is never known."
unfoldable pub branch_offer : Graph → ℕ → Option Bool → Offer
branch_offer g n None = no_offer
branch_offer g n (Some b) = record { plan = Some (Truncate (targets g n (cond b exec_out_a exec_out_b))); value = None }

-- ---- "Other gates"

-- "a value that isn't a non-finite Float is planned as literal"
abbrev pub plannable : Option Value → Option Value
plannable None = None
plannable (Some v) = cond (non_finite_float v) None (Some v)

abbrev pub eval_at : ℕ → List (Option Value) → Option Value
eval_at c os = eval_of c (operand_at os 0) (operand_at os 1) (operand_at os 2)

-- "with no input Unresolved and the row in the table": the gate's value
unfoldable pub evaluated : Graph → ℕ → List Resolved → Option Value
evaluated g c is =
    let os : List (Option Value) = map operand_of is in
    cond (all_resolved is && covers g c os) (plannable (eval_at c os)) None

-- "where the graph has an annihilator record of the class": the Bool that settles it
unfoldable pub annihilator : Graph → ℕ → Option Bool
annihilator g c = cond (member c g.annihilators) (settles c) None

abbrev pub is_bool : Bool → Value → Bool
is_bool b (Value.Int n) = false
is_bool b (Value.Float x) = false
is_bool true (Value.Bool c) = c
is_bool false (Value.Bool c) = not c
is_bool b (Value.Vector x y z) = false
is_bool b (Value.Rotator p y r) = false
is_bool b (Value.Quat x y z w) = false
is_bool b (Value.Color r g c a) = false
is_bool b (Value.Text low high) = false

abbrev pub holds_bool : Bool → Resolved → Bool
holds_bool b Resolved.Unwired = false
holds_bool b (Resolved.Known v) = is_bool b v
holds_bool b Resolved.Unresolved = false

-- "one input known as the Bool that settles it plans that same Bool as literal, even with other inputs Unresolved"
unfoldable pub settled : Option Bool → List Resolved → Option Value
settled None is = None
settled (Some b) is = cond (any (holds_bool b) is) (Some (Value.Bool b)) None

-- "Failing that, where the graph has an annihilator record .."
unfoldable pub gate_value : Graph → ℕ → List Resolved → Option Value
gate_value g c is = or_else (evaluated g c is) (settled (annihilator g c) is)

-- a gate by its input ports, where r is what the ports of node n have by their wires
unfoldable pub gate_offer : Graph → ℕ → ℕ → (ℕ → Resolved) → Offer
gate_offer g c n r = literal_offer (gate_value g c (map (resolve_data_input g n r) (input_ports (folding_of c))))

-- ---- a node

-- node n of class c by how it folds, where r is what its ports have by their wires. A Literal is what it is by itself
unfoldable pub folding_offer : Folding → Graph → ℕ → ℕ → (ℕ → Resolved) → Offer
folding_offer Folding.Never g c n r = no_offer
folding_offer Folding.Literal g c n r = no_offer
folding_offer Folding.Microchip g c n r = value_offer (value_in (r rer_input))
folding_offer Folding.Select g c n r = select_offer g n r (resolve_condition g c (resolve_data_input g n r b_select_b))
folding_offer Folding.Branch g c n r = branch_offer g n (resolve_condition g c (resolve_data_input g n r b_cond))
folding_offer Folding.Unary g c n r = gate_offer g c n r
folding_offer Folding.Binary g c n r = gate_offer g c n r
folding_offer Folding.Ternary g c n r = gate_offer g c n r

-- a node that is a value by itself is known as that value, and gets no plan
unfoldable pub by_itself : Option Value → Offer → Offer
by_itself None o = o
by_itself (Some v) o = value_offer (Some v)

-- "A nofold node is never known or planned, a Literal included."
unfoldable pub node_offer : Option Value → Node → Graph → ℕ → (ℕ → Resolved) → Offer
node_offer o nd g n r = cond (nofold nd.flags) no_offer (by_itself o (folding_offer (folding_of nd.class) g nd.class n r))

-- `own` says what nodes are by themselves. It applies to every node without nofold, of whatever class
unfoldable pub offer : Map Value → Graph → Map Value → ℕ → Offer
offer own g known n = node_offer (own n) (node_of g n) g n (resolve_input g known n)

-- "Known is a Literal as its Value"; "A Literal without a Value property is unknown."
abbrev pub literal_value : Folding → Option Value → Option Value
literal_value Folding.Never o = None
literal_value Folding.Literal o = o
literal_value Folding.Microchip o = None
literal_value Folding.Select o = None
literal_value Folding.Branch o = None
literal_value Folding.Unary o = None
literal_value Folding.Binary o = None
literal_value Folding.Ternary o = None

unfoldable pub literals : Graph → Map Value
literals g n = literal_value (folding_of (node_of g n).class) (property g n value_port)
