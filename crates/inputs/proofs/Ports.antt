-- A port of a node by its wires and its property, as the model has it.
use Rattle.std.specs.Prelude.{Option, None, Some, MatchOption}
use Rattle.std.proofs.lemmas.Bool.Decides.{nat_tests}
use Prim.Native.Nat.{ℕ, ◌<◌}
use native.Mathlib.Omega.{arith}
use mathlib.Core.Path.{◌≡◌, refl, ap₂, ◌∙◌}
use mathlib.Core.List.{List, [], ◌∷◌}
use types.Run.{OneOf}
use denote.Enum.Declared.{tag_of}
use Rattle.ir.specs.Limits.{max_nodes}
use Rattle.ir.specs.declared.Wire.{Wire}
use Rattle.value.specs.declared.Value.{Value}
use Rattle.graph.specs.Graph.{Graph, lookup}
use Rattle.records.specs.Access.{wires_of}
use Rattle.model.specs.Maps.{Map}
use Rattle.model.specs.Inputs.{size, feeds, property, carried, or_property, resolve_wires, resolve_input, resolve_data_input}
use Rattle.model.specs.contracts.Resolved.{the_type as resolved-type}
use Rattle.model.specs.declared.Resolved.{Resolved}
use Rattle.inputs.specs.Inputs.{feeds_in, Wired, Inputs}
use Rattle.inputs.proofs.Chains.{resolve_single}

-- a value, or else this
pub carried_by : {r : Resolved} (o : Option Value) → MatchOption o (r ≡ Resolved.Unresolved) (λ v. r ≡ Resolved.Known v) → r ≡ carried o
carried_by None h = h
carried_by (Some v) h = h

pub property_by : {r : Resolved} (o : Option Value) → MatchOption o (r ≡ Resolved.Unwired) (λ v. r ≡ Resolved.Known v) → r ≡ or_property Resolved.Unwired o
property_by None h = h
property_by (Some v) h = h

stays : (s o : Option Value) → carried s ≡ or_property (carried s) o
stays s o = grind (arith, nat_tests)

-- a port that is not Unwired takes no property
pub keeps : (r : Resolved) → OneOf (1 ∷ 2 ∷ []) (tag_of resolved-type r) → (o : Option Value) → r ≡ or_property r o
keeps r k o = grind (arith, nat_tests)

module _ {g : Graph} {input table wires first next : List ℕ} (i : Inputs g input table wires first next) where
  pub wired : Wired wires first next
  wired = record { nodes = size g; bounded = rw i.wires_part i.bounded; chains = rw i.wires_part i.chains }

  pub few : {n : ℕ} → n < size g → n < max_nodes
  few h = omega (arith, i.bounded.few_nodes)

  module _ (known : Map Value) (n p : ℕ) where
    pub wired_port_lem : resolve_wires known (feeds_in (wires_of wires) n p) ≡ resolve_input g known n p
    unfolding resolve_input feeds feeds_in
    wired_port_lem = rw i.wires_part

    pub data_port : (r : Resolved) (o : Option Value) → r ≡ resolve_wires known (feeds_in (wires_of wires) n p) → o ≡ lookup n p g.properties → or_property r o ≡ resolve_data_input g n (resolve_input g known n) p
    unfolding resolve_data_input property
    data_port r o e f = ap₂ or_property (e ∙ wired_port_lem) f

    -- a port with one wire takes no property
    pub single_port : {w : Wire} → feeds_in (wires_of wires) n p ≡ w ∷ [] → carried (known w.source.node_id) ≡ resolve_data_input g n (resolve_input g known n) p
    single_port {w} e = stays (known w.source.node_id) _ ∙ data_port _ _ (resolve_single known e) refl
