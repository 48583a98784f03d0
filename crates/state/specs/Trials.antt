-- What each case of `Trial` offers a node.
use Rattle.std.specs.Prelude.{ℕ, ◌<◌, length, get_or, None, Some}
use Rattle.graph.specs.Graph.{Graph}
use Rattle.records.specs.Access.{no_wire}
use Rattle.model.specs.Inputs.{targets}
use Rattle.model.specs.Offer.{Offer, no_offer, value_offer, literal_offer}
use Rattle.model.specs.Offer as Plan
use Rattle.state.specs.declared.Trial.{Trial}
use Rattle.state.specs.declared.Trial.TheVariants.{Nothing, Known, BecomeLiteral, ShortCircuit, ShortCircuitKnown, Truncate}

abbrev pub offer_of : Graph → ℕ → Trial → Offer
offer_of g n Nothing = no_offer
offer_of g n (Known v) = value_offer (Some v)
offer_of g n (BecomeLiteral v) = literal_offer (Some v)
offer_of g n (ShortCircuit chosen) = record { plan = Some (Plan.ShortCircuit (get_or g.wires chosen no_wire).source); value = None }
offer_of g n (ShortCircuitKnown chosen v) = record { plan = Some (Plan.ShortCircuit (get_or g.wires chosen no_wire).source); value = Some v }
offer_of g n (Truncate taken) = record { plan = Some (Plan.Truncate (targets g n taken)); value = None }

-- a wire that it names is one of the graph's
abbrev pub Within : Graph → Trial → Type 0
Within g Nothing = Unit {0}
Within g (Known v) = Unit {0}
Within g (BecomeLiteral v) = Unit {0}
Within g (ShortCircuit chosen) = chosen < length g.wires
Within g (ShortCircuitKnown chosen v) = chosen < length g.wires
Within g (Truncate taken) = Unit {0}
