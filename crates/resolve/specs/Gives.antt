-- What the functions behind a trial give, in the model's terms.
use Rattle.std.specs.Prelude.{ℕ, ◌≡◌, Bool, cond, List, [], ◌∷◌, eqb, None, Some}
use Rattle.ir.specs.Classes.{microchip_input}
use Rattle.ir.specs.Ports.{input_a, input_b, third_input}
use Rattle.graph.specs.Graph.{Graph}
use Rattle.model.specs.Offer.{Offer, no_offer, value_offer}
use Rattle.model.specs.Own.{setting_of}
use Rattle.model.specs.declared.Resolved.{Resolved}
use Rattle.inputs.specs.Inputs.{input_if}
use Rattle.state.specs.Trials.{offer_of, Within}
use Rattle.state.specs.declared.Trial.{Trial}

-- the inputs of a gate of one to three, by what its ports have; Unwired stands for those that it does not have
abbrev pub gate_inputs : (ℕ → Resolved) → Bool → Bool → List Resolved
gate_inputs port second third = port input_a ∷ input_if second (port input_b) ∷ input_if third (port third_input) ∷ []

-- a Microchip node of a class, by what its RerInput has and what it is set to, which plays a part where it is a MicrochipInput with no wire there
abbrev pub microchip_offer : ℕ → ℕ → Resolved → Offer
microchip_offer class setting Resolved.Unwired = value_offer (cond (eqb class microchip_input) (setting_of setting) None)
microchip_offer class setting (Resolved.Known v) = value_offer (Some v)
microchip_offer class setting Resolved.Unresolved = no_offer

-- the trial gives node n this offer
pub record Gives (g : Graph) (n : ℕ) (o : Offer) (t : Trial) : Type 0 where
  pub offered : offer_of g n t ≡ o
  pub within : Within g t
