-- A Branch is never known.
use Rattle.std.specs.Prelude.{Option, None, Some}
use mathlib.Core.Path.{◌≡◌, refl, sym, ◌∙◌}
use mathlib.Core.Bool.{Bool, true, false, cond}
use Prim.Native.Nat.{ℕ}
use Rattle.ir.specs.Classes.{folding_of}
use Rattle.ir.specs.Flags.{nofold}
use Rattle.ir.specs.declared.Folding.{Folding}
use Rattle.value.specs.declared.Value.{Value}
use Rattle.graph.specs.Graph.{Graph}
use Rattle.model.specs.Maps.{Map}
use Rattle.model.specs.Inputs.{node_of}
use Rattle.model.specs.Offer.{no_offer, branch_offer, folding_offer, by_itself, node_offer, offer, literals}
use Rattle.model.specs.Worklist.{worklist}
use Rattle.model.proofs.Maps.{none_some}
use Rattle.model.proofs.Order.{work_good}

module _ (g : Graph) (n : ℕ) (branch : folding_of (node_of g n).class ≡ Folding.Branch) where
  branch_value : (o : Option Bool) → (branch_offer g n o).value ≡ None
  unfolding branch_offer no_offer
  branch_value None = refl
  branch_value (Some b) = refl

  no_value : (known : Map Value) → (offer (literals g) g known n).value ≡ None
  unfolding offer node_offer literals by_itself folding_offer
  no_value known = rw branch (go (nofold (node_of g n).flags) _)
    where
      go : (b : Bool) (o : Option Bool) → (cond b no_offer (branch_offer g n o)).value ≡ None
      go true o = unfold no_offer in refl
      go false o = branch_value o

  pub branch_unknown : (worklist (literals g) g).state.known n ≡ None
  branch_unknown = go ((worklist (literals g) g).state.known n) refl
    where
      go : (o : Option Value) → (worklist (literals g) g).state.known n ≡ o → o ≡ None
      go None e = refl
      go (Some v) e = none_some v (sym (no_value (worklist (literals g) g).state.known) ∙ (work_good (literals g) g).known_offered n v e)
