-- Each planned number is finite, no Rotator, Quat, Color or text is planned, and a node that is planned as literal is known as its value.
use Rattle.std.specs.Prelude.{Option, None, Some}
use mathlib.Core.Path.{◌≡◌, refl, ap, ◌∙◌}
use mathlib.Core.Bool.{Bool, true, false, cond}
use mathlib.Core.List.{List, [], ◌∷◌, map}
use Prim.Native.Nat.{ℕ}
use Rattle.ir.specs.Classes.{folding_of}
use Rattle.ir.specs.Flags.{nofold}
use Rattle.ir.specs.declared.Folding.{Folding}
use Rattle.ir.specs.declared.Wire.{Wire}
use Rattle.value.specs.declared.Value.{Value}
use Rattle.semantics.specs.Finite.{finite_value}
use Rattle.semantics.proofs.Laws.{given_finite_lem}
use Rattle.graph.specs.Graph.{Graph}
use Rattle.model.specs.Maps.{Map, or_else}
use Rattle.model.specs.Inputs.{node_of, operand_of, resolve_input}
use Rattle.model.specs.Offer.{PlanAction, BecomeLiteral, ShortCircuit, Truncate, Offer, operand_at, no_offer, value_offer, literal_offer, chosen_offer, select_offer, branch_offer, evaluated, annihilator, settled, gate_value, gate_offer, folding_offer, by_itself, node_offer, offer}
use Rattle.model.specs.Worklist.{worklist}
use Rattle.model.specs.declared.Resolved.{Resolved}
use Rattle.model.proofs.Offers.{evaluated_facts, settled_facts}
use Rattle.model.proofs.Order.{work_good, work_fixed}

-- what an offer of a literal has: the literal is finite, and is the offered value
abbrev Finite : Option PlanAction → Option Value → Type 0
Finite None o = Unit {0}
Finite (Some (BecomeLiteral v)) o = (finite_value v ≡ true) × (o ≡ Some v)
Finite (Some (ShortCircuit e)) o = Unit {0}
Finite (Some (Truncate ts)) o = Unit {0}

abbrev FiniteOffer : Offer → Type 0
FiniteOffer o = Finite o.plan o.value

gate_finite : (g : Graph) (c : ℕ) (is : List Resolved) (v : Value) → gate_value g c is ≡ Some v → finite_value v ≡ true
unfolding gate_value or_else
gate_finite g c is v e = go (evaluated g c is) refl e
  where
    go : (o : Option Value) → evaluated g c is ≡ o → or_else o (settled (annihilator g c) is) ≡ Some v → finite_value v ≡ true
    go None q e = let (b, x, y, z) = settled_facts g c is v e in ap finite_value z
    go (Some w) q e =
        let (x, y) = evaluated_facts g c is v (q ∙ e) in
        given_finite_lem c (operand_at (map operand_of is) 0) (operand_at (map operand_of is) 1) (operand_at (map operand_of is) 2) v x y

literal_finite : (o : Option Value) → ((v : Value) → o ≡ Some v → finite_value v ≡ true) → FiniteOffer (literal_offer o)
unfolding literal_offer no_offer
literal_finite None h = tt
literal_finite (Some v) h = (h v refl, refl)

chosen_finite : (ws : List Wire) (o : Option Value) → FiniteOffer (chosen_offer ws o)
unfolding chosen_offer no_offer
chosen_finite [] o = tt
chosen_finite (w ∷ []) o = tt
chosen_finite (w ∷ v ∷ ws) o = tt

select_finite : (g : Graph) (n : ℕ) (r : ℕ → Resolved) (o : Option Bool) → FiniteOffer (select_offer g n r o)
unfolding select_offer no_offer
select_finite g n r None = tt
select_finite g n r (Some b) = chosen_finite _ _

branch_finite : (g : Graph) (n : ℕ) (o : Option Bool) → FiniteOffer (branch_offer g n o)
unfolding branch_offer no_offer
branch_finite g n None = tt
branch_finite g n (Some b) = tt

gate_offer_finite : (g : Graph) (c n : ℕ) (r : ℕ → Resolved) → FiniteOffer (gate_offer g c n r)
unfolding gate_offer
gate_offer_finite g c n r = literal_finite _ (gate_finite g c _)

folding_finite : (κ : Folding) (g : Graph) (c n : ℕ) (r : ℕ → Resolved) → FiniteOffer (folding_offer κ g c n r)
unfolding folding_offer no_offer value_offer
folding_finite Folding.Never g c n r = tt
folding_finite Folding.Literal g c n r = tt
folding_finite Folding.Microchip g c n r = tt
folding_finite Folding.Select g c n r = select_finite g n r _
folding_finite Folding.Branch g c n r = branch_finite g n _
folding_finite Folding.Unary g c n r = gate_offer_finite g c n r
folding_finite Folding.Binary g c n r = gate_offer_finite g c n r
folding_finite Folding.Ternary g c n r = gate_offer_finite g c n r

offer_finite : (own : Map Value) (g : Graph) (k : Map Value) (n : ℕ) → FiniteOffer (offer own g k n)
unfolding offer node_offer by_itself value_offer no_offer
offer_finite own g k n = go (nofold (node_of g n).flags) (own n)
  where
    go : (b : Bool) (o : Option Value) → FiniteOffer (cond b no_offer (by_itself o (folding_offer (folding_of (node_of g n).class) g (node_of g n).class n (resolve_input g k n))))
    go true o = unfold no_offer in tt
    go false None = unfold by_itself in folding_finite _ g _ n _
    go false (Some v) = unfold by_itself value_offer in tt

-- what is planned as literal is finite, and known
pub planned_literal : (own : Map Value) (g : Graph) (n : ℕ) (v : Value) → (worklist own g).state.plan n ≡ Some (BecomeLiteral v) → (finite_value v ≡ true) × ((worklist own g).state.known n ≡ Some v)
planned_literal own g n v e =
    let k : Map Value = (worklist own g).state.known in
    let x : (offer own g k n).plan ≡ Some (BecomeLiteral v) = (work_good own g).plan_offered n (BecomeLiteral v) e in
    let y : Finite (Some (BecomeLiteral v)) (offer own g k n).value = rw x at (offer_finite own g k n) in
    (y.0, (work_fixed own g).values n v y.1)

pub planned_finite : (own : Map Value) (g : Graph) (n : ℕ) (v : Value) → (worklist own g).state.plan n ≡ Some (BecomeLiteral v) → finite_value v ≡ true
planned_finite own g n v e = (planned_literal own g n v e).0
