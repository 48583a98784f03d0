-- What a node is offered only grows as more is known, and stays once it has a value.
use Rattle.std.specs.Prelude.{Option, None, Some}
use mathlib.Core.Path.{◌≡◌, refl, sym, ap, ◌∙◌, fun_ext, subst}
use mathlib.Core.Bool.{Bool, true, false, cond, ◌&&◌, ◌||◌, false≢true}
use mathlib.Core.List.{List, [], ◌∷◌, map}
use mathlib.Core.Logic.{◌⊎◌, inl, inr}
use Prim.Native.Nat.{ℕ}
use lib.Dec.{eqb}
use borrow.Author.Tests.{not-true}
use Rattle.ir.specs.Classes.{folding_of, input_ports, settles}
use Rattle.ir.specs.Flags.{nofold}
use Rattle.ir.specs.Ports.{input_a, input_b, b_select_b, b_cond, rer_input}
use Rattle.ir.specs.declared.Folding.{Folding}
use Rattle.ir.specs.declared.Wire.{Wire}
use Rattle.value.specs.declared.Value.{Value}
use Rattle.conversions.specs.Conversions.{truthy_of}
use Rattle.semantics.specs.Finite.{non_finite_float}
use Rattle.semantics.proofs.Laws.{decided}
use Rattle.graph.specs.Graph.{Graph, member}
use Rattle.graph.proofs.Roles.{and_left, and_right}
use Rattle.model.specs.Maps.{Map, or_else, any, All}
use Rattle.model.specs.Inputs.{node_of, is_port, feeds, property, carried, resolve_wires, resolve_input, or_property, resolve_data_input, is_resolved, all_resolved, value_in, operand_of}
use Rattle.model.specs.Offer.{Offer, no_offer, value_offer, literal_offer, covers, resolve_condition, chosen_offer, select_offer, branch_offer, plannable, eval_at, evaluated, annihilator, holds_bool, settled, gate_value, gate_offer, folding_offer, by_itself, node_offer, offer}
use Rattle.model.specs.Worklist.{consumes}
use Rattle.model.specs.declared.Resolved.{Resolved}
use Rattle.model.proofs.Maps.{same?, Same, ◌≼◌, ◌⊑◌, none_some, or_else_right}
use Rattle.model.proofs.Lists.{keep_all}

-- once i is resolved, j is the same
infix 40 ◌⊴◌
abbrev ◌⊴◌ : Resolved → Resolved → Type 0
i ⊴ j = is_resolved i ≡ true → j ≡ i

-- p plans what o plans, and is o once o has a value
infix 40 ◌≤ₒ◌
pub record ◌≤ₒ◌ (o p : Offer) : Type 0 where
  pub plans : o.plan ≼ p.plan
  pub whole : (v : Value) → o.value ≡ Some v → p ≡ o

-- ---- inputs

carried_mono : (o p : Option Value) → o ≼ p → carried o ⊴ carried p
carried_mono None p h e = absurd (false≢true e)
carried_mono (Some v) p h e = ap carried (h v refl)

wires_mono : (k l : Map Value) → k ⊑ l → (ws : List Wire) → resolve_wires k ws ⊴ resolve_wires l ws
unfolding resolve_wires
wires_mono k l h [] e = refl
wires_mono k l h (w ∷ []) e = carried_mono _ _ (h w.source.node_id) e
wires_mono k l h (w ∷ v ∷ ws) e = refl

or_property_mono : (i j : Resolved) (o : Option Value) → i ⊴ j → or_property i o ⊴ or_property j o
or_property_mono Resolved.Unwired j o h e = ap (λ (x : Resolved). or_property x o) (h refl)
or_property_mono (Resolved.Known v) j o h e = ap (λ (x : Resolved). or_property x o) (h refl)
or_property_mono Resolved.Unresolved j o h e = absurd (false≢true e)

value_mono : (i j : Resolved) → i ⊴ j → value_in i ≼ value_in j
value_mono Resolved.Unwired j h a e = none_some a e
value_mono (Resolved.Known v) j h a e = ap value_in (h refl) ∙ e
value_mono Resolved.Unresolved j h a e = none_some a e

input_mono : (g : Graph) (n : ℕ) (r s : ℕ → Resolved) → ((p : ℕ) → r p ⊴ s p) → (p : ℕ) → resolve_data_input g n r p ⊴ resolve_data_input g n s p
unfolding resolve_data_input
input_mono g n r s le p = or_property_mono (r p) (s p) (property g n p) (le p)

all_mono : (f h : ℕ → Resolved) → ((p : ℕ) → f p ⊴ h p) → (ps : List ℕ) → all_resolved (map f ps) ≡ true → map h ps ≡ map f ps
unfolding all_resolved
all_mono f h le [] e = refl
all_mono f h le (p ∷ ps) e =
    let e₁ : h p ≡ f p = le p (and_left (is_resolved (f p)) _ e) in
    let e₂ : map h ps ≡ map f ps = all_mono f h le ps (and_right (is_resolved (f p)) _ e) in
    cc

or_mono : (a b c d : Bool) → (a ≡ true → c ≡ true) → (b ≡ true → d ≡ true) → (a || b) ≡ true → (c || d) ≡ true
or_mono true b c d f h e = ap (λ (x : Bool). x || d) (f refl)
or_mono false b true d f h e = refl
or_mono false b false d f h e = h e

holds_resolved : (b : Bool) (i : Resolved) → holds_bool b i ≡ true → is_resolved i ≡ true
holds_resolved b Resolved.Unwired e = refl
holds_resolved b (Resolved.Known v) e = refl
holds_resolved b Resolved.Unresolved e = e

any_mono : (b : Bool) (f h : ℕ → Resolved) → ((p : ℕ) → f p ⊴ h p) → (ps : List ℕ) → any (holds_bool b) (map f ps) ≡ true → any (holds_bool b) (map h ps) ≡ true
unfolding any
any_mono b f h le [] e = e
any_mono b f h le (p ∷ ps) e =
    or_mono (holds_bool b (f p)) _ _ _ (λ q. ap (holds_bool b) (le p (holds_resolved b (f p) q)) ∙ q) (any_mono b f h le ps) e

-- ---- offers

nothing_least : (p : Offer) → no_offer ≤ₒ p
unfolding no_offer
nothing_least p = record { plans = λ a e. none_some a e; whole = λ a e. none_some a e }

chosen_mono : (ws : List Wire) (o p : Option Value) → o ≼ p → chosen_offer ws o ≤ₒ chosen_offer ws p
unfolding chosen_offer
chosen_mono [] o p h = nothing_least no_offer
chosen_mono (w ∷ []) o p h = record { plans = λ a e. e; whole = λ v e. cc (h v e) }
chosen_mono (w ∷ v ∷ ws) o p h = nothing_least no_offer

select_mono : (g : Graph) (n : ℕ) (r s : ℕ → Resolved) (c d : Option Bool) → ((p : ℕ) → r p ⊴ s p) → c ≼ d → select_offer g n r c ≤ₒ select_offer g n s d
unfolding select_offer
select_mono g n r s None d le h = nothing_least _
select_mono g n r s (Some b) d le h =
    let p : ℕ = cond b input_b input_a in
    rw (h b refl, select_offer) (chosen_mono (feeds g n p) _ _ (value_mono (r p) (s p) (le p)))

branch_mono : (g : Graph) (n : ℕ) (c d : Option Bool) → c ≼ d → branch_offer g n c ≤ₒ branch_offer g n d
unfolding branch_offer
branch_mono g n None d h = nothing_least _
branch_mono g n (Some b) d h = rw (h b refl) (record { plans = λ a e. e; whole = λ v e. refl })

valued_mono : (o p : Option Value) → o ≼ p → value_offer o ≤ₒ value_offer p
unfolding value_offer
valued_mono o p h = record { plans = λ a e. e; whole = λ v e. ap value_offer (h v e ∙ sym e) }

literal_mono : (o p : Option Value) → o ≼ p → literal_offer o ≤ₒ literal_offer p
unfolding literal_offer
literal_mono None p h = nothing_least _
literal_mono (Some v) p h = rw (h v refl) (record { plans = λ a e. e; whole = λ w e. refl })

condition_mono : (g : Graph) (c : ℕ) (i j : Resolved) → i ⊴ j → resolve_condition g c i ≼ resolve_condition g c j
unfolding resolve_condition
condition_mono g c i j h a e = go (is_resolved i) refl e
  where
    go : (t : Bool) → is_resolved i ≡ t → cond (t && covers g c (operand_of i ∷ [])) (Some (truthy_of (operand_of i))) None ≡ Some a → resolve_condition g c j ≡ Some a
    go true q e = rw (h q, q) e
    go false q e = none_some a e

-- ---- gates

settled_mono : (o : Option Bool) (f h : ℕ → Resolved) → ((p : ℕ) → f p ⊴ h p) → (ps : List ℕ) → settled o (map f ps) ≼ settled o (map h ps)
unfolding settled
settled_mono None f h le ps a e = e
settled_mono (Some b) f h le ps a e = go (any (holds_bool b) (map f ps)) refl e
  where
    go : (t : Bool) → any (holds_bool b) (map f ps) ≡ t → cond t (Some (Value.Bool b)) None ≡ Some a → settled (Some b) (map h ps) ≡ Some a
    go true q e = rw (any_mono b f h le ps q, settled) e
    go false q e = none_some a e

plannable_facts : (o : Option Value) (v : Value) → plannable o ≡ Some v → (o ≡ Some v) × (non_finite_float v ≡ false)
plannable_facts None v e = none_some v e
plannable_facts (Some w) v e = go (non_finite_float w) refl e
  where
    go : (t : Bool) → non_finite_float w ≡ t → cond t None (Some w) ≡ Some v → (Some w ≡ Some v) × (non_finite_float v ≡ false)
    go true q e = none_some v e
    go false q e = let x : w ≡ v = cc in (ap Some x, rw x at q)

-- what is evaluated is given by the gate, and is no non-finite Float
pub evaluated_facts : (g : Graph) (c : ℕ) (is : List Resolved) (v : Value) → evaluated g c is ≡ Some v → (eval_at c (map operand_of is) ≡ Some v) × (non_finite_float v ≡ false)
unfolding evaluated
evaluated_facts g c is v e = go (all_resolved is && covers g c (map operand_of is)) e
  where
    go : (t : Bool) → cond t (plannable (eval_at c (map operand_of is))) None ≡ Some v → (eval_at c (map operand_of is) ≡ Some v) × (non_finite_float v ≡ false)
    go true e = plannable_facts _ v e
    go false e = none_some v e

-- an annihilator plans the Bool that settles the class, and some input holds it
pub settled_facts : (g : Graph) (c : ℕ) (is : List Resolved) (a : Value) → settled (annihilator g c) is ≡ Some a
    → (b : Bool) × (settles c ≡ Some b) × (any (holds_bool b) is ≡ true) × (a ≡ Value.Bool b)
unfolding annihilator settled
settled_facts g c is a e = go (member c g.annihilators) (settles c) refl e
  where
    last : (b t : Bool) → any (holds_bool b) is ≡ t → settles c ≡ Some b → cond t (Some (Value.Bool b)) None ≡ Some a
        → (b : Bool) × (settles c ≡ Some b) × (any (holds_bool b) is ≡ true) × (a ≡ Value.Bool b)
    last b true q f e = (b, f, q, cc)
    last b false q f e = none_some a e

    go : (t : Bool) (o : Option Bool) → settles c ≡ o → settled (cond t o None) is ≡ Some a
        → (b : Bool) × (settles c ≡ Some b) × (any (holds_bool b) is ≡ true) × (a ≡ Value.Bool b)
    go true None f e = none_some a e
    go true (Some b) f e = last b (any (holds_bool b) is) refl f e
    go false o f e = none_some a e

settles_class : (c : ℕ) (b : Bool) → settles c ≡ Some b → c ≡ cond b 13 12
unfolding settles
settles_class c b e = go (same? c 12) (same? c 13) e
  where
    go : Same c 12 → Same c 13 → cond (eqb c 12) (Some false) (cond (eqb c 13) (Some true) None) ≡ Some b → c ≡ cond b 13 12
    go (inl p) q e = let x : false ≡ b = cc (rw p.0 at e) in rw (← x) p.1
    go (inr p) (inl q) e = let x : true ≡ b = cc (rw (p, q.0) at e) in rw (← x) q.1
    go (inr p) (inr q) e = none_some b (rw (p, q) at e)

holds_operand : (b : Bool) (i : Resolved) → holds_bool b i ≡ true → operand_of i ≡ Some (Value.Bool b)
holds_operand b Resolved.Unwired e = absurd (false≢true e)
holds_operand b Resolved.Unresolved e = absurd (false≢true e)
holds_operand b (Resolved.Known (Value.Int n)) e = absurd (false≢true e)
holds_operand b (Resolved.Known (Value.Float x)) e = absurd (false≢true e)
holds_operand true (Resolved.Known (Value.Bool c)) e = ap (λ (t : Bool). Some (Value.Bool t)) e
holds_operand false (Resolved.Known (Value.Bool c)) e = ap (λ (t : Bool). Some (Value.Bool t)) (not-true c e)
holds_operand b (Resolved.Known (Value.Vector x y z)) e = absurd (false≢true e)
holds_operand b (Resolved.Known (Value.Rotator x y z)) e = absurd (false≢true e)
holds_operand b (Resolved.Known (Value.Quat x y z w)) e = absurd (false≢true e)
holds_operand b (Resolved.Known (Value.Color x y z w)) e = absurd (false≢true e)
holds_operand b (Resolved.Known (Value.Text x y)) e = absurd (false≢true e)

-- the gate that an annihilator settles gives that Bool
settling_gives : (b : Bool) (i j : Resolved) → any (holds_bool b) (i ∷ j ∷ []) ≡ true → eval_at (cond b 13 12) (map operand_of (i ∷ j ∷ [])) ≡ Some (Value.Bool b)
unfolding any
settling_gives b i j e = decided b (operand_of i) (operand_of j) None (go (holds_bool b i) refl (holds_bool b j) refl e)
  where
    go : (s : Bool) → holds_bool b i ≡ s → (t : Bool) → holds_bool b j ≡ t → (s || (t || false)) ≡ true
        → (operand_of i ≡ Some (Value.Bool b)) ⊎ (operand_of j ≡ Some (Value.Bool b))
    go true p t q e = inl (holds_operand b i p)
    go false p true q e = inr (holds_operand b j q)
    go false p false q e = absurd (false≢true e)

abbrev Gives : (ℕ → Resolved) → Bool → ℕ → Type 0
Gives h b c = any (holds_bool b) (map h (input_ports (folding_of c))) ≡ true → eval_at c (map operand_of (map h (input_ports (folding_of c)))) ≡ Some (Value.Bool b)

settled_gives : (h : ℕ → Resolved) (b : Bool) (c : ℕ) → settles c ≡ Some b → Gives h b c
settled_gives h b c e = subst (Gives h b) (sym (settles_class c b e)) (go b)
  where
    go : (b : Bool) → Gives h b (cond b 13 12)
    go true = settling_gives true (h input_a) (h input_b)
    go false = settling_gives false (h input_a) (h input_b)

-- where the annihilator settles a gate, the gate's own value is no other
settled_wins : (g : Graph) (c : ℕ) (h : ℕ → Resolved) → settled (annihilator g c) (map h (input_ports (folding_of c))) ≼ gate_value g c (map h (input_ports (folding_of c)))
unfolding gate_value
settled_wins g c h a e = or_else_right (evaluated g c is) (settled (annihilator g c) is) agree a e
  where
    is : List Resolved
    is = map h (input_ports (folding_of c))

    agree : evaluated g c is ≼ settled (annihilator g c) is
    agree v w =
        let (b, p, q, r) = settled_facts g c is a e in
        let y : Some v ≡ Some (Value.Bool b) = sym (evaluated_facts g c is v w).0 ∙ settled_gives h b c p q in
        cc

gate_unresolved : (g : Graph) (c : ℕ) (is : List Resolved) → all_resolved is ≡ false → gate_value g c is ≡ settled (annihilator g c) is
unfolding gate_value evaluated or_else
gate_unresolved g c is q = rw q

gate_mono : (g : Graph) (c : ℕ) (f h : ℕ → Resolved) → ((p : ℕ) → f p ⊴ h p) → gate_value g c (map f (input_ports (folding_of c))) ≼ gate_value g c (map h (input_ports (folding_of c)))
gate_mono g c f h le a e = go (all_resolved (map f ps)) refl
  where
    ps : List ℕ
    ps = input_ports (folding_of c)

    go : (t : Bool) → all_resolved (map f ps) ≡ t → gate_value g c (map h ps) ≡ Some a
    go true q = rw (all_mono f h le ps q) e
    go false q = settled_wins g c h a (settled_mono _ f h le ps a (sym (gate_unresolved g c (map f ps) q) ∙ e))

gate_offer_mono : (g : Graph) (c n : ℕ) (r s : ℕ → Resolved) → ((p : ℕ) → r p ⊴ s p) → gate_offer g c n r ≤ₒ gate_offer g c n s
unfolding gate_offer
gate_offer_mono g c n r s le = literal_mono _ _ (gate_mono g c _ _ (input_mono g n r s le))

-- ---- a node

folding_mono : (κ : Folding) (g : Graph) (c n : ℕ) (r s : ℕ → Resolved) → ((p : ℕ) → r p ⊴ s p) → folding_offer κ g c n r ≤ₒ folding_offer κ g c n s
unfolding folding_offer
folding_mono Folding.Never g c n r s le = nothing_least _
folding_mono Folding.Literal g c n r s le = nothing_least _
folding_mono Folding.Microchip g c n r s le = valued_mono _ _ (value_mono (r rer_input) (s rer_input) (le rer_input))
folding_mono Folding.Select g c n r s le = select_mono g n r s _ _ le (condition_mono g c _ _ (input_mono g n r s le b_select_b))
folding_mono Folding.Branch g c n r s le = branch_mono g n _ _ (condition_mono g c _ _ (input_mono g n r s le b_cond))
folding_mono Folding.Unary g c n r s le = gate_offer_mono g c n r s le
folding_mono Folding.Binary g c n r s le = gate_offer_mono g c n r s le
folding_mono Folding.Ternary g c n r s le = gate_offer_mono g c n r s le

node_mono : (b : Bool) (o : Option Value) (κ : Folding) (g : Graph) (c n : ℕ) (r s : ℕ → Resolved) → ((p : ℕ) → r p ⊴ s p)
    → cond b no_offer (by_itself o (folding_offer κ g c n r)) ≤ₒ cond b no_offer (by_itself o (folding_offer κ g c n s))
unfolding by_itself
node_mono true o κ g c n r s le = nothing_least _
node_mono false None κ g c n r s le = folding_mono κ g c n r s le
node_mono false (Some v) κ g c n r s le = valued_mono (Some v) (Some v) (λ a e. e)

module _ (own : Map Value) (g : Graph) where
  pub offer_mono : (k l : Map Value) → k ⊑ l → (n : ℕ) → offer own g k n ≤ₒ offer own g l n
  unfolding offer node_offer resolve_input
  offer_mono k l h n =
      node_mono (nofold (node_of g n).flags) (own n) (folding_of (node_of g n).class) g (node_of g n).class n _ _ (λ p. wires_mono k l h (feeds g n p))

  -- where no wire into m comes from n, and k and l differ at n alone, m is offered the same
  pub offer_local : (k l : Map Value) (n m : ℕ) → ((j : ℕ) → eqb j n ≡ false → k j ≡ l j) → consumes g n m ≡ false → offer own g k m ≡ offer own g l m
  unfolding offer resolve_input feeds consumes is_port
  offer_local k l n m h e = ap (node_offer (own m) (node_of g m) g m) (fun_ext (λ p. wires_local _ (keep_all _ _ _ (apart p) g.wires e)))
    where
      wires_local : (ws : List Wire) → All (λ w. k w.source.node_id ≡ l w.source.node_id) ws → resolve_wires k ws ≡ resolve_wires l ws
      wires_local [] x = unfold resolve_wires in refl
      wires_local (w ∷ []) x = unfold resolve_wires in ap carried x.0
      wires_local (w ∷ v ∷ ws) x = unfold resolve_wires in refl

      other : (a b : Bool) → a ≡ true → (b && a) ≡ false → b ≡ false
      other true true x y = y
      other true false x y = refl
      other false b x y = absurd (false≢true x)

      apart : (p : ℕ) (w : Wire) → is_port w.target m p ≡ true → (eqb w.source.node_id n && eqb w.target.node_id m) ≡ false → k w.source.node_id ≡ l w.source.node_id
      apart p w x y = h w.source.node_id (other (eqb w.target.node_id m) (eqb w.source.node_id n) (and_left _ _ x) y)
