-- What a trial gives, as the model has it.
use Rattle.std.specs.Prelude.{Option, None, Some}
use Rattle.std.proofs.lemmas.Bool.Decides.{nat_tests}
use Rattle.std.proofs.lemmas.List.{get_or_default}
use Prim.Native.Nat.{ℕ, ◌<◌}
use native.Mathlib.Omega.{arith}
use mathlib.Core.Path.{◌≡◌, refl, sym, ap, ◌∙◌}
use mathlib.Core.Bool.{Bool, true, false, cond, ◌&&◌, false≢true}
use mathlib.Core.List.{List, [], ◌∷◌, map}
use lib.ListN.{length, get_or, get_or-eq_default}
use lib.Dec.{eqb, ltb}
use borrow.Author.Tests.{ltb-true, ltb-false, ne_eqb}
use types.Run.{OneOf, miss}
use denote.Enum.Declared.{tag_of}
use Rattle.ir.specs.Classes.{class_count, classes, folding_of, microchip_input, has_rows, input_ports}
use Rattle.ir.specs.Flags.{nofold}
use Rattle.ir.specs.Ports.{input_a, input_b, b_select_b, b_cond, exec_out_a, exec_out_b, rer_input, value_port}
use Rattle.ir.specs.declared.Folding.{Folding}
use Rattle.ir.specs.declared.Wire.{Wire}
use Rattle.value.specs.declared.Value.{Value}
use Rattle.graph.specs.Graph.{Graph}
use Rattle.graph.specs.declared.Node.{Node}
use Rattle.graph.specs.declared.Counts.{Counts}
use Rattle.records.specs.Access.{no_node, no_wire}
use Rattle.model.specs.Maps.{Map, or_else}
use Rattle.model.specs.Inputs.{size, node_of, feeds, property, carried, value_in, resolve_wires, resolve_input, resolve_data_input}
use Rattle.model.specs.Offer.{Offer, no_offer, value_offer, literal_offer, resolve_condition, chosen_offer, select_offer, branch_offer, gate_value, gate_offer, folding_offer, by_itself, node_offer, offer, literal_value, literals}
use Rattle.model.specs.Own.{unwired, is_free_input, set_nothing, setting_of, own_of}
use Rattle.model.specs.Offer as Plan
use Rattle.model.specs.declared.Resolved.{Resolved}
use Rattle.ir.specs.contracts.Folding.{the_type as folding-type}
use Rattle.model.specs.contracts.Resolved.{the_type as resolved-type}
use Rattle.state.specs.Trials.{offer_of, Within}
use Rattle.state.specs.declared.Trial.{Trial}
use Rattle.table.specs.Table.{RowTable}
use Rattle.inputs.specs.Inputs.{feeds_in, Inputs}
use Rattle.inputs.specs.declared.Feeds.{Feeds}
use Rattle.inputs.specs.contracts.Feeds.{the_type as feeds-type}
use Rattle.inputs.proofs.Chains.{Fan, Says}
use Rattle.resolve.specs.Reads.{Reads}
use Rattle.resolve.specs.Gives.{microchip_offer, Gives}

pub inputs : {g : Graph} {c : Counts} {input table wires : List ℕ} {rows : RowTable} {first next : List ℕ} → Reads g c input table wires rows first next → Inputs g input table wires first next
inputs r = record { properties = r.properties; wires_part = r.wires_part; bounded = r.bounded; chains = r.feeds }

-- the gates of one, two and three inputs
abbrev pub IsGate : Folding → Type 0
IsGate f = OneOf (5 ∷ 6 ∷ 7 ∷ []) (tag_of folding-type f)

pub gate_rows : (f : Folding) → IsGate f → has_rows f ≡ true
gate_rows f h = grind (arith, nat_tests)

-- a class that has rows is a listed one
pub listed : {f : Folding} {k : ℕ} → f ≡ folding_of k → has_rows f ≡ true → k < class_count
listed {f} {k} e h = go (ltb k class_count) refl
  where
    go : (b : Bool) → ltb k class_count ≡ b → k < class_count
    go true l = ltb-true k class_count l
    go false l = absurd (false≢true (sym (ap has_rows (e ∙ get_or-eq_default classes Folding.Never {n = k} (ltb-false k class_count l))) ∙ h))

carries : (o : Option Value) → value_in (carried o) ≡ o
carries o = grind (arith, nat_tests)

pub not_known : (r : Resolved) → OneOf (0 ∷ 2 ∷ []) (tag_of resolved-type r) → value_in r ≡ None
not_known r k = grind (arith, nat_tests)

-- ---- what a node is by itself

-- a Microchip node is the only one that may be set
abbrev settable : Folding → Bool
settable Folding.Never = false
settable Folding.Literal = false
settable Folding.Microchip = true
settable Folding.Select = false
settable Folding.Branch = false
settable Folding.Unary = false
settable Folding.Binary = false
settable Folding.Ternary = false

alone : (o : Option Value) → value_offer o ≡ by_itself o (value_offer None)
unfolding by_itself value_offer
alone o = grind (arith, nat_tests)

-- a Microchip node by the wires of its RerInput
microchip_by : (known : Map Value) (class setting : ℕ) (xs : List Wire) → microchip_offer class setting (resolve_wires known xs) ≡ by_itself (cond (eqb class microchip_input && unwired xs) (setting_of setting) None) (value_offer (value_in (resolve_wires known xs)))
unfolding resolve_wires no_offer value_offer by_itself
microchip_by known class setting [] = grind (arith, nat_tests)
microchip_by known class setting (w ∷ []) = grind (arith, nat_tests)
microchip_by known class setting (w ∷ v ∷ ws) = grind (arith, nat_tests)

module _ (g : Graph) (n class setting : ℕ) {t : Trial} where
  -- a wire's source passes its value on
  pub passes : (r : Resolved) → OneOf (1 ∷ 2 ∷ []) (tag_of resolved-type r) → Gives g n (value_offer (value_in r)) t → Gives g n (microchip_offer class setting r) t
  unfolding no_offer value_offer
  passes Resolved.Unwired k h = absurd (miss (1 ∷ 2 ∷ []) 0 tt k)
  passes (Resolved.Known v) k h = h
  passes Resolved.Unresolved k h = h

  -- no wire
  module _ {r : Resolved} (e : r ≡ Resolved.Unwired) where
    pub is_set : class ≡ microchip_input → Gives g n (value_offer (setting_of setting)) t → Gives g n (microchip_offer class setting r) t
    is_set k h = rw (e, k) h

    pub never_set : (class ≡ microchip_input → ⊥) → Gives g n (value_offer None) t → Gives g n (microchip_offer class setting r) t
    never_set k h = rw (e, ne_eqb class microchip_input k) h

module _ (g : Graph) (n : ℕ) where
  -- ---- values

  pub nothing_known : {o : Option Value} → o ≡ None → Gives g n (value_offer o) Trial.Nothing
  unfolding no_offer value_offer
  nothing_known e = record { offered = rw e; within = tt }

  pub no_literal : {o : Option Value} → o ≡ None → Gives g n (literal_offer o) Trial.Nothing
  unfolding literal_offer
  no_literal e = record { offered = rw e; within = tt }

  pub becomes_literal : {o : Option Value} {v : Value} → o ≡ Some v → Gives g n (literal_offer o) (Trial.BecomeLiteral v)
  becomes_literal e = record { offered = rw e; within = tt }

  -- ---- Branch

  module _ {m : Option Bool} {q : Option Bool} (e : m ≡ q) where
    pub no_branch : m ≡ None → Gives g n (branch_offer g n q) Trial.Nothing
    unfolding branch_offer
    no_branch h = record { offered = rw (← e, h); within = tt }

    pub truncates : {b : Bool} {p : ℕ} → m ≡ Some b → p ≡ cond b exec_out_a exec_out_b → Gives g n (branch_offer g n q) (Trial.Truncate p)
    unfolding branch_offer
    truncates h k = record { offered = rw (← e, h, k); within = tt }

  -- ---- Select

  module _ (known : Map Value) where
    abbrev selects : Option Bool → Offer
    selects q = select_offer g n (resolve_input g known n) q

    chosen : List Wire → Offer
    chosen xs = chosen_offer xs (value_in (resolve_wires known xs))

    module _ {m : Option Bool} {q : Option Bool} (e : m ≡ q) where
      pub no_select : m ≡ None → Gives g n (selects q) Trial.Nothing
      unfolding select_offer
      no_select h = record { offered = rw (← e, h); within = tt }

      module _ {b : Bool} {p : ℕ} (h : m ≡ Some b) (k : p ≡ cond b input_b input_a) where
        chooses : selects q ≡ chosen (feeds g n p)
        unfolding select_offer resolve_input chosen
        chooses = rw (← e, h, k)

        no_wire_lem : feeds g n p ≡ [] → Gives g n (selects q) Trial.Nothing
        unfolding chosen chosen_offer
        no_wire_lem z = record { offered = sym (chooses ∙ ap chosen z); within = tt }

        fan_in : Fan (feeds g n p) → Gives g n (selects q) Trial.Nothing
        unfolding chosen chosen_offer
        fan_in f = record { offered = sym (chooses ∙ ap chosen f.list_is); within = tt }

        one_wire : {w : Wire} → feeds g n p ≡ w ∷ [] → record { plan = Some (Plan.ShortCircuit w.source); value = known w.source.node_id } ≡ selects q
        unfolding chosen chosen_offer resolve_wires
        one_wire {w} z = sym (chooses ∙ ap chosen z ∙ ap (λ (o : Option Value). record { plan = Some (Plan.ShortCircuit w.source); value = o }) (carries (known w.source.node_id)))

        module _ {ws : List Wire} (f : Feeds) (part : ws ≡ g.wires) (says : Says ws (feeds_in ws n p) f) where
          feeds_are : feeds_in ws n p ≡ feeds g n p
          unfolding feeds_in feeds
          feeds_are = rw part

          pub not_single : OneOf (0 ∷ 2 ∷ []) (tag_of feeds-type f) → Gives g n (selects q) Trial.Nothing
          not_single k = go f says k
            where
              go : (f : Feeds) → Says ws (feeds_in ws n p) f → OneOf (0 ∷ 2 ∷ []) (tag_of feeds-type f) → Gives g n (selects q) Trial.Nothing
              go Feeds.None s k = no_wire_lem (sym feeds_are ∙ s)
              go (Feeds.One i) s k = absurd (miss (0 ∷ 2 ∷ []) 1 tt k)
              go Feeds.Many s k = fan_in (rw (← feeds_are) s)

          module _ {i : ℕ} (single : f ≡ Feeds.One i) (o : Option Value) (source : o ≡ known (get_or ws i no_wire).source.node_id) where
            within : i < length g.wires
            within = rw (← part) (rw single at says).0

            shorts : record { plan = Some (Plan.ShortCircuit (get_or g.wires i no_wire).source); value = o } ≡ selects q
            shorts =
                ap (λ (vs : List Wire). record { plan = Some (Plan.ShortCircuit (get_or vs i no_wire).source); value = o }) (sym part)
                ∙ ap (λ (v : Option Value). record { plan = Some (Plan.ShortCircuit (get_or ws i no_wire).source); value = v }) source
                ∙ one_wire (sym feeds_are ∙ (rw single at says).1)

            pub short_circuits : o ≡ None → Gives g n (selects q) (Trial.ShortCircuit i)
            short_circuits z = record { offered = rw z at shorts; within = within }

            pub short_circuits_known : {v : Value} → o ≡ Some v → Gives g n (selects q) (Trial.ShortCircuitKnown i v)
            short_circuits_known z = record { offered = rw z at shorts; within = within }

  -- ---- a node

  module _ (own : List ℕ) (known : Map Value) where
    abbrev offered : Offer
    offered = offer (own_of g own) g known n

    abbrev ports : ℕ → Resolved
    ports = resolve_input g known n

    pub gives : {o : Offer} {t : Trial} → Gives g n o t → o ≡ offered → (offer_of g n t ≡ offered) × Within g t
    gives h e = (h.offered ∙ e, h.within)

    module _ (h : n < size g) {nd : Node} {t : Bool} (read : nd ≡ get_or g.nodes n no_node) (flag : t ≡ nofold nd.flags) where
      node : nd ≡ node_of g n
      unfolding size node_of
      node = read ∙ get_or_default g.nodes n _ _ h

      pub never_folded : t ≡ true → no_offer ≡ offered
      unfolding offer node_offer
      never_folded e = rw (← node, ← flag, e)

      module _ {f : Folding} (e : t ≡ false) (class : f ≡ folding_of nd.class) where
        -- what the node is set to plays a part only where it is a free input
        abbrev setting : Option Value
        setting = cond (eqb nd.class microchip_input && unwired (feeds g n rer_input)) (setting_of (get_or own n set_nothing)) None

        by_itself_lem : by_itself (or_else (literal_value f (property g n value_port)) setting) (folding_offer f g nd.class n ports) ≡ offered
        unfolding offer node_offer literals own_of is_free_input
        by_itself_lem = rw (← node, ← flag, e, ← class)

        -- another than a Microchip node is none
        module _ (other : settable f ≡ false) where
          no_input : eqb nd.class microchip_input ≡ false
          no_input = grind (arith, nat_tests)

          no_setting : (o : Option Value) → or_else o setting ≡ o
          unfolding or_else
          no_setting None = rw no_input
          no_setting (Some v) = refl

          by_folding : by_itself (literal_value f (property g n value_port)) (folding_offer f g nd.class n ports) ≡ offered
          by_folding = rw (no_setting (literal_value f (property g n value_port))) at by_itself_lem

        pub never : f ≡ Folding.Never → no_offer ≡ offered
        unfolding by_itself folding_offer
        never k = rw k at by_folding refl

        pub literal : f ≡ Folding.Literal → value_offer (property g n value_port) ≡ offered
        unfolding folding_offer no_offer value_offer
        literal k = alone (property g n value_port) ∙ (rw k at by_folding refl)

        pub microchip : f ≡ Folding.Microchip → microchip_offer nd.class (get_or own n set_nothing) (ports rer_input) ≡ offered
        unfolding folding_offer or_else resolve_input
        microchip k = microchip_by known nd.class (get_or own n set_nothing) (feeds g n rer_input) ∙ (rw k at by_itself_lem)

        pub select : f ≡ Folding.Select → select_offer g n ports (resolve_condition g nd.class (resolve_data_input g n ports b_select_b)) ≡ offered
        unfolding by_itself folding_offer
        select k = rw k at by_folding refl

        pub branch : f ≡ Folding.Branch → branch_offer g n (resolve_condition g nd.class (resolve_data_input g n ports b_cond)) ≡ offered
        unfolding by_itself folding_offer
        branch k = rw k at by_folding refl

        abbrev gate : Folding → Offer
        gate x = literal_offer (gate_value g nd.class (map (resolve_data_input g n ports) (input_ports x)))

        pub any_gate : IsGate f → gate f ≡ offered
        unfolding by_itself folding_offer gate_offer
        any_gate h =
            let e : settable f ≡ false = grind (arith, nat_tests) in
            let i : input_ports f ≡ input_ports (folding_of nd.class) = ap input_ports class in
            let b = by_folding e in
            grind (arith, nat_tests)
