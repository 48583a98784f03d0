-- The chain of a slot, taken apart: what it says of the wires into the port.
use Rattle.std.specs.Prelude.{Option}
use Prim.Native.Nat.{ℕ, suc, ◌-◌, ◌≤◌, ◌<◌}
use native.Mathlib.Omega.{arith}
use mathlib.Core.Path.{◌≡◌, refl, sym}
use mathlib.Core.List.{List, [], ◌∷◌}
use lib.ListN.{length, get_or}
use borrow.Author.Tests.{eq-eqb, ne_eqb}
use Rattle.ir.specs.Limits.{max_nodes}
use Rattle.ir.specs.Ports.{value_port}
use Rattle.ir.specs.declared.Wire.{Wire}
use Rattle.value.specs.declared.Value.{Value}
use Rattle.graph.specs.Index.{slot}
use Rattle.records.specs.Access.{wires_of, no_wire}
use Rattle.model.specs.Maps.{Map}
use Rattle.model.specs.Inputs.{carried, resolve_wires}
use Rattle.model.specs.declared.Resolved.{Resolved}
use Rattle.wire_index.specs.Chains.{Chain, end, link}
use Rattle.inputs.specs.Inputs.{feeds_in, feeds_of, Wired}
use Rattle.inputs.specs.declared.Feeds.{Feeds}
use Rattle.inputs.specs.declared.Feeds.TheVariants.{None, One, Many}

-- ---- what a slot says

-- a list of two wires or more
pub record Fan (xs : List Wire) : Type 0 where
  pub one : Wire
  pub two : Wire
  pub rest : List Wire
  pub list_is : xs ≡ one ∷ two ∷ rest

-- what is said of the list of wires into a port
abbrev pub Says : List Wire → List Wire → Feeds → Type 0
Says ws xs None = xs ≡ []
Says ws xs (One i) = (i < length ws) × (xs ≡ get_or ws i no_wire ∷ [])
Says ws xs Many = Fan xs

-- `code` is what stands at the slot
module _ (first next : List ℕ) (at : ℕ) {code : ℕ} (e : code ≡ get_or first at 0) where
  pub feeds_none : code ≡ 0 → None ≡ feeds_of first next at
  unfolding feeds_of
  feeds_none z = rw (← e, eq-eqb code 0 z)

  module _ (some : code ≡ 0 → ⊥) {i : ℕ} (wire_is : i ≡ code - 1) where
    pub feeds_one : get_or next i 0 ≡ 0 → One i ≡ feeds_of first next at
    unfolding feeds_of
    feeds_one z = rw (← e, ne_eqb code 0 some, ← wire_is, eq-eqb (get_or next i 0) 0 z)

    pub feeds_many : (get_or next i 0 ≡ 0 → ⊥) → Many ≡ feeds_of first next at
    unfolding feeds_of
    feeds_many z = rw (← e, ne_eqb code 0 some, ← wire_is, ne_eqb (get_or next i 0) 0 z)

module _ (ws : List Wire) (first next : List ℕ) (at : ℕ) where
  -- the first wire of the chain is wire i
  after : {i code : ℕ} {xs : List Wire} → suc i ≡ get_or first at 0 → i < length ws → Chain ws next code xs → code ≡ get_or next i 0 → Says ws (get_or ws i no_wire ∷ xs) (feeds_of first next at)
  after e h end f = rw (← feeds_one first next at e (λ z. omega (arith, z)) (omega arith) (sym f)) (h, refl)
  after {i} e h (link k t) f =
      rw (← feeds_many first next at e (λ z. omega (arith, z)) {i = i} (omega arith) (λ z. omega (arith, z, f))) (record { one = _; two = _; rest = _; list_is = refl })

  says : {code : ℕ} {xs : List Wire} → code ≡ get_or first at 0 → Chain ws next code xs → Says ws xs (feeds_of first next at)
  says e end = rw (← feeds_none first next at e refl) refl
  says e (link h t) = after e h t refl

-- ---- a port

module _ {wires first next : List ℕ} (w : Wired wires first next) (n p : ℕ) (hn : n < max_nodes) (hp : p ≤ value_port) where
  chain : Chain (wires_of wires) next (get_or first (slot n p) 0) (feeds_in (wires_of wires) n p)
  unfolding feeds_in
  chain = w.chains.chain n p hn hp

  pub port_says : {f h : Feeds} → f ≡ feeds_of first next (slot n p) → f ≡ h → Says (wires_of wires) (feeds_in (wires_of wires) n p) h
  port_says e z = rw (← z, e) (says (wires_of wires) first next (slot n p) refl chain)

-- a wire's source is a node
pub source_node_lem : {wires first next : List ℕ} (w : Wired wires first next) (i : ℕ) → i < length (wires_of wires) → (get_or (wires_of wires) i no_wire).source.node_id < max_nodes
source_node_lem w i h = omega (arith, (w.bounded.named i h).source, w.bounded.few_nodes)

module _ (known : Map Value) {xs : List Wire} where
  pub resolve_none : xs ≡ [] → Resolved.Unwired ≡ resolve_wires known xs
  unfolding resolve_wires
  resolve_none e = rw e

  pub resolve_one : {w : Wire} {r : Resolved} (o : Option Value) → xs ≡ w ∷ [] → o ≡ known w.source.node_id → r ≡ carried o → r ≡ resolve_wires known xs
  unfolding resolve_wires
  resolve_one o e f g = rw (e, ← f) g

  pub resolve_single : {w : Wire} → xs ≡ w ∷ [] → carried (known w.source.node_id) ≡ resolve_wires known xs
  unfolding resolve_wires
  resolve_single e = rw e

  pub resolve_many : Fan xs → Resolved.Unresolved ≡ resolve_wires known xs
  unfolding resolve_wires
  resolve_many f = rw f.list_is
