-- No answer is longer than `max_answer`.
use Rattle.std.specs.Prelude.{Option, None, Some}
use Prim.Native.Nat.{ℕ, zero, suc, ◌+◌, ◌-◌, ◌*◌, ◌<◌, ◌≤◌}
use native.Mathlib.Omega.{arith}
use native.Mathlib.Decide.{le_ind}
use mathlib.Core.Path.{◌≡◌, refl, ap}
use mathlib.Core.Bool.{true, false≢true}
use mathlib.Core.List.{List, [], ◌∷◌, ◌++◌}
use mathlib.Core.Logic.{◌⊎◌, inl, inr}
use lib.ListN.{length, get_or, length-append}
use Rattle.ir.specs.Limits.{max_wires, max_answer}
use Rattle.ir.specs.declared.Wire.{Wire}
use Rattle.value.specs.declared.Value.{Value}
use Rattle.semantics.specs.Finite.{finite_value}
use Rattle.encoding.specs.Numbers.{bytes_of}
use Rattle.encoding.specs.Values.{value_bytes}
use Rattle.encoding.specs.Wires.{wire_bytes}
use Rattle.graph.specs.Graph.{Graph}
use Rattle.records.specs.Access.{no_wire, Named, Bounded}
use Rattle.model.specs.Maps.{Map, up_to}
use Rattle.model.specs.Inputs.{size}
use Rattle.model.specs.Offer.{PlanAction, BecomeLiteral, ShortCircuit, Truncate}
use Rattle.model.specs.Trial.{State}
use Rattle.model.specs.Worklist.{worklist}
use Rattle.model.specs.Rewrite.{both, collect, arrive, reach, joined, rewrite_wire, rewrite_wires}
use Rattle.model.specs.Answer.{each, known_bytes, fate_bytes, answer}
use Rattle.model.specs.Demands.{MadeLiteral}
use Rattle.model.proofs.Each.{each_size, sizes_most, wires_size}
use Rattle.model.proofs.Finite.{planned_literal}

-- either a plan makes a literal or it does not
literal? : (q : Option PlanAction) → ((v : Value) × (q ≡ Some (BecomeLiteral v))) ⊎ (MadeLiteral q → ⊥)
literal? None = inr (λ h. h)
literal? (Some (BecomeLiteral v)) = inl (v, refl)
literal? (Some (ShortCircuit s)) = inr (λ h. h)
literal? (Some (Truncate ts)) = inr (λ h. h)

-- ---- the records of a node

-- no value is longer than a Quat or a Color, and no finite one than a Vector
value_size_lem : (v : Value) → (length (value_bytes v) ≤ 32) × (finite_value v ≡ true → length (value_bytes v) ≤ 24)
unfolding bytes_of
value_size_lem (Value.Int n) = (omega arith, λ e. omega arith)
value_size_lem (Value.Float x) = (omega arith, λ e. omega arith)
value_size_lem (Value.Bool b) = (omega arith, λ e. omega arith)
value_size_lem (Value.Vector x y z) = (omega arith, λ e. omega arith)
value_size_lem (Value.Rotator p y r) = (omega arith, λ e. omega arith)
value_size_lem (Value.Quat x y z w) = (omega arith, λ e. absurd (false≢true e))
value_size_lem (Value.Color r g b a) = (omega arith, λ e. absurd (false≢true e))
value_size_lem (Value.Text low high) = (omega arith, λ e. omega arith)

-- a known record: 4 bytes and the value's
known_size : (i : ℕ) (o : Option Value) → length (known_bytes i o) ≤ 36
unfolding known_bytes bytes_of
known_size i None = omega arith
known_size i (Some v) = omega (arith, (value_size_lem v).0)

-- a fate without a value: 3 bytes
free_size : (i : ℕ) (o : Option Value) (q : Option PlanAction) → (MadeLiteral q → ⊥) → length (known_bytes i o) + length (fate_bytes i q) ≤ 39
unfolding fate_bytes bytes_of
free_size i o None h = omega (arith, known_size i o)
free_size i o (Some (BecomeLiteral v)) h = absurd (h tt)
free_size i o (Some (ShortCircuit s)) h = omega (arith, known_size i o)
free_size i o (Some (Truncate ts)) h = omega (arith, known_size i o)

-- ---- a wire that is not dropped enters a node that is not planned as literal

module _ (p : Map PlanAction) (n : ℕ) where
  -- one of n nodes that is not planned as literal
  record FreeNode : Type 0 where
    node : ℕ
    within : node < n
    free : MadeLiteral (p node) → ⊥

  dropped : (k : ℕ) (w : Wire) (v : Value) → p w.target.node_id ≡ Some (BecomeLiteral v) → rewrite_wire p k w ≡ Some []
  unfolding rewrite_wire reach arrive joined
  dropped zero w v e = rw e
  dropped (suc k) w v e = rw e

  entered : (k : ℕ) (ws : List Wire) → ((i : ℕ) → i < length ws → Named n (get_or ws i no_wire)) → FreeNode ⊎ (rewrite_wires p k ws ≡ Some [])
  unfolding rewrite_wires collect both
  entered k [] named = inr refl
  entered k (w ∷ ws) named = go (literal? (p w.target.node_id)) (entered k ws (λ i l. named (suc i) (omega arith)))
    where
      go : ((v : Value) × (p w.target.node_id ≡ Some (BecomeLiteral v))) ⊎ (MadeLiteral (p w.target.node_id) → ⊥) → FreeNode ⊎ (rewrite_wires p k ws ≡ Some [])
          → FreeNode ⊎ (rewrite_wires p k (w ∷ ws) ≡ Some [])
      go (inr h) r = inl (record { node = w.target.node_id; within = (named 0 (omega arith)).target; free = h })
      go (inl h) (inl r) = inl r
      go (inl h) (inr r) = inr (rw (dropped k w h.0 h.1, r))

-- ---- the answer

module _ (own : Map Value) (g : Graph) where
  abbrev s : State
  s = (worklist own g).state

  abbrev known : ℕ → List ℕ
  known i = known_bytes i (s.known i)

  abbrev fate : ℕ → List ℕ
  fate i = fate_bytes i (s.plan i)

  -- a planned literal is known and finite: 4 bytes, 3 bytes and its own twice
  node_size : (i : ℕ) → length (known i) + length (fate i) ≤ 55
  unfolding known_bytes fate_bytes bytes_of
  node_size i = go (literal? (s.plan i))
    where
      go : ((v : Value) × (s.plan i ≡ Some (BecomeLiteral v))) ⊎ (MadeLiteral (s.plan i) → ⊥) → length (known i) + length (fate i) ≤ 55
      go (inl (v, e)) = let (f, k) = planned_literal own g i v e in rw (e, k) (omega (arith, (value_size_lem v).1 f))
      go (inr h) = omega (arith, free_size i (s.known i) (s.plan i) h)

  -- the records of the first n nodes
  abbrev nodes_size : ℕ → ℕ
  nodes_size n = length (each known (up_to n)) + length (each fate (up_to n))

  nodes_size_lem : (n : ℕ) → nodes_size n ≤ 55 * n
  nodes_size_lem n = sizes_most known fate 55 n (λ i l. node_size i)

  free_nodes_size : (n : ℕ) → FreeNode s.plan n → nodes_size n ≤ 55 * (n - 1) + 39
  free_nodes_size n m =
      le_ind
      (λ k. nodes_size k ≤ 55 * (k - 1) + 39)
      (omega (arith, nodes_size_lem m.node, each_size known m.node, each_size fate m.node, free_size m.node (s.known m.node) (s.plan m.node) m.free))
      (λ k i ih. omega (arith, each_size known k, each_size fate k, node_size k))
      n
      m.within

  -- THE LAW: a buffer of `max_answer` bytes holds every answer
  pub answer_size : Bounded g.wires (size g) → (ws : List Wire) → rewrite_wires s.plan (size g) g.wires ≡ Some ws → length ws ≤ max_wires → length (answer (size g) s ws) ≤ max_answer
  unfolding answer
  answer_size b ws e l = go (entered s.plan (size g) (size g) g.wires b.named)
    where
      sum : nodes_size (size g) + 7 * length ws ≤ max_answer → length (answer (size g) s ws) ≤ max_answer
      sum h = omega (arith, length-append (each known (up_to (size g)) ++ each fate (up_to (size g))) (each wire_bytes ws), length-append (each known (up_to (size g))) (each fate (up_to (size g))), wires_size ws)

      go : FreeNode s.plan (size g) ⊎ (rewrite_wires s.plan (size g) g.wires ≡ Some []) → length (answer (size g) s ws) ≤ max_answer
      go (inl m) = sum (omega (arith, free_nodes_size (size g) m, b.few_nodes))
      go (inr r) = let z : ws ≡ [] = cc in sum (omega (arith, nodes_size_lem (size g), b.few_nodes, ap length z))
