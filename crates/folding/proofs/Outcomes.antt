-- What a fold of a graph gives, by what the arrays hold after the worklist and by what the rewriting finds. `own` says what nodes are by themselves.
use Rattle.std.specs.Prelude.{Option, None, Some}
use mathlib.Core.Path.{◌≡◌, refl, ap, ap₂, ◌∙◌, fun_ext}
use mathlib.Core.List.{List, ◌++◌}
use Prim.Native.Nat.{ℕ, ◌+◌, ◌*◌, ◌<◌, ◌≤◌}
use native.Mathlib.Omega.{arith}
use native.Mathlib.Decide.{ℕ_discrete}
use lib.ListN.{length, get_or, length-append}
use borrow.Author.Tests.{le-leb, lt-leb}
use Rattle.ir.specs.Limits.{max_wires}
use Rattle.ir.specs.declared.Wire.{Wire}
use Rattle.value.specs.declared.Value.{Value}
use Rattle.encoding.specs.Wires.{wire_bytes}
use Rattle.graph.specs.Graph.{Graph}
use Rattle.model.specs.Maps.{Map, up_to}
use Rattle.model.specs.Inputs.{size}
use Rattle.model.specs.Offer.{PlanAction}
use Rattle.model.specs.Worklist.{worklist}
use Rattle.model.specs.Rewrite.{rewrite_wires}
use Rattle.model.specs.Answer.{each, known_bytes, fate_bytes, answer}
use Rattle.model.specs.Outcome.{endless_index, wire_offset, ending, counted, Result, folds, refuses, measured, rewritten, answered, fold_graph, fold_bytes}
use Rattle.model.proofs.Each.{wires_size}
use Rattle.state.specs.Planned.{shape_at, shape_of, literal_of, valued, plan_of, Holds}
use Rattle.answer.specs.Nodes.{known_records, literal_fate, fate_by, fate_records}
use Rattle.folding.proofs.Alike.{wires_same, index_same, shape_alike}

-- ---- the bytes

-- a fate by the action
pub fate_same : (ws : List Wire) (known : Map Value) (actions details : List ℕ) (i : ℕ) → get_or actions i 0 ≤ 3
    → fate_bytes i (plan_of ws known actions details i) ≡ fate_by i (get_or actions i 0) (known i)
unfolding fate_bytes plan_of shape_of shape_at valued fate_by literal_fate
fate_same ws known actions details i h = go (get_or actions i 0) h (ℕ_discrete (get_or actions i 0) 0) (ℕ_discrete (get_or actions i 0) 1) (ℕ_discrete (get_or actions i 0) 2)
  where
    lit : (o : Option Value) → fate_bytes i (literal_of o) ≡ literal_fate i o
    lit None = refl
    lit (Some v) = refl

    go : (a : ℕ) → a ≤ 3 → Dec (a ≡ 0) → Dec (a ≡ 1) → Dec (a ≡ 2) → fate_bytes i (valued (shape_at ws a (get_or details i 0) i) (known i)) ≡ fate_by i a (known i)
    go a l (yes e) q r = rw e refl
    go a l (no p) (yes e) r = rw e (lit (known i))
    go a l (no p) (no q) (yes e) = rw e refl
    go a l (no p) (no q) (no r) = let e : a ≡ 3 = omega arith in rw e refl

-- the answer's bytes by what the arrays hold
abbrev pub bytes_in : ℕ → List ℕ → List ℕ → List ℕ → List Wire → List ℕ
bytes_in n kinds words actions ws = known_records kinds words n ++ fate_records kinds words actions n ++ each wire_bytes ws

pub bytes_size : (n : ℕ) (kinds words actions : List ℕ) (ws : List Wire) → length (bytes_in n kinds words actions ws) ≡ length (known_records kinds words n) + length (fate_records kinds words actions n) + 7 * length ws
bytes_size n kinds words actions ws =
    length-append (known_records kinds words n ++ fate_records kinds words actions n) (each wire_bytes ws)
    ∙ omega (arith, length-append (known_records kinds words n) (fate_records kinds words actions n), wires_size ws)

-- ---- the outcome

module _ (own : Map Value) (room : ℕ) (g : Graph) (kinds words actions details : List ℕ) (h : Holds g kinds words actions details (worklist own g).state) where
  abbrev shape : Map PlanAction
  shape = shape_of g.wires actions details

  pub plan_same : (n : ℕ) (ws : List Wire) → rewrite_wires (worklist own g).state.plan n ws ≡ rewrite_wires shape n ws
  plan_same n ws = ap (λ (p : Map PlanAction). rewrite_wires p n ws) h.plan ∙ wires_same _ _ (shape_alike g.wires (worklist own g).state.known actions details h.literal) n ws

  pub index_of : (n : ℕ) (ws : List Wire) → endless_index (worklist own g).state.plan n ws ≡ endless_index shape n ws
  index_of n ws = ap (λ (p : Map PlanAction). endless_index p n ws) h.plan ∙ index_same _ _ (shape_alike g.wires (worklist own g).state.known actions details h.literal) n ws

  answer_same : (ws : List Wire) → answer (size g) (worklist own g).state ws ≡ bytes_in (size g) kinds words actions ws
  unfolding answer
  answer_same ws =
      ap₂
      (λ (f k : ℕ → List ℕ). each f (up_to (size g)) ++ each k (up_to (size g)) ++ each wire_bytes ws)
      (fun_ext (λ i. ap (λ (m : Map Value). known_bytes i (m i)) h.known))
      (fun_ext
      (λ i.
      ap (λ (p : Map PlanAction). fate_bytes i (p i)) h.plan
      ∙ fate_same g.wires (worklist own g).state.known actions details i (h.shaped.listed i)
      ∙ ap (λ (m : Map Value). fate_by i (get_or actions i 0) (m i)) h.known))

  abbrev rest : Option (List Wire) → Result
  rest o = answered fold_bytes g (worklist own g) room (ending g (worklist own g).state.plan o)

  at_wires : (o : Option (List Wire)) → rewrite_wires shape (size g) g.wires ≡ o → fold_graph fold_bytes own g room ≡ rest o
  unfolding fold_graph rewritten
  at_wires o e = ap rest (plan_same (size g) g.wires ∙ e)

  pub fold_endless : rewrite_wires shape (size g) g.wires ≡ None → fold_graph fold_bytes own g room ≡ refuses 9 (wire_offset g (endless_index shape (size g) g.wires))
  unfolding ending answered
  fold_endless e = at_wires None e ∙ ap (λ (i : ℕ). refuses 9 (wire_offset g i)) (index_of (size g) g.wires)

  module _ (ws : List Wire) (e : rewrite_wires shape (size g) g.wires ≡ Some ws) where
    pub fold_many : max_wires < length ws → fold_graph fold_bytes own g room ≡ refuses 10 0
    unfolding ending answered counted
    fold_many l = at_wires (Some ws) e ∙ rw (lt-leb (length ws) max_wires l) refl

    fits : length ws ≤ max_wires → fold_graph fold_bytes own g room ≡ measured room (answer (size g) (worklist own g).state ws) (worklist own g).pops
    unfolding ending answered counted
    fits l = at_wires (Some ws) e ∙ rw (le-leb (length ws) max_wires l) refl

    pub fold_long : length ws ≤ max_wires → room < length (bytes_in (size g) kinds words actions ws) → fold_graph fold_bytes own g room ≡ refuses 10 0
    unfolding measured
    fold_long l b = fits l ∙ rw (answer_same ws) (rw (lt-leb _ room b) refl)

    pub fold_folds : length ws ≤ max_wires → length (bytes_in (size g) kinds words actions ws) ≤ room → fold_graph fold_bytes own g room ≡ folds (bytes_in (size g) kinds words actions ws) (worklist own g).pops
    unfolding measured
    fold_folds l b = fits l ∙ rw (answer_same ws) (rw (le-leb _ room b) refl)
