-- What an input that folds is: its graph is read, every wire's rewriting ends, and the answer fits.
use Rattle.std.specs.Prelude.{Option, None, Some}
use mathlib.Core.Path.{◌≡◌, refl, sym, ◌∙◌}
use mathlib.Core.Bool.{Bool, true, false, cond}
use mathlib.Core.List.{List}
use Prim.Native.Nat.{ℕ, ◌≤◌}
use lib.Dec.{leb}
use lib.ListN.{length}
use borrow.Author.Tests.{leb-true}
use Rattle.ir.specs.Limits.{max_wires}
use Rattle.ir.specs.declared.Wire.{Wire}
use Rattle.graph.specs.Graph.{Graph}
use Rattle.graph.specs.Decode.{Verdict, accepted, refused, decode, graph_of}
use Rattle.model.specs.Inputs.{size}
use Rattle.model.specs.Rewrite.{rewrite_wires}
use Rattle.model.specs.Outcome.{counted, ending, wires, stops, folds, refuses, measured, answered, outcome_by}
use Rattle.model.specs.Trial.{State}
use Rattle.model.specs.Demands.{fold_of, plan_of}
use Rattle.model.proofs.Refusals.{folds_refuses, at_refusal, at_graph}

pub record Folding (written : Graph → State → List Wire → List ℕ) (input : List ℕ) (room : ℕ) (a : List ℕ) (k : ℕ) : Type 0 where
  pub ws : List Wire
  pub read : decode input ≡ accepted (graph_of input)
  pub rewritten : rewrite_wires (plan_of (graph_of input)) (size (graph_of input)) (graph_of input).wires ≡ Some ws
  pub bytes : a ≡ written (graph_of input) (fold_of (graph_of input)).state ws
  pub pops : k ≡ (fold_of (graph_of input)).pops
  pub few : length ws ≤ max_wires
  pub fits : length a ≤ room

-- the graph of an input that is accepted
pub graph_of_lem : (input : List ℕ) {g : Graph} → decode input ≡ accepted g → g ≡ graph_of input
unfolding graph_of
graph_of_lem input e = rw e refl

module _ (written : Graph → State → List Wire → List ℕ) (input a : List ℕ) (k room : ℕ) where
  by_wires : (d : decode input ≡ accepted (graph_of input)) (o : Option (List Wire)) → rewrite_wires (plan_of (graph_of input)) (size (graph_of input)) (graph_of input).wires ≡ o
      → answered written (graph_of input) (fold_of (graph_of input)) room (ending (graph_of input) (plan_of (graph_of input)) o) ≡ folds a k → Folding written input room a k
  unfolding ending answered counted measured
  by_wires d None q e = folds_refuses e
  by_wires d (Some ws) q e = count (leb (length ws) max_wires) refl e
    where
      b : List ℕ
      b = written (graph_of input) (fold_of (graph_of input)).state ws

      fit : length ws ≤ max_wires → (t : Bool) → leb (length b) room ≡ t → cond t (folds b (fold_of (graph_of input)).pops) (refuses 10 0) ≡ folds a k → Folding written input room a k
      fit m true l e = let z : a ≡ b = cc in record { ws = ws; read = d; rewritten = q; bytes = z; pops = cc; few = m; fits = rw z (leb-true (length b) room l) }
      fit m false l e = folds_refuses e

      count : (t : Bool) → leb (length ws) max_wires ≡ t → answered written (graph_of input) (fold_of (graph_of input)) room (cond t (wires ws) (stops 10 0)) ≡ folds a k → Folding written input room a k
      count true l e = unfold answered measured in fit (leb-true (length ws) max_wires l) (leb (length b) room) refl e
      count false l e = unfold answered in folds_refuses e

  pub folds_folding : outcome_by written input room ≡ folds a k → Folding written input room a k
  folds_folding e = go (decode input) refl
    where
      go : (d : Verdict) → decode input ≡ d → Folding written input room a k
      go (refused n p) d = folds_refuses (sym (at_refusal written input room n p d) ∙ e)
      go (accepted g) d = let r : decode input ≡ accepted (graph_of input) = rw (← graph_of_lem input d) d in by_wires r _ refl (sym (at_graph written input room (graph_of input) r) ∙ e)
