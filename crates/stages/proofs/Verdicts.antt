-- What a verdict says.
use mathlib.Core.Path.{◌≡◌, sym, ap}
use mathlib.Core.List.{List}
use Prim.Native.Nat.{ℕ}
use lib.ListN.{replicate}
use Rattle.ir.specs.Limits.{max_nodes}
use Rattle.value.specs.declared.Value.{Value}
use Rattle.graph.specs.Graph.{Graph}
use Rattle.graph.specs.Decode.{refused, decode, graph_of}
use Rattle.graph.specs.declared.Counts.{Counts}
use Rattle.records.specs.Access.{Accepts}
use Rattle.model.specs.Maps.{Map}
use Rattle.model.specs.Own.{set_nothing, own_of}
use Rattle.model.specs.Worklist.{worklist}
use Rattle.model.specs.Demands.{fold_of}
use Rattle.model.proofs.Own.{own_zeros}
use Rattle.propagation.proofs.Accepted.{accepted_graph}
use Rattle.stages.specs.Stages.{number_in, pops_in}

pub accepted_says : (input : List ℕ) (c : Counts) → Accepts input c → (0 ≡ number_in (decode input)) × ((fold_of (graph_of input)).pops ≡ pops_in (decode input))
unfolding number_in pops_in
accepted_says input c a = let e = accepted_graph input c a in (sym (ap number_in e), sym (ap pops_in e))

-- with nothing set
pub plain_pops : (g : Graph) → (worklist (own_of g (replicate max_nodes set_nothing)) g).pops ≡ (fold_of g).pops
plain_pops g = ap (λ (own : Map Value). (worklist own g).pops) (own_zeros g max_nodes)

pub refused_says : (input : List ℕ) (n p : ℕ) → decode input ≡ refused n p → (n ≡ number_in (decode input)) × (0 ≡ pops_in (decode input))
unfolding number_in pops_in
refused_says input n p e = (sym (ap number_in e), sym (ap pops_in e))
