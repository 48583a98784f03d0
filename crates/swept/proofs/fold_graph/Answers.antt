-- `swept::fold_graph` meets its contract.
use Prim.Native.Nat.{ℕ, ◌*◌}
use lib.ListN.{length-replicate}
use Rattle.ir.specs.Limits.{max_wires}
use Rattle.state.proofs.Stores.{cleared}
use Rattle.rewritten.proofs.Stages.{settled_plain}
use Rattle.swept.proofs.fold_graph.Goals as goal

pub propagate_graph-pops-requires : goal.propagate_graph-pops-requires
propagate_graph-pops-requires c =
    let k = c.new-known.ensures in
    let p = c.new-plan.ensures in
    (c.requires, rw (k.kinds, k.words, p.actions, p.details) (cleared _))

pub rewrite_graph-requires : goal.rewrite_graph-requires
rewrite_graph-requires c = (settled_plain c.propagate_graph-pops.ensures, length-replicate {A = ℕ} (7 * max_wires) 0)

pub returns : goal.returns
returns c = c.rewrite_graph.ensures
