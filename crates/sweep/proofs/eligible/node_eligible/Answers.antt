-- `sweep::eligible::node_eligible` meets its contract.
use Rattle.graph.specs.Decode.{graph_of}
use Rattle.sweep.proofs.Marks.{node_read}
use Rattle.sweep.proofs.eligible.node_eligible.Goals as goal

pub returns : goal.returns
returns c = node_read (graph_of c.args.input.now) c.args.actions.now c.args.n _ _ c.requires.0 c.node-node.ensures c.is_eligible.ensures
