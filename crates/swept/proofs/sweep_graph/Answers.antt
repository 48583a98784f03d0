-- `swept::sweep_graph` meets its contract.
use Rattle.swept.proofs.Stages.{nodes_in, within, removes}
use Rattle.swept.proofs.sweep_graph.Goals as goal

pub mark-requires : goal.mark-requires
mark-requires c = nodes_in c.requires.0.emitted

pub sweep_dead_pure-requires : goal.sweep_dead_pure-requires
sweep_dead_pure-requires c = rw c.requires.1 (within c.requires.0.emitted c.mark.new.eligible c.mark.ensures)

pub returns : goal.returns
returns c = removes c.requires.0.emitted _ c.mark.ensures (rw c.requires.1 at c.sweep_dead_pure.ensures) c.remove.ensures
