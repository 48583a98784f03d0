-- `propagation::propagate_graph` meets its contract.
use Rattle.propagation.proofs.propagate_graph.Goals as goal

pub run_worklist-requires : goal.run_worklist-requires
run_worklist-requires c =
    let w = c.wires-wires.ensures.wires in
    record { indexed = c.requires.0; linked = (rw w at c.link_feeds.ensures, rw w at c.link_consumers.ensures); fresh = c.requires.1 }
