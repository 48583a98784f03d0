-- `emit::write_wires` meets its contract.
use Rattle.emit.proofs.SharedChains.{starts}
use Rattle.emit.proofs.Writing.{prepared, prepared_shared}
use Rattle.emit.proofs.write_wires.Goals as goal

pub share_chains-requires : goal.share_chains-requires
share_chains-requires c = (starts c.requires.ready, c.requires.ready.bounded.few_nodes)

pub write_all-requires : goal.write_all-requires
write_all-requires c = (prepared_shared (prepared c.requires.ready) c.share_chains.ensures, c.requires.room)
