-- `swept::answer_swept` meets its contract.
use Prim.Native.Nat.{◌*◌}
use mathlib.Core.Path.{refl}
use Rattle.swept.proofs.Stages.{bounded_in}
use Rattle.swept.proofs.answer_swept.Goals as goal

pub invariant_of-wires : goal.invariant_of-wires
invariant_of-wires c = record { bounded = bounded_in c.requires.0 }

pub sweep_graph-requires : goal.sweep_graph-requires
sweep_graph-requires c = (record { kinds = _; words = _; details = _; pops = _; emitted = c.requires.0 }, refl)

pub write_swept-requires : goal.write_swept-requires
write_swept-requires c = record { actions = _; details = _; emitted = c.requires.0; removes = c.sweep_graph.ensures }

pub returns : goal.returns
returns c = c.write_swept.ensures
