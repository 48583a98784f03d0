-- `sweep::queue::Queue::count_wires` meets its contract.
use mathlib.Core.Path.{refl, ap, ◌≡◌}
use Prim.Native.Nat.{ℕ, ◌<◌, ◌≤◌}
use lib.ListN.{length, get_or}
use native.Mathlib.Omega.{arith}
use Rattle.ir.specs.Limits.{max_nodes}
use Rattle.ir.specs.declared.Wire.{Wire}
use Rattle.records.specs.Access.{wires_of, no_wire}
use Rattle.sweep.proofs.Releases.{counting_start, counting_few, counting_more, counting_ends}
use Rattle.sweep.proofs.queue.Queue.count_wires.Goals as goal
use Rattle.sweep.proofs.queue.Queue.count_wires.Goals.{After-get}

-- the wire leaves a node
source_low : (c : After-get) → c.get.result.source.node_id < max_nodes
source_low c = rw c.get.ensures (omega (arith, (c.args.wires.now.bounded.named c.loop-i.i (omega arith)).source, c.args.wires.now.bounded.few_nodes))

pub loop-i-init : goal.loop-i-init
loop-i-init c = (refl, c.requires.0, counting_start _ c.args.self.now.queued.degrees_long c.requires.1)

pub overflow_add-self : goal.overflow_add-self
overflow_add-self c = record { fits = omega (arith, counting_few c.loop-i.invariant.2 c.args.wires.now.bounded.few_wires c.get.result.source.node_id (source_low (goal.at.overflow_add-self c).After-get)) }

pub loop-i-preserved : goal.loop-i-preserved
loop-i-preserved c = (c.loop-i.invariant.0, c.loop-i.invariant.1, counting_more c.loop-i.invariant.2 _ (omega arith) (ap (λ (w : Wire). w.source.node_id) c.get.ensures) (source_low (goal.at.loop-i-preserved c).After-get))
