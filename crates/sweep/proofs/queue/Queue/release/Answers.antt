-- `sweep::queue::Queue::release` meets its contract.
use native.Mathlib.Omega.{arith}
use Rattle.sweep.proofs.Queues.{place_left, queued_more}
use Rattle.sweep.proofs.queue.Queue.release.Goals as goal

pub offset_bounds-self-self : goal.offset_bounds-self-self
offset_bounds-self-self c = record { fits = omega (arith, place_left c.args.n c.requires.0 c.requires.1 c.args.self.now.queued) }

pub bounds-self-self : goal.bounds-self-self
bounds-self-self c = place_left c.args.n c.requires.0 c.requires.1 c.args.self.now.queued

pub overflow_add-self : goal.overflow_add-self
overflow_add-self c = record { fits = omega (arith, place_left c.args.n c.requires.0 c.requires.1 c.args.self.now.queued) }

pub invariant_of-self-2 : goal.invariant_of-self-2
invariant_of-self-2 c = record { queued = queued_more c.args.n c.requires.0 c.requires.1 c.args.self.now.queued _ c.if-not-self-n.false c.if-degree-ne0.false }
