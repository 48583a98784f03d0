-- `rewritten::rewrite_graph` meets its contract.
use native.Mathlib.Omega.{arith}
use Rattle.records.proofs.Laid.{few_nodes}
use Rattle.model.specs.Inputs.{size}
use Rattle.propagation.proofs.Accepted.{nodes_are}
use Rattle.rewritten.proofs.rewrite_graph.Goals as goal

pub any_above-requires : goal.any_above-requires
any_above-requires c = unfold size in omega (arith, nodes_are _ _ c.requires.settled.accepts, few_nodes c.args.records.now.input.now)

pub write_kept-requires : goal.write_kept-requires
write_kept-requires c = record { given = c.requires; low = c.any_above.ensures.low c.if-not-any_above.true }
