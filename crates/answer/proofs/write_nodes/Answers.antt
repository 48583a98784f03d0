-- `answer::write_nodes` meets its contract.
use native.Mathlib.Omega.{arith}
use lib.ListN.{length-append}
use Rattle.encoding.proofs.Splices.{written_more}
use Rattle.answer.specs.Nodes.{known_records, fate_records}
use Rattle.answer.proofs.write_nodes.Goals as goal

pub returns : goal.returns
returns c =
    let n = c.args.nodes in
    let K = known_records c.args.known.now.kinds c.args.known.now.words n in
    let F = fate_records c.args.known.now.kinds c.args.known.now.words c.args.actions.now n in
    written_more c.write_known_records-fates.ensures (omega (arith, c.requires.1, length-append K F)) c.write_fates.ensures
