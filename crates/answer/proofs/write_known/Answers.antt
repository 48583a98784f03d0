-- `answer::write_known` meets its contract.
use native.Mathlib.Omega.{arith}
use Rattle.state.proofs.Values.{unknown_at, known_at}
use Rattle.answer.proofs.Fill.{written_none}
use Rattle.answer.proofs.NodeSizes.{some_kind, bytes_none, bytes_some, port_room}
use Rattle.answer.proofs.write_known.Goals as goal

pub returns-then-kind-eq-UNKNOWN : goal.returns-then-kind-eq-UNKNOWN
returns-then-kind-eq-UNKNOWN c = rw (bytes_none c.args.i _ (unknown_at c.args.known.now.kinds c.args.known.now.words c.args.i c.if-kind-eq-UNKNOWN.true)) (written_none _ c.args.at (omega (arith, c.requires.1)))

pub write_value-requires : goal.write_value-requires
write_value-requires c = (some_kind _ (c.requires.2 c.args.i) c.if-kind-eq-UNKNOWN.false, port_room _ _ _ _ _ _ (known_at c.args.known.now.kinds c.args.known.now.words c.args.i c.if-kind-eq-UNKNOWN.false c.words_at-w.ensures) c.requires.1)

pub returns : goal.returns
returns c = rw (bytes_some c.args.i _ _ (known_at c.args.known.now.kinds c.args.known.now.words c.args.i c.if-kind-eq-UNKNOWN.false c.words_at-w.ensures)) c.write_value.ensures.written
