-- `answer::write_fate` meets its contract.
use native.Mathlib.Omega.{arith}
use mathlib.Core.Path.{ap}
use mathlib.Core.Bool.{cond}
use lib.Dec.{eqb}
use lib.ListN.{length}
use Rattle.state.specs.Held.{known_of}
use Rattle.state.proofs.Values.{unknown_at, known_at}
use Rattle.answer.proofs.NodeSizes.{some_kind, by_plain, by_unknown, by_literal, head_size}
use Rattle.answer.proofs.write_fate.Goals as goal

pub write_head-requires : goal.write_head-requires
write_head-requires c = omega (arith, c.requires.1, ap length (by_plain c.args.i c.args.action (known_of c.args.known.now.kinds c.args.known.now.words c.args.i) c.if-action-ne-BECOME_LITERAL.true), head_size (cond (eqb c.args.action 0) 0x10 0x11) c.args.i)

pub returns-then-action-ne-BECOME_LITERAL : goal.returns-then-action-ne-BECOME_LITERAL
returns-then-action-ne-BECOME_LITERAL c = rw (by_plain c.args.i c.args.action (known_of c.args.known.now.kinds c.args.known.now.words c.args.i) c.if-action-ne-BECOME_LITERAL.true, ← c.fate_of-fate.ensures) c.write_head.ensures

pub write_head-requires-then-kind-eq-UNKNOWN : goal.write_head-requires-then-kind-eq-UNKNOWN
write_head-requires-then-kind-eq-UNKNOWN c = omega (arith, c.requires.1, ap length (by_unknown c.args.i c.args.action _ c.if-action-ne-BECOME_LITERAL.false (unknown_at c.args.known.now.kinds c.args.known.now.words c.args.i c.if-kind-eq-UNKNOWN.true)), head_size 0x10 c.args.i)

pub returns-then-kind-eq-UNKNOWN : goal.returns-then-kind-eq-UNKNOWN
returns-then-kind-eq-UNKNOWN c = rw (by_unknown c.args.i c.args.action _ c.if-action-ne-BECOME_LITERAL.false (unknown_at c.args.known.now.kinds c.args.known.now.words c.args.i c.if-kind-eq-UNKNOWN.true)) c.write_head-then-kind-eq-UNKNOWN.ensures

pub write_literal-requires : goal.write_literal-requires
write_literal-requires c = (some_kind _ (c.requires.2 c.args.i) c.if-kind-eq-UNKNOWN.false, omega (arith, c.requires.1, ap length (by_literal c.args.i c.args.action _ _ c.if-action-ne-BECOME_LITERAL.false (known_at c.args.known.now.kinds c.args.known.now.words c.args.i c.if-kind-eq-UNKNOWN.false c.words_at-w.ensures))))

pub returns : goal.returns
returns c = rw (by_literal c.args.i c.args.action _ _ c.if-action-ne-BECOME_LITERAL.false (known_at c.args.known.now.kinds c.args.known.now.words c.args.i c.if-kind-eq-UNKNOWN.false c.words_at-w.ensures)) c.write_literal.ensures
