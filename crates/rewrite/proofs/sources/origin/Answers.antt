-- `rewrite::sources::origin` meets its contract.
use mathlib.Core.Path.{◌∙◌}
use Rattle.rewrite.proofs.Origins.{origin_here, origin_passed}
use Rattle.rewrite.proofs.sources.origin.Goals as goal

pub returns-then-actions-source-ne-SHORT_CIRCUIT : goal.returns-then-actions-source-ne-SHORT_CIRCUIT
returns-then-actions-source-ne-SHORT_CIRCUIT c = λ n details s r. c.settled.ensures ∙ origin_here _ _ details n s _ c.if-actions-source-ne-SHORT_CIRCUIT.true

pub returns : goal.returns
returns c = λ n details s r. c.settled-2.ensures ∙ rw (c.wire.ensures, c.from.ensures) (origin_passed _ _ details n s _ r _ c.if-actions-source-ne-SHORT_CIRCUIT.false)
