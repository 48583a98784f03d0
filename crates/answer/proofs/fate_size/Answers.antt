-- `answer::fate_size` meets its contract.
use native.Mathlib.Omega.{arith}
use mathlib.Core.Path.{◌∙◌}
use Rattle.answer.proofs.NodeSizes.{fate_other, fate_unknown, fate_literal, body_small, some_kind}
use Rattle.answer.proofs.fate_size.Goals as goal
use Rattle.answer.proofs.fate_size.Goals.{then-action-ne-BECOME_LITERAL-via-then-action-ne-BECOME_LITERAL, then-action-ne-BECOME_LITERAL-via-else-action-ne-BECOME_LITERAL+then-kind-eq-UNKNOWN}

pub returns-then-action-ne-BECOME_LITERAL : goal.returns-then-action-ne-BECOME_LITERAL
returns-then-action-ne-BECOME_LITERAL c =
    elim c.then-action-ne-BECOME_LITERAL.branch [
      | then-action-ne-BECOME_LITERAL-via-then-action-ne-BECOME_LITERAL w ↦ (λ i a b d e. fate_other i _ a b d e _ w.if-action-ne-BECOME_LITERAL.true, omega arith)
      | then-action-ne-BECOME_LITERAL-via-else-action-ne-BECOME_LITERAL+then-kind-eq-UNKNOWN w ↦ (λ i a b d e. fate_unknown i _ a b d e _ w.if-kind-eq-UNKNOWN.true, omega arith)
    ]

pub returns : goal.returns
returns c =
    let k = some_kind c.args.kind c.requires c.if-kind-eq-UNKNOWN.false in
    (λ i a b d e. c.body_of.ensures ∙ fate_literal i _ a b d e _ c.if-action-ne-BECOME_LITERAL.false k, omega (arith, c.body_of.ensures, body_small c.args.kind k))
