-- `answer::known_size` meets its contract.
use Prim.Native.Nat.{ℕ, ◌+◌, ◌≤◌}
use native.Mathlib.Omega.{arith}
use mathlib.Core.Path.{ap, ◌∙◌}
use Rattle.answer.proofs.NodeSizes.{known_none, known_some, body_small, some_kind}
use Rattle.answer.proofs.known_size.Goals as goal

small : (c : goal.After-body_of) → c.body_of.result ≤ 35
small c = let k = some_kind c.args.kind c.requires c.if-kind-eq-UNKNOWN.false in omega (arith, c.body_of.ensures, body_small c.args.kind k)

pub returns-then-kind-eq-UNKNOWN : goal.returns-then-kind-eq-UNKNOWN
returns-then-kind-eq-UNKNOWN c = (λ i a b d e. known_none i _ a b d e c.if-kind-eq-UNKNOWN.true, omega arith)

pub returns-else-kind-eq-UNKNOWN : goal.returns-else-kind-eq-UNKNOWN
returns-else-kind-eq-UNKNOWN c =
    let k = some_kind c.args.kind c.requires c.if-kind-eq-UNKNOWN.false in
    (λ i a b d e. ap (λ (x : ℕ). 1 + x) c.body_of.ensures ∙ known_some i _ a b d e k, omega (arith, small c))
