-- `rewrite::chains::link_all` meets its contract.
use mathlib.Core.Path.{◌≡◌}
use mathlib.Core.Bool.{Bool}
use Rattle.ir.specs.declared.Wire.{Wire}
use Rattle.records.specs.Access.{wires_of}
use Rattle.rewrite.specs.Linked.{leaves, Linked}
use Rattle.rewrite.proofs.chains.link_all.Given as goal

abbrev pub invariant-loop-i : goal.invariant-loop-i
invariant-loop-i g l =
    (picks : Wire → Bool) → ((w : Wire) (r : Bool) → goal.F-post g l.test w r → r ≡ picks w) → Linked (wires_of l.records) (leaves picks) l.chains.first l.chains.next l.i
