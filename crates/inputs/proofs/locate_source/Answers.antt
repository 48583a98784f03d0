-- `inputs::locate_source` meets its contract.
use Prim.Native.Nat.{◌<◌}
use native.Mathlib.Omega.{arith}
use Rattle.ir.specs.Limits.{max_nodes}
use Rattle.inputs.proofs.Locations.{finds, finds_none, unknown_source, at_source}
use Rattle.inputs.proofs.locate_source.Goals as goal

pub returns-then-kind-eq-UNKNOWN : goal.returns-then-kind-eq-UNKNOWN
returns-then-kind-eq-UNKNOWN c o =
    rw (← c.from.ensures, ← c.get-read.ensures) (finds_none (unknown_source _ _ _ c.if-kind-eq-UNKNOWN.true))

pub returns : goal.returns
returns c o =
    let b = c.args.wires.now.bounded in
    let few : c.get-read.result.source.node_id < max_nodes = rw (c.get-read.ensures, c.from.ensures) (omega (arith, (b.named _ c.requires).source, b.few_nodes)) in
    rw (← c.from.ensures, ← c.get-read.ensures, c.variant_of.ensures, c.first_word.ensures) (finds (at_source _ _ _ few c.if-kind-eq-UNKNOWN.false o))
