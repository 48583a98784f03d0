-- `inputs::locate_property` meets its contract.
-- what the table says of the port, and where it has an entry, that a property stands there
use Rattle.std.specs.Prelude.{◌+◌}
use mathlib.Core.Path.{◌≡◌, ◌∙◌}
use Rattle.encoding.specs.Numbers.{byte}
use Rattle.graph.specs.Decode.{graph_of}
use Rattle.graph.specs.Graph.{lookup}
use Rattle.graph.specs.Index.{entry_value}
use Rattle.graph.proofs.Added.{entry_none, entry_some}
use Rattle.model.specs.Inputs.{property}
use Rattle.inputs.proofs.Locations.{unwired, at_property}
use Rattle.inputs.proofs.locate_property.Goals as goal
use Rattle.inputs.proofs.locate_property.Goals.{After-offset-at}

says : (c : After-offset-at) → entry_value c.args.properties.now.input.now c.offset-at.result ≡ lookup c.args.node c.args.port (graph_of c.args.properties.now.input.now).properties
says c = rw c.offset-at.ensures (c.args.properties.now.indexed.says _ _ c.requires.0 c.requires.1)

pub returns-then-at-eq0 : goal.returns-then-at-eq0
unfolding property
returns-then-at-eq0 c known =
    let e = entry_none c.args.properties.now.input.now _ c.if-at-eq0.true ∙ says (goal.at.returns-then-at-eq0 c).After-offset-at in
    rw (← e) (unwired _ known)

pub returns : goal.returns
unfolding property
returns c known =
    let s = c.args.properties.now.input.now in
    let at = c.offset-at.result in
    let e = entry_some s at c.if-at-eq0.false ∙ says (goal.at.returns c).After-offset-at in
    rw (← e, c.variant_of.ensures, c.read_word.ensures) (at_property (byte s at) s (at + 4) known)
