-- `emit::kept::write_wires` meets its contract.
use Rattle.emit.proofs.Copying.{copy_room, copied}
use Rattle.emit.proofs.kept.write_wires.Goals as goal

pub copy_wires-requires : goal.copy_wires-requires
copy_wires-requires c = copy_room c.requires

pub returns : goal.returns
returns c = copied c.requires c.args.actions.now (c.any_above.ensures.low c.if-any_above.false) c.copy_wires.ensures
