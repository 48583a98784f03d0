-- `records::access::Wires::len` meets its contract.
use mathlib.Core.Path.{sym}
use Rattle.records.proofs.Runs.{wires_length}
use Rattle.records.proofs.access.Wires.len.Goals as goal

pub returns : goal.returns
returns c = sym (wires_length c.args.self.now.records.now)
