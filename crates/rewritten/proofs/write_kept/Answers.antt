-- `rewritten::write_kept` meets its contract.
use native.Mathlib.Omega.{arith}
use Rattle.folding.proofs.Stages.{section_records}
use Rattle.rewritten.proofs.Stages.{wrote_kept}
use Rattle.rewritten.proofs.write_kept.Goals as goal

pub write_wires-length-requires : goal.write_wires-length-requires
write_wires-length-requires c =
    let w = c.wires-wires in
    record {
      records = section_records _ _ c.args.records.now.accepts w.ensures.records w.ensures.wires c.bytes_fit.ensures;
      bounded = w.result.bounded;
      room = omega (arith, c.requires.given.long, w.result.bounded.few_wires);
    }

pub returns : goal.returns
returns c = record { law = λ own kinds words pops S. wrote_kept S c.requires.low _ c.wires-wires.ensures.wires c.write_wires-length.ensures }
