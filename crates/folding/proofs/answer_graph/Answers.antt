-- `folding::answer_graph` meets its contract.
use native.Mathlib.Omega.{arith}
use mathlib.Core.Path.{refl, sym, ap, ◌∙◌}
use borrow.Author.Tests.{leb-true}
use Rattle.graph.specs.declared.Counts.{Counts}
use Rattle.records.proofs.Laid.{counted, bounded}
use Rattle.propagation.proofs.Accepted.{bounded_at}
use Rattle.folding.proofs.answer_graph.Goals as goal

pub any_above-requires : goal.any_above-requires
any_above-requires c = (bounded_at _ _ c.args.records.now.accepts refl).few_nodes

pub holds-requires : goal.holds-requires
holds-requires c =
    let r = c.args.records.now in
    ((bounded_at _ _ r.accepts refl).few_nodes, omega (arith, ap (λ (d : Counts). d.wires) (counted _ _ r.accepts), (bounded r.input.now).few_wires), c.requires.settled.finished.holds.kinds_listed)

pub write_kept-requires : goal.write_kept-requires
write_kept-requires c =
    record {
      worked = c.requires;
      low = c.any_above.ensures.low c.if-not-any_above.true;
      fits = leb-true _ _ (sym (c.holds.ensures c.args.known.now.words) ∙ c.if-holds.true);
    }
