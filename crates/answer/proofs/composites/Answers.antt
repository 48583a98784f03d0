-- `answer::composites` meets its contract.
use mathlib.Core.Path.{sym}
use native.Mathlib.Omega.{arith}
use native.Mathlib.Nat.{le_trans}
use Rattle.model.proofs.Each.{sizes_most}
use Rattle.state.specs.Held.{known_of}
use Rattle.answer.proofs.NodeSizes.{scalar_sizes, count_low}
use Rattle.answer.proofs.composites.Goals as goal

pub returns : goal.returns
unfolding known_of
returns c =
    record {
      bound = λ words actions. le_trans (sizes_most _ _ 23 c.args.nodes (λ i l. scalar_sizes i _ _ _ _ _ _ (c.requires.1 i) (c.any_above.ensures.low c.if-any_above.false i l))) (omega arith);
      few = omega arith;
      count = sym (count_low _ c.args.nodes (c.any_above.ensures.low c.if-any_above.false));
    }
