-- `answer::nodes_size` meets its contract.
use native.Mathlib.Omega.{arith}
use Rattle.state.specs.Held.{known_of}
use Rattle.answer.proofs.Fill.{sizes_start, sizes_next}
use Rattle.answer.proofs.nodes_size.Goals as goal

pub loop-i-init : goal.loop-i-init
loop-i-init c = (omega arith, λ words. sizes_start _ _)

pub loop-i-preserved : goal.loop-i-preserved
unfolding known_of
loop-i-preserved c =
    let i = c.loop-i.i in (
      omega (arith, c.fate_size.ensures.1, c.known_size.ensures.1),
      λ words. sizes_next _ _ i _ _ _ (c.loop-i.invariant.1 words) (c.known_size.ensures.0 i _ _ _ _) (c.fate_size.ensures.0 i _ _ _ _),
    )
