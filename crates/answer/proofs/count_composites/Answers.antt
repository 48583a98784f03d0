-- `answer::count_composites` meets its contract.
use Prim.Native.Nat.{◌+◌, ◌*◌}
use native.Mathlib.Omega.{arith}
use native.Mathlib.Nat.{le_trans}
use mathlib.Core.Path.{◌≡◌, sym, ap₂, ◌∙◌}
use mathlib.Core.Bool.{cond}
use lib.Dec.{ltb}
use lib.ListN.{get_or}
use Rattle.state.specs.Held.{known_of}
use Rattle.answer.proofs.Fill.{sizes_none, sizes_more}
use Rattle.answer.proofs.NodeSizes.{most_sizes, count_none, count_more, byte_count, count_small}
use Rattle.answer.proofs.count_composites.Goals as goal
use Rattle.answer.proofs.count_composites.Goals.{After-from-count}

one : (c : After-from-count) → c.from-count.result ≡ cond (ltb 5 (get_or c.args.kinds.now c.loop-i.i 0)) 1 0
one c = c.from-count.ensures ∙ byte_count (ltb 5 (get_or c.args.kinds.now c.loop-i.i 0))

pub loop-i-init : goal.loop-i-init
loop-i-init c = (omega arith, (λ words actions. sizes_none _ _), sym (count_none _))

pub loop-i-preserved : goal.loop-i-preserved
unfolding known_of
loop-i-preserved c =
    let i = c.loop-i.i in (
      omega (arith, one c, count_small (ltb 5 (get_or c.args.kinds.now c.loop-i.i 0))),
      λ words actions.
          let s = sizes_more _ _ i (48 * c.loop-i.count) (48 * c.from-count.result) (c.loop-i.invariant.1 words actions) (rw (one c) (most_sizes i _ _ _ _ _ _ (c.requires.1 i))) in
          le_trans s (omega arith),
      ap₂ ◌+◌ c.loop-i.invariant.2 (one c) ∙ sym (count_more _ i),
    )
