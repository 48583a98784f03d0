-- `encoding::numbers::read_u64` meets its contract.
use Prim.Native.Nat.{ℕ, ◌+◌, ◌<◌}
use native.Mathlib.Omega.{arith}
use native.Mathlib.Nat.{add_assoc, add-zero}
use mathlib.Core.Path.{◌≡◌, ◌∙◌, ap}
use mathlib.Core.List.{List}
use lib.ListN.{get_or, drop}
use lib.Seq.{get_or-take, get_or-drop}
use Rattle.encoding.specs.Numbers.{byte, number_at}
use Rattle.encoding.proofs.numbers.read_u64.Goals as goal

pub returns : goal.returns
unfolding number_at
returns c =
    let s = c.args.s.now in
    let at = c.args.at in
    let b = c.copy_from_slice.new.self in
    let here : (k : ℕ) → k < 8 → get_or b k 0 ≡ byte s (at + k) = λ k h. ap (λ (l : List ℕ). get_or l k 0) c.copy_from_slice.ensures.after ∙ get_or-take _ (drop at s) k 0 (omega arith) ∙ get_or-drop at s k 0 in
    simp add_assoc (omega (arith, c.from_le_bytes.ensures, ap (byte s) (add-zero at), here 0 (omega arith), here 1 (omega arith), here 2 (omega arith), here 3 (omega arith), here 4 (omega arith), here 5 (omega arith), here 6 (omega arith), here 7 (omega arith)))
