-- `root::near_root` meets its contract.
use mathlib.Core.Path.{sym, subst}
use Prim.Native.Nat.{ℕ, ◌+◌, ◌/◌, ◌^◌}
use native.Mathlib.Nat.{div-div-eq-div-mul}
use native.Mathlib.Omega.{arith}
use Rattle.root.specs.Steps.{Near}
use Rattle.root.proofs.Newton.{line}
use Rattle.root.proofs.near_root.Goals as goal

pub closer-second-requires : goal.closer-second-requires
closer-second-requires c =
    let n = c.args.n in
    (subst (λ (x : ℕ). Near x ((n / 2 ^ 56 + 147) / 24)) (sym (div-div-eq-div-mul n (2 ^ 48) (2 ^ 8))) (line (n / 2 ^ 56) (omega (arith, c.requires)) (omega (arith, c.ranges.n.fits))), omega arith, omega (arith, c.requires))
