-- `root::float::even_shift` meets its contract.
use mathlib.Core.Path.{sym, subst}
use Prim.Native.Nat.{ℕ, ◌+◌, ◌-◌, ◌%◌}
use native.Mathlib.Omega.{arith}
use Rattle.root.specs.Steps.{EvenShift}
use Rattle.root.proofs.Shifts.{zeros_least, even_shift}
use Rattle.root.proofs.float.even_shift.Goals as goal

pub overflow_sub-result : goal.overflow_sub-result
overflow_sub-result c = omega (arith, c.from-zeros.ensures, zeros_least c.args.significand c.requires.0 c.requires.1)

pub returns : goal.returns
returns c =
    let m = c.args.significand in
    let e = c.args.exponent in
    subst (λ (z : ℕ). EvenShift m e (z - (e % 2 + z) % 2)) (sym c.from-zeros.ensures) (even_shift m e c.requires.0 c.requires.1)
