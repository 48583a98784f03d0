-- `ieee::shl_mod` meets its contract.
use Rattle.std.proofs.Common.{ℕ, ◌*◌, ◌%◌, ◌^◌, ap, ◌∙◌, arith, shl_exact}
use Rattle.ieee.proofs.Units.{factor_mod}
use Rattle.ieee.proofs.shl_mod.Goals as goal

pub returns-then-k-le-SPARE : goal.returns-then-k-le-SPARE
returns-then-k-le-SPARE c = ap (λ (z : ℕ). z % c.args.b) (shl_exact 53 c.args.k 64 c.requires.0 (omega arith))

pub returns-else-k-le-SPARE : goal.returns-else-k-le-SPARE
returns-else-k-le-SPARE c =
    let s = c.args in
    c.mul_mod.ensures ∙ ap (λ (z : ℕ). s.a * z % s.b) c.pow_mod.ensures ∙ factor_mod s.a (2 ^ s.k) s.b
