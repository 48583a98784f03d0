use Rattle.std.proofs.Common.{ℕ, ◌*◌, ◌/◌, ◌%◌, ◌^◌, ◌<◌, ap, ◌∙◌, lt_trans, mod-lt, arith, shl_exact}
use Rattle.ieee.proofs.Units.{square}
use Rattle.ieee.proofs.+pow_mod.Goals as goal

pub returns-else-k-lt64 : goal.returns-else-k-lt64
returns-else-k-lt64 t c =
    let a = c.args in
    let h = c.pow_mod-half.result in
    let below : h < 2 ^ 53 = rw c.pow_mod-half.ensures (lt_trans (mod-lt (2 ^ (a.k / 2)) c.requires.0) c.requires.1) in
    c.mul_mod.ensures
    ∙ ap (λ (z : ℕ). h * z % a.b) (shl_exact 53 (a.k % 2) 64 below (omega arith))
    ∙ square h a.k a.b c.pow_mod-half.ensures
