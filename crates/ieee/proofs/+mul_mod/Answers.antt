use Rattle.std.proofs.Common.{ℕ, ◌+◌, ◌*◌, ◌%◌, ap, ◌∙◌}
use Rattle.ieee.proofs.Units.{product_digits}
use Rattle.ieee.proofs.+mul_mod.Goals as goal

pub returns-else-y-lt-DIGITS : goal.returns-else-y-lt-DIGITS
returns-else-y-lt-DIGITS t c =
    let a = c.args in ap (λ (z : ℕ). (z * 1024 + a.x * (a.y % 1024)) % a.b) c.mul_mod.ensures ∙ product_digits a.x a.y a.b
