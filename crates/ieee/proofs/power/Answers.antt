-- `ieee::power` meets its contract.
use Rattle.std.proofs.Common.{◌≡◌, ◌*◌, ◌%◌, ◌^◌, false, ap, ◌∙◌, one-mul, arith, lit<, shl_exact}
use mathlib.Core.Path.{subst⁻¹}
use lib.Ieee.{Float, binary64, of_bits}
use lib.Ieee.Exact.{HasValue}
use Rattle.ieee.proofs.Units.{read_low, read_high}
use Rattle.ieee.proofs.power.Goals as goal

pub returns-then-exponent-le-SUBNORMAL : goal.returns-then-exponent-le-SUBNORMAL
returns-then-exponent-le-SUBNORMAL c =
    let e = c.args.exponent in
    let shifted : 1 * 2 ^ e % 2 ^ 64 ≡ 2 ^ e = shl_exact 1 e 64 (lit< tt) (omega arith) ∙ one-mul (2 ^ e) in
    subst⁻¹ (λ (x : Float). HasValue x false (2 ^ e) (2 ^ 1074)) (c.from_bits.ensures.value ∙ ap (of_bits binary64) shifted) (read_low e (omega (arith, c.if-exponent-le-SUBNORMAL.true)))

pub returns-else-exponent-le-SUBNORMAL : goal.returns-else-exponent-le-SUBNORMAL
returns-else-exponent-le-SUBNORMAL c = subst⁻¹ (λ (x : Float). HasValue x false (2 ^ c.args.exponent) (2 ^ 1074)) c.from_bits-else-exponent-le-SUBNORMAL.ensures.value (read_high _ (omega (arith, c.if-exponent-le-SUBNORMAL.false)) c.requires)
