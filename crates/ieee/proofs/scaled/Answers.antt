-- `ieee::scaled` meets its contract.
use Rattle.std.proofs.Common.{◌^◌, ◌≤◌, false, zero-lt-suc, arith, pow_pos}
use lib.Ieee.{binary64, of_int, round}
use lib.Ieee.Back.{round_whole}
use Rattle.ieee.proofs.Units.{product}
use Rattle.ieee.proofs.scaled.Goals as goal

pub returns : goal.returns
unfolding of_int
returns c =
    let m : c.args.significand ≤ 2 ^ 53 = omega (arith, c.requires.0) in
    product (round binary64 false c.args.significand 1) c.power.result c.args.significand 1 (2 ^ c.args.exponent) (2 ^ 1074) (zero-lt-suc 0) (pow_pos 1074) (round_whole binary64 false c.args.significand m) c.power.ensures
