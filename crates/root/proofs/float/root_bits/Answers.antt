-- `root::float::root_bits` meets its contract.
-- the shifted significand fits
use mathlib.Core.Path.{sym, ap, ◌∙◌, subst}
use Prim.Native.Nat.{ℕ, ◌+◌, ◌-◌, ◌*◌, ◌/◌, ◌^◌, ◌≤◌, ◌<◌}
use native.Mathlib.Nat.{mod-eq_of_lt}
use native.Mathlib.Omega.{arith}
use lib.Ieee.{binary64, of_bits}
use Rattle.root.specs.WholeRoot.{whole_root_of}
use Rattle.root.proofs.Squares.{Floor}
use Rattle.root.proofs.Floors.{floor_root}
use Rattle.root.proofs.float.Scaled.{Scaled, next, scaled, root_bits}
use Rattle.root.proofs.float.root_bits.Goals as goal

floor : (c : goal.After-root_to_places-root) → Floor (c.args.significand * 2 ^ c.even_shift-shift.result * 4 ^ 22) c.root_to_places-root.result
floor c =
    let n = c.args.significand * 2 ^ c.even_shift-shift.result in
    let fit : n < 2 ^ 64 = omega (arith, c.even_shift-shift.ensures.most) in
    subst (λ (r : ℕ). Floor (n * 4 ^ 22) r) (sym (c.root_to_places-root.ensures ∙ ap (λ (k : ℕ). whole_root_of (k * 4 ^ 22)) (mod-eq_of_lt fit))) (floor_root (n * 4 ^ 22))

small : (c : goal.After-root_to_places-root) → c.args.exponent ≤ 2100
small c = omega (arith, c.requires.2)

at : (c : goal.After-root_to_places-root) → Scaled (c.args.significand * 2 ^ c.args.exponent * 2 ^ 1074) (c.args.significand * 2 ^ c.even_shift-shift.result * 4 ^ 22) c.root_to_places-root.result ((c.args.exponent + 1030 - c.even_shift-shift.result) / 2)
at c = scaled c.args.significand c.args.exponent c.even_shift-shift.result c.root_to_places-root.result c.even_shift-shift.ensures (small c) (floor c)

pub overflow_add-result-2 : goal.overflow_add-result-2
overflow_add-result-2 c = let h = (at c).high in omega arith

pub returns : goal.returns
returns c =
    let R = c.root_to_places-root.result in
    ap (λ (k : ℕ). of_bits binary64 (k * 2 ^ 52 + (R + 1) / 2)) (next c.args.significand c.args.exponent c.even_shift-shift.result R c.even_shift-shift.ensures (small c) (floor c))
    ∙ root_bits (c.args.significand * 2 ^ c.args.exponent) (at c)
