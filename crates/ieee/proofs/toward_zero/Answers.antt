-- `ieee::toward_zero` meets its contract.
use Rattle.std.proofs.Common.{ℕ, T, pos, ap, ◌∙◌}
use mathlib.Core.Path.{subst⁻¹}
use denote.Floats.{passes}
use lib.Ieee.{binary64, in_float, of_int}
use Rattle.ieee.specs.declared.Direction.TheVariants.{TowardZero}
use Rattle.ieee.proofs.Truncation.{truncates, large_same}
use Rattle.ieee.proofs.toward_zero.Goals as goal

pub truncating_f64_to_u64-requires : goal.truncating_f64_to_u64-requires
truncating_f64_to_u64-requires c =
    let t = truncates c.args.y c.requires c.if-y.true in record { lower_bound = t.above; upper_bound = t.below }

pub int_to_float-result : goal.int_to_float-result
int_to_float-result c = subst⁻¹ (λ (n : ℕ). T (in_float binary64 (pos n))) c.truncating_f64_to_u64.ensures (truncates c.args.y c.requires c.if-y.true).small

pub returns-then-y : goal.returns-then-y
returns-then-y c q = ap (λ (n : ℕ). of_int binary64 (pos n)) c.truncating_f64_to_u64.ensures ∙ (truncates c.args.y c.requires c.if-y.true).integral q

pub returns-else-y : goal.returns-else-y
returns-else-y c q = large_same TowardZero q c.args.y (passes _ c.well_formed.0.1) c.requires c.if-y.false
