-- `gate_cases::mezburiko_sqrt` meets its contract.
use Rattle.std.specs.Prelude.{Option, None, Some, unwrap_or}
use mathlib.Core.Path.{◌≡◌, refl, ap, ◌∙◌}
use lib.Ieee.{Float, binary64, of_bits}
use Rattle.gate_cases.specs.Cases.{or_nan}
use Rattle.gate_cases.proofs.mezburiko_sqrt.Goals as goal

by_cases : (o : Option Float) → unwrap_or o (of_bits binary64 0x7ff8_0000_0000_0000) ≡ or_nan o
unfolding of_bits
by_cases None = refl
by_cases (Some y) = refl

pub returns : goal.returns
returns c = c.unwrap_or.ensures ∙ by_cases c.sqrt.result ∙ ap or_nan c.sqrt.ensures.root
