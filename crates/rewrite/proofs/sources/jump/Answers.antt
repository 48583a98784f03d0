-- `rewrite::sources::jump` meets its contract.
use mathlib.Core.Path.{refl, sym}
use Rattle.rewrite.proofs.Jumping.{jump_other, jump_ends, jump_on, jumped_not, jumped_on}
use Rattle.rewrite.proofs.sources.jump.Goals as goal

pub returns-then-actions-m-ne-SHORT_CIRCUIT : goal.returns-then-actions-m-ne-SHORT_CIRCUIT
returns-then-actions-m-ne-SHORT_CIRCUIT c = let e = jump_other _ _ _ _ c.if-actions-m-ne-SHORT_CIRCUIT.true in (sym e, sym (jumped_not _ _ _ _ e))

pub returns-then-actions-s-ne-SHORT_CIRCUIT : goal.returns-then-actions-s-ne-SHORT_CIRCUIT
returns-then-actions-s-ne-SHORT_CIRCUIT c = let e = jump_ends _ _ _ _ (rw (c.get-s.ensures, c.from.ensures) at c.if-actions-s-ne-SHORT_CIRCUIT.true) in (sym e, sym (jumped_not _ _ _ _ e))

pub returns : goal.returns
returns c = let e = jump_on _ _ _ _ c.if-actions-m-ne-SHORT_CIRCUIT.false (rw (c.get-s.ensures, c.from.ensures) at c.if-actions-s-ne-SHORT_CIRCUIT.false) in (sym e, rw (jumped_on _ _ _ _ e, c.get-s.ensures, c.from.ensures) refl)
