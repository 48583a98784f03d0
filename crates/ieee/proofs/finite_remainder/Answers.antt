-- `ieee::finite_remainder` meets its contract.
use denote.Floats.{passes}
use lib.Ieee.{div, of_bits}
use Rattle.ieee.proofs.Units.{rem_below, rem_positive, rem_negative, rem_by_zero}
use Rattle.ieee.proofs.finite_remainder.Goals as goal

pub returns-then-b-eq0 : goal.returns-then-b-eq0
unfolding div of_bits
returns-then-b-eq0 c = rem_by_zero _ _ _ _ _ _ _ _ c.decompose-a.ensures c.decompose-b.ensures c.if-b-eq0.true

pub returns-then-a-b : goal.returns-then-a-b
returns-then-a-b c =
    rem_below _ _ _ _ _ _ _ _ (passes _ c.well_formed.0.1) c.decompose-a.ensures c.decompose-b.ensures c.if-a-b.true

pub returns-then-a : goal.returns-then-a
returns-then-a c =
    rem_negative _ _ _ _ _ _ _ _ _ _ c.decompose-a.ensures c.decompose-b.ensures c.if-b-eq0.false c.if-a-b.false c.shl_mod-r.ensures c.scaled-magnitude.ensures c.if-a.true

pub returns-else-a : goal.returns-else-a
returns-else-a c =
    rem_positive _ _ _ _ _ _ _ _ _ _ c.decompose-a.ensures c.decompose-b.ensures c.if-b-eq0.false c.if-a-b.false c.shl_mod-r.ensures c.scaled-magnitude.ensures c.if-a.false
