-- `resolve::gates::evaluate` meets its contract.
use Rattle.std.proofs.lemmas.Bool.Decides.{nat_tests}
use native.Mathlib.Omega.{arith}
use mathlib.Core.Path.{sym, ◌∙◌}
use mir.Facts.{to_z-of_z}
use mir.Syntax.{w64}
use Rattle.inputs.proofs.Conditions.{has_cell_lem}
use Rattle.inputs.proofs.Locations.{few}
use Rattle.resolve.proofs.GateValues.{is_covered, is_whole, not_covered, first_unresolved, second_unresolved, third_unresolved}
use borrow.Author.Rules.{rules}
use Rattle.resolve.proofs.gates.evaluate.Goals as goal

pub returns-in_default : goal.returns-in_default
returns-in_default c = first_unresolved _ c.args.gate.class _ _ _ (c.locate.ensures.unresolved c.in_default.is)

pub returns-in_default-locate : goal.returns-in_default-locate
returns-in_default-locate c = second_unresolved _ c.args.gate.class _ _ _ (c.locate-2.ensures.unresolved c.in_default-locate.is)

pub returns-in_default-locate-2 : goal.returns-in_default-locate-2
returns-in_default-locate-2 c = third_unresolved _ c.args.gate.class _ _ _ (c.locate-3.ensures.unresolved c.in_default-locate-2.is)

pub covers-requires : goal.covers-requires
covers-requires c =
    let p = c.requires in
    let a = c.locate.ensures.found _ c.in-Some.is in
    let b = c.locate-2.ensures.found _ c.in-Some-locate.is in
    let d = c.locate-3.ensures.found _ c.in-Some-locate-2.is in
    has_cell_lem p.2 (few a) (few b) (few d)

pub returns-then-matches-a : goal.returns-then-matches-a
returns-then-matches-a c =
    let p = c.requires in
    let a = c.locate.ensures.found _ c.in-Some.is in
    let b = c.locate-2.ensures.found _ c.in-Some-locate.is in
    let d = c.locate-3.ensures.found _ c.in-Some-locate-2.is in
    is_whole _ _ a b d (c.covers.ensures.rows _ p.0.row_cells) c.if-covers.true (grind (arith, nat_tests)) (grind (arith, nat_tests)) c.whole_math.ensures (sym (to_z-of_z {w = w64} (search rules) ∙ c.from_bits.ensures)) (sym (to_z-of_z {w = w64} (search rules) ∙ c.from_bits-then-matches-a.ensures))

pub returns-then-covers : goal.returns-then-covers
returns-then-covers c =
    let p = c.requires in
    let a = c.locate.ensures.found _ c.in-Some.is in
    let b = c.locate-2.ensures.found _ c.in-Some-locate.is in
    let d = c.locate-3.ensures.found _ c.in-Some-locate-2.is in
    c.evaluate_operands.ensures
    ∙ is_covered _ _ a b d (c.covers.ensures.rows _ p.0.row_cells) c.if-covers.true (c.operand_at-x.ensures _ a) (c.operand_at-y.ensures _ b) (c.operand_at-z.ensures _ d)

pub returns : goal.returns
returns c =
    let p = c.requires in
    let a = c.locate.ensures.found _ c.in-Some.is in
    let b = c.locate-2.ensures.found _ c.in-Some-locate.is in
    let d = c.locate-3.ensures.found _ c.in-Some-locate-2.is in
    not_covered _ _ a b d (c.covers.ensures.rows _ p.0.row_cells) c.if-covers.false
