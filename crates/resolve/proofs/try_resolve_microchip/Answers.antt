-- `resolve::try_resolve_microchip` meets its contract.
use mathlib.Core.Path.{refl}
use lib.ListN.{get_or}
use borrow.Author.Rules.{rules}
use Rattle.model.specs.Own.{set_nothing}
use Rattle.resolve.proofs.Trials.{passes, is_set, never_set, nothing_known}
use Rattle.resolve.proofs.try_resolve_microchip.Goals as goal

pub returns-in_default : goal.returns-in_default
returns-in_default c = λ g. let a = c.args in passes g a.n a.class (get_or a.own.now a.n set_nothing) a.input (search rules) (c.passed.ensures g _)

pub returns-then-class-eq-MICROCHIP_INPUT : goal.returns-then-class-eq-MICROCHIP_INPUT
returns-then-class-eq-MICROCHIP_INPUT c = λ g. let a = c.args in is_set g a.n a.class (get_or a.own.now a.n set_nothing) c.in-Unwired.is c.if-class-eq-MICROCHIP_INPUT.true (c.set_to.ensures g _)

pub returns : goal.returns
returns c = λ g. let a = c.args in never_set g a.n a.class (get_or a.own.now a.n set_nothing) c.in-Unwired.is c.if-class-eq-MICROCHIP_INPUT.false (nothing_known g _ refl)
