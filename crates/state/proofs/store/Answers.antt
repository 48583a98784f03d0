-- `state::store` meets its contract.
use Rattle.state.proofs.Stores.{adds_nothing, adds_known, adds_literal, adds_short_circuit, adds_short_circuit_known, adds_truncate}
use Rattle.state.proofs.store.Goals as goal

pub returns-in-Nothing : goal.returns-in-Nothing
returns-in-Nothing c = adds_nothing _ _ _ _ _ c.requires _ c.in-Nothing.is

pub returns-in-Known : goal.returns-in-Known
returns-in-Known c = adds_known _ _ _ _ _ c.requires _ _ _ _ c.in-Known.is c.learn.ensures

pub returns-in-BecomeLiteral : goal.returns-in-BecomeLiteral
returns-in-BecomeLiteral c = adds_literal _ _ _ _ _ c.requires _ _ _ _ _ _ c.in-BecomeLiteral.is c.learn-in-BecomeLiteral.ensures c.put.ensures

pub returns-in-ShortCircuit : goal.returns-in-ShortCircuit
returns-in-ShortCircuit c = adds_short_circuit _ _ _ _ _ c.requires _ _ _ _ c.in-ShortCircuit.is c.put-in-ShortCircuit.ensures

pub returns-in-ShortCircuitKnown : goal.returns-in-ShortCircuitKnown
returns-in-ShortCircuitKnown c = adds_short_circuit_known _ _ _ _ _ c.requires _ _ _ _ _ _ _ c.in-ShortCircuitKnown.is c.learn-in-ShortCircuitKnown.ensures c.put-in-ShortCircuitKnown.ensures

pub returns-in-Truncate : goal.returns-in-Truncate
returns-in-Truncate c = adds_truncate _ _ _ _ _ c.requires _ _ _ _ c.in-Truncate.is (rw c.from.ensures at c.put-in-Truncate.ensures)
