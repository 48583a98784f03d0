-- What the writing of the rewritten wires needs of what it reads, and of the stack.
use Rattle.std.specs.Prelude.{ℕ, ◌+◌, ◌*◌, ◌≤◌, ◌<◌, ◌≡◌, List, length, get_or}
use Rattle.ir.specs.Limits.{max_wires}
use Rattle.ir.specs.declared.PortRef.{PortRef}
use Rattle.ir.specs.declared.Wire.{Wire}
use Rattle.records.specs.Access.{no_wire, wires_of}
use Rattle.model.specs.Maps.{Map}
use Rattle.model.specs.Offer.{PlanAction}
use Rattle.state.specs.Planned.{shape_of}
use Rattle.emit.specs.Emit.{leads_to, becomes, rewritten, Live, Net, Prepared, Standing, Descended}
use Rattle.emit.specs.declared.emission.Emission.{Emission}
use Rattle.emit.specs.declared.stack.Stack.{Stack}

abbrev pub wires_in : Emission → List Wire
wires_in e = wires_of e.wires.now.records.now

abbrev pub shape_in : Emission → Map PlanAction
shape_in e = shape_of (wires_in e) e.plan.now.actions e.plan.now.details

-- the unplanned targets that wire i leads to, and the wires that it becomes
abbrev pub targets_in : Emission → ℕ → List PortRef
targets_in e i = leads_to (shape_in e) e.wires.now.nodes (get_or (wires_in e) i no_wire).target

abbrev pub wires_for : Emission → ℕ → List Wire
wires_for e i = becomes (shape_in e) e.wires.now.nodes (get_or (wires_in e) i no_wire)

abbrev pub all_wires : Emission → List Wire
all_wires e = rewritten (wires_in e) e.wires.now.nodes e.plan.now.actions e.plan.now.details

abbrev pub Stands : Emission → Stack → ℕ → List PortRef → Type 0
Stands e s i ts = Standing (shape_in e) e.wires.now.nodes (wires_in e) e.rewrites.now.chains.next s.codes s.height i ts

abbrev pub AtLeaf : Emission → Stack → ℕ → List PortRef → Type 0
AtLeaf e s i ts = Descended (shape_in e) e.wires.now.nodes (wires_in e) e.rewrites.now.chains.next s.codes s.height i ts

abbrev pub HasNet : Emission → Type 0
HasNet e = Net (wires_in e) e.wires.now.nodes e.plan.now.actions e.plan.now.details e.first.now e.rewrites.now.chains.next

abbrev pub IsPrepared : Emission → Type 0
IsPrepared e = Prepared (wires_in e) e.wires.now.nodes e.plan.now.actions e.plan.now.details e.rewrites.now.sources e.rewrites.now.counts e.first.now e.rewrites.now.chains.next

-- what the way down from wire i needs
pub record Descends (e : Emission) (s : Stack) (i : ℕ) : Type 0 where
  pub net : HasNet e
  pub ts : List PortRef
  pub stands : Stands e s i ts

abbrev pub IsEmpty : Stack → Type 0
IsEmpty s = (s.height ≡ 0) × (length s.codes ≡ max_wires)

-- what the writing of a wire's targets needs: they are so many, and there is room for their wires from `at` on
pub record Fans (e : Emission) (s : Stack) (i count at size : ℕ) : Type 0 where
  pub net : HasNet e
  pub within : i < length (wires_in e)
  pub live : Live (shape_in e) e.wires.now.nodes (get_or (wires_in e) i no_wire)
  pub many : count ≡ length (targets_in e i)
  pub few : count ≤ max_wires
  pub empty : IsEmpty s
  pub room : at + 7 * count ≤ size

-- what the writing of wire i needs
pub record Emits (e : Emission) (s : Stack) (i at size : ℕ) : Type 0 where
  pub prepared : IsPrepared e
  pub within : i < length (wires_in e)
  pub empty : IsEmpty s
  pub room : at + 7 * length (wires_for e i) ≤ size
