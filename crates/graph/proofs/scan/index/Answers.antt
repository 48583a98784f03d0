-- `graph::scan::index` meets its contract.
use Prim.Native.Nat.{◌+◌, ◌<◌}
use native.Mathlib.Omega.{arith}
use mathlib.Core.Path.{◌≡◌, ◌∙◌, sym}
use borrow.Author.Rules.{rules}
use borrow.Author.Tests.{ltb-true}
use Rattle.encoding.specs.Numbers.{u16_at}
use Rattle.graph.specs.Index.{Sound}
use Rattle.ir.specs.declared.Role.TheVariants.{Property}
use Rattle.graph.proofs.Added.{property_node, property_port, indexed_more}
use Rattle.graph.proofs.scan.index.Goals as goal

pub returns-then-eq : goal.returns-then-eq
returns-then-eq c =
    λ g f h.
    let r = c.args.r.now in
    let q = c.requires.role_value in
    let n = c.requires.at_bound.1 in
    let e : r.role ≡ Property = search rules in
    let p : Sound _ Property _ _ = rw e at n.1 in
    let there : u16_at r.input.now (r.at + 1) < n.0 = ltb-true _ _ p.there in
    rw (e, c.slot-i.ensures) (indexed_more g.properties _ _ _ h (sym q.0 ∙ e) q.1 (property_node p) (property_port p) (rw e at f) (n.2 (omega arith)))
