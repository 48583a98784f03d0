-- `graph::scan::count_property` meets its contract.
use Prim.Native.Nat.{◌+◌}
use native.Mathlib.Omega.{arith}
use mathlib.Core.Bool.{cond}
use mathlib.Core.Path.{◌≡◌, ◌∙◌, ap}
use lib.Dec.{eqb}
use lib.ListN.{length-append}
use Rattle.ir.specs.Kinds.{text_kind}
use Rattle.encoding.specs.Numbers.{byte}
use Rattle.encoding.proofs.Held.{flag_byte}
use Rattle.graph.specs.Graph.{property_at, snoc, texts}
use Rattle.graph.proofs.Added.{texts_more}
use Rattle.graph.proofs.scan.count_property.Goals as goal

pub returns : goal.returns
returns c = λ g s at h k r.
    let b : c.from.result ≡ cond (eqb (byte s at) text_kind) 1 0 = c.from.ensures ∙ flag_byte _ ∙ ap (λ n. cond (eqb n text_kind) 1 0) k in
    let t : texts g.properties + c.from.result ≡ texts (snoc g.properties (property_at s at)) = omega (arith, texts_more g.properties s at r, b) in
    rw (h, length-append, t)
