-- What an accepted input and its indexes are, and what a refused one is.
use Rattle.std.specs.Prelude.{Result, Ok, Err, IsErrAnd}
use mathlib.Core.Path.{◌≡◌, refl, sym, ap, ap₂, ◌∙◌, subst, subst₂}
use mathlib.Core.List.{List}
use Prim.Native.Nat.{ℕ}
use native.Mathlib.Omega.{arith}
use Rattle.ir.specs.declared.Wire.{Wire}
use Rattle.graph.specs.Graph.{counts_of}
use Rattle.graph.specs.Decode.{Verdict, accepted, refused, decode, graph_of}
use Rattle.graph.specs.Refusals.{counts, refusal, reported}
use Rattle.graph.specs.declared.Counts.{Counts}
use Rattle.graph.specs.declared.Row.{Row}
use Rattle.graph.specs.Index.{Indexed}
use Rattle.records.specs.Access.{wires_of, Accepts, Bounded}
use Rattle.records.proofs.Laid.{counted, bounded}
use Rattle.table.specs.Table.{RowTable, Cells}
use Rattle.model.specs.Inputs.{size}
use Rattle.wire_index.specs.Chains.{Feeds}
use Rattle.resolve.specs.Reads.{Reads}

-- an accepted input has its graph
pub accepted_graph : (s : List ℕ) (c : Counts) → Accepts s c → decode s ≡ accepted (graph_of s)
unfolding graph_of
accepted_graph s c a = go (decode s) refl
  where
    go : (v : Verdict) → decode s ≡ v → decode s ≡ accepted (graph_of s)
    go (accepted g) e = rw e refl
    go (refused n p) e = absurd (let z : counts c ≡ refusal n p = a ∙ ap reported e in let y : ◌≡◌ {A = ℕ} 0 1 = cc in omega arith)

-- the counts are those of the graph
pub nodes_are : (s : List ℕ) (c : Counts) → Accepts s c → c.nodes ≡ size (graph_of s)
unfolding size
nodes_are s c a = ap (λ (d : Counts). d.nodes) (counted s c a)

-- a refused one has its number and place
pub refused_is : (input : List ℕ) {n p : ℕ} → refusal n p ≡ reported (decode input) → decode input ≡ refused n p
refused_is input {n} {p} e = go (decode input) refl
  where
    go : (v : Verdict) → decode input ≡ v → decode input ≡ refused n p
    go (accepted g) q = absurd (let z : refusal n p ≡ counts (counts_of g) = e ∙ ap reported q in let y : ◌≡◌ {A = ℕ} 0 1 = cc in omega arith)
    go (refused m r) q =
        let z : refusal n p ≡ refusal m r = e ∙ ap reported q in
        let x : n ≡ m = cc in
        let y : p ≡ r = cc in
        q ∙ ap₂ refused (sym x) (sym y)

-- what the exit of a `?` returns
pub err_is : {T E : Type 0} (r : Result T E) (e : E) → IsErrAnd r (λ d. d ≡ e) → r ≡ Err e
err_is (Ok x) e h = absurd h
err_is (Err d) e h = ap Err h

pub bounded_at : (input : List ℕ) (c : Counts) {vs : List Wire} → Accepts input c → vs ≡ (graph_of input).wires → Bounded vs c.nodes
unfolding size
bounded_at input c a f = subst₂ (λ (m : ℕ) (us : List Wire). Bounded us m) (sym (nodes_are input c a)) (sym f) (bounded input)

-- what a trial reads of it
pub reads_at : {input table wires first next : List ℕ} {c : Counts} {rs : List Row} {rows : RowTable} → Accepts input c → Indexed (graph_of input).properties input table → wires_of wires ≡ (graph_of input).wires → Feeds (wires_of wires) first next → rs ≡ (graph_of input).rows → Cells rs rows → Reads (graph_of input) c input table wires rows first next
unfolding size
reads_at {input} {c = c} {rows = rows} a p w f e h =
    record {
      graph = refl;
      counts = counted input c a;
      properties = p;
      wires_part = w;
      row_cells = subst (λ (qs : List Row). Cells qs rows) e h;
      bounded = bounded input;
      feeds = rw w at f;
    }
