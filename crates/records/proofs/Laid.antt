-- Where the nodes, wires, rows and annihilators of an accepted graph stand in the input.
use Prim.Native.Nat.{ℕ, ◌+◌, ◌-◌, ◌*◌, ◌≤◌, ◌<◌}
use native.Mathlib.Omega.{arith}
use native.Mathlib.Decide.{ℕ_discrete}
use mathlib.Core.Path.{◌≡◌, refl, sym, ap, ◌∙◌}
use mathlib.Core.Bool.{true, false≢true}
use mathlib.Core.List.{List, [], ◌∷◌}
use lib.ListN.{length, get_or, take, drop, length-append}
use lib.Dec.{ltb}
use borrow.Author.Tests.{ltb-true}
use Rattle.ir.specs.declared.Role.{Role}
use Rattle.ir.specs.declared.Role.TheVariants.{Unlisted as NoRole, Node as NodeRole, Wire as WireRole, Property as PropertyRole, Row as RowRole, Annihilator as AnnihilatorRole}
use Rattle.encoding.specs.Numbers.{byte, u16_at}
use Rattle.encoding.specs.Wires.{wire_at, wire_bytes}
use Rattle.encoding.proofs.ReadBack.{wire_again}
use Rattle.graph.specs.Graph.{Graph, empty, texts, node_at, property_at, row_at, annihilator_at, add, snoc, counts_of}
use Rattle.graph.specs.Layout.{role_at, size_of, size_at}
use Rattle.graph.specs.Questions.{is_kind, is_wire_port, is_listed, has_nodes}
use Rattle.graph.specs.Decode.{Verdict, accepted, refused, decode, graph_of}
use Rattle.graph.specs.Refusals.{counts, refusal, reported}
use Rattle.records.specs.Access.{no_node, no_wire, no_row, wires_of, rows_of, Named, Bounded, Accepts, wires_offset, rows_offset}
use Rattle.records.specs.declared.access.Records.{Records}
use Rattle.graph.specs.declared.Counts.{Counts}
use Rattle.graph.proofs.Roles.{and_left, and_right, node_kind, wire_kind, row_kind, annihilator_kind}
use Rattle.encoding.proofs.Sizes.{property_kind}
use Rattle.graph.proofs.Added.{one_text, no_text}
use Rattle.graph.proofs.Asked.{Passed}
use Rattle.records.proofs.Induct.{induct}
use Rattle.records.proofs.Runs.{snoc_at, wires_run, rows_run}

-- what the records before an offset have laid down, `last` being the kind of the last one
pub record Laid (s : List ℕ) (last : ℕ) (g : Graph) (at : ℕ) : Type 0 where
  pub nodes : (i : ℕ) → i < length g.nodes → get_or g.nodes i no_node ≡ node_at s (3 * i)
  pub wires : (j : ℕ) → j < length g.wires → get_or g.wires j no_wire ≡ wire_at s (3 * length g.nodes + 7 * j)
  pub wire_kinds : (j : ℕ) → j < length g.wires → byte s (3 * length g.nodes + 7 * j) ≡ 2
  pub named : (j : ℕ) → j < length g.wires → Named (length g.nodes) (get_or g.wires j no_wire)
  pub few_nodes : length g.nodes ≤ 1024
  pub few_wires : length g.wires ≤ 4096
  pub no_wires : last ≤ 1 → length g.wires ≡ 0
  pub here : last ≤ 2 → at ≡ 3 * length g.nodes + 7 * length g.wires
  pub from : ℕ
  pub low : 3 * length g.nodes + 7 * length g.wires ≤ from
  pub rows : (k : ℕ) → k < length g.rows → get_or g.rows k no_row ≡ row_at s (from + 5 * k)
  pub total : at ≡ from + 5 * length g.rows + 2 * length g.annihilators + 21 * texts g.properties
  pub no_rows : last ≤ 9 → length g.rows ≡ 0
  pub no_annihilators : last ≤ 10 → length g.annihilators ≡ 0
  pub no_texts : last ≤ 11 → texts g.properties ≡ 0

module _ (s : List ℕ) (last : ℕ) (g : Graph) (at : ℕ) (p : Passed last g s at) (l : Laid s last g at) where
  node_step : role_at s at ≡ NodeRole → Laid s (byte s at) (add NodeRole g s at) (at + size_at s at)
  node_step e =
      let k = node_kind (byte s at) e in
      let w : length g.wires ≡ 0 = l.no_wires (omega (arith, p.rises)) in
      let r : length g.rows ≡ 0 = l.no_rows (omega (arith, p.rises)) in
      let a : length g.annihilators ≡ 0 = l.no_annihilators (omega (arith, p.rises)) in
      let x : texts g.properties ≡ 0 = l.no_texts (omega (arith, p.rises)) in
      let h : at ≡ 3 * length g.nodes + 7 * length g.wires = l.here (omega (arith, p.rises)) in
      let n : length (snoc g.nodes (node_at s at)) ≡ length g.nodes + 1 = length-append g.nodes (node_at s at ∷ []) in
      record {
        nodes = snoc_at g.nodes (node_at s at) no_node (λ i x. x ≡ node_at s (3 * i)) l.nodes (ap (node_at s) (omega arith));
        wires = λ j i. absurd (omega arith);
        wire_kinds = λ j i. absurd (omega arith);
        named = λ j i. absurd (omega arith);
        few_nodes = omega (arith, ltb-true (length g.nodes) 1024 (rw e at p.fits));
        few_wires = l.few_wires;
        no_wires = λ i. w;
        here = λ i. omega (arith, k.long);
        from = at + size_at s at;
        low = omega (arith, k.long);
        rows = λ j i. absurd (omega arith);
        total = omega arith;
        no_rows = λ i. r;
        no_annihilators = λ i. a;
        no_texts = λ i. x;
      }

  wire_step : role_at s at ≡ WireRole → Laid s (byte s at) (add WireRole g s at) (at + size_at s at)
  wire_step e =
      let k = wire_kind (byte s at) e in
      let r : length g.rows ≡ 0 = l.no_rows (omega (arith, p.rises)) in
      let a : length g.annihilators ≡ 0 = l.no_annihilators (omega (arith, p.rises)) in
      let x : texts g.properties ≡ 0 = l.no_texts (omega (arith, p.rises)) in
      let h : at ≡ 3 * length g.nodes + 7 * length g.wires = l.here (omega (arith, p.rises)) in
      let n : length (snoc g.wires (wire_at s at)) ≡ length g.wires + 1 = length-append g.wires (wire_at s at ∷ []) in
      let t : has_nodes (length g.nodes) WireRole s at ≡ true = rw e at p.there in
      let q : is_listed WireRole s at ≡ true = rw e at p.listed in
      let named : Named (length g.nodes) (wire_at s at) =
      record {
        source = ltb-true (u16_at s (at + 1)) _ (and_left (ltb (u16_at s (at + 1)) (length g.nodes)) _ t);
        target = ltb-true (u16_at s (at + 4)) _ (and_right (ltb (u16_at s (at + 1)) (length g.nodes)) _ t);
        source_port = ltb-true (byte s (at + 3)) 10 (and_left (is_wire_port (byte s (at + 3))) _ q);
        target_port = ltb-true (byte s (at + 6)) 10 (and_right (is_wire_port (byte s (at + 3))) _ q);
      }
      in
      record {
        nodes = l.nodes;
        wires = snoc_at g.wires (wire_at s at) no_wire (λ j x. x ≡ wire_at s (3 * length g.nodes + 7 * j)) l.wires (ap (wire_at s) h);
        wire_kinds = snoc_at g.wires (wire_at s at) no_wire (λ j x. byte s (3 * length g.nodes + 7 * j) ≡ 2) l.wire_kinds (ap (byte s) (sym h) ∙ k.same);
        named = snoc_at g.wires (wire_at s at) no_wire (λ j x. Named (length g.nodes) x) l.named named;
        few_nodes = l.few_nodes;
        few_wires = omega (arith, ltb-true (length g.wires) 4096 (rw e at p.fits));
        no_wires = λ i. absurd (omega (arith, k.same));
        here = λ i. omega (arith, k.long);
        from = at + size_at s at;
        low = omega (arith, k.long);
        rows = λ j i. absurd (omega arith);
        total = omega arith;
        no_rows = λ i. r;
        no_annihilators = λ i. a;
        no_texts = λ i. x;
      }

  value_step : role_at s at ≡ PropertyRole → (byte s at ≡ 12 → ⊥) → Laid s (byte s at) (add PropertyRole g s at) (at + size_at s at)
  value_step e n =
      let k = property_kind (byte s at) e in
      let h : byte s at ≤ 9 = k.most n in
      let r : length g.rows ≡ 0 = l.no_rows (omega (arith, p.rises)) in
      let a : length g.annihilators ≡ 0 = l.no_annihilators (omega (arith, p.rises)) in
      let x : texts (snoc g.properties (property_at s at)) ≡ 0 = no_text g.properties s at e n ∙ l.no_texts (omega (arith, p.rises)) in
      record {
        nodes = l.nodes;
        wires = l.wires;
        wire_kinds = l.wire_kinds;
        named = l.named;
        few_nodes = l.few_nodes;
        few_wires = l.few_wires;
        no_wires = λ i. absurd (omega (arith, k.least));
        here = λ i. absurd (omega (arith, k.least));
        from = at + size_at s at;
        low = omega (arith, l.low, l.total);
        rows = λ j i. absurd (omega arith);
        total = omega arith;
        no_rows = λ i. r;
        no_annihilators = λ i. a;
        no_texts = λ i. x;
      }

  text_step : role_at s at ≡ PropertyRole → byte s at ≡ 12 → Laid s (byte s at) (add PropertyRole g s at) (at + size_at s at)
  text_step r e =
      let long : size_at s at ≡ 21 = ap size_of e in
      let x : texts (snoc g.properties (property_at s at)) ≡ texts g.properties + 1 = one_text g.properties s at r e in
      record {
        nodes = l.nodes;
        wires = l.wires;
        wire_kinds = l.wire_kinds;
        named = l.named;
        few_nodes = l.few_nodes;
        few_wires = l.few_wires;
        no_wires = λ i. absurd (omega arith);
        here = λ i. absurd (omega arith);
        from = l.from;
        low = l.low;
        rows = l.rows;
        total = omega (arith, l.total);
        no_rows = λ i. absurd (omega arith);
        no_annihilators = λ i. absurd (omega arith);
        no_texts = λ i. absurd (omega arith);
      }

  property_step : role_at s at ≡ PropertyRole → Laid s (byte s at) (add PropertyRole g s at) (at + size_at s at)
  property_step e = pick (ℕ_discrete (byte s at) 12)
    where
      pick : Dec (byte s at ≡ 12) → Laid s (byte s at) (add PropertyRole g s at) (at + size_at s at)
      pick (yes d) = text_step e d
      pick (no d) = value_step e d

  row_step : role_at s at ≡ RowRole → Laid s (byte s at) (add RowRole g s at) (at + size_at s at)
  row_step e =
      let k = row_kind (byte s at) e in
      let a : length g.annihilators ≡ 0 = l.no_annihilators (omega (arith, p.rises)) in
      let x : texts g.properties ≡ 0 = l.no_texts (omega (arith, p.rises)) in
      let n : length (snoc g.rows (row_at s at)) ≡ length g.rows + 1 = length-append g.rows (row_at s at ∷ []) in
      record {
        nodes = l.nodes;
        wires = l.wires;
        wire_kinds = l.wire_kinds;
        named = l.named;
        few_nodes = l.few_nodes;
        few_wires = l.few_wires;
        no_wires = λ i. absurd (omega (arith, k.same));
        here = λ i. absurd (omega (arith, k.same));
        from = l.from;
        low = l.low;
        rows = snoc_at g.rows (row_at s at) no_row (λ j x. x ≡ row_at s (l.from + 5 * j)) l.rows (ap (row_at s) (omega (arith, l.total)));
        total = omega (arith, l.total, k.long);
        no_rows = λ i. absurd (omega (arith, k.same));
        no_annihilators = λ i. a;
        no_texts = λ i. x;
      }

  annihilator_step : role_at s at ≡ AnnihilatorRole → Laid s (byte s at) (add AnnihilatorRole g s at) (at + size_at s at)
  annihilator_step e =
      let k = annihilator_kind (byte s at) e in
      let x : texts g.properties ≡ 0 = l.no_texts (omega (arith, p.rises, k.same)) in
      record {
        nodes = l.nodes;
        wires = l.wires;
        wire_kinds = l.wire_kinds;
        named = l.named;
        few_nodes = l.few_nodes;
        few_wires = l.few_wires;
        no_wires = λ i. absurd (omega (arith, k.same));
        here = λ i. absurd (omega (arith, k.same));
        from = l.from;
        low = l.low;
        rows = l.rows;
        total = omega (arith, l.total, k.long, length-append g.annihilators (annihilator_at s at ∷ []));
        no_rows = λ i. absurd (omega (arith, k.same));
        no_annihilators = λ i. absurd (omega (arith, k.same));
        no_texts = λ i. x;
      }

  step : Laid s (byte s at) (add (role_at s at) g s at) (at + size_at s at)
  step = pick (role_at s at) refl
    where
      pick : (r : Role) → role_at s at ≡ r → Laid s (byte s at) (add r g s at) (at + size_at s at)
      pick NoRole e = absurd (false≢true (sym (ap is_kind e) ∙ p.kind))
      pick NodeRole e = node_step e
      pick WireRole e = wire_step e
      pick PropertyRole e = property_step e
      pick RowRole e = row_step e
      pick AnnihilatorRole e = annihilator_step e

start : (s : List ℕ) → Laid s 0 empty 0
unfolding texts
start s =
    record {
      nodes = λ i h. absurd (omega arith);
      wires = λ i h. absurd (omega arith);
      wire_kinds = λ i h. absurd (omega arith);
      named = λ i h. absurd (omega arith);
      few_nodes = omega arith;
      few_wires = omega arith;
      no_wires = λ h. refl;
      here = λ h. refl;
      from = 0;
      low = omega arith;
      rows = λ i h. absurd (omega arith);
      total = refl;
      no_rows = λ h. refl;
      no_annihilators = λ h. refl;
      no_texts = λ h. refl;
    }

-- where an input's graph is laid: up to the end of an accepted one, and nowhere in a refused one, whose graph is empty
record Final (s : List ℕ) : Type 0 where
  pub last : ℕ
  pub at : ℕ
  pub inside : at ≤ length s
  pub laid : Laid s last (graph_of s) at
  pub ends : (c : Counts) → Accepts s c → (at ≡ length s) × (c ≡ counts_of (graph_of s))

-- THE LAW
final : (s : List ℕ) → Final s
unfolding graph_of
final s = pick (decode s) refl
  where
    pick : (v : Verdict) → decode s ≡ v → Final s
    pick (accepted g) e =
        let i = induct s (Laid s) (step s) g (start s) e in
        record {
          last = i.0;
          at = length s;
          inside = omega arith;
          laid = rw e i.1;
          ends = λ c a. (refl, rw e (let z : counts c ≡ counts (counts_of g) = a ∙ ap reported e in cc));
        }
    pick (refused n p) e =
        record {
          last = 0;
          at = 0;
          inside = omega arith;
          laid = rw e (start s);
          ends = λ c a. absurd (let z : counts c ≡ refusal n p = a ∙ ap reported e in let y : ◌≡◌ {A = ℕ} 0 1 = cc in omega arith);
        }

-- what the program computes of the counts
module _ (s : List ℕ) where
  -- a node's record is inside, and says the node
  pub node_inside : (i : ℕ) → i < length (graph_of s).nodes → 3 * i + 3 ≤ length s
  node_inside i h = let f = final s in omega (arith, f.inside, f.laid.low, f.laid.total)

  pub node_says : (i : ℕ) → i < length (graph_of s).nodes → node_at s (3 * i) ≡ get_or (graph_of s).nodes i no_node
  node_says i h = sym ((final s).laid.nodes i h)

  -- each wire goes from a port of a node to another
  pub wires_named : (j : ℕ) → j < length (graph_of s).wires → Named (length (graph_of s).nodes) (get_or (graph_of s).wires j no_wire)
  wires_named j h = (final s).laid.named j h

  -- a wire's record stands at its offset
  pub wire_says : (j : ℕ) → j < length (graph_of s).wires → wire_at s (3 * length (graph_of s).nodes + 7 * j) ≡ get_or (graph_of s).wires j no_wire
  wire_says j h = sym ((final s).laid.wires j h)

  -- and is the bytes of the wire
  pub wire_bytes_lem : ((k : ℕ) → byte s k < 256) → (j : ℕ) → j < length (graph_of s).wires → take 7 (drop (3 * length (graph_of s).nodes + 7 * j) s) ≡ wire_bytes (get_or (graph_of s).wires j no_wire)
  wire_bytes_lem small j h =
      let f = final s in
      wire_again s _ small (f.laid.wire_kinds j h) (omega (arith, f.inside, f.laid.low, f.laid.total)) ∙ ap wire_bytes (wire_says j h)

  pub few_nodes : length (graph_of s).nodes ≤ 1024
  few_nodes = (final s).laid.few_nodes

  pub few_wires : length (graph_of s).wires ≤ 4096
  few_wires = (final s).laid.few_wires

  pub bounded : Bounded (graph_of s).wires (length (graph_of s).nodes)
  bounded = record { few_nodes = few_nodes; few_wires = few_wires; named = wires_named }

  module _ (c : Counts) (a : Accepts s c) where
    pub counted : c ≡ counts_of (graph_of s)
    counted = ((final s).ends c a).1

    pub inside : wires_offset c + 7 * c.wires + 5 * c.rows + 2 * c.annihilators + 21 * c.texts ≤ length s
    inside = let f = final s in rw counted (omega (arith, f.inside, f.laid.low, f.laid.total))

    pub wires_part : wires_of (take (7 * c.wires) (drop (wires_offset c) s)) ≡ (graph_of s).wires
    wires_part =
        let f = final s in
        rw counted (wires_run s (3 * length (graph_of s).nodes) (graph_of s).wires (omega (arith, f.inside, f.laid.low, f.laid.total)) f.laid.wires)

    pub rows_part : rows_of (take (5 * c.rows) (drop (rows_offset (length s) c) s)) ≡ (graph_of s).rows
    rows_part =
        let f = final s in
        let e : length s - 21 * texts (graph_of s).properties - 2 * length (graph_of s).annihilators - 5 * length (graph_of s).rows ≡ f.laid.from = omega (arith, f.laid.total, (f.ends c a).0) in
        rw (counted, e) (rows_run s f.laid.from (graph_of s).rows (omega (arith, f.laid.total, (f.ends c a).0)) f.laid.rows)

-- the records of an accepted input are inside it
pub room : (r : Records) → wires_offset r.counts + 7 * r.counts.wires + 5 * r.counts.rows + 2 * r.counts.annihilators + 21 * r.counts.texts ≤ length r.input.now
room r = inside r.input.now r.counts r.accepts
