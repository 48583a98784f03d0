-- Degrees: counting the wires that leave each node, and taking away those that go.
use Rattle.std.proofs.lemmas.List.{take_all}
use mathlib.Core.Path.{◌≡◌, refl, sym, ap, subst, ◌∙◌}
use mathlib.Core.Bool.{false}
use mathlib.Core.List.{List, [], ◌∷◌}
use mathlib.Core.Logic.{inl, inr}
use Prim.Native.Nat.{ℕ, suc, ◌+◌, ◌-◌, ◌<◌, ◌≤◌}
use native.Mathlib.Omega.{arith}
use native.Mathlib.Numerals.{add-one}
use lib.Dec.{eqb}
use lib.ListN.{length, get_or, set, take, length-set, length-take}
use lib.Seq.{get_or-set_same, get_or-set_other, take-suc}
use borrow.Author.Tests.{eqb-false, eq-eqb}
use Rattle.ir.specs.Limits.{max_nodes, max_wires}
use Rattle.ir.specs.declared.Wire.{Wire}
use Rattle.records.specs.Access.{no_wire, Bounded}
use Rattle.model.specs.Maps.{keep}
use Rattle.model.proofs.Maps.{Same, same?}
use Rattle.model.proofs.Lists.{bit, count, length_keep, count_length, count_append}
use Rattle.wire_index.specs.Chains.{Chain, enters}
use Rattle.wire_index.specs.Linking.{leaves, Targets}
use Rattle.wire_index.proofs.Walks.{Step, kept_few, chain_end, chain_step, steps, chain_less}
use Rattle.sweep.specs.Queue.{leaving, fed_by, Longer, Released, Fell}
use Rattle.sweep.proofs.Queues.{longer_none, longer_more}

leaving_count : (ws : List Wire) (n : ℕ) → leaving ws n ≡ count (leaves n) ws
leaving_count ws n = length_keep (leaves n) ws

leaving_few : (ws : List Wire) (n : ℕ) → leaving ws n ≤ length ws
leaving_few ws n = omega (arith, leaving_count ws n, count_length (leaves n) ws)

leaving_here : (w : Wire) (ws : List Wire) (n : ℕ) → w.source.node_id ≡ n → leaving (w ∷ ws) n ≡ suc (leaving ws n)
unfolding keep
leaving_here w ws n e = rw (eq-eqb w.source.node_id n e)

leaving_there : (w : Wire) (ws : List Wire) (n : ℕ) → eqb w.source.node_id n ≡ false → leaving (w ∷ ws) n ≡ leaving ws n
unfolding keep
leaving_there w ws n e = rw e

-- ---- counting

pub record Counting (ws : List Wire) (i : ℕ) (degrees : List ℕ) : Type 0 where
  pub long : length degrees ≡ max_nodes
  pub counts : (n : ℕ) → n < max_nodes → get_or degrees n 0 ≡ 1 + leaving (take i ws) n

pub counting_start : (ws : List Wire) {degrees : List ℕ} → length degrees ≡ max_nodes → ((n : ℕ) → n < max_nodes → get_or degrees n 0 ≡ 1) → Counting ws 0 degrees
unfolding keep
counting_start ws l e = record { long = l; counts = e }

take_leaving : (ws : List Wire) (i n : ℕ) → i < length ws → leaving (take (suc i) ws) n ≡ leaving (take i ws) n + bit (leaves n (get_or ws i no_wire))
unfolding count
take_leaving ws i n l =
    omega (arith, leaving_count (take (suc i) ws) n, ap (count (leaves n)) (take-suc ws i no_wire l), count_append (leaves n) (take i ws) (get_or ws i no_wire ∷ []), leaving_count (take i ws) n)

module _ {ws : List Wire} {i : ℕ} {degrees : List ℕ} (c : Counting ws i degrees) where
  pub counting_few : length ws ≤ max_wires → (n : ℕ) → n < max_nodes → get_or degrees n 0 ≤ 4097
  counting_few few n l = omega (arith, c.counts n l, leaving_few (take i ws) n, length-take i ws)

  pub counting_more : (s : ℕ) → i < length ws → s ≡ (get_or ws i no_wire).source.node_id → s < max_nodes → Counting ws (i + 1) (set degrees s (get_or degrees s 0 + 1))
  unfolding bit
  counting_more s l e b =
      record {
        long = length-set degrees s (get_or degrees s 0 + 1) ∙ c.long;
        counts = λ n h. rw (add-one i, take_leaving ws i n l) (go n h (same? s n));
      }
    where
      go : (n : ℕ) → n < max_nodes → Same s n → get_or (set degrees s (get_or degrees s 0 + 1)) n 0 ≡ 1 + (leaving (take i ws) n + bit (eqb (get_or ws i no_wire).source.node_id n))
      go n h (inl d) =
          subst (λ (k : ℕ). get_or (set degrees s (get_or degrees s 0 + 1)) k 0 ≡ 1 + (leaving (take i ws) k + bit (eqb (get_or ws i no_wire).source.node_id k))) d.1
          (omega (arith, get_or-set_same degrees s (get_or degrees s 0 + 1) 0 (omega (arith, c.long)), c.counts s b, ap bit (eq-eqb (get_or ws i no_wire).source.node_id s (sym e))))
      go n h (inr d) =
          omega (arith, get_or-set_other degrees s n (get_or degrees s 0 + 1) 0 (λ x. eqb-false s n d (sym x)), c.counts n h, ap bit (ap (λ (k : ℕ). eqb k n) (sym e) ∙ d))

pub counting_ends : (ws : List Wire) (i : ℕ) (degrees : List ℕ) → length ws ≤ i → Counting ws i degrees → (length degrees ≡ max_nodes) × ((n : ℕ) → n < max_nodes → get_or degrees n 0 ≡ 1 + leaving ws n)
counting_ends ws i degrees l c = (c.long, λ n h. c.counts n h ∙ ap (λ (xs : List Wire). 1 + leaving xs n) (take_all i ws l))

-- ---- one wire less of each node

pub record Releasing (nodes : ℕ) (degrees₀ order₀ : List ℕ) (tail₀ i : ℕ) (degrees order : List ℕ) (tail : ℕ) : Type 0 where
  pub fell : (n : ℕ) → n < i → get_or degrees n 0 + 1 ≡ get_or degrees₀ n 0
  pub same : (n : ℕ) → i ≤ n → get_or degrees n 0 ≡ get_or degrees₀ n 0
  pub longer : Longer order₀ tail₀ order tail

pub releasing_start : (nodes : ℕ) {degrees order : List ℕ} {tail : ℕ} → Releasing nodes degrees order tail 0 degrees order tail
releasing_start nodes = record { fell = λ n l. absurd (omega arith); same = λ n l. refl; longer = longer_none }

module _ {nodes : ℕ} {degrees₀ order₀ : List ℕ} {tail₀ i : ℕ} {degrees order : List ℕ} {tail : ℕ} (r : Releasing nodes degrees₀ order₀ tail₀ i degrees order tail) where
  pub releasing_some : (0 < get_or degrees₀ i 0) → 0 < get_or degrees i 0
  releasing_some h = omega (arith, r.same i (omega arith))

  pub releasing_more : {degrees' order' : List ℕ} {tail' : ℕ} → i < length degrees → 0 < get_or degrees₀ i 0 → Released i degrees order tail degrees' order' tail' → Releasing nodes degrees₀ order₀ tail₀ (i + 1) degrees' order' tail'
  releasing_more {degrees'} l some_wire d =
      record {
        fell = λ n h. rw d.degree (down n h (same? i n));
        same = λ n h. rw d.degree (get_or-set_other degrees i n _ 0 (λ e. omega arith) ∙ r.same n (omega arith));
        longer = longer_more r.longer d.longer;
      }
    where
      down : (n : ℕ) → n < i + 1 → Same i n → get_or (set degrees i (get_or degrees i 0 - 1)) n 0 + 1 ≡ get_or degrees₀ n 0
      down n h (inl s) =
          subst (λ (k : ℕ). get_or (set degrees i (get_or degrees i 0 - 1)) k 0 + 1 ≡ get_or degrees₀ k 0) s.1
          (omega (arith, get_or-set_same degrees i (get_or degrees i 0 - 1) 0 l, r.same i (omega arith)))
      down n h (inr s) =
          let ne : n ≡ i → ⊥ = λ x. eqb-false i n s (sym x) in
          omega (arith, get_or-set_other degrees i n (get_or degrees i 0 - 1) 0 ne, r.fell n (lower n h ne))
        where
          lower : (n : ℕ) → n < i + 1 → (n ≡ i → ⊥) → n < i
          lower n h ne = omega arith

  pub releasing_ends : nodes ≤ i → Fell nodes (λ n. 1) degrees₀ order₀ tail₀ degrees order tail
  releasing_ends h = record { degree = λ n l. r.fell n (omega arith); longer = r.longer }

-- ---- the wires into a node

pub record Feeding (ws : List Wire) (next : List ℕ) (nodes node : ℕ) (degrees₀ order₀ : List ℕ) (tail₀ code : ℕ) (degrees order : List ℕ) (tail : ℕ) : Type 0 where
  pub rest : List Wire
  pub chain : Chain ws next code rest
  pub few : length rest ≤ max_wires
  pub fell : (n : ℕ) → n < nodes → get_or degrees n 0 + fed_by ws node n ≡ get_or degrees₀ n 0 + leaving rest n
  pub longer : Longer order₀ tail₀ order tail

module _ {ws : List Wire} {first next : List ℕ} {nodes node : ℕ} where
  pub feeding_start : {degrees order : List ℕ} {tail code : ℕ} → Bounded ws nodes → Targets ws first next → node < max_nodes → code ≡ get_or first node 0 → Feeding ws next nodes node degrees order tail code degrees order tail
  feeding_start b t l e =
      record {
        rest = keep (enters node) ws;
        chain = rw e (t.chain node l);
        few = omega (arith, kept_few (enters node) ws, b.few_wires);
        fell = λ n h. refl;
        longer = longer_none;
      }

module _ {ws : List Wire} {next : List ℕ} {nodes node : ℕ} {degrees₀ order₀ : List ℕ} {tail₀ code : ℕ} {degrees order : List ℕ} {tail : ℕ} (f : Feeding ws next nodes node degrees₀ order₀ tail₀ code degrees order tail) where
  pub feeding_within : 0 < code → code - 1 < length ws
  feeding_within h = (chain_step f.chain h).within

  pub feeding_less : 0 < code → steps max_wires next (get_or next (code - 1) 0) < steps max_wires next code
  feeding_less h = chain_less max_wires f.chain f.few h

  module _ (s : ℕ) (positive : 0 < code) (is : s ≡ (get_or ws (code - 1) no_wire).source.node_id) (below : s < nodes) where
    split : Step ws next code f.rest
    split = chain_step f.chain positive

    rest_here : leaving f.rest s ≡ suc (leaving split.rest s)
    rest_here = ap (λ (xs : List Wire). leaving xs s) split.split ∙ leaving_here (get_or ws (code - 1) no_wire) split.rest s (sym is)

    pub feeding_some : fed_by ws node s ≤ get_or degrees₀ s 0 → 0 < get_or degrees s 0
    feeding_some h = omega (arith, f.fell s below, rest_here)

    pub feeding_more : {code' : ℕ} {degrees' order' : List ℕ} {tail' : ℕ} → s < length degrees → fed_by ws node s ≤ get_or degrees₀ s 0 → Released s degrees order tail degrees' order' tail' → code' ≡ get_or next (code - 1) 0 → Feeding ws next nodes node degrees₀ order₀ tail₀ code' degrees' order' tail'
    feeding_more {code'} {degrees'} place enough d e =
        record {
          rest = split.rest;
          chain = rw e split.chain;
          few = omega (arith, f.few, ap length split.split);
          fell = λ n h. rw d.degree (down n h (same? s n));
          longer = longer_more f.longer d.longer;
        }
      where
        down : (n : ℕ) → n < nodes → Same s n → get_or (set degrees s (get_or degrees s 0 - 1)) n 0 + fed_by ws node n ≡ get_or degrees₀ n 0 + leaving split.rest n
        down n h (inl t) =
            subst (λ (k : ℕ). get_or (set degrees s (get_or degrees s 0 - 1)) k 0 + fed_by ws node k ≡ get_or degrees₀ k 0 + leaving split.rest k) t.1
            (omega (arith, get_or-set_same degrees s (get_or degrees s 0 - 1) 0 place, f.fell s below, rest_here, feeding_some enough))
        down n h (inr t) =
            omega (arith, get_or-set_other degrees s n (get_or degrees s 0 - 1) 0 (λ x. eqb-false s n t (sym x)), f.fell n h, ap (λ (xs : List Wire). leaving xs n) split.split, leaving_there (get_or ws (code - 1) no_wire) split.rest n (ap (λ (k : ℕ). eqb k n) (sym is) ∙ t))

  pub feeding_ends : code ≡ 0 → Fell nodes (fed_by ws node) degrees₀ order₀ tail₀ degrees order tail
  unfolding keep
  feeding_ends e =
      record {
        degree = λ n h. omega (arith, f.fell n h, ap (λ (xs : List Wire). leaving xs n) (chain_end f.chain e));
        longer = f.longer;
      }
