-- Consumers join the queue: one, and those of a chain in turn.
use mathlib.Core.Path.{◌≡◌, refl, sym, ap, subst, ◌∙◌}
use mathlib.Core.Bool.{Bool, true, false, ◌&&◌, ◌||◌, false≢true}
use mathlib.Core.Logic.{inl, inr}
use mathlib.Core.List.{List, [], ◌∷◌, map}
use Prim.Native.Nat.{ℕ, ◌+◌, ◌-◌, ◌%◌, ◌<◌, ◌≤◌}
use native.Mathlib.Omega.{arith}
use lib.Dec.{eqb}
use lib.ListN.{length, get_or, set}
use Rattle.ir.specs.Limits.{max_nodes, max_wires}
use Rattle.ir.specs.declared.Wire.{Wire}
use Rattle.graph.specs.Graph.{Graph, member}
use Rattle.records.specs.Access.{no_wire, wires_of, Bounded}
use Rattle.model.specs.Maps.{is_some, any}
use Rattle.model.specs.Inputs.{size}
use Rattle.model.specs.Worklist.{queue_places, consumes}
use Rattle.model.specs.Arrays.{queue_of}
use Rattle.model.proofs.Maps.{Same, same?}
use Rattle.model.proofs.Lists.{or_right}
use Rattle.state.specs.Held.{known_of}
use Rattle.wire_index.specs.Chains.{Chain, end, link, enters, Leaving, Consumers}
use Rattle.wire_index.proofs.Walks.{Step, steps, chain_step, chain_end, chain_less}
use Rattle.worklist.specs.Queue.{Waits}
use Rattle.worklist.specs.Joins.{join_one, OneJoined, Chained, ConsumersJoined}
use Rattle.worklist.proofs.Queues.{queued_place, queued_more, queued_waits}
use Rattle.worklist.proofs.Rising.{join_all, Row, row_joins}

-- ---- one

module _ (kinds : List ℕ) (c head : ℕ) (marks : List Bool) (places : List ℕ) (count : ℕ) (q : Waits marks places head count) where
  -- a known node doesn't join
  pub one_known : {known : Bool} → ((words : List ℕ) → known ≡ is_some (known_of kinds words c)) → known ≡ true → OneJoined kinds c head places count marks places count
  unfolding join_one
  one_known k e = record { law = λ words. rw (sym (k words) ∙ e) q }

  module _ (h : c < max_nodes) where
    -- nor one that waits
    pub one_waits : get_or marks c false ≡ true → OneJoined kinds c head places count marks places count
    unfolding join_one
    one_waits e = record { law = λ words. rw (or_right (is_some (known_of kinds words c)) (member c (queue_of places head count)) (sym (q.marked c h) ∙ e)) q }

    module _ (m : get_or marks c false ≡ false) where
      out : member c (queue_of places head count) ≡ false
      out = sym (q.marked c h) ∙ m

      -- another one finds a place
      pub one_place : count < queue_places
      one_place = queued_place q c h out

      -- and is stored and marked
      pub one_joins : {known : Bool} → ((words : List ℕ) → known ≡ is_some (known_of kinds words c)) → known ≡ false → {places' : List ℕ} → places' ≡ set places ((head + count) % queue_places) c → OneJoined kinds c head places count (set marks c true) places' (count + 1)
      unfolding join_one
      one_joins k e p = record { law = λ words. rw (sym (k words) ∙ e, out, p) (queued_more q c h out) }

-- ---- the wires of a chain

-- the nodes that wires enter
abbrev targets_of : List Wire → List ℕ
targets_of ws = map (λ w. w.target.node_id) ws

entered : (c : ℕ) (ws : List Wire) → member c (targets_of ws) ≡ any (enters c) ws
unfolding member any
entered c [] = refl
entered c (w ∷ ws) = ap (λ (b : Bool). enters c w || b) (entered c ws)

-- a wire of a chain enters a node
within : {ws : List Wire} {next : List ℕ} {code n : ℕ} {out : List Wire} → Bounded ws n → Chain ws next code out → (c : ℕ) → member c (targets_of out) ≡ true → c < n
unfolding member
within b end c e = absurd (false≢true e)
within {ws} {n = n} b (link {i} {xs} l r) c e = go (same? (get_or ws i no_wire).target.node_id c) (λ q. within b r c q)
  where
    go : Same (get_or ws i no_wire).target.node_id c → (member c (targets_of xs) ≡ true → c < n) → c < n
    go (inl d) later = omega (arith, d.1, (b.named i l).target)
    go (inr d) later = later (rw d at e)

-- those that the wires of a chain enter are the consumers
chain_row : (g : Graph) (n : ℕ) {ws : List Wire} {next : List ℕ} {code : ℕ} → ws ≡ g.wires → Bounded g.wires (size g) → (l : Leaving ws next n code) → Row g n (targets_of l.out)
unfolding consumes
chain_row g n {ws} e b l =
    record {
      rising = l.rising;
      exactly = λ c. entered c l.out ∙ l.exactly c ∙ ap (any (λ w. eqb w.source.node_id n && eqb w.target.node_id c)) e;
      nodes = within (subst (λ (xs : List Wire). Bounded xs (size g)) (sym e) b) l.chain;
    }

-- ---- a chain

pub chained : (g : Graph) (n : ℕ) {wires first next : List ℕ} → wires_of wires ≡ g.wires → Bounded g.wires (size g) → Consumers g.wires first next → n < size g → Chained wires first next n
chained g n e b c l = record { nodes = size g; bounded = rw e b; leaving = rw e (c.leaving n (omega (arith, b.few_nodes))) }

-- where the walk of the chain of node n stands: at a code. Joining those that are left gives the whole
pub record Walking (wires first next kinds : List ℕ) (n head : ℕ) (places₀ : List ℕ) (count : ℕ) (marks : List Bool) (places : List ℕ) (total code : ℕ) : Type 0 where
  pub chained : Chained wires first next n
  pub queued : Waits marks places head total
  pub out : List Wire
  pub chain : Chain (wires_of wires) next code out
  pub few : length out ≤ max_wires
  pub law : (words : List ℕ) → join_all (known_of kinds words) (queue_of places head total) (targets_of out) ≡ join_all (known_of kinds words) (queue_of places₀ head count) (targets_of chained.leaving.out)

module _ {wires first next kinds : List ℕ} {n head : ℕ} {places₀ : List ℕ} {count : ℕ} where
  pub walk_starts : {marks₀ : List Bool} {code : ℕ} → Chained wires first next n → Waits marks₀ places₀ head count → code ≡ get_or first n 0 → Walking wires first next kinds n head places₀ count marks₀ places₀ count code
  walk_starts h q e =
      record {
        chained = h;
        queued = q;
        out = h.leaving.out;
        chain = rw e h.leaving.chain;
        few = h.leaving.few;
        law = λ words. refl;
      }

  module _ {marks : List Bool} {places : List ℕ} {total code : ℕ} (w : Walking wires first next kinds n head places₀ count marks places total code) where
    pub walk_ends : code ≡ 0 → ConsumersJoined wires kinds n head places₀ count marks places total
    unfolding join_all
    walk_ends e =
        record {
          law = λ g words p b.
              let none_left : join_all (known_of kinds words) (queue_of places head total) (targets_of w.out) ≡ queue_of places head total = ap (λ (ws : List Wire). join_all (known_of kinds words) (queue_of places head total) (targets_of ws)) (chain_end w.chain e) in
              rw (← row_joins g n (known_of kinds words) (queue_of places₀ head count) _ (chain_row g n p b w.chained.leaving), ← w.law words, none_left) w.queued;
        }

    module _ (there : code ≡ 0 → ⊥) where
      here : Step (wires_of wires) next code w.out
      here = chain_step w.chain (omega arith)

      -- there is a wire at the code
      pub walk_wire : code - 1 < length (wires_of wires)
      walk_wire = here.within

      pub walk_less : {code' : ℕ} → code' ≡ get_or next (code - 1) 0 → steps max_wires next code' < steps max_wires next code
      walk_less e = rw e (chain_less max_wires w.chain w.few (omega arith))

      pub walk_next : code - 1 < max_wires
      walk_next = omega (arith, here.within, w.chained.bounded.few_wires)

      module _ {wire : Wire} (at : wire ≡ get_or (wires_of wires) (code - 1) no_wire) where
        abbrev c : ℕ
        c = wire.target.node_id

        pub walk_target : c < max_nodes
        walk_target = rw at (omega (arith, (w.chained.bounded.named (code - 1) here.within).target, w.chained.bounded.few_nodes))

        -- the walk goes on
        pub walk_on : {marks' : List Bool} {places' : List ℕ} {more code' : ℕ} → OneJoined kinds c head places total marks' places' more → code' ≡ get_or next (code - 1) 0 → Walking wires first next kinds n head places₀ count marks' places' more code'
        unfolding join_all
        walk_on o e =
            record {
              chained = w.chained;
              queued = queued_waits (o.law []);
              out = here.rest;
              chain = rw e here.chain;
              few = omega (arith, ap length here.split, w.few);
              law = λ words.
                  let one : join_all (known_of kinds words) (queue_of places head total) (targets_of w.out) ≡ join_all (known_of kinds words) (join_one (known_of kinds words) (queue_of places head total) c) (targets_of here.rest) = rw at (ap (λ (ws : List Wire). join_all (known_of kinds words) (queue_of places head total) (targets_of ws)) here.split) in
                  rw (o.law words).waits (sym one ∙ w.law words);
            }
