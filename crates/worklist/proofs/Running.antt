-- The loop: where it starts, goes on and ends.
use Rattle.std.specs.Prelude.{None}
use mathlib.Core.Path.{◌≡◌, refl, sym, ap, ◌∙◌}
use mathlib.Core.Bool.{Bool, false}
use mathlib.Core.List.{List, [], ◌∷◌}
use Prim.Native.Nat.{ℕ, ◌+◌, ◌-◌, ◌%◌, ◌<◌, ◌≤◌}
use native.Mathlib.Omega.{arith}
use native.Mathlib.Numerals.{add-one}
use lib.ListN.{length, get_or, set}
use Rattle.ir.specs.Limits.{max_nodes}
use Rattle.value.specs.declared.Value.{Value}
use Rattle.graph.specs.Graph.{Graph, counts_of}
use Rattle.graph.specs.declared.Counts.{Counts}
use Rattle.records.specs.Access.{Bounded}
use Rattle.model.specs.Maps.{Map, iterate, up_to}
use Rattle.model.specs.Inputs.{size}
use Rattle.model.specs.Trial.{empty}
use Rattle.model.specs.Worklist.{queue_places, Work, start, pop, after, worklist, Waiting}
use Rattle.model.specs.Arrays.{queue_of}
use Rattle.model.proofs.Order.{spent}
use Rattle.model.proofs.QueueLength.{waiting}
use Rattle.model.proofs.Turns.{after_suc, turn, goes_on, stops}
use Rattle.state.specs.Held.{known_of}
use Rattle.state.specs.Planned.{Holds}
use Rattle.worklist.specs.declared.queue.Queue.{Queue}
use Rattle.worklist.specs.Queue.{Queued, Waits}
use Rattle.worklist.specs.Turns.{Popped, Turned, Finished}
use Rattle.worklist.proofs.Queues.{queued_front, queued_rest}

-- the arrays and the queue hold what the model's worklist has after so many pops
pub record At (g : Graph) (own : Map Value) (pops : ℕ) (kinds words actions details : List ℕ) (marks : List Bool) (queue : Queue) : Type 0 where
  pub holds : Holds g kinds words actions details (after own g pops).state
  pub queued : Queued marks queue.places queue.head queue.count (after own g pops).queue
  pub popped : (after own g pops).pops ≡ pops

nodes_are : {counts : Counts} (g : Graph) → counts ≡ counts_of g → counts.nodes ≡ size g
unfolding size
nodes_are g e = ap (λ (c : Counts). c.nodes) e

pub nodes_few : {counts : Counts} (g : Graph) → counts ≡ counts_of g → Bounded g.wires (size g) → counts.nodes ≤ max_nodes
nodes_few g e b = omega (arith, nodes_are g e, b.few_nodes)

pub at_start : {counts : Counts} {g : Graph} {own : Map Value} {kinds words actions details : List ℕ} {marks : List Bool} {queue : Queue} → counts ≡ counts_of g → Holds g kinds words actions details empty → Queued marks queue.places queue.head queue.count (up_to counts.nodes) → At g own 0 kinds words actions details marks queue
unfolding after iterate start
at_start {g = g} e h q = record { holds = h; queued = rw (nodes_are g e) at q; popped = refl }

-- the queue without its front
abbrev rest_of : Queue → Queue
rest_of q = record { places = q.places; head = (q.head + 1) % queue_places; count = q.count - 1 }

module _ {g : Graph} {own : Map Value} {pops : ℕ} {kinds words actions details : List ℕ} {marks : List Bool} {queue : Queue} (a : At g own pops kinds words actions details marks queue) (b : Bounded g.wires (size g)) where
  pub at_most : pops ≤ size g + length g.wires
  at_most = omega (arith, spent own g pops, a.popped)

  -- the loop ends where none waits
  pub at_end : queue.count ≡ 0 → Finished g own kinds words actions details pops
  unfolding queue_of
  at_end e =
      let empty_queue : (after own g pops).queue ≡ [] = sym a.queued.waits ∙ ap (λ (k : ℕ). queue_of queue.places queue.head k) e in
      let done : worklist own g ≡ after own g pops = stops own g pops at_most empty_queue in
      record {
        holds = rw done a.holds;
        pops_are = sym a.popped ∙ ap (λ (w : Work). w.pops) (sym done);
        none_waits = ap (λ (w : Work). w.queue) done ∙ empty_queue;
      }

  module _ (waits : 0 < queue.count) where
    abbrev rest : List ℕ
    rest = queue_of queue.places ((queue.head + 1) % queue_places) (queue.count - 1)

    front : (after own g pops).queue ≡ get_or queue.places queue.head 0 ∷ rest
    front = queued_front a.queued waits

    now_waiting : Waiting g (after own g pops)
    now_waiting = waiting own g b.few_nodes pops

    pub at_less : pops < size g + length g.wires
    at_less = omega (arith, goes_on own g pops _ _ front, a.popped)

    module _ {n : ℕ} (is_front : n ≡ get_or queue.places queue.head 0) where
      pub at_node : n < size g
      at_node = rw is_front (rw front at now_waiting.nodes).0

      -- a waiting node is not known
      pub at_unknown : known_of kinds words n ≡ None
      at_unknown = ap (λ (f : Map Value). f n) (sym a.holds.known) ∙ rw is_front (rw front at now_waiting.unknown).0

      step : after own g (pops + 1) ≡ pop own g (after own g pops).state (after own g pops).pops n rest
      step = rw (add-one pops, is_front) (after_suc own g pops ∙ turn own g (after own g pops) _ rest front)

      next_pops : (after own g (pops + 1)).pops ≡ pops + 1
      unfolding pop
      next_pops = ap (λ (w : Work). w.pops) step ∙ rw (add-one, a.popped)

      module _ {next : Queue} (is-rest : next ≡ rest_of queue) where
        pub at_rest : Waits (set marks n false) next.places next.head next.count
        at_rest = rw (is-rest, is_front) (queued_rest a.queued waits)

        -- the next turn
        pub at_next : {kinds' words' actions' details' : List ℕ} {marks' : List Bool} {places' : List ℕ} {count : ℕ} → Turned g own n next.head next.count kinds words actions details next.places kinds' words' actions' details' marks' places' count
            → {longer : Queue} → longer ≡ record { places = places'; head = next.head; count = count } → At g own (pops + 1) kinds' words' actions' details' marks' longer
        at_next {kinds'} {words'} {actions'} {details'} {marks'} {places'} {count} t l =
            let turned : Popped g kinds' words' actions' details' marks' places' next.head count (after own g (pops + 1)) = rw (step, sym (ap (λ (q : Queue). queue_of q.places q.head q.count) is-rest)) (t.law _ _ a.holds) in
            record { holds = turned.holds; queued = rw l turned.queue; popped = next_pops }
