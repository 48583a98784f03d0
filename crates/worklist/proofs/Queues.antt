-- The queue in its places: one more at its back, and without its front.
use mathlib.Core.Path.{◌≡◌, refl, sym, ap, ◌∙◌}
use mathlib.Core.Bool.{Bool, true, false, ◌||◌, or-false}
use mathlib.Core.List.{List, [], ◌∷◌, ◌++◌}
use mathlib.Core.Logic.{inl, inr}
use Prim.Native.Nat.{ℕ, zero, suc, ◌+◌, ◌-◌, ◌%◌, ◌<◌}
use native.Mathlib.Omega.{arith}
use native.Mathlib.Numerals.{add-one}
use lib.Dec.{eqb}
use lib.ListN.{length, get_or, set, replicate, length-append, length-set, length-replicate}
use lib.Seq.{get_or-set_same, get_or-set_other}
use borrow.Author.Tests.{eqb-false}
use Rattle.ir.specs.Limits.{max_nodes}
use Rattle.graph.specs.Graph.{member}
use Rattle.model.specs.Maps.{up_to}
use Rattle.model.specs.Worklist.{queue_places}
use Rattle.model.specs.Arrays.{queue_of}
use Rattle.model.proofs.Maps.{Same, same?}
use Rattle.model.proofs.Lists.{or_right, member_append, all_append}
use Rattle.model.proofs.QueueLength.{up_to_out, distinct_more, finds_place}
use Rattle.model.proofs.Arrays.{queue_push, queue_front}
use Rattle.worklist.specs.declared.queue.Queue.{Queue}
use Rattle.worklist.specs.Queue.{Queued, Waits}

length_queue : (places : List ℕ) (head k : ℕ) → length (queue_of places head k) ≡ k
unfolding queue_of
length_queue places head zero = refl
length_queue places head (suc k) =
    omega (arith, length-append (queue_of places head k) (get_or places ((head + k) % queue_places) 0 ∷ []), length_queue places head k)

-- as many wait as are counted
pub length_queued : {marks : List Bool} {places : List ℕ} {head count : ℕ} {queue : List ℕ} → Queued marks places head count queue → length queue ≡ count
length_queued {places = places} {head = head} {count = count} q = ap length (sym q.waits) ∙ length_queue places head count

-- a node that joins at the back is marked
mark : (marks : List Bool) (c : ℕ) (queue : List ℕ) → length marks ≡ max_nodes → c < max_nodes → ((d : ℕ) → d < max_nodes → get_or marks d false ≡ member d queue) → (d : ℕ) → d < max_nodes → get_or (set marks c true) d false ≡ member d (queue ++ (c ∷ []))
unfolding member
mark marks c queue e h m d l = go (same? c d) ∙ sym (member_append d queue (c ∷ []))
  where
    go : Same c d → get_or (set marks c true) d false ≡ (member d queue || (eqb c d || false))
    go (inl q) = rw (q.0, ← q.1) (get_or-set_same marks c true false (omega arith) ∙ sym (or_right (member c queue) true refl))
    go (inr q) = rw (q, or-false) (get_or-set_other marks c d true false (λ x. eqb-false c d q (sym x)) ∙ m d l)

-- a node that is taken from the front is marked no more
unmark : (marks : List Bool) (n : ℕ) (queue : List ℕ) → length marks ≡ max_nodes → n < max_nodes → member n queue ≡ false → ((d : ℕ) → d < max_nodes → get_or marks d false ≡ member d (n ∷ queue)) → (d : ℕ) → d < max_nodes → get_or (set marks n false) d false ≡ member d queue
unfolding member
unmark marks n queue e h f m d l = go (same? n d)
  where
    go : Same n d → get_or (set marks n false) d false ≡ member d queue
    go (inl q) = rw (← q.1) (get_or-set_same marks n false false (omega arith) ∙ sym f)
    go (inr q) = get_or-set_other marks n d false false (λ x. eqb-false n d q (sym x)) ∙ m d l ∙ rw q

module _ {marks : List Bool} {places : List ℕ} {head count : ℕ} {queue : List ℕ} (q : Queued marks places head count queue) where
  -- a node that does not wait finds a place
  pub queued_place : (c : ℕ) → c < max_nodes → member c queue ≡ false → count < queue_places
  queued_place c h m = omega (arith, finds_place queue c q.once q.nodes h m, length_queued q)

  -- one more at the back, which is marked
  pub queued_more : (c : ℕ) → c < max_nodes → member c queue ≡ false → Queued (set marks c true) (set places ((head + count) % queue_places) c) head (count + 1) (queue ++ (c ∷ []))
  queued_more c h m =
      record {
        marks_long = simp length-set q.marks_long;
        places_long = simp length-set q.places_long;
        head_in = q.head_in;
        waits = rw add-one (queue_push places head count c q.places_long q.head_in (queued_place c h m)) ∙ ap (λ (x : List ℕ). x ++ (c ∷ [])) q.waits;
        marked = mark marks c queue q.marks_long h q.marked;
        once = distinct_more queue c q.once m;
        nodes = all_append (λ x. x < max_nodes) queue (c ∷ []) q.nodes (h, tt);
      }

  -- the front, and those behind it
  pub queued_front : 0 < count → queue ≡ get_or places head 0 ∷ queue_of places ((head + 1) % queue_places) (count - 1)
  queued_front h =
      let e : count ≡ suc (count - 1) = omega arith in
      sym q.waits ∙ ap (λ (k : ℕ). queue_of places head k) e ∙ queue_front places head (count - 1) q.head_in

  -- the queue without its front, which is marked no more
  pub queued_rest : 0 < count → Waits (set marks (get_or places head 0) false) places ((head + 1) % queue_places) (count - 1)
  queued_rest h =
      let once = rw (queued_front h) at q.once in
      let nodes = rw (queued_front h) at q.nodes in
      record {
        marks_long = simp length-set q.marks_long;
        places_long = q.places_long;
        head_in = omega arith;
        waits = refl;
        marked = unmark marks (get_or places head 0) _ q.marks_long nodes.0 once.0 (rw (queued_front h) at q.marked);
        once = once.1;
        nodes = nodes.1;
      }

  -- what waits, as the places hold it
  pub queued_waits : Waits marks places head count
  queued_waits = rw q.waits q

false_at : (k c : ℕ) → get_or (replicate k false) c false ≡ false
false_at zero c = refl
false_at (suc k) zero = refl
false_at (suc k) (suc c) = false_at k c

-- ---- the start

-- none waits
pub queued_none : {marks : List Bool} {queue : Queue} → marks ≡ replicate max_nodes false → queue ≡ record { places = replicate queue_places 0; head = 0; count = 0 } → Queued marks queue.places 0 0 []
unfolding queue_of member
queued_none m e =
    rw (m, e)
    (record {
      marks_long = length-replicate max_nodes false;
      places_long = length-replicate {A = ℕ} queue_places 0;
      head_in = omega arith;
      waits = refl;
      marked = λ c l. false_at max_nodes c;
      once = tt;
      nodes = tt;
    })

-- the next node joins
pub fill_on : {n : ℕ} {marks : List Bool} {places : List ℕ} → n < max_nodes → Queued marks places 0 n (up_to n) → Queued (set marks n true) (set places n n) 0 (n + 1) (up_to (n + 1))
unfolding up_to
fill_on {n} l q =
    let at : (0 + n) % queue_places ≡ n = omega arith in
    rw add-one (rw (add-one, at) at (queued_more q n l (up_to_out n)))

-- all nodes wait
pub filled : {nodes : ℕ} {marks : List Bool} {places : List ℕ} {new queue : Queue} → new ≡ record { places = replicate queue_places 0; head = 0; count = 0 } → Queued marks places 0 nodes (up_to nodes) → queue ≡ record { places = places; head = new.head; count = nodes } → Queued marks queue.places queue.head queue.count (up_to nodes)
filled e f q = rw (q, e) f
