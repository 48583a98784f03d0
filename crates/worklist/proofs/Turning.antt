-- A turn on the arrays is the model's pop.
use Rattle.std.specs.Prelude.{None}
use mathlib.Core.Path.{◌≡◌, sym, ap, ◌∙◌}
use mathlib.Core.Bool.{Bool, true, false, cond}
use mathlib.Core.List.{List, [], ◌++◌, append-nil}
use Prim.Native.Nat.{ℕ, ◌<◌}
use Rattle.value.specs.declared.Value.{Value}
use Rattle.graph.specs.Graph.{Graph}
use Rattle.records.specs.Access.{wires_of, Bounded}
use Rattle.model.specs.Maps.{Map, is_some, or_else}
use Rattle.model.specs.Inputs.{size}
use Rattle.model.specs.Offer.{offer}
use Rattle.model.specs.Trial.{State, add, trial}
use Rattle.model.specs.Worklist.{joiners, newly, pop}
use Rattle.model.specs.Arrays.{queue_of}
use Rattle.model.proofs.Maps.{put_here}
use Rattle.state.specs.Held.{known_of}
use Rattle.state.specs.Planned.{Holds}
use Rattle.state.specs.Trials.{offer_of, Within}
use Rattle.state.specs.declared.Trial.{Trial}
use Rattle.worklist.specs.Queue.{Waits}
use Rattle.worklist.specs.Joins.{ConsumersJoined}
use Rattle.worklist.specs.Turns.{Turned}

-- ---- the model's pop of a node that is not known

module _ (own : Map Value) (g : Graph) (s : State) (pops n : ℕ) (queue : List ℕ) where
  abbrev offered : State
  offered = add s n (offer own g s.known n)

  module _ (e : s.known n ≡ None) where
    trial_unknown : trial own g s n ≡ offered
    unfolding trial is_some
    trial_unknown = rw e

    newly_unknown : newly s offered n ≡ is_some (offer own g s.known n).value
    unfolding newly add is_some or_else
    newly_unknown = rw (put_here, e)

    pop_unknown : ((pop own g s pops n queue).state ≡ offered) × ((pop own g s pops n queue).queue ≡ queue ++ cond (is_some (offer own g s.known n).value) (joiners g offered.known queue n) [])
    unfolding pop
    pop_unknown = (trial_unknown, rw (trial_unknown, newly_unknown))

-- ---- a turn

-- node n was not known, and what a trial offers it was stored; whether that was a value
pub record Tried (g : Graph) (own : Map Value) (n : ℕ) (kinds words actions details kinds' words' actions' details' : List ℕ) (stored : Bool) : Type 0 where
  pub unknown : known_of kinds words n ≡ None
  pub law : (s : State) → Holds g kinds words actions details s → Holds g kinds' words' actions' details' (add s n (offer own g s.known n)) × (stored ≡ is_some (offer own g s.known n).value)

-- what `store` ensures of a trial
abbrev Stored : ℕ → Trial → List ℕ → List ℕ → List ℕ → List ℕ → List ℕ → List ℕ → List ℕ → List ℕ → Bool → Type 0
Stored n t kinds words actions details kinds' words' actions' details' stored = (g : Graph) (s : State) → n < size g → Holds g kinds words actions details s → s.known n ≡ None → Within g t → Holds g kinds' words' actions' details' (add s n (offer_of g n t)) × (stored ≡ is_some (offer_of g n t).value)

pub tried : (g : Graph) (own : Map Value) (n : ℕ) (t : Trial) (kinds words actions details kinds' words' actions' details' : List ℕ) (stored : Bool) → known_of kinds words n ≡ None → n < size g
    → (offer_of g n t ≡ offer own g (known_of kinds words) n) × Within g t → Stored n t kinds words actions details kinds' words' actions' details' stored → Tried g own n kinds words actions details kinds' words' actions' details' stored
tried g own n t kinds words actions details kinds' words' actions' details' stored unknown l o st =
    record {
      unknown = unknown;
      law = λ s h. rw (o.0 ∙ ap (λ (f : Map Value). offer own g f n) (sym h.known)) at (st g s l h (ap (λ (f : Map Value). f n) h.known ∙ unknown) o.1);
    }

module _ {g : Graph} {own : Map Value} {n : ℕ} {kinds words actions details kinds' words' actions' details' : List ℕ} {stored : Bool} (r : Tried g own n kinds words actions details kinds' words' actions' details' stored) where
  module _ {s : State} (pops : ℕ) (queue : List ℕ) (h : Holds g kinds words actions details s) where
    unknown_in : s.known n ≡ None
    unknown_in = ap (λ (f : Map Value). f n) h.known ∙ r.unknown

    next_state : Holds g kinds' words' actions' details' (pop own g s pops n queue).state
    next_state = rw (pop_unknown own g s pops n queue unknown_in).0 (r.law s h).0

    next_queue : (pop own g s pops n queue).queue ≡ queue ++ cond stored (joiners g (known_of kinds' words') queue n) []
    next_queue = (pop_unknown own g s pops n queue unknown_in).1 ∙ rw (sym (r.law s h).1, (r.law s h).0.known)

  -- a node that is not newly known
  pub turn_tried : {head count : ℕ} {marks : List Bool} {places : List ℕ} → Waits marks places head count → stored ≡ false → Turned g own n head count kinds words actions details places kinds' words' actions' details' marks places count
  turn_tried {head} {count} {places = places} q f =
      record {
        law = λ s pops h.
            record { holds = next_state pops (queue_of places head count) h; queue = rw (next_queue pops (queue_of places head count) h, f, append-nil) q };
      }

  -- a newly known node
  pub turn_joined : {head count : ℕ} {places : List ℕ} {wires : List ℕ} {marks' : List Bool} {places' : List ℕ} {count' : ℕ} → wires_of wires ≡ g.wires → Bounded g.wires (size g) → stored ≡ true → ConsumersJoined wires kinds' n head places count marks' places' count' → Turned g own n head count kinds words actions details places kinds' words' actions' details' marks' places' count'
  turn_joined {head} {count} {places} p b f c =
      record {
        law = λ s pops h.
            record { holds = next_state pops (queue_of places head count) h; queue = rw (next_queue pops (queue_of places head count) h, f) (c.law g words' p b) };
      }
