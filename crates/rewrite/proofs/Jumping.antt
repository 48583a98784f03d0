-- Rounds of jumps along the chains of sources.
use Prim.Native.Nat.{ℕ, zero, suc, ◌+◌, ◌*◌, ◌≤◌, ◌<◌}
use native.Mathlib.Omega.{arith}
use native.Mathlib.Decide.{ℕ_discrete}
use native.Mathlib.Nat.{add_assoc}
use native.Mathlib.Numerals.{one-add}
use mathlib.Core.Path.{◌≡◌, refl, sym, ap, ◌∙◌}
use mathlib.Core.Bool.{Bool, true, false, ◌||◌, and-false}
use mathlib.Core.List.{List}
use lib.Dec.{eqb}
use lib.ListN.{length, get_or, set, length-set}
use lib.Seq.{get_or-set_same, get_or-set_other}
use borrow.Author.Tests.{ne_eqb, eqb-true}
use Rattle.ir.specs.Limits.{max_nodes}
use Rattle.ir.specs.declared.PortRef.{PortRef}
use Rattle.ir.specs.declared.Wire.{Wire}
use Rattle.graph.proofs.Roles.{and_left, and_right}
use Rattle.records.specs.Access.{no_wire, Bounded}
use Rattle.model.specs.Rewrite.{cycles, leave, follow}
use Rattle.model.proofs.Maps.{by_bool}
use Rattle.model.proofs.Lists.{or_false_left, or_false_right}
use Rattle.state.specs.Planned.{shape_of, Shaped}
use Rattle.rewrite.specs.Sources.{passed_to, Sources, Traced}
use Rattle.rewrite.specs.Jumps.{jumps, jumped, turned, Along, Jumped}
use Rattle.rewrite.proofs.Shapes.{Action, kept, literal, select, branch, action, shape_kept, shape_literal, shape_select, shape_branch, small, planned_low}
use Rattle.rewrite.proofs.Follow.{Found, drop, start, follow_found, follow_cycles}

-- ---- what a jump does

module _ (ws : List Wire) (actions sources : List ℕ) (m : ℕ) where
  pub jump_other : (get_or actions m 0 ≡ 2 → ⊥) → jumps ws actions sources m ≡ false
  unfolding jumps
  jump_other h = rw (ne_eqb _ _ h)

  pub jump_ends : (get_or actions (passed_to ws sources m).node_id 0 ≡ 2 → ⊥) → jumps ws actions sources m ≡ false
  unfolding jumps
  jump_ends h = rw (ne_eqb _ _ h) (and-false (eqb (get_or actions m 0) 2))

  pub jump_on : get_or actions m 0 ≡ 2 → get_or actions (passed_to ws sources m).node_id 0 ≡ 2 → jumps ws actions sources m ≡ true
  unfolding jumps
  jump_on h k = rw (h, k)

  pub jumped_not : jumps ws actions sources m ≡ false → jumped ws actions sources m ≡ sources
  unfolding jumped
  jumped_not e = rw e

  pub jumped_on : jumps ws actions sources m ≡ true → jumped ws actions sources m ≡ set sources m (get_or sources (passed_to ws sources m).node_id 0)
  unfolding jumped
  jumped_on e = rw e

  jumps_here : jumps ws actions sources m ≡ true → (get_or actions m 0 ≡ 2) × (get_or actions (passed_to ws sources m).node_id 0 ≡ 2)
  unfolding jumps
  jumps_here e = (eqb-true _ _ (and_left _ _ e), eqb-true _ _ (and_right (eqb (get_or actions m 0) 2) _ e))

  -- a Select that does not jump has come past the Selects
  jumps_not : jumps ws actions sources m ≡ false → get_or actions m 0 ≡ 2 → get_or actions (passed_to ws sources m).node_id 0 ≡ 2 → ⊥
  unfolding jumps
  jumps_not e h k = let z : true ≡ false = sym (jump_on h k) ∙ e in let o : ◌≡◌ {A = ℕ} 0 1 = cc in omega arith

  module _ (t : Traced ws actions sources) (l : m < max_nodes) where
    at_self : jumps ws actions sources m ≡ true → get_or (jumped ws actions sources m) m 0 ≡ get_or sources (passed_to ws sources m).node_id 0
    at_self e = rw (jumped_on e) (get_or-set_same sources m _ 0 (omega (arith, t.long)))

    at_other : (x : ℕ) → (x ≡ m → ⊥) → get_or (jumped ws actions sources m) x 0 ≡ get_or sources x 0
    at_other x h = by_bool (jumps ws actions sources m) (λ e. rw (jumped_on e) (get_or-set_other sources m x _ 0 h)) (λ e. rw (jumped_not e))

    pub jumped_traced : Traced ws actions (jumped ws actions sources m)
    jumped_traced = by_bool (jumps ws actions sources m) moved (λ e. rw (jumped_not e) t)
      where
        moved : jumps ws actions sources m ≡ true → Traced ws actions (jumped ws actions sources m)
        moved e = record { long = ap length (jumped_on e) ∙ length-set sources m _ ∙ t.long; low = t.low; inside = inside }
          where
            inside : (x : ℕ) → get_or actions x 0 ≡ 2 → get_or (jumped ws actions sources m) x 0 < length ws
            inside x h = go (ℕ_discrete x m)
              where
                go : Dec (x ≡ m) → get_or (jumped ws actions sources m) x 0 < length ws
                go (yes q) = rw (q, at_self e) (t.inside _ (jumps_here e).1)
                go (no q) = rw (at_other x q) (t.inside x h)

-- ---- rounds

-- turned twice is the same: each node has its turn
turned_twice : (n : ℕ) (down : Bool) (m : ℕ) → m < n → (turned n down m < n) × (turned n down (turned n down m) ≡ m)
turned_twice n true m l = (omega arith, omega arith)
turned_twice n false m l = (l, refl)

turned_before : (n : ℕ) (down : Bool) (k i m : ℕ) → m ≡ turned n down i → k < i + 1 → (turned n down k ≡ m → ⊥) → k < i
turned_before n down k i m e l q = let z : k ≡ i → ⊥ = λ p. q (ap (turned n down) p ∙ sym e) in omega arith

module _ (ws : List Wire) (actions details : List ℕ) (n : ℕ) (down : Bool) where
  -- a round after i nodes
  pub record Round (sources : List ℕ) (far i : ℕ) : Type 0 where
    pub each : Jumped ws actions details sources far
    pub before : (k : ℕ) → k < i → get_or actions (turned n down k) 0 ≡ 2 → Along ws actions details (2 * far) (turned n down k) (get_or sources (turned n down k) 0)

  pub round_start : (sources : List ℕ) (far : ℕ) → Jumped ws actions details sources far → Round sources far 0
  round_start sources far j = record { each = j; before = λ k l. absurd (omega arith) }

  -- a Select that has come past the Selects is as far as can be
  along_ended : (far far' m s : ℕ) → (get_or actions (get_or ws s no_wire).source.node_id 0 ≡ 2 → ⊥) → Along ws actions details far m s → Along ws actions details far' m s
  along_ended far far' m s h a = record { steps = a.steps; leads = a.leads; enough = λ e. absurd (h e) }

  along_less : (far far' m s : ℕ) → far ≤ far' → Along ws actions details far' m s → Along ws actions details far m s
  along_less far far' m s h a = record { steps = a.steps; leads = a.leads; enough = λ e. omega (arith, a.enough e) }

  -- one chain after the other
  along_on : (far m s t : ℕ) → get_or actions (get_or ws s no_wire).source.node_id 0 ≡ 2 → Along ws actions details far m s → Along ws actions details far (get_or ws s no_wire).source.node_id t → Along ws actions details (2 * far) m t
  along_on far m s t h a b =
      record {
        steps = a.steps + b.steps;
        leads = λ e q k. rw (add_assoc a.steps b.steps k) (a.leads e q (b.steps + k) ∙ b.leads (get_or ws s no_wire).source refl k);
        enough = λ e. omega (arith, a.enough h, b.enough e);
      }

  module _ (sources : List ℕ) (far i m : ℕ) (e : m ≡ turned n down i) (t : Traced ws actions sources) (l : m < max_nodes) (r : Round sources far i) where
    self : get_or actions m 0 ≡ 2 → Along ws actions details (2 * far) m (get_or (jumped ws actions sources m) m 0)
    self h = by_bool (jumps ws actions sources m) (λ e. rw (at_self ws actions sources m t l e) (along_on far m (get_or sources m 0) _ (jumps_here ws actions sources m e).1 (r.each m h) (r.each _ (jumps_here ws actions sources m e).1))) (λ e. rw (jumped_not ws actions sources m e) (along_ended far (2 * far) m (get_or sources m 0) (jumps_not ws actions sources m e h) (r.each m h)))

    pub round_next : Round (jumped ws actions sources m) far (i + 1)
    round_next = record { each = each; before = before }
      where
        each : Jumped ws actions details (jumped ws actions sources m) far
        each x h = go (ℕ_discrete x m)
          where
            go : Dec (x ≡ m) → Along ws actions details far x (get_or (jumped ws actions sources m) x 0)
            go (yes q) = rw q (along_less far (2 * far) m _ (omega arith) (self (rw q at h)))
            go (no q) = rw (at_other ws actions sources m t l x q) (r.each x h)

        before : (k : ℕ) → k < i + 1 → get_or actions (turned n down k) 0 ≡ 2 → Along ws actions details (2 * far) (turned n down k) (get_or (jumped ws actions sources m) (turned n down k) 0)
        before k b h = go (ℕ_discrete (turned n down k) m)
          where
            go : Dec (turned n down k ≡ m) → Along ws actions details (2 * far) (turned n down k) (get_or (jumped ws actions sources m) (turned n down k) 0)
            go (yes q) = rw q (self (rw q at h))
            go (no q) = rw (at_other ws actions sources m t l _ q) (r.before k (turned_before n down k i m e b q) h)

-- a round from old sources after i nodes. Where none has jumped, nothing has changed
pub record Jumping (ws : List Wire) (actions : List ℕ) (n : ℕ) (down : Bool) (old sources : List ℕ) (any : Bool) (far i : ℕ) : Type 0 where
  pub traced : Traced ws actions sources
  pub round : (details : List ℕ) → Jumped ws actions details old far → Round ws actions details n down sources far i
  pub same : any ≡ false → sources ≡ old
  pub still : any ≡ false → (k : ℕ) → k < i → jumps ws actions sources (turned n down k) ≡ false

pub jumping_start : (ws : List Wire) (actions : List ℕ) (n : ℕ) (down : Bool) (sources : List ℕ) (far : ℕ) → Traced ws actions sources → Jumping ws actions n down sources sources false far 0
jumping_start ws actions n down sources far t =
    record { traced = t; round = λ details j. round_start ws actions details n down sources far j; same = λ e. refl; still = λ e k l. absurd (omega arith) }

module _ (ws : List Wire) (actions : List ℕ) (n : ℕ) (down : Bool) (old sources : List ℕ) (any : Bool) (far i m : ℕ) (e : m ≡ turned n down i) (l : m < max_nodes) (j : Jumping ws actions n down old sources any far i) where
  unmoved : (any || jumps ws actions sources m) ≡ false → jumped ws actions sources m ≡ sources
  unmoved f = jumped_not ws actions sources m (or_false_right any _ f)

  still_more : (any || jumps ws actions sources m) ≡ false → (k : ℕ) → k < i + 1 → jumps ws actions (jumped ws actions sources m) (turned n down k) ≡ false
  still_more f k b = rw (unmoved f) (go (ℕ_discrete (turned n down k) m))
    where
      go : Dec (turned n down k ≡ m) → jumps ws actions sources (turned n down k) ≡ false
      go (yes q) = rw q (or_false_right any _ f)
      go (no q) = j.still (or_false_left any _ f) k (turned_before n down k i m e b q)

  pub jumping_next : (r : Bool) (new : List ℕ) → r ≡ jumps ws actions sources m → new ≡ jumped ws actions sources m → Jumping ws actions n down old new (any || r) far (i + 1)
  jumping_next r new q p =
      rw (q, p) record {
        traced = jumped_traced ws actions sources m j.traced l;
        round = λ details h. round_next ws actions details n down sources far i m e j.traced l (j.round details h);
        same = λ f. unmoved f ∙ j.same (or_false_left any _ f);
        still = still_more;
      }

-- all nodes passed: twice as far, or as far as can be where none jumped
module _ (ws : List Wire) (actions : List ℕ) (n : ℕ) (down : Bool) (old sources : List ℕ) (any : Bool) (far i : ℕ) (l : n ≤ i) (j : Jumping ws actions n down old sources any far i) (details : List ℕ) (s : Shaped ws n actions details) (o : Jumped ws actions details old far) where
  each_select : (P : ℕ → Type 0) → ((k : ℕ) → k < i → P (turned n down k)) → (m : ℕ) → get_or actions m 0 ≡ 2 → P m
  each_select P p m h = rw t.1 at (p (turned n down m) (omega (arith, t.0)))
    where
      t : (turned n down m < n) × (turned n down (turned n down m) ≡ m)
      t = turned_twice n down m (planned_low ws actions details n s m (λ e. let z : ◌≡◌ {A = ℕ} 2 0 = sym h ∙ e in omega arith))

  pub jumping_end : Jumped ws actions details sources (2 * far)
  jumping_end m h = each_select (λ x. get_or actions x 0 ≡ 2 → Along ws actions details (2 * far) x (get_or sources x 0)) (j.round details o).before m h h

  pub jumping_still : any ≡ false → (far' : ℕ) → Jumped ws actions details sources far'
  jumping_still e far' m h = along_ended ws actions details n down far far' m _ (jumps_not ws actions sources m (each_select (λ x. jumps ws actions sources x ≡ false) (j.still e) m h) h) (rw (j.same e) (o m h))

-- ---- the start and the end

module _ (ws : List Wire) (actions details : List ℕ) (n : ℕ) (s : Shaped ws n actions details) where
  pub jump_start : Jumped ws actions details details 1
  jump_start m h =
      record {
        steps = 1;
        leads = λ e q k. rw (one-add k) (unfold follow leave in rw (q, shape_select ws actions details m h) refl);
        enough = λ e. omega arith;
      }

  pub traced_start : Bounded ws n → Traced ws actions details
  traced_start b = record { long = s.details_long; low = λ i l. omega (arith, (b.named i l).source, b.few_nodes); inside = s.chosen }

  found_end : (k : ℕ) (e : PortRef) → (get_or actions e.node_id 0 ≡ 2 → ⊥) → Found (follow (shape_of ws actions details) k e)
  unfolding follow leave
  found_end k e h = go k (action (get_or actions e.node_id 0) (s.listed _))
    where
      go : (k : ℕ) → Action (get_or actions e.node_id 0) → Found (follow (shape_of ws actions details) k e)
      go zero (kept a) = rw (shape_kept ws actions details _ a) start
      go zero (literal a) = rw (shape_literal ws actions details _ a) start
      go zero (select a) = absurd (h a)
      go zero (branch a) = rw (shape_branch ws actions details _ a) drop
      go (suc k) (kept a) = rw (shape_kept ws actions details _ a) start
      go (suc k) (literal a) = rw (shape_literal ws actions details _ a) start
      go (suc k) (select a) = absurd (h a)
      go (suc k) (branch a) = rw (shape_branch ws actions details _ a) drop

  select_cycles : (e : PortRef) → get_or actions e.node_id 0 ≡ 2 → follow (shape_of ws actions details) 0 e ≡ cycles
  unfolding follow leave
  select_cycles e h = rw (shape_select ws actions details _ h)

  pub sources_right : (sources : List ℕ) (far : ℕ) → n ≤ far → Traced ws actions sources → Jumped ws actions details sources far → Sources ws n actions details sources
  sources_right sources far l t j = record { long = t.long; inside = t.inside; right = right }
    where
      right : (e : PortRef) → get_or actions e.node_id 0 ≡ 2 → follow (shape_of ws actions details) n e ≡ follow (shape_of ws actions details) 0 (passed_to ws sources e.node_id)
      right e h = go (ℕ_discrete (get_or actions (passed_to ws sources e.node_id).node_id 0) 2)
        where
          a : Along ws actions details far e.node_id (get_or sources e.node_id 0)
          a = j e.node_id h

          there : follow (shape_of ws actions details) (a.steps + 0) e ≡ follow (shape_of ws actions details) 0 (passed_to ws sources e.node_id)
          there = a.leads e refl 0

          go : Dec (get_or actions (passed_to ws sources e.node_id).node_id 0 ≡ 2) → follow (shape_of ws actions details) n e ≡ follow (shape_of ws actions details) 0 (passed_to ws sources e.node_id)
          go (yes q) = follow_cycles (shape_of ws actions details) n (a.steps + 0) (omega (arith, a.enough q)) e (there ∙ select_cycles _ q) ∙ sym (select_cycles _ q)
          go (no q) = follow_found (shape_of ws actions details) n (small ws actions details n s) (a.steps + 0) e (rw there (found_end 0 _ q)) ∙ there

  -- there is no Select
  pub sources_none : (sources : List ℕ) → sources ≡ details → ((m : ℕ) → m < n → get_or actions m 0 ≡ 2 → ⊥) → Sources ws n actions details sources
  sources_none sources e none-planned =
      record { long = ap length e ∙ s.details_long; inside = λ m h. absurd (no_select m h); right = λ x h. absurd (no_select x.node_id h) }
    where
      no_select : (m : ℕ) → get_or actions m 0 ≡ 2 → ⊥
      no_select m h = none-planned m (planned_low ws actions details n s m (λ q. let z : ◌≡◌ {A = ℕ} 2 0 = sym h ∙ q in omega arith)) h
