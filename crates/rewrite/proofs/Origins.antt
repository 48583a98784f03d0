-- What a source comes to, by the array of sources.
use Prim.Native.Nat.{ℕ, zero, suc}
use native.Mathlib.Omega.{arith}
use mathlib.Core.Path.{◌≡◌, refl, sym, ap, ◌∙◌}
use mathlib.Core.List.{List}
use lib.ListN.{get_or}
use Rattle.ir.specs.declared.PortRef.{PortRef}
use Rattle.ir.specs.declared.Wire.{Wire}
use Rattle.records.specs.Access.{Bounded}
use Rattle.model.specs.Rewrite.{leave, follow}
use Rattle.state.specs.Planned.{shape_of, Shaped}
use Rattle.rewrite.specs.Sources.{passed_to, Sources, Traced, origin_of, settled_at}
use Rattle.rewrite.proofs.Shapes.{Action, kept, literal, select, branch, action, shape_kept, shape_literal, shape_select, shape_branch}

module _ (ws : List Wire) (actions details : List ℕ) (n : ℕ) (s : Shaped ws n actions details) where
  -- by its own node alone
  settled_right : (e : PortRef) → settled_at actions e ≡ origin_of (follow (shape_of ws actions details) 0 e)
  unfolding settled_at origin_of follow leave
  settled_right e = go (action (get_or actions e.node_id 0) (s.listed _))
    where
      go : Action (get_or actions e.node_id 0) → settled_at actions e ≡ origin_of (follow (shape_of ws actions details) 0 e)
      go (kept a) = rw (shape_kept ws actions details _ a, a)
      go (literal a) = rw (shape_literal ws actions details _ a, a)
      go (select a) = rw (shape_select ws actions details _ a, a)
      go (branch a) = rw (shape_branch ws actions details _ a, a)

  -- no Select takes no fuel
  follow_still : (k : ℕ) (e : PortRef) → (get_or actions e.node_id 0 ≡ 2 → ⊥) → follow (shape_of ws actions details) k e ≡ follow (shape_of ws actions details) 0 e
  unfolding follow leave
  follow_still zero e h = refl
  follow_still (suc k) e h = go (action (get_or actions e.node_id 0) (s.listed _))
    where
      go : Action (get_or actions e.node_id 0) → follow (shape_of ws actions details) (suc k) e ≡ follow (shape_of ws actions details) 0 e
      go (kept a) = rw (shape_kept ws actions details _ a)
      go (literal a) = rw (shape_literal ws actions details _ a)
      go (select a) = absurd (h a)
      go (branch a) = rw (shape_branch ws actions details _ a)

  pub origin_here : (e : PortRef) → (get_or actions e.node_id 0 ≡ 2 → ⊥) → settled_at actions e ≡ origin_of (follow (shape_of ws actions details) n e)
  origin_here e h = settled_right e ∙ ap origin_of (sym (follow_still n e h))

  module _ (sources : List ℕ) (r : Sources ws n actions details sources) where
    pub origin_passed : (e : PortRef) → get_or actions e.node_id 0 ≡ 2 → settled_at actions (passed_to ws sources e.node_id) ≡ origin_of (follow (shape_of ws actions details) n e)
    origin_passed e h = settled_right (passed_to ws sources e.node_id) ∙ ap origin_of (sym (r.right e h))

    -- what `origin` asks for
    pub traced : Bounded ws n → Traced ws actions sources
    traced b = record { long = r.long; low = λ i l. omega (arith, (b.named i l).source, b.few_nodes); inside = r.inside }
