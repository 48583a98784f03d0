-- Where neither a Select nor a Branch is planned, each wire into a node that stays becomes one wire, and each other none.
use Rattle.std.specs.Prelude.{Option, Some}
use Prim.Native.Nat.{ℕ, zero, suc, ◌+◌, ◌≤◌, ◌<◌}
use native.Mathlib.Omega.{arith}
use native.Mathlib.Decide.{ℕ_discrete}
use native.Mathlib.Numerals.{add-one}
use mathlib.Core.Path.{◌≡◌, refl, ap, ap₂, ◌∙◌}
use mathlib.Core.Bool.{Bool, true, false, cond}
use mathlib.Core.List.{List, [], ◌∷◌}
use lib.Dec.{eqb}
use mir.Val.{bool_byte}
use lib.ListN.{length, get_or, drop, length-append}
use lib.Seq.{drop-cons, drop-length}
use Rattle.ir.specs.Limits.{max_wires}
use Rattle.ir.specs.declared.PortRef.{PortRef}
use Rattle.ir.specs.declared.Wire.{Wire}
use Rattle.records.specs.Access.{no_wire, Named}
use Rattle.model.specs.Maps.{Map}
use Rattle.model.specs.Offer.{PlanAction}
use Rattle.model.specs.Rewrite.{both, collect, arrive, reach, from, leave, follow, joined, rewrite_wire, rewrite_wires}
use Rattle.model.specs.TargetCounts.{cap}
use Rattle.model.proofs.Maps.{by_bool}
use Rattle.state.specs.Planned.{shape_of, Shaped}
use Rattle.rewrite.specs.Tallied.{Counted, kept_source, kept_wire, kept_wires}
use Rattle.rewrite.proofs.Shapes.{shape_kept, shape_literal, planned_low}

module _ (vs : List Wire) (actions details : List ℕ) (n : ℕ) (s : Shaped vs n actions details) (low : (m : ℕ) → m < n → get_or actions m 0 ≤ 1) where
  abbrev p : Map PlanAction
  p = shape_of vs actions details

  data Plain (m : ℕ) : Type 0 where
    stays : get_or actions m 0 ≡ 0 → Plain m
    folds : get_or actions m 0 ≡ 1 → Plain m

  plain : (m : ℕ) → Plain m
  plain m = go (ℕ_discrete (get_or actions m 0) 0)
    where
      go : Dec (get_or actions m 0 ≡ 0) → Plain m
      go (yes e) = Plain.stays e
      go (no e) = Plain.folds (omega (arith, e, low m (planned_low vs actions details n s m e)))

  follow_plain : (k : ℕ) (e : PortRef) → follow p k e ≡ from (kept_source actions e)
  unfolding follow leave
  follow_plain k e = go k (plain e.node_id)
    where
      go : (k : ℕ) → Plain e.node_id → follow p k e ≡ from (kept_source actions e)
      go zero (Plain.stays a) = rw (shape_kept vs actions details _ a, a)
      go (suc k) (Plain.stays a) = rw (shape_kept vs actions details _ a, a)
      go zero (Plain.folds a) = rw (shape_literal vs actions details _ a, a)
      go (suc k) (Plain.folds a) = rw (shape_literal vs actions details _ a, a)

  reach_kept : (k : ℕ) (e : PortRef) → get_or actions e.node_id 0 ≡ 0 → reach p k e ≡ Some (e ∷ [])
  unfolding reach arrive
  reach_kept zero e a = rw (shape_kept vs actions details _ a)
  reach_kept (suc k) e a = rw (shape_kept vs actions details _ a)

  reach_literal : (k : ℕ) (e : PortRef) → get_or actions e.node_id 0 ≡ 1 → reach p k e ≡ Some []
  unfolding reach arrive
  reach_literal zero e a = rw (shape_literal vs actions details _ a)
  reach_literal (suc k) e a = rw (shape_literal vs actions details _ a)

  one : (w : Wire) → rewrite_wire p n w ≡ Some (kept_wire actions w)
  unfolding rewrite_wire joined kept_wire
  one w = go (plain w.target.node_id)
    where
      go : Plain w.target.node_id → rewrite_wire p n w ≡ Some (kept_wire actions w)
      go (Plain.stays a) = ap₂ joined (reach_kept n w.target a) (follow_plain n w.source) ∙ rw a refl
      go (Plain.folds a) = ap (λ (o : Option (List PortRef)). joined o (follow p n w.source)) (reach_literal n w.target a) ∙ rw a refl

  pub wires_kept : (ws : List Wire) → rewrite_wires p n ws ≡ Some (kept_wires actions ws)
  unfolding rewrite_wires collect both kept_wires
  wires_kept [] = refl
  wires_kept (w ∷ ws) = ap₂ both (one w) (wires_kept ws)

  pub kept_counted : (ws : List Wire) → length (kept_wires actions ws) ≤ max_wires → (count : ℕ) → count ≡ length (kept_wires actions ws) → Counted p n ws count
  unfolding cap
  kept_counted ws h count e = record { rewritten = kept_wires actions ws; ends = wires_kept ws; many = omega arith }

-- ---- the count

kept_one : (actions : List ℕ) (w : Wire) → length (kept_wire actions w) ≡ cond (eqb (get_or actions w.target.node_id 0) 0) 1 0
unfolding kept_wire
kept_one actions w = by_bool (eqb (get_or actions w.target.node_id 0) 0) (λ e. rw e refl) (λ e. rw e refl)

count_cons : (actions : List ℕ) (w : Wire) (ws : List Wire) → length (kept_wires actions (w ∷ ws)) ≡ cond (eqb (get_or actions w.target.node_id 0) 0) 1 0 + length (kept_wires actions ws)
unfolding kept_wires
count_cons actions w ws = length-append (kept_wire actions w) (kept_wires actions ws) ∙ ap (λ (k : ℕ). k + length (kept_wires actions ws)) (kept_one actions w)

pub kept_few : (actions : List ℕ) (ws : List Wire) → length (kept_wires actions ws) ≤ length ws
kept_few actions [] = unfold kept_wires in omega arith
kept_few actions (w ∷ ws) = by_bool (eqb (get_or actions w.target.node_id 0) 0) (λ e. rw (count_cons actions w ws, e) (omega (arith, kept_few actions ws))) (λ e. rw (count_cons actions w ws, e) (omega (arith, kept_few actions ws)))

byte_cond : (b : Bool) → bool_byte b ≡ cond b 1 0
byte_cond true = refl
byte_cond false = refl

byte_low : (b : Bool) → cond b 1 0 ≤ 1
byte_low true = omega arith
byte_low false = omega arith

-- the wires before i are counted
pub record Counting (actions : List ℕ) (ws : List Wire) (i count : ℕ) : Type 0 where
  pub low : count ≤ i
  pub rest : count + length (kept_wires actions (drop i ws)) ≡ length (kept_wires actions ws)

module _ (actions : List ℕ) (ws : List Wire) where
  pub counting_start : Counting actions ws 0 0
  counting_start = record { low = omega arith; rest = omega arith }

  pub counting_next : (i count more : ℕ) → i < length ws → Counting actions ws i count → more ≡ bool_byte (eqb (get_or actions (get_or ws i no_wire).target.node_id 0) 0) → Counting actions ws (i + 1) (count + more)
  counting_next i count more h c e = go (eqb (get_or actions (get_or ws i no_wire).target.node_id 0) 0) refl
    where
      go : (b : Bool) → eqb (get_or actions (get_or ws i no_wire).target.node_id 0) 0 ≡ b → Counting actions ws (i + 1) (count + more)
      go b q =
          let m : more ≡ cond b 1 0 = e ∙ ap bool_byte q ∙ byte_cond b in
          let n : length (kept_wires actions (drop i ws)) ≡ cond b 1 0 + length (kept_wires actions (drop (suc i) ws)) = ap (λ (us : List Wire). length (kept_wires actions us)) (drop-cons ws i no_wire h) ∙ rw (count_cons actions (get_or ws i no_wire) (drop (suc i) ws), q) refl in
          record { low = omega (arith, c.low, byte_low b); rest = rw add-one (omega (arith, c.rest)) }

  pub counting_end : (i count : ℕ) → i ≡ length ws → Counting actions ws i count → count ≡ length (kept_wires actions ws)
  unfolding kept_wires
  counting_end i count e c = let z : length (kept_wires actions (drop i ws)) ≡ 0 = rw (e, drop-length ws) refl in omega (arith, c.rest)

-- ---- nothing is planned

-- the wires between nodes of which nothing is planned stay as they are
pub all_kept : (actions : List ℕ) (n : ℕ) → ((m : ℕ) → m < n → get_or actions m 0 ≡ 0) → (ws : List Wire) → ((i : ℕ) → i < length ws → Named n (get_or ws i no_wire)) → kept_wires actions ws ≡ ws
unfolding kept_wires kept_wire
all_kept actions n none-planned [] named = refl
all_kept actions n none-planned (w ∷ ws) named =
    let e = none-planned _ (named 0 (omega arith)).source in
    let f = none-planned _ (named 0 (omega arith)).target in
    rw (f, e) (ap (λ (us : List Wire). w ∷ us) (all_kept actions n none-planned ws (λ i l. named (suc i) (omega arith))))
