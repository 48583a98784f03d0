-- The rewriting takes no notice of a planned literal's value.
use Rattle.std.specs.Prelude.{Option, None, Some}
use mathlib.Core.Path.{◌≡◌, refl, ap, ap₂}
use mathlib.Core.Bool.{Bool, true, false, cond, false≢true}
use mathlib.Core.List.{List, [], ◌∷◌}
use Prim.Native.Nat.{ℕ, zero, suc}
use lib.Dec.{eqb}
use lib.ListN.{get_or}
use borrow.Author.Tests.{eqb-true}
use Rattle.ir.specs.Ports.{exec}
use Rattle.ir.specs.declared.PortRef.{PortRef}
use Rattle.ir.specs.declared.Wire.{Wire}
use Rattle.value.specs.declared.Value.{Value}
use Rattle.model.specs.Maps.{Map, is_some}
use Rattle.model.specs.Offer.{PlanAction, BecomeLiteral, ShortCircuit, Truncate}
use Rattle.model.specs.Rewrite.{both, collect, arrive, reach, Source, leave, follow, joined, rewrite_wire, rewrite_wires}
use Rattle.model.specs.Outcome.{endless_index}
use Rattle.state.specs.Planned.{shape_at, shape_of, literal_of, valued, plan_of}

-- the same but for the value of a literal
pub data Alike : Option PlanAction → Option PlanAction → Type 0 where
  kept : Alike None None
  literal : {v w : Value} → Alike (Some (BecomeLiteral v)) (Some (BecomeLiteral w))
  short : {s : PortRef} → Alike (Some (ShortCircuit s)) (Some (ShortCircuit s))
  cut : {ts : List PortRef} → Alike (Some (Truncate ts)) (Some (Truncate ts))

pub collect_same : {A B : Type 0} (f h : A → Option (List B)) → ((x : A) → f x ≡ h x) → (xs : List A) → collect f xs ≡ collect h xs
unfolding collect
collect_same f h e [] = refl
collect_same f h e (x ∷ xs) = ap₂ both (e x) (collect_same f h e xs)

module _ (p q : Map PlanAction) (alike : (n : ℕ) → Alike (p n) (q n)) where
  arrive_same : (f h : List PortRef → Option (List PortRef)) → ((ts : List PortRef) → f ts ≡ h ts) → (e : PortRef) {o o' : Option PlanAction} → Alike o o' → arrive f o e ≡ arrive h o' e
  unfolding arrive
  arrive_same f h s e kept = refl
  arrive_same f h s e literal = refl
  arrive_same f h s e short = refl
  arrive_same f h s e (cut {ts = ts}) = ap (λ (x : Option (List PortRef)). cond (eqb e.port exec) x (Some [])) (s ts)

  pub reach_same : (k : ℕ) (e : PortRef) → reach p k e ≡ reach q k e
  unfolding reach
  reach_same zero e = arrive_same (λ ts. None) (λ ts. None) (λ ts. refl) e (alike e.node_id)
  reach_same (suc k) e = arrive_same (λ ts. collect (reach p k) ts) (λ ts. collect (reach q k) ts) (collect_same (reach p k) (reach q k) (reach_same k)) e (alike e.node_id)

  leave_same : (f h : PortRef → Source) → ((s : PortRef) → f s ≡ h s) → (e : PortRef) {o o' : Option PlanAction} → Alike o o' → leave f o e ≡ leave h o' e
  unfolding leave
  leave_same f h s e kept = refl
  leave_same f h s e literal = refl
  leave_same f h s e (short {s = t}) = s t
  leave_same f h s e cut = refl

  pub follow_same : (k : ℕ) (e : PortRef) → follow p k e ≡ follow q k e
  unfolding follow
  follow_same zero e = leave_same (λ s. Source.cycles) (λ s. Source.cycles) (λ s. refl) e (alike e.node_id)
  follow_same (suc k) e = leave_same (λ s. follow p k s) (λ s. follow q k s) (follow_same k) e (alike e.node_id)

  pub wire_same : (n : ℕ) (w : Wire) → rewrite_wire p n w ≡ rewrite_wire q n w
  unfolding rewrite_wire
  wire_same n w = ap₂ joined (reach_same n w.target) (follow_same n w.source)

  pub wires_same : (n : ℕ) (ws : List Wire) → rewrite_wires p n ws ≡ rewrite_wires q n ws
  unfolding rewrite_wires
  wires_same n ws = collect_same (rewrite_wire p n) (rewrite_wire q n) (wire_same n) ws

  pub index_same : (n : ℕ) (ws : List Wire) → endless_index p n ws ≡ endless_index q n ws
  unfolding endless_index
  index_same n [] = refl
  index_same n (w ∷ ws) = ap₂ (λ (o : Option (List Wire)) (i : ℕ). cond (is_some o) (suc i) 0) (wire_same n w) (index_same n ws)

-- the plan that the arrays hold, beside its shape
module _ (ws : List Wire) (known : Map Value) (actions details : List ℕ) (literal-known : (m : ℕ) → get_or actions m 0 ≡ 1 → is_some (known m) ≡ true) where
  pub shape_alike : (n : ℕ) → Alike (plan_of ws known actions details n) (shape_of ws actions details n)
  unfolding plan_of shape_of shape_at valued is_some
  shape_alike n = one (eqb (get_or actions n 0) 1) refl _ (two _ _ (eqb (get_or actions n 0) 2) (eqb (get_or actions n 0) 3))
    where
      lit : (o : Option Value) → is_some o ≡ true → Alike (literal_of o) (Some (BecomeLiteral (Value.Bool true)))
      lit None e = absurd (false≢true e)
      lit (Some v) e = literal

      two : (s : PortRef) (ts : List PortRef) (b c : Bool) → Alike (valued (cond b (Some (ShortCircuit s)) (cond c (Some (Truncate ts)) None)) (known n)) (cond b (Some (ShortCircuit s)) (cond c (Some (Truncate ts)) None))
      two s ts true c = short
      two s ts false true = cut
      two s ts false false = kept

      one : (b : Bool) → eqb (get_or actions n 0) 1 ≡ b → (o : Option PlanAction) → Alike (valued o (known n)) o → Alike (valued (cond b (Some (BecomeLiteral (Value.Bool true))) o) (known n)) (cond b (Some (BecomeLiteral (Value.Bool true))) o)
      one true e o a = lit (known n) (literal-known n (eqb-true (get_or actions n 0) 1 e))
      one false e o a = a
