-- Following a source with more and with less fuel.
use Rattle.std.specs.Prelude.{Option, None, Some}
use Prim.Native.Nat.{ℕ, zero, suc, ◌≤◌, ◌<◌}
use native.Mathlib.Omega.{arith}
use native.Mathlib.Decide.{le_ind, dec_lt}
use mathlib.Core.Path.{◌≡◌, refl, sym, ◌∙◌}
use mathlib.Core.Logic.{◌⊎◌, inl, inr}
use Rattle.ir.specs.declared.PortRef.{PortRef}
use Rattle.model.specs.Maps.{Map}
use Rattle.model.specs.Offer.{PlanAction, BecomeLiteral, ShortCircuit, Truncate}
use Rattle.model.specs.Rewrite.{Source, cycles, drops, from, leave, follow, SourceCycle}
use Rattle.model.proofs.SourceCycles.{no_source_cycle, source_cycle}

-- a source that was found
pub data Found : Source → Type 0 where
  drop : Found drops
  start : {e : PortRef} → Found (from e)

pub found? : (s : Source) → (s ≡ cycles) ⊎ Found s
found? cycles = inl refl
found? drops = inr drop
found? (from e) = inr start

not_found : {X : Type 0} (s : Source) → s ≡ cycles → Found s → X
not_found {X = X} cycles e f = elim f [ ]
not_found drops e f = let z : ◌≡◌ {A = ℕ} 0 1 = cc in let b : ⊥ = omega arith in absurd b
not_found (from x) e f = let z : ◌≡◌ {A = ℕ} 0 1 = cc in let b : ⊥ = omega arith in absurd b

module _ (p : Map PlanAction) where
  -- more fuel finds the same
  leave_more : (f g : PortRef → Source) (o : Option PlanAction) (e : PortRef) → ((s : PortRef) → Found (f s) → g s ≡ f s) → Found (leave f o e) → leave g o e ≡ leave f o e
  unfolding leave
  leave_more f g None e h x = refl
  leave_more f g (Some (BecomeLiteral v)) e h x = refl
  leave_more f g (Some (ShortCircuit s)) e h x = h s x
  leave_more f g (Some (Truncate ts)) e h x = refl

  follow_suc : (k : ℕ) (e : PortRef) → Found (follow p k e) → follow p (suc k) e ≡ follow p k e
  unfolding follow
  follow_suc zero e x = leave_more (λ s. cycles) (λ s. follow p zero s) (p e.node_id) e (λ s y. not_found cycles refl y) x
  follow_suc (suc k) e x = leave_more (λ s. follow p k s) (λ s. follow p (suc k) s) (p e.node_id) e (follow_suc k) x

  pub follow_more : (i k : ℕ) → i ≤ k → (e : PortRef) → Found (follow p i e) → follow p k e ≡ follow p i e
  follow_more i k h e x = le_ind (λ m. follow p m e ≡ follow p i e) refl (λ m l ih. follow_suc m e (rw ih x) ∙ ih) k h

  -- what was found with some fuel is found with as much as there are nodes
  module _ (n : ℕ) (low : (x : ℕ) (q : PlanAction) → p x ≡ Some q → x < n) where
    pub follow_found : (k : ℕ) (e : PortRef) → Found (follow p k e) → follow p n e ≡ follow p k e
    follow_found k e x = go (dec_lt n k) (found? (follow p n e))
      where
        cycle : (s : Source) → follow p k e ≡ s → Found s → SourceCycle p e → ⊥
        cycle cycles q y c = elim y [ ]
        cycle drops q y c = no_source_cycle p k e (rw q tt) c
        cycle (from z) q y c = no_source_cycle p k e (rw q tt) c

        go : Dec (n < k) → (follow p n e ≡ cycles) ⊎ Found (follow p n e) → follow p n e ≡ follow p k e
        go (no l) d = follow_more k n (omega arith) e x
        go (yes l) (inr y) = sym (follow_more n k (omega arith) e y)
        go (yes l) (inl y) = absurd (cycle (follow p k e) refl x ((source_cycle p n low e).0 y))

  pub follow_cycles : (n k : ℕ) → n ≤ k → (e : PortRef) → follow p k e ≡ cycles → follow p n e ≡ cycles
  follow_cycles n k h e q = go (found? (follow p n e))
    where
      go : (follow p n e ≡ cycles) ⊎ Found (follow p n e) → follow p n e ≡ cycles
      go (inl y) = y
      go (inr y) = sym (follow_more n k h e y) ∙ q
