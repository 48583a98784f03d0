-- Rounds only add counts, and as many rounds as there are nodes find all.
use Rattle.std.specs.Prelude.{Option, None, Some}
use Prim.Native.Nat.{ℕ, zero, suc, ◌<◌, ◌≤◌, max}
use native.Mathlib.Omega.{arith}
use native.Mathlib.Decide.{le_ind}
use mathlib.Core.Path.{◌≡◌, refl}
use mathlib.Core.Bool.{Bool, true, false, cond}
use mathlib.Core.List.{List}
use lib.Dec.{eqb}
use Rattle.ir.specs.Ports.{exec}
use Rattle.ir.specs.declared.PortRef.{PortRef}
use Rattle.model.specs.Maps.{Map}
use Rattle.model.specs.Offer.{PlanAction, BecomeLiteral, ShortCircuit, Truncate}
use Rattle.model.specs.Rewrite.{reach}
use Rattle.model.specs.TargetCounts.{capped_length, count_at, taken_targets, round, rounds}
use Rattle.model.proofs.Maps.{none_some, ◌≼◌, ◌⊑◌}
use Rattle.model.proofs.TargetCounts.{counts_right, reach_more}
use Rattle.model.proofs.TargetCycles.{target_cycle, no_target_cycle}
use Rattle.rewrite.proofs.Totals.{total_more}

at_more : (t u : ℕ → Option ℕ) → t ⊑ u → (o : Option PlanAction) (e : PortRef) → count_at t o e ≼ count_at u o e
unfolding count_at
at_more t u le None e a q = q
at_more t u le (Some (BecomeLiteral v)) e a q = q
at_more t u le (Some (ShortCircuit s)) e a q = q
at_more t u le (Some (Truncate ts)) e a q = go (eqb e.port exec) q
  where
    go : (b : Bool) → cond b (t e.node_id) (Some 0) ≡ Some a → cond b (u e.node_id) (Some 0) ≡ Some a
    go true q = le e.node_id a q
    go false q = q

module _ (p : Map PlanAction) where
  round_more : (t u : ℕ → Option ℕ) → t ⊑ u → round p t ⊑ round p u
  unfolding round
  round_more t u le b = total_more _ _ (λ e. at_more t u le (p e.node_id) e) (taken_targets (p b))

  rounds_suc : (k : ℕ) → rounds p k ⊑ rounds p (suc k)
  unfolding rounds
  rounds_suc zero b a e = none_some a e
  rounds_suc (suc k) b a e = round_more (rounds p k) (rounds p (suc k)) (rounds_suc k) b a e

  pub rounds_more : (i k : ℕ) → i ≤ k → rounds p i ⊑ rounds p k
  rounds_more i k h b = le_ind (λ m. rounds p i b ≼ rounds p m b) (λ a q. q) (λ m l ih a q. rounds_suc m b a (ih a q)) k h

  -- two rounds that have a count have the same
  pub rounds_agree : (i k b m n : ℕ) → rounds p i b ≡ Some m → rounds p k b ≡ Some n → m ≡ n
  rounds_agree i k b m n e q =
      let x : rounds p (max i k) b ≡ Some m = rounds_more i (max i k) (omega arith) b m e in
      let y : rounds p (max i k) b ≡ Some n = rounds_more k (max i k) (omega arith) b n q in
      cc

  module _ (n : ℕ) (low : (x : ℕ) (q : PlanAction) → p x ≡ Some q → x < n) where
    settle : (k : ℕ) (e : PortRef) → reach p k e ≼ reach p n e
    settle k e xs r = go (reach p n e) refl
      where
        go : (o : Option (List PortRef)) → reach p n e ≡ o → reach p n e ≡ Some xs
        go None q = absurd (no_target_cycle p k e xs r ((target_cycle p n low e).0 q))
        go (Some ys) q =
            let a : reach p (max k n) e ≡ Some xs = reach_more p k (max k n) (omega arith) e xs r in
            let b : reach p (max k n) e ≡ Some ys = reach_more p n (max k n) (omega arith) e ys q in
            cc

    capped_more : (o q : Option (List PortRef)) → o ≼ q → capped_length o ≼ capped_length q
    unfolding capped_length
    capped_more None q h a e = none_some a e
    capped_more (Some xs) q h a e = rw (h xs refl, capped_length) e

    -- what any round finds, as many rounds as there are nodes find
    pub count_settles : (k : ℕ) (e : PortRef) → count_at (rounds p k) (p e.node_id) e ≼ capped_length (reach p n e)
    count_settles k e = rw (← counts_right p k e) (capped_more (reach p k e) (reach p n e) (settle k e))
