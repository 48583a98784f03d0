-- Walks along chains.
use Prim.Native.Nat.{ℕ, suc, ◌+◌, ◌-◌, ◌≤◌, ◌<◌}
use native.Mathlib.Omega.{arith}
use mathlib.Core.Path.{◌≡◌, refl, sym, ap, subst, ◌∙◌}
use mathlib.Core.Bool.{cond}
use mathlib.Core.List.{List, [], ◌∷◌, ◌++◌, append_assoc}
use mathlib.Core.Logic.{◌⊎◌, inl, inr}
use lib.Dec.{eqb}
use lib.ListN.{length, get_or}
use borrow.Author.Tests.{ne_eqb}
use Rattle.ir.specs.declared.Wire.{Wire}
use Rattle.records.specs.Access.{no_wire}
use Rattle.model.specs.TargetCounts.{cap}
use Rattle.wire_index.specs.Chains.{Chain}
use Rattle.wire_index.proofs.Walks.{chain_step}
use Rattle.rewrite.specs.Counts.{no_count, count_in}
use Rattle.rewrite.specs.Taken.{Later}
use Rattle.rewrite.specs.Search.{Walked, Walks}
use Rattle.rewrite.proofs.Totals.{sum_none, sum_one}

module _ (ws : List Wire) (actions counts next : List ℕ) where
  -- it has come from a code to another
  pub record Walking (code sum at total : ℕ) : Type 0 where
    pub low : total < no_count
    pub within : at ≤ length ws
    pub along : (xs : List Wire) → Chain ws next code xs → Walked ws actions counts next xs sum (record { code = at; sum = total })

  pub walk_start : (code sum : ℕ) → code ≤ length ws → sum < no_count → Walking code sum code sum
  walk_start code sum h l =
      record { low = l; within = h; along = λ xs c. record { passed = []; rest = xs; split = refl; chain = c; sums = sum_none actions counts sum l } }

  pub walk_next : (code sum at total i c : ℕ) → Later ws next → Walking code sum at total → at ≡ i + 1 → c ≡ count_in actions counts (get_or ws i no_wire).target → c < no_count → Walking code sum (get_or next i 0) (cap (total + c))
  walk_next code sum at total i c l w e q h =
      record { low = unfold cap in omega arith; within = l.within i; along = go }
    where
      go : (xs : List Wire) → Chain ws next code xs → Walked ws actions counts next xs sum (record { code = get_or next i 0; sum = cap (total + c) })
      go xs ch =
          let v = w.along xs ch in
          let f = chain_step v.chain (omega arith) in
          let n : at - 1 ≡ i = omega arith in
          record {
            passed = v.passed ++ (get_or ws i no_wire ∷ []);
            rest = f.rest;
            split = v.split ∙ ap (◌++◌ v.passed) (f.split ∙ rw n refl) ∙ sym (append_assoc v.passed (get_or ws i no_wire ∷ []) f.rest);
            chain = subst (λ (x : ℕ). Chain ws next (get_or next x 0) f.rest) n f.chain;
            sums = sum_one actions counts sum c total v.passed (get_or ws i no_wire) v.sums q h;
          }

  pub walk_stop : (code sum at total i c : ℕ) → Walking code sum at total → at ≡ i + 1 → c ≡ count_in actions counts (get_or ws i no_wire).target → no_count ≤ c → Walks ws actions counts next code sum (record { code = at; sum = total })
  walk_stop code sum at total i c w e q h =
      record {
        low = w.low;
        within = w.within;
        stops = λ l. let z : at - 1 ≡ i = omega arith in rw z (omega arith);
        along = w.along;
      }

  pub walk_end : (code sum at total : ℕ) → Walking code sum at total → at ≤ 0 → Walks ws actions counts next code sum (record { code = at; sum = total })
  walk_end code sum at total w h = record { low = w.low; within = w.within; stops = λ l. absurd (omega arith); along = w.along }

-- how much of a chain is left at most
pub ahead : ℕ → ℕ → ℕ
ahead count code = cond (eqb code 0) 0 (count + 1 - code)

pub ahead_less : (ws : List Wire) (next : List ℕ) (i at : ℕ) → Later ws next → at ≡ i + 1 → at ≤ length ws → ahead (length ws) (get_or next i 0) < ahead (length ws) at
unfolding ahead
ahead_less ws next i at l e h = go (l.later i)
  where
    go : (get_or next i 0 ≡ 0) ⊎ (suc i < get_or next i 0) → cond (eqb (get_or next i 0) 0) 0 (length ws + 1 - get_or next i 0) < cond (eqb at 0) 0 (length ws + 1 - at)
    go (inl z) = rw (z, ne_eqb at 0 (λ q. absurd (omega arith))) (omega arith)
    go (inr z) = rw (ne_eqb at 0 (λ q. absurd (omega arith)), ne_eqb (get_or next i 0) 0 (λ q. absurd (omega arith))) (omega (arith, l.within i))
