-- Induction over the records of an accepted input: what holds of nothing, and is kept by each record that passes, holds of the graph.
use Prim.Native.Nat.{ℕ, zero, suc, ◌+◌, ◌≤◌, ◌<◌}
use native.Mathlib.Omega.{arith}
use native.Mathlib.Decide.{ℕ_discrete, dec_lt}
use mathlib.Core.Path.{◌≡◌, sym, ap, subst, ◌∙◌}
use mathlib.Core.List.{List}
use lib.ListN.{length}
use borrow.Author.Tests.{lt-leb, le-leb}
use Rattle.encoding.specs.Numbers.{byte}
use Rattle.graph.specs.Graph.{Graph, empty, add}
use Rattle.graph.specs.Layout.{role_at, size_at}
use Rattle.graph.specs.Decode.{refusal_at, accepted, refused, scan, decode, graph_in}
use Rattle.graph.proofs.Asked.{Passed, passed}
use Rattle.records.proofs.Scanned.{scan_stop, scan_refuse, scan_one}

refused_not : (n p : ℕ) (g : Graph) → refused n p ≡ accepted g → ⊥
refused_not n p g e = let z : ◌≡◌ {A = ℕ} 0 1 = cc in omega arith

module _ (s : List ℕ) (P : ℕ → Graph → ℕ → Type 0) (step : (last : ℕ) (g : Graph) (at : ℕ) → Passed last g s at → P last g at → P (byte s at) (add (role_at s at) g s at) (at + size_at s at)) (g' : Graph) where
  abbrev End : Type 0
  End = (last : ℕ) × P last g' (length s)

  ends : (fuel last : ℕ) (g : Graph) (at : ℕ) → at ≤ length s → length s ≤ at → P last g at → scan fuel last g s at ≡ accepted g' → End
  ends fuel last g at i h p e =
      let q : g ≡ g' = ap graph_in (sym (scan_stop last g s at fuel h) ∙ e) in
      let a : at ≡ length s = omega arith in
      (last, subst (λ (n : ℕ). P last g' n) a (subst (λ (x : Graph). P last x at) q p))

  abbrev Along : ℕ → Type 0
  Along f = (last : ℕ) (g : Graph) (at : ℕ) → at ≤ length s → length s ≤ at + f → P last g at → scan f last g s at ≡ accepted g' → End

  turn : (f last : ℕ) (g : Graph) (at : ℕ) → Along f → at ≤ length s → length s ≤ at + suc f → P last g at → scan (suc f) last g s at ≡ accepted g' → End
  turn f last g at again i m p e = pick (dec_lt at (length s)) (ℕ_discrete (refusal_at last g s at) 0)
    where
      pick : Dec (at < length s) → Dec (refusal_at last g s at ≡ 0) → End
      pick (no h) d = ends (suc f) last g at i (omega arith) p e
      pick (yes h) (yes r) =
          let q = passed last g s at r in
          again (byte s at) (add (role_at s at) g s at) (at + size_at s at) q.whole (omega arith) (step last g at q p) (sym (scan_one last g s at h f r) ∙ e)
      pick (yes h) (no r) = absurd (refused_not (refusal_at last g s at) at g' (sym (scan_refuse last g s at h (suc f) m r) ∙ e))

  along : (f : ℕ) → Along f
  along zero last g at i m p e = ends 0 last g at i (omega arith) p e
  along (suc f) last g at i m p e = turn f last g at (along f) i m p e

  pub induct : P 0 empty 0 → decode s ≡ accepted g' → End
  unfolding decode
  induct p e = pick (dec_lt 65536 (length s))
    where
      pick : Dec (65536 < length s) → End
      pick (yes h) = absurd (refused_not 1 0 g' (simp (lt-leb (length s) 65536 h) at e))
      pick (no h) = along (length s) 0 empty 0 (omega arith) (omega arith) p (simp (le-leb (length s) 65536 (omega arith)) at e)
