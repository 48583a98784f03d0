-- An input is refused with a number and a place exactly in document 01's case for it.
use Rattle.std.specs.Prelude.{Option, None, Some}
use mathlib.Core.Path.{◌≡◌, refl, sym, ◌∙◌, subst₂}
use mathlib.Core.Bool.{Bool, true, false, cond}
use mathlib.Core.List.{List}
use mathlib.Core.Logic.{◌⊎◌, inl, inr, ◌↔◌}
use Prim.Native.Nat.{ℕ, ◌<◌, ◌≤◌}
use native.Mathlib.Omega.{arith}
use lib.Dec.{leb}
use lib.ListN.{length}
use borrow.Author.Tests.{leb-true, leb-false, lt-leb}
use Rattle.ir.specs.Limits.{max_wires}
use Rattle.ir.specs.declared.Wire.{Wire}
use Rattle.graph.specs.Graph.{Graph}
use Rattle.graph.specs.Decode.{Verdict, accepted, refused, decode}
use Rattle.model.specs.Inputs.{size}
use Rattle.model.specs.Offer.{literals}
use Rattle.model.specs.Rewrite.{rewrite_wires}
use Rattle.model.specs.Outcome.{counted, ending, rewritten, wires, stops, folds, refuses, measured, answered, fold_graph, by_verdict, outcome_by}
use Rattle.model.specs.Trial.{State}
use Rattle.model.specs.Demands.{fold_of, plan_of, RefusedBy}
use Rattle.model.proofs.Order.{planned_below}
use Rattle.model.proofs.Endless.{first_endless, found, Found}
use Rattle.model.proofs.Decoded.{refused_number}

pub folds_refuses : {X : Type 0} {n p : ℕ} {a : List ℕ} {k : ℕ} → refuses n p ≡ folds a k → X
folds_refuses e = let z : ◌≡◌ {A = ℕ} 0 1 = cc in let b : ⊥ = omega arith in absurd b

module _ (bytes : Graph → State → List Wire → List ℕ) (input : List ℕ) (room : ℕ) where
  pub at_refusal : (n p : ℕ) → decode input ≡ refused n p → outcome_by bytes input room ≡ refuses n p
  unfolding outcome_by by_verdict
  at_refusal n p e = rw (e, by_verdict)

  -- what is left of an outcome once the graph is decoded
  pub at_rewritten : (g : Graph) → decode input ≡ accepted g → outcome_by bytes input room ≡ answered bytes g (fold_of g) room (rewritten g (plan_of g))
  unfolding outcome_by by_verdict fold_graph
  at_rewritten g e = rw (e, by_verdict, fold_graph)

  pub at_graph : (g : Graph) → decode input ≡ accepted g → outcome_by bytes input room ≡ answered bytes g (fold_of g) room (ending g (plan_of g) (rewrite_wires (plan_of g) (size g) g.wires))
  unfolding rewritten
  at_graph g e = at_rewritten g e

  -- ---- refused, so it is one of the cases

  case : {m q n p : ℕ} → RefusedBy bytes input room m q → refuses m q ≡ refuses n p → RefusedBy bytes input room n p
  case {m} {q} {n} {p} r e = let x : m ≡ n = cc in let y : q ≡ p = cc in subst₂ (RefusedBy bytes input room) x y r

  wires_case : (g : Graph) → decode input ≡ accepted g → (n p : ℕ) (o : Option (List Wire)) → rewrite_wires (plan_of g) (size g) g.wires ≡ o
      → answered bytes g (fold_of g) room (ending g (plan_of g) o) ≡ refuses n p → RefusedBy bytes input room n p
  unfolding ending answered counted measured
  wires_case g d n p None q e = case (RefusedBy.rewriting d (first_endless (plan_of g) (size g) (planned_below (literals g) g) g.wires q)) e
  wires_case g d n p (Some ws) q e = count (leb (length ws) max_wires) refl e
    where
      a : List ℕ
      a = bytes g (fold_of g).state ws

      fit : (b : Bool) → leb (length a) room ≡ b → cond b (folds a (fold_of g).pops) (refuses 10 0) ≡ refuses n p → RefusedBy bytes input room n p
      fit true r e = folds_refuses (sym e)
      fit false r e = case (RefusedBy.writing d q (inr (leb-false (length a) room r))) e

      count : (b : Bool) → leb (length ws) max_wires ≡ b → answered bytes g (fold_of g) room (cond b (wires ws) (stops 10 0)) ≡ refuses n p → RefusedBy bytes input room n p
      count true r e = unfold answered measured in fit (leb (length a) room) refl e
      count false r e = unfold answered in case (RefusedBy.writing d q (inl (leb-false (length ws) max_wires r))) e

  only : (n p : ℕ) → outcome_by bytes input room ≡ refuses n p → RefusedBy bytes input room n p
  only n p e = go (decode input) refl
    where
      go : (d : Verdict) → decode input ≡ d → RefusedBy bytes input room n p
      go (refused m q) d = case (RefusedBy.decoding d) (sym (at_refusal m q d) ∙ e)
      go (accepted g) d = wires_case g d n p _ refl (sym (at_graph g d) ∙ e)

  -- ---- one of the cases, so it is refused

  if : (n p : ℕ) → RefusedBy bytes input room n p → outcome_by bytes input room ≡ refuses n p
  unfolding ending answered counted measured
  if n p (RefusedBy.decoding d) = at_refusal n p d
  if n p (RefusedBy.rewriting {g = g} {i = i} d f) =
      let h : Found (plan_of g) (size g) (planned_below (literals g) g) g.wires i = found (plan_of g) (size g) (planned_below (literals g) g) g.wires i f in
      at_graph g d ∙ rw (h.stuck, ending, answered, h.at)
  if n p (RefusedBy.writing {g = g} {ws = ws} d q l) = at_graph g d ∙ rw (q, ending) (count l (leb (length ws) max_wires) refl)
    where
      a : List ℕ
      a = bytes g (fold_of g).state ws

      count : (max_wires < length ws) ⊎ (room < length a) → (b : Bool) → leb (length ws) max_wires ≡ b → answered bytes g (fold_of g) room (counted ws) ≡ refuses 10 0
      count l false r = unfold counted answered in rw (r, answered)
      count (inl l) true r = let b : ⊥ = omega (arith, leb-true (length ws) max_wires r) in absurd b
      count (inr l) true r = unfold counted answered measured in rw (r, answered, lt-leb (length a) room l)

  pub refusals : (n p : ℕ) → (outcome_by bytes input room ≡ refuses n p) ↔ RefusedBy bytes input room n p
  refusals n p = (only n p, if n p)

  -- every refusal's number is 1 to 10, or 12
  number : (n p : ℕ) → RefusedBy bytes input room n p → (1 ≤ n) × ((n ≤ 10) ⊎ (n ≡ 12))
  number n p (RefusedBy.decoding d) = let h = refused_number input n p d in (h.0, go h.1)
    where
      go : (n ≤ 8) ⊎ (n ≡ 12) → (n ≤ 10) ⊎ (n ≡ 12)
      go (inl l) = inl (omega arith)
      go (inr e) = inr e
  number n p (RefusedBy.rewriting d f) = (omega arith, inl (omega arith))
  number n p (RefusedBy.writing d q l) = (omega arith, inl (omega arith))

  pub refusal_number : (n p : ℕ) → outcome_by bytes input room ≡ refuses n p → (1 ≤ n) × ((n ≤ 10) ⊎ (n ≡ 12))
  refusal_number n p e = number n p (only n p e)
