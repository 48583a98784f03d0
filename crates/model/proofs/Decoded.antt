-- The number with which `decode` refuses is 1 to 8, or 12.
use mathlib.Core.Path.{◌≡◌, refl}
use mathlib.Core.Bool.{Bool, true, false, cond}
use mathlib.Core.List.{List, [], ◌∷◌}
use mathlib.Core.Logic.{◌⊎◌, inl, inr}
use Prim.Native.Nat.{ℕ, zero, suc, ◌+◌, ◌≤◌}
use native.Mathlib.Omega.{arith}
use lib.Dec.{ltb, leb, eqb}
use lib.ListN.{length}
use borrow.Author.Tests.{eqb-false}
use Rattle.ir.specs.Limits.{max_input}
use Rattle.encoding.specs.Numbers.{byte}
use Rattle.graph.specs.Graph.{Graph, empty, add}
use Rattle.graph.specs.Layout.{role_at, size_at}
use Rattle.graph.specs.Questions.{Context, Question, questions, first_no}
use Rattle.graph.specs.Decode.{Verdict, accepted, refused, refusal_at, scan, decode}
use Rattle.model.specs.Maps.{All}

-- the number of a question
abbrev Number : ℕ → Type 0
Number n = (n ≤ 8) ⊎ (n ≡ 12)

-- what holds of each verdict
abbrev Kept : Verdict → Type 0
Kept (accepted g) = Unit {0}
Kept (refused n p) = (1 ≤ n) × Number n

-- the numbers of a list of questions
first_no_number : (qs : List Question) (x : Context) → All (λ q. Number q.number) qs → Number (first_no qs x)
unfolding first_no
first_no_number [] x h = inl (omega arith)
first_no_number (q ∷ qs) x h = go (q.holds x) (first_no_number qs x h.1)
  where
    go : (b : Bool) → Number (first_no qs x) → Number (cond b (first_no qs x) q.number)
    go true ih = ih
    go false ih = h.0

numbers : All (λ q. Number q.number) questions
numbers = (inl (omega arith), (inl (omega arith), (inl (omega arith), (inl (omega arith), (inr refl, (inl (omega arith), (inl (omega arith), (inl (omega arith), (inl (omega arith), tt)))))))))

scan_kept : (fuel last : ℕ) (g : Graph) (s : List ℕ) (at : ℕ) → Kept (scan fuel last g s at)
unfolding scan
scan_kept zero last g s at = tt
scan_kept (suc fuel) last g s at = go (ltb at (length s)) (scan_kept fuel (byte s at) (add (role_at s at) g s at) s (at + size_at s at))
  where
    rest : Verdict
    rest = scan fuel (byte s at) (add (role_at s at) g s at) s (at + size_at s at)

    ask : (b : Bool) → eqb (refusal_at last g s at) 0 ≡ b → Kept rest → Kept (cond b rest (refused (refusal_at last g s at) at))
    ask true q ih = ih
    ask false q ih =
        let ne : refusal_at last g s at ≡ 0 → ⊥ = eqb-false (refusal_at last g s at) 0 q in
        let number : Number (refusal_at last g s at) = unfold refusal_at in first_no_number questions _ numbers in
        (omega arith, number)

    go : (b : Bool) → Kept rest → Kept (cond b (cond (eqb (refusal_at last g s at) 0) rest (refused (refusal_at last g s at) at)) (accepted g))
    go true ih = ask (eqb (refusal_at last g s at) 0) refl ih
    go false ih = tt

kept : (s : List ℕ) → Kept (decode s)
unfolding decode
kept s = go (leb (length s) max_input)
  where
    go : (b : Bool) → Kept (cond b (scan (length s) 0 empty s 0) (refused 1 0))
    go true = scan_kept (length s) 0 empty s 0
    go false = (omega arith, inl (omega arith))

pub refused_number : (s : List ℕ) (n p : ℕ) → decode s ≡ refused n p → (1 ≤ n) × ((n ≤ 8) ⊎ (n ≡ 12))
refused_number s n p e = rw e at (kept s)
