-- Tables whose entries follow a rule of their places.
use Prim.Native.Nat.{ℕ, zero, suc, ◌+◌, ◌≤◌, ◌<◌}
use native.Mathlib.Nat.{add-zero, zero-add, add-suc, suc-add, le_of_suc-le-suc, not-suc-le-zero}
use mathlib.Core.Path.{◌≡◌, sym, ap, ◌∙◌}
use mathlib.Core.Bool.{Bool, true, false, cond, ◌&&◌, ◌||◌}
use mathlib.Core.List.{List, [], ◌∷◌}
use borrow.Author.Tests.{le-ltb, ne_eqb}
use lib.Dec.{ltb, leb, eqb}
use lib.ListN.{get_or}
use Rattle.ir.specs.Classes.{class_count, folding_of}
use Rattle.ir.specs.declared.Folding.{Folding}
use Rattle.ir.specs.declared.Folding.TheVariants.{Never, Literal, Microchip, Select, Branch, Unary, Binary, Ternary}

-- a table of n entries, each by its place from i on
abbrev ruled : {A : Type 0} → (ℕ → A) → ℕ → ℕ → List A
ruled f i zero = []
ruled f i (suc n) = f i ∷ ruled f (suc i) n

entry : {A : Type 0} (f : ℕ → A) (d : A) (i n k : ℕ) → k < n → get_or (ruled f i n) k d ≡ f (i + k)
entry f d i zero k h = absurd (not-suc-le-zero h)
entry f d i (suc n) zero h = ap f (sym (add-zero i))
entry f d i (suc n) (suc k) h = entry f d (suc i) n k (le_of_suc-le-suc h) ∙ ap f (suc-add i k ∙ sym (add-suc i k))

-- the gates of one input, as the code asks for them
abbrev is_unary : ℕ → Bool
is_unary class = eqb class 15 || (leb 23 class && leb class 25) || (leb 30 class && leb class 32) || eqb class 36 || (leb 41 class && leb class 42)

-- how a class folds, by rule
abbrev rule : ℕ → Folding
rule k = cond (ltb k 6) (get_or (Never ∷ Literal ∷ Microchip ∷ Microchip ∷ Select ∷ Branch ∷ []) k Never) (cond (eqb k 28) Ternary (cond (is_unary k) Unary Binary))

folding : (k : ℕ) → k < class_count → folding_of k ≡ rule k
folding k h = entry rule Never 0 class_count k h ∙ ap rule (zero-add k)

-- the gates by how many inputs they have
gate : (k : ℕ) → 6 ≤ k → k < class_count → (k ≡ 28 → ⊥) → (b : Bool) → is_unary k ≡ b → cond b Unary Binary ≡ folding_of k
gate k least most other b e =
    sym
    (folding k most
    ∙ ap (λ t. cond t (get_or (Never ∷ Literal ∷ Microchip ∷ Microchip ∷ Select ∷ Branch ∷ []) k Never) (cond (eqb k 28) Ternary (cond (is_unary k) Unary Binary))) (le-ltb k 6 least)
    ∙ ap (λ t. cond t Ternary (cond (is_unary k) Unary Binary)) (ne_eqb k 28 other)
    ∙ ap (λ t. cond t Unary Binary) e)

pub unary : (k : ℕ) → 6 ≤ k → k < class_count → (k ≡ 28 → ⊥) → is_unary k ≡ true → Unary ≡ folding_of k
unary k least most other e = gate k least most other true e

pub binary : (k : ℕ) → 6 ≤ k → k < class_count → (k ≡ 28 → ⊥) → is_unary k ≡ false → Binary ≡ folding_of k
binary k least most other e = gate k least most other false e
