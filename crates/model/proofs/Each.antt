-- Records one after the other, and how long they are.
use Prim.Native.Nat.{ℕ, zero, suc, ◌+◌, ◌*◌, ◌<◌, ◌≤◌}
use native.Mathlib.Omega.{arith}
use native.Mathlib.Nat.{mul-suc}
use mathlib.Core.Path.{◌≡◌, refl, sym, ap, ◌∙◌}
use mathlib.Core.List.{List, [], ◌∷◌, ◌++◌, append_assoc, append-nil}
use lib.ListN.{length, length-append}
use Rattle.ir.specs.declared.Wire.{Wire}
use Rattle.encoding.specs.Numbers.{bytes_of}
use Rattle.encoding.specs.Wires.{wire_bytes}
use Rattle.model.specs.Maps.{up_to}
use Rattle.model.specs.Answer.{each}

pub each_append : {A : Type 0} (f : A → List ℕ) (xs ys : List A) → each f (xs ++ ys) ≡ each f xs ++ each f ys
unfolding each
each_append f [] ys = refl
each_append f (x ∷ xs) ys = ap (λ (l : List ℕ). f x ++ l) (each_append f xs ys) ∙ sym (append_assoc (f x) (each f xs) (each f ys))

pub each_up : (f : ℕ → List ℕ) (i : ℕ) → each f (up_to (suc i)) ≡ each f (up_to i) ++ f i
unfolding up_to
each_up f i = each_append f (up_to i) (i ∷ []) ∙ ap (λ (l : List ℕ). each f (up_to i) ++ l) (unfold each in append-nil (f i))

pub each_size : (f : ℕ → List ℕ) (i : ℕ) → length (each f (up_to (suc i))) ≡ length (each f (up_to i)) + length (f i)
each_size f i = ap length (each_up f i) ∙ length-append (each f (up_to i)) (f i)

-- two records for each number below n, which have at most k bytes together
pub sizes_most : (f h : ℕ → List ℕ) (k n : ℕ) → ((i : ℕ) → i < n → length (f i) + length (h i) ≤ k) → length (each f (up_to n)) + length (each h (up_to n)) ≤ k * n
unfolding up_to each
sizes_most f h k zero b = omega arith
sizes_most f h k (suc n) b = omega (arith, sizes_most f h k n (λ i l. b i (omega arith)), b n (omega arith), each_size f n, each_size h n, mul-suc k n)

pub wires_size : (ws : List Wire) → length (each wire_bytes ws) ≡ 7 * length ws
unfolding each bytes_of
wires_size [] = refl
wires_size (w ∷ ws) = omega (arith, length-append (wire_bytes w) (each wire_bytes ws), wires_size ws)
