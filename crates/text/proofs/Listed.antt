-- The bytes of a text, one after the other.
use Prim.Native.Nat.{ℕ, zero, suc, ◌+◌, ◌<◌}
use native.Mathlib.Omega.{arith}
use native.Mathlib.Numerals.{add-one}
use native.Mathlib.Decide.{ℕ_discrete}
use mathlib.Core.Path.{◌≡◌, ap, ◌∙◌}
use mathlib.Core.Bool.{Bool, true, false, ◌&&◌, and-false}
use mathlib.Core.List.{List}
use lib.ListN.{get_or}
use Rattle.text.specs.Listed.{is_char, are_chars}

-- a byte that may not stand there
pub one_wrong : (length n i : ℕ) (s : List ℕ) (at : ℕ) → i < n → is_char length i (get_or s (at + i) 0) ≡ false → are_chars length n s at ≡ false
unfolding are_chars
one_wrong length zero i s at h e = absurd (omega arith)
one_wrong length (suc n) i s at h e = pick (λ k. one_wrong length n i s at k e) (ℕ_discrete i n)
  where
    pick : (i < n → are_chars length n s at ≡ false) → Dec (i ≡ n) → (are_chars length n s at && is_char length n (get_or s (at + n) 0)) ≡ false
    pick f (yes d) = ap (λ (b : Bool). are_chars length n s at && b) (rw d at e) ∙ and-false (are_chars length n s at)
    pick f (no d) = ap (λ (b : Bool). b && is_char length n (get_or s (at + n) 0)) (f (omega arith))

pub one_right : (length i : ℕ) (s : List ℕ) (at : ℕ) → are_chars length i s at ≡ true → is_char length i (get_or s (at + i) 0) ≡ true → are_chars length (i + 1) s at ≡ true
unfolding are_chars
one_right length i s at a b = rw (add-one i, a, b)
