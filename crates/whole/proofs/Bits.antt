-- Shifts, and the count of ones. Assumes nothing.
use Rattle.std.specs.Prelude.{None, Some}
use Prim.Native.Nat.{ℕ, zero, suc, ◌+◌, ◌/◌, ◌%◌, ◌^◌, ◌≤◌, ◌<◌}
use mathlib.Core.Path.{◌≡◌, refl, sym, ap, ◌∙◌}
use mathlib.Core.Bool.{Bool, true, false, false≢true}
use native.Mathlib.Omega.{arith}
use native.Mathlib.Nat.{div-one}
use native.Mathlib.Numerals.{add-one, one-add}
use borrow.Author.Tests.{leb-true}
use lib.Arith.{lt-one}
use lib.Count.{ones, ones_step}
use lib.Dec.{leb-zero}
use lib.IntN.{ℤ, pos, negsuc, nat_abs}
use lib.Pow.{shr-shr, shr_lt}
use lib.Signed.{shr_z, mag_shr}
use mir.Syntax.{w64}
use mir.Val.{SFits, of_z}
use mir.Facts.{to_z-of_z}
use mir.ValLaws.{sfits_le}
use Rattle.whole.specs.Bits.{shift_in_range, shifted, bit_sum}
use Rattle.whole.proofs.Laws.{read_back}

-- ---- Shifts

shift_count : (k : ℤ) → shift_in_range k ≡ true → (of_z w64 k < 64) × (of_z w64 k ≡ nat_abs k)
unfolding shift_in_range
shift_count (pos n) h = let l : n ≤ 63 = leb-true n 63 (rw (leb-zero n) at h) in (omega arith, refl)
shift_count (negsuc n) h = absurd (false≢true h)

-- The result, where a test t of the count passes and where it fails.
module _ {k : ℤ} {t : Bool} (f : SFits w64 k) (e : t ≡ shift_in_range (read_back k)) where
  pub count : t ≡ true → of_z w64 k < 64
  count h = (shift_count k (sym (e ∙ ap shift_in_range (to_z-of_z f)) ∙ h)).0

  pub inside : t ≡ true → (z : ℕ → ℤ) → Some (z (2 ^ of_z w64 k)) ≡ shifted k (z (2 ^ nat_abs k))
  unfolding shifted
  inside h z = let i = sym (e ∙ ap shift_in_range (to_z-of_z f)) ∙ h in rw ((shift_count k i).1, i)

  pub outside : t ≡ false → (z : ℤ) → None ≡ shifted k z
  unfolding shifted
  outside h z = rw (sym (e ∙ ap shift_in_range (to_z-of_z f)) ∙ h)

pub read_shift : {a : ℤ} (n : ℕ) → SFits w64 a → read_back (shr_z (read_back a) n) ≡ shr_z a n
read_shift {a} n f = rw (to_z-of_z f) (to_z-of_z (sfits_le (mag_shr a n) f))

-- ---- The count of ones is the sum of the bits

sum_step : (n k : ℕ) → bit_sum n (suc k) ≡ n % 2 + bit_sum (n / 2) k
unfolding bit_sum
sum_step n zero = rw (div-one n) (omega arith)
sum_step n (suc k) = rw (sum_step n k, shr-shr n 1 k, one-add k) (omega arith)

pub ones_sum : (k n : ℕ) → n < 2 ^ k → ones n ≡ bit_sum n k
unfolding bit_sum
ones_sum zero n h = ap ones (lt-one h) ∙ (unfold ones in refl)
ones_sum (suc k) n h = ones_step n ∙ ap (λ (z : ℕ). n % 2 + z) (ones_sum k (n / 2) (shr_lt k 1 (rw (add-one k) h))) ∙ sym (sum_step n k)
