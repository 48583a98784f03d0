-- What the checked methods of the library report, as the gates take it: by the range of the Ints. Assumes nothing.
use Rattle.std.specs.Prelude.{Option, None, Some}
use Rattle.std.specs.Option.{SomeIff}
use Rattle.std.specs.Int.{CanDivide}
use Prim.Native.Nat.{ℕ, zero, suc, ◌-◌, ◌*◌, ◌/◌, ◌^◌, ◌≤◌, ◌<◌}
use mathlib.Core.Path.{◌≡◌, refl, sym, ap, ◌∙◌}
use mathlib.Core.Bool.{Bool, true, false, cond, and-true, and-false, false≢true}
use native.Mathlib.Omega.{arith}
use native.Mathlib.Nat.{div-le_self, lt_of_le_of_lt, zero-lt-suc, div-lt_iff_lt-mul, mul-le-mul_left, lt_of_lt_of_le, le_trans, le-suc}
use borrow.Author.Tests.{le-leb, leb-true, eqb-true, eqb-false, eq-eqb, ne_eqb}
use lib.Dec.{lit<, leb, eqb}
use lib.IntN.{ℤ, pos, negsuc, neg_ℤ, nat_abs}
use lib.Signed.{mag, quot_z}
use mir.Syntax.{w64}
use mir.Val.{SFits, of_z}
use Rattle.whole.specs.Compare.{eq_z}
use Rattle.whole.specs.Checked.{in_range, checked, division_overflows, divided}
use Rattle.whole.proofs.Laws.{eq_bits}

-- ---- The range of the Ints

range_is : (z : ℤ) → in_range z ≡ leb (mag z) (2 ^ 63 - 1)
unfolding in_range
range_is (pos n) = refl
range_is (negsuc n) = and-true _

pub range→fits : (z : ℤ) → in_range z ≡ true → SFits w64 z
range→fits z h = record { sfits = omega (arith, leb-true (mag z) (2 ^ 63 - 1) (sym (range_is z) ∙ h)) }

pub fits→range : (z : ℤ) → SFits w64 z → in_range z ≡ true
fits→range z f = range_is z ∙ le-leb (mag z) (2 ^ 63 - 1) (omega arith)

-- a result that is there exactly where z is an Int, and z then
pub reported : (z : ℤ) (r : Option ℤ) → SomeIff r (SFits w64 z) z → r ≡ checked z
unfolding checked
reported z None n = go (in_range z) refl
  where
    go : (b : Bool) → in_range z ≡ b → None ≡ cond b (Some z) None
    go true e = absurd (n (range→fits z e))
    go false e = refl
reported z (Some x) (f, e) = rw (fits→range z f) (ap Some e)

-- ---- Sizes

size_of : (n : ℤ) → SFits w64 n → (r : Option ℤ) → SomeIff r (SFits w64 (neg_ℤ n)) (pos (nat_abs n)) → SomeIff r (SFits w64 (pos (nat_abs n))) (pos (nat_abs n))
size_of n f None h = λ g. h (negated n f g)
  where
    negated : (n : ℤ) → SFits w64 n → SFits w64 (pos (nat_abs n)) → SFits w64 (neg_ℤ n)
    negated (pos zero) f g = g
    negated (pos (suc m)) f g = record { sfits = omega (arith, g.sfits) }
    negated (negsuc m) f g = g
size_of n f (Some x) (g, e) = (negated n f g, e)
  where
    negated : (n : ℤ) → SFits w64 n → SFits w64 (neg_ℤ n) → SFits w64 (pos (nat_abs n))
    negated (pos m) f g = f
    negated (negsuc m) f g = g

pub size_reported : (n : ℤ) → SFits w64 n → (r : Option ℤ) → SomeIff r (SFits w64 (neg_ℤ n)) (pos (nat_abs n)) → r ≡ checked (pos (nat_abs n))
size_reported n f r h = reported _ r (size_of n f r h)

-- ---- Quotients: only that of the smallest Int by -1 is no Int

negative_size : (k m : ℕ) → k ≤ suc m → mag (neg_ℤ (pos k)) ≤ m
negative_size zero m h = omega arith
negative_size (suc k) m h = omega arith

quotient_size : (a b : ℤ) → mag a < 2 ^ 63 → division_overflows a b ≡ false → mag (quot_z a b) < 2 ^ 63
unfolding division_overflows eq_z
quotient_size (pos m) (pos n) f h = lt_of_le_of_lt (div-le_self m n) f
quotient_size (pos m) (negsuc n) f h = lt_of_le_of_lt (negative_size (m / suc n) m (le_trans (div-le_self m (suc n)) (le-suc m))) f
quotient_size (negsuc m) (pos n) f h = lt_of_le_of_lt (negative_size (suc m / n) m (div-le_self (suc m) n)) f
quotient_size (negsuc m) (negsuc zero) f h = lt_of_le_of_lt (div-le_self (suc m) 1) (let k = eqb-false m (2 ^ 63 - 1) (sym (and-true _) ∙ h) in omega arith)
quotient_size (negsuc m) (negsuc (suc n)) f h = (div-lt_iff_lt-mul (zero-lt-suc (suc n))).1 (lt_of_lt_of_le {m = 2 ^ 63 * 2} (omega arith) (mul-le-mul_left {m = 2} {n = suc (suc n)} (2 ^ 63) (omega arith)))

overflow_size : (a b : ℤ) → division_overflows a b ≡ true → SFits w64 (quot_z a b) → ⊥
unfolding division_overflows eq_z
overflow_size (pos m) b h f = absurd (false≢true h)
overflow_size (negsuc m) (pos n) h f = absurd (false≢true (sym (and-false _) ∙ h))
overflow_size (negsuc m) (negsuc zero) h f = let k = eqb-true m (2 ^ 63 - 1) (sym (and-true _) ∙ h) in absurd (omega (arith, f.sfits))
overflow_size (negsuc m) (negsuc (suc n)) h f = let e = ne_eqb (suc n) 0 (λ (z : suc n ≡ 0). omega arith) in absurd (false≢true (sym (and-false _) ∙ (rw e at h)))

module _ {a b : ℤ} (p : SFits w64 a) (q : SFits w64 b) where
  divisor : eqb (of_z w64 b) 0 ≡ eq_z b (pos 0)
  divisor = eq_bits b (pos 0) q (record { sfits = lit< tt })

  pub by_zero : (z : ℤ) → of_z w64 b ≡ 0 → Some (pos 0) ≡ divided a b z
  unfolding divided
  by_zero z h = rw (sym divisor ∙ eq-eqb _ _ h)

  -- a result that is there exactly where the quotient is an Int, and z then
  pub division_reported : (z : ℤ) (r : Option ℤ) → (of_z w64 b ≡ 0 → ⊥) → SomeIff r (CanDivide w64 a b) z → r ≡ divided a b z
  unfolding divided
  division_reported z r n h = rw (sym divisor ∙ ne_eqb _ _ n) (go (division_overflows a b) refl r h)
    where
      go : (t : Bool) → division_overflows a b ≡ t → (r : Option ℤ) → SomeIff r (CanDivide w64 a b) z → r ≡ cond t None (Some z)
      go true e None h = refl
      go true e (Some x) h = absurd (overflow_size a b e h.0.1)
      go false e None h = absurd (h (omega (arith, n), record { sfits = quotient_size a b p.sfits e }))
      go false e (Some x) h = ap Some h.1
