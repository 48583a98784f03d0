-- Laws of rounding to an integer.
use Rattle.std.proofs.Common.{◌≡◌, ℕ, suc, ◌+◌, ◌-◌, ◌*◌, ◌/◌, ◌^◌, ◌<◌, ◌≤◌, Bool, true, false, T, ℤ, pos, negsuc, sym, refl, ap, ◌∙◌, subst, le-add_right, add-zero, mod-lt, zero-lt-suc, mul_assoc, div-lt_iff_lt-mul, div-add-mod', mul-one, div-le_self, div-one, arith, pow_pos, pow-add, shl_lt}
use mathlib.Core.Path.{subst⁻¹}
use lib.Ieee.{Float, nan, inf, fin, binary64, up, down, round, neg, fits}
use lib.Ieee.Back.{round_whole}
use lib.Ieee.Exact.{HasValue, round_exact}
use Rattle.ieee.specs.Integral.{rounded, round_to_integral}
use Rattle.ieee.specs.declared.Direction.{Direction}
use Rattle.ieee.specs.declared.Direction.TheVariants.{TowardZero, AwayFromZero, TiesToAway}
use Rattle.ieee.proofs.Values.{digits, neg_round}

-- an integer stays
pub rounded_integer : (r : Direction) (n : ℕ) → rounded r n 1 ≡ n
rounded_integer TowardZero n = div-one n
rounded_integer AwayFromZero n = ap (λ (k : ℕ). k / 1) (add-zero n) ∙ div-one n
rounded_integer TiesToAway n = omega arith

at_most : (n d k : ℕ) → 0 < d → n < (k + 2) * d → n / d ≤ k + 1
at_most n d k D h = omega (arith, (div-lt_iff_lt-mul {k = d} {x = n} {y = k + 2} D).1 h)

-- the result is at most one above the quotient
rounded_near : (r : Direction) (n d : ℕ) → 0 < d → rounded r n d ≤ n / d + 1
rounded_near TowardZero n d D = le-add_right (n / d) 1
rounded_near AwayFromZero n d D = at_most (n + (d - 1)) d (n / d) D (omega (arith, div-add-mod' n d, mod-lt n D))
rounded_near TiesToAway n d D = at_most (n * 2 + d) (d * 2) (n / d) (omega arith) (omega (arith, div-add-mod' n d, mod-lt n D))

-- the integer n with the sign s is a binary64
abbrev pub IsBinary64 : Bool → ℕ → Type 0
IsBinary64 s n = HasValue (round binary64 s n 1) s n 1

pub exact_integer : (s : Bool) (m k : ℕ) → T (fits binary64 (fin s m (pos k))) → IsBinary64 s (m * 2 ^ k)
exact_integer s m k F =
    let d = digits s m (pos k) F in
    let shift : m * 2 ^ k * 2 ^ 1074 ≡ m * 2 ^ (k + 1074) = mul_assoc m (2 ^ k) (2 ^ 1074) ∙ ap (λ (z : ℕ). m * z) (sym (pow-add 2 k 1074)) in
    round_exact binary64 s (m * 2 ^ k) 1 m (k + 1074) (zero-lt-suc 0) d.0
    (subst (λ (z : ℕ). z < 2 ^ (1074 + 1024)) shift (shl_lt 1024 1074 (subst (λ (z : ℕ). m * 2 ^ k < z) (mul-one (2 ^ 1024)) d.1)))
    (shift ∙ sym (mul-one (m * 2 ^ (k + 1074))))

-- so is a binary64 rounded to an integer: the `round` in `round_to_integral` is exact
pub exact : (r : Direction) (s : Bool) (m : ℕ) (e : ℤ) → T (fits binary64 (fin s m e)) → IsBinary64 s (rounded r (m * up e) (down e))
exact r s m (pos k) F = subst⁻¹ (IsBinary64 s) (rounded_integer r (m * 2 ^ k)) (exact_integer s m k F)
exact r s m (negsuc k) F =
    round_whole binary64 s (rounded r (m * 1) (2 ^ suc k))
    (omega (arith, rounded_near r (m * 1) (2 ^ suc k) (pow_pos (suc k)), div-le_self (m * 1) (2 ^ suc k), (digits s m (negsuc k) F).0))

-- negation exchanges the directions
pub integral_neg : (p q : Direction) (x : Float) → neg (round_to_integral p q (neg x)) ≡ round_to_integral q p x
unfolding neg round_to_integral
integral_neg p q nan = refl
integral_neg p q (inf true) = refl
integral_neg p q (inf false) = refl
integral_neg p q (fin true m e) = neg_round binary64 false (rounded p (m * up e) (down e)) 1
integral_neg p q (fin false m e) = neg_round binary64 true (rounded q (m * up e) (down e)) 1
