-- Facts on floats as signed fractions: the digits of a binary64, negation of a rounded fraction, order and sum of two values.
use Rattle.std.proofs.Common.{◌≡◌, ℕ, zero, suc, ◌+◌, ◌*◌, ◌%◌, ◌^◌, ◌<◌, ◌≤◌, Bool, true, false, cond, not, ◌&&◌, T, eqb, ltb, leb, ℤ, sym, refl, ap, ◌∙◌, true≢false, mul-pos, lt_of_not-le, zero-mul, arith, lit<, ltb→lt, pow_pos, le-ltb, lt-ltb}
use mathlib.Core.Path.{subst⁻¹}
use native.Mathlib.Decide.{dec_le}
use lib.Ieee.{Float, nan, inf, fin, Format, binary64, prec, emax, low, up, down, odd, units, round, neg, lt, fits, add, sum}
use lib.Ieee.Exact.{HasValue}
use lib.Ieee.Fits.{down_pos, and_l, and_r, round_is}
use lib.Ieee.Order.{transfer}
use lib.Ieee.Scale.{round_same}

pub digits : (s : Bool) (m : ℕ) (e : ℤ) → T (fits binary64 (fin s m e)) → (m < 2 ^ 53) × (m * up e < 2 ^ 1024 * down e)
unfolding fits
digits s zero e t = (lit< tt, subst⁻¹ (λ (k : ℕ). k < 2 ^ 1024 * down e) (zero-mul (up e)) (mul-pos (pow_pos 1024) (down_pos e)))
digits s (suc m) e t =
    let a : Bool = eqb (suc m % 2) 1 in
    let b : Bool = ltb (suc m) (2 ^ 53) in
    let c : Bool = leb (down e) (2 ^ 1074) in
    let d : Bool = ltb (suc m * up e) (2 ^ 1024 * down e) in (
      ltb→lt (suc m) (2 ^ 53) (and_r a b (and_l (a && b) c (and_l (a && b && c) d t))),
      ltb→lt (suc m * up e) (2 ^ 1024 * down e) (and_r (a && b && c) d t),
    )

neg_odd : (d : ℕ) (s : Bool) (q k l : ℕ) → neg (odd d s q k l) ≡ odd d (not s) q k l
unfolding neg odd
neg_odd d s zero k l = refl
neg_odd d s (suc q) k l = refl

neg_units : (f : Format) (s : Bool) (q k : ℕ) → neg (units f s q k) ≡ units f (not s) q k
unfolding units neg
neg_units f s q k = go (ltb (q * 2 ^ k) (2 ^ (low f + suc (emax f))))
  where
    go : (b : Bool) → neg (cond b (odd (suc (prec f)) s q k (low f)) (inf s)) ≡ cond b (odd (suc (prec f)) (not s) q k (low f)) (inf (not s))
    go true = neg_odd (suc (prec f)) s q k (low f)
    go false = refl

pub neg_round : (f : Format) (s : Bool) (n d : ℕ) → neg (round f s n d) ≡ round f (not s) n d
neg_round f s n d = ap neg (round_is f s n d) ∙ neg_units f s _ _ ∙ sym (round_is f (not s) n d)

ltb_same : (a b c d : ℕ) → (b ≤ a → d ≤ c) → (d ≤ c → b ≤ a) → ltb a b ≡ ltb c d
ltb_same a b c d f g = elim (dec_le b a) [
  | yes h ↦ le-ltb a b h ∙ sym (le-ltb c d (f h))
  | no h ↦ lt-ltb a b (lt_of_not-le h) ∙ sym (lt-ltb c d (lt_of_not-le (λ (l : d ≤ c). h (g l))))
]

-- a / c < b / d
pub lt_values : (x y : Float) (a c b d : ℕ) → 0 < c → 0 < d → HasValue x false a c → HasValue y false b d → lt x y ≡ ltb (a * d) (b * c)
unfolding lt
lt_values nan y a c b d C D p q = absurd p
lt_values (inf s) y a c b d C D p q = absurd p
lt_values (fin true m e) y a c b d C D p q = absurd (true≢false p.0)
lt_values (fin false m e) nan a c b d C D p q = absurd q
lt_values (fin false m e) (inf t) a c b d C D p q = absurd q
lt_values (fin false m e) (fin true n g) a c b d C D p q = absurd (true≢false q.0)
lt_values (fin false m e) (fin false n g) a c b d C D p q =
    ltb_same (m * up e * down g) (n * up g * down e) (a * d) (b * c)
    (transfer b a d c (n * up g) (m * up e) (down g) (down e) (down_pos g) (down_pos e) (sym q.1) (sym p.1))
    (transfer (n * up g) (m * up e) (down g) (down e) b a d c D C q.1 p.1)

-- k + 2 ^ e
pub add_power : (x : Float) (k : ℕ) (e : ℤ) → HasValue x false k 1 → add binary64 x (fin false 1 e) ≡ round binary64 false (k * down e + up e) (down e)
unfolding add sum
add_power nan k e v = absurd v
add_power (inf s) k e v = absurd v
add_power (fin true m g) k e v = absurd (true≢false v.0)
add_power (fin false m g) k e v =
    round_same binary64 false (m * up g * down e + 1 * up e * down g) (down g * down e) (k * down e + up e) (down e)
    (mul-pos (down_pos g) (down_pos e)) (down_pos e)
    (omega (arith, ap (λ (z : ℕ). z * (down e * down e)) v.1))
