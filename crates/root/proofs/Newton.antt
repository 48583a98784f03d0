-- Numbers near a root: the line that the first comes from, Newton's step to the next, and the root from the last.
use mathlib.Core.Path.{◌≡◌, refl, sym, ap, ◌∙◌, subst}
use Prim.Native.Nat.{ℕ, zero, suc, ◌+◌, ◌-◌, ◌*◌, ◌/◌, ◌≤◌, ◌<◌}
use native.Mathlib.Nat.{le_trans, le_of_eq, lt_of_lt_of_le, lt_of_le_of_lt, lt_of_not-le, not-le_of_lt, lt_irrefl, mul-pos, mul-le-mul, mul-le-mul_left, mul-le-mul_right, le-div_iff_mul-le, div-lt_iff_lt-mul, div-div-eq-div-mul, div-mul-le_self, lt-div-mul-add, lt_of_mul-lt-mul_right}
use native.Mathlib.Decide.{dec_le}
use native.Mathlib.Omega.{arith}
use Rattle.root.specs.Steps.{Near}
use Rattle.root.proofs.Squares.{square_lt}

-- ---- the means of two numbers

means : (a b : ℕ) → 4 * (a * b) ≤ (a + b) * (a + b)
means a b = elim (dec_le a b) [
  | yes h ↦ go a (b - a) b (omega arith)
  | no h ↦ let l = lt_of_not-le h in turned (go b (a - b) a (omega arith))
]
  where
    go : (a d b : ℕ) → a + d ≡ b → 4 * (a * b) ≤ (a + b) * (a + b)
    go a d b e = subst (λ (x : ℕ). 4 * (a * x) ≤ (a + x) * (a + x)) e (omega arith)

    turned : 4 * (b * a) ≤ (b + a) * (b + a) → 4 * (a * b) ≤ (a + b) * (a + b)
    turned h = omega arith

-- ---- Newton's step: b is a * M, and q the whole part of n / (4 * b)

module _ (n a M q : ℕ) (scale-pos : 0 < M) (enough : M ≤ suc a) (low : a * a * (4 * (M * M)) < n) (high : n < (a + 2) * (a + 2) * (4 * (M * M))) (least : 4 * (suc a * M) * q ≤ n) (most : n < 4 * (suc a * M) * (q + 1)) where
  abbrev b : ℕ
  b = suc a * M

  squares : M * M ≤ b
  squares = mul-le-mul_right M enough

  above : n < (b + q + 1) * (b + q + 1)
  above = lt_of_lt_of_le most (omega (arith, means b (q + 1)))

  -- the quotient is not far above b
  within : q ≤ b + 2 * M
  within = elim (dec_le q (b + 2 * M)) [
    | yes h ↦ h
    | no h ↦ let g = lt_of_not-le h in let l : b + 2 * M + 1 ≤ q = omega arith in absurd (not-le_of_lt high (le_trans (omega (arith, squares)) (le_trans (mul-le-mul_left (4 * b) l) least)))
  ]

  below : (t : ℕ) → suc t ≡ b + q → t * t < n
  below t e = elim (dec_le (suc b) q) [
    | yes h ↦ over (q - suc b) (omega arith)
    | no h ↦ let l = lt_of_not-le h in under (b - q) (omega arith)
  ]
    where
      over : (d : ℕ) → q ≡ suc b + d → t * t < n
      over d f =
          let near : d + 1 ≤ 2 * M = let w = within in omega arith in
          let g : 4 * b * (suc b + d) ≤ n = subst (λ (x : ℕ). 4 * b * x ≤ n) f least in
          let k : t ≡ 2 * b + d = omega arith in
          subst (λ (x : ℕ). x * x < n) (sym k) (omega (arith, mul-le-mul near near, squares))

      under : (d : ℕ) → b ≡ q + d → t * t < n
      under d f = elim (dec_le (2 * M) (d + 1)) [
        | yes h ↦ let k : t ≤ 2 * (a * M) = omega arith in lt_of_le_of_lt (mul-le-mul k k) (omega arith)
        | no h ↦ close d f (lt_of_not-le h)
      ]
        where
          close : (d : ℕ) → b ≡ q + d → d + 1 < 2 * M → t * t < n
          close zero f h =
              let g : 4 * (q + 0) * q ≤ n = subst (λ (x : ℕ). 4 * x * q ≤ n) f least in
              let k : suc t * suc t ≡ (q + q) * (q + q) = ap (λ (x : ℕ). x * x) (omega arith) in
              omega arith
          close (suc d) f h =
              let g : 4 * (q + suc d) * q ≤ n = subst (λ (x : ℕ). 4 * x * q ≤ n) f least in
              let k : t ≡ 2 * q + d = omega arith in
              subst (λ (x : ℕ). x * x < n) (sym k) (omega (arith, mul-le-mul h h, squares))

-- ---- near a root

-- a positive number near a root: one more than what is below it
pub above_zero : (n a : ℕ) → Near n a → 0 < a
above_zero n zero h = let l = h.below in let g = h.above in omega arith
above_zero n (suc a) h = omega arith

under : {n a b : ℕ} → Near n a → a ≡ suc b → b * b < n
under {n} {a} {b} h e = let f : a - 1 ≡ b = omega arith in subst (λ (x : ℕ). x * x < n) f h.below

-- from the root of n / (2 * M) ^ 2 to that of n
pub step : (n a M : ℕ) → 0 < M → M ≤ a → Near (n / (4 * M * M)) a → Near n (a * M + n / (4 * M) / a)
step n zero M p m h = absurd (lt_irrefl 0 (above_zero (n / (4 * M * M)) 0 h))
step n (suc a) M p m h =
    let P : 0 < 4 * M * M = mul-pos (mul-pos (omega arith) p) p in
    let B : 0 < 4 * (suc a * M) = omega (arith, mul-pos {m = suc a} (omega arith) p) in
    let q = n / (4 * M) / suc a in
    let e : q ≡ n / (4 * (suc a * M)) = div-div-eq-div-mul n (4 * M) (suc a) ∙ ap (λ (x : ℕ). n / x) (omega arith) in
    let l : (a * a + 1) * (4 * M * M) ≤ n = (le-div_iff_mul-le P).0 (omega (arith, under h refl)) in
    let low : a * a * (4 * (M * M)) < n = omega (arith, P) in
    let g : n < (suc a + 1) * (suc a + 1) * (4 * M * M) = (div-lt_iff_lt-mul P).0 h.above in
    let high : n < (a + 2) * (a + 2) * (4 * (M * M)) = omega arith in
    let least : 4 * (suc a * M) * q ≤ n = subst (λ (x : ℕ). 4 * (suc a * M) * x ≤ n) (sym e) (omega (arith, div-mul-le_self n (4 * (suc a * M)))) in
    let most : n < 4 * (suc a * M) * (q + 1) = subst (λ (x : ℕ). n < 4 * (suc a * M) * (x + 1)) (sym e) (omega (arith, lt-div-mul-add {a = n} B)) in
    let pos : 0 < suc a * M = mul-pos {m = suc a} (omega arith) p in
    record {
      below = below n a M q p m low high least most (suc a * M + q - 1) (omega arith);
      above = above n a M q p m low high least most;
    }

-- the line for eight digits
pub line : (x : ℕ) → 64 ≤ x → x < 256 → Near x ((x + 147) / 24)
line x l h = go ((x + 147) / 24) (omega arith) (omega arith) (omega arith)
  where
    go : (a : ℕ) → a * 24 ≤ x + 147 → x + 147 < a * 24 + 24 → 8 ≤ a → Near x a
    go a p q r = record {
      below = less (a - 8) (a - 1) (omega arith) (omega arith) (omega arith);
      above = omega (arith, means a 11);
    }
      where
        less : (i b : ℕ) → b ≡ i + 7 → 24 * i + 45 ≤ x → i ≤ 8 → b * b < x
        less i b e p h = subst (λ (z : ℕ). z * z < x) (sym e) (at i p h)
          where
            at : (i : ℕ) → 24 * i + 45 ≤ x → i ≤ 8 → (i + 7) * (i + 7) < x
            at zero p h = omega arith
            at (suc i) p h = let s : i * i ≤ 7 * i = mul-le-mul_right i (omega arith) in omega arith

-- how large
pub at_least : {n a : ℕ} (k : ℕ) → k * k ≤ n → Near n a → k ≤ a
at_least {n} {a} k h near = let l = square_lt k (a + 1) (lt_of_le_of_lt h near.above) in omega arith

pub at_most : {n a : ℕ} (k : ℕ) → n ≤ k * k → Near n a → a ≤ k
at_most {n} {a} k h near = let l = square_lt (a - 1) k (lt_of_lt_of_le near.below h) in omega arith

-- the root of n from that of n * (M * M)
pub lowered : (n a M : ℕ) → 0 < M → M ≤ a → Near (n * (M * M)) a → Near n (a / M)
lowered n a M p s h =
    let c = a / M in
    let quotient_pos : 1 ≤ c = (le-div_iff_mul-le p).1 (omega arith) in
    let f : c ≡ suc (c - 1) = omega arith in
    let l : suc (c - 1) * M ≤ a = subst (λ (x : ℕ). x * M ≤ a) f (div-mul-le_self a M) in
    let g : a + 1 ≤ (c + 1) * M = omega (arith, lt-div-mul-add {a = a} p) in
    record {
      below = lt_of_mul-lt-mul_right (M * M) (lt_of_le_of_lt (le_trans (le_of_eq (apart (c - 1))) (mul-le-mul (pred (c - 1) l) (pred (c - 1) l))) h.below);
      above = lt_of_mul-lt-mul_right (M * M) (lt_of_lt_of_le h.above (le_trans (mul-le-mul g g) (le_of_eq (sym (apart (c + 1))))));
    }
  where
    apart : (c : ℕ) → c * c * (M * M) ≡ c * M * (c * M)
    apart c = omega arith

    pred : (c : ℕ) → suc c * M ≤ a → c * M ≤ a - 1
    pred c h = omega arith
