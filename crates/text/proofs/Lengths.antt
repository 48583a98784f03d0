-- How many bytes a number has.
use Prim.Native.Nat.{ℕ, zero, suc, ◌+◌, ◌-◌, ◌*◌, ◌/◌, ◌%◌, ◌^◌, ◌≤◌, ◌<◌}
use native.Mathlib.Omega.{arith}
use lib.Pow.{pow-add, pow_mono}
use lib.Count.{count_leading_zeros, leading_of_zero, leading_top}
use native.Mathlib.Nat.{le_trans, lt_of_lt_of_le, pow-suc, pow-succ', one-le-pow, suc-add, zero-add, div-one, div-le_self, div-div-eq-div-mul}
use native.Mathlib.Decide.{ℕ_discrete}
use mathlib.Core.Path.{◌≡◌, refl, sym, ap, ◌∙◌}
use mathlib.Core.List.{List, [], ◌∷◌}
use lib.ListN.{length}
use borrow.Author.Tests.{ne_eqb}
use Rattle.text.specs.Text.{used_bytes, words_number, word_length, text_length}
use Rattle.text.proofs.Texts.{Word}

pub no_bytes : (n : ℕ) → used_bytes n 0 ≡ []
unfolding used_bytes
no_bytes zero = refl
no_bytes (suc n) = refl

pub first_byte : (n x : ℕ) → 0 < x → used_bytes (suc n) x ≡ x % 256 ∷ used_bytes n (x / 256)
unfolding used_bytes
first_byte n x h = rw (ne_eqb x 0 (λ (e : x ≡ 0). omega arith))

one_byte : (n x : ℕ) → 0 < x → length (used_bytes (suc n) x) ≡ suc (length (used_bytes n (x / 256)))
one_byte n x h = ap length (first_byte n x h)

-- THE LAW: k bytes and one
pub sized : (n k x : ℕ) → k < n → 256 ^ k ≤ x → x < 256 ^ suc k → length (used_bytes n x) ≡ suc k
sized zero k x f a b = absurd (omega arith)
sized (suc n) zero x f a b =
    let z : x / 256 ≡ 0 = omega arith in
    one_byte n x (omega arith) ∙ ap (λ (y : ℕ). suc (length (used_bytes n y))) z ∙ ap (λ (l : List ℕ). suc (length l)) (no_bytes n)
sized (suc n) (suc k) x f a b =
    let p : 256 ^ suc k ≡ 256 * 256 ^ k = pow-suc 256 k ∙ omega arith in
    let q : 256 ^ suc (suc k) ≡ 256 * 256 ^ suc k = pow-suc 256 (suc k) ∙ omega arith in
    let pos : 1 ≤ 256 ^ k = one-le-pow k 256 (omega arith) in
    one_byte n x (omega (arith, p)) ∙ ap suc (sized n k (x / 256) (omega arith) (omega (arith, p)) (omega (arith, q)))

-- eight places to a byte
bytes_bits : (k : ℕ) → 256 ^ k ≡ 2 ^ (8 * k)
bytes_bits zero = refl
bytes_bits (suc k) =
    let e : 8 * k + 8 ≡ 8 * suc k = omega arith in
    pow-suc 256 k ∙ ap (λ (x : ℕ). x * 256) (bytes_bits k) ∙ sym (pow-add 2 (8 * k) 8) ∙ ap (λ (i : ℕ). 2 ^ i) e

-- by the zeros above the highest place
pub by_zeros : (x : ℕ) → Word x → (64 - count_leading_zeros 64 x + 7) / 8 ≡ word_length x
by_zeros x w = pick (ℕ_discrete x 0)
  where
    pick : Dec (x ≡ 0) → (64 - count_leading_zeros 64 x + 7) / 8 ≡ word_length x
    pick (yes e) = ap (λ (y : ℕ). (64 - count_leading_zeros 64 y + 7) / 8) e ∙ ap (λ (z : ℕ). (64 - z + 7) / 8) (leading_of_zero 64) ∙ sym (ap word_length e ∙ ap length (no_bytes 8))
    pick (no d) =
        let t = leading_top 64 x (omega arith) w in
        let k = t.0 / 8 in
        let low : 256 ^ k ≤ x = le_trans (rw (bytes_bits k) (pow_mono {i = 8 * k} {j = t.0} (omega arith))) t.2 in
        let high : x < 256 ^ suc k = lt_of_lt_of_le t.3 (rw (bytes_bits (suc k)) (pow_mono {i = suc t.0} {j = 8 * suc k} (omega arith))) in
        let places : (64 - count_leading_zeros 64 x + 7) / 8 ≡ suc k = omega (arith, t.1) in
        places ∙ sym (sized 8 k x (omega (arith, t.1)) low high)

-- ---- two words

low_word : (n k x : ℕ) → x < 256 ^ n → length (used_bytes (n + k) x) ≡ length (used_bytes n x)
low_word zero k x h = let e : x ≡ 0 = omega arith in ap (λ (y : ℕ). length (used_bytes (0 + k) y)) e ∙ ap length (no_bytes (0 + k)) ∙ sym (ap (λ (y : ℕ). length (used_bytes 0 y)) e ∙ ap length (no_bytes 0))
low_word (suc n) k x h =
    let p : 256 ^ suc n ≡ 256 * 256 ^ n = pow-succ' 256 n in
    pick (low_word n k (x / 256) (omega (arith, p))) (ℕ_discrete x 0)
  where
    pick : length (used_bytes (n + k) (x / 256)) ≡ length (used_bytes n (x / 256)) → Dec (x ≡ 0) → length (used_bytes (suc n + k) x) ≡ length (used_bytes (suc n) x)
    pick r (yes e) = ap (λ (y : ℕ). length (used_bytes (suc n + k) y)) e ∙ ap length (no_bytes (suc n + k)) ∙ sym (ap (λ (y : ℕ). length (used_bytes (suc n) y)) e ∙ ap length (no_bytes (suc n)))
    pick r (no d) =
        ap (λ (m : ℕ). length (used_bytes m x)) (suc-add n k)
        ∙ one_byte (n + k) x (omega arith)
        ∙ ap suc r
        ∙ sym (one_byte n x (omega arith))

high_word : (n k x : ℕ) → 0 < x / 256 ^ n → length (used_bytes (n + k) x) ≡ n + length (used_bytes k (x / 256 ^ n))
high_word zero k x h = ap (λ (m : ℕ). length (used_bytes m x)) (zero-add k) ∙ sym (zero-add (length (used_bytes k (x / 256 ^ 0))) ∙ ap (λ (y : ℕ). length (used_bytes k y)) (div-one x))
high_word (suc n) k x h =
    let p : x / 256 / 256 ^ n ≡ x / 256 ^ suc n = div-div-eq-div-mul x 256 (256 ^ n) ∙ ap (λ (m : ℕ). x / m) (sym (pow-succ' 256 n)) in
    let s : 0 < x = positive x (256 ^ suc n) h in
    ap (λ (m : ℕ). length (used_bytes m x)) (suc-add n k)
    ∙ one_byte (n + k) x s
    ∙ ap suc (high_word n k (x / 256) (rw p h) ∙ ap (λ (y : ℕ). n + length (used_bytes k y)) p)
    ∙ sym (suc-add n (length (used_bytes k (x / 256 ^ suc n))))
  where
    positive : (x m : ℕ) → 0 < x / m → 0 < x
    positive zero m h = absurd (omega (arith, div-le_self 0 m))
    positive (suc x) m h = omega arith

module _ (low high : ℕ) (l : Word low) where
  pub one_word : high ≡ 0 → word_length low ≡ text_length low high
  one_word e = sym (ap (λ (x : ℕ). length (used_bytes 16 x)) (omega (arith, e)) ∙ low_word 8 8 low l)

  pub two_words : (high ≡ 0 → ⊥) → 8 + word_length high ≡ text_length low high
  two_words n =
      let e : words_number low high / 2 ^ 64 ≡ high = omega arith in
      sym (high_word 8 8 (words_number low high) (rw e (omega arith)) ∙ ap (λ (x : ℕ). 8 + word_length x) e)
