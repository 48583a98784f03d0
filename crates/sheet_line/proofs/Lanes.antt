-- A word as lanes: numbers of k bits, the lowest first. Assumes nothing.
use Prim.Native.Nat.{ℕ, zero, suc, ◌+◌, ◌-◌, ◌*◌, ◌/◌, ◌%◌, ◌^◌, ◌≤◌, ◌<◌}
use Prim.Native.Char.{code}
use native.Mathlib.Omega.{arith}
use native.Mathlib.Nat.{div-add-mod', one-le-pow, div-one, add-zero, add-sub_cancel, mul-div_cancel, div-div-eq-div-mul, lt_of_lt_of_le, pow-suc, mul_comm, add-suc}
use mathlib.Core.Path.{◌≡◌, refl, sym, ap, ap₂, ◌∙◌}
use mathlib.Core.Bool.{Bool, true, false, cond}
use mathlib.Core.List.{List, [], ◌∷◌, ◌++◌, map, append_assoc, append-nil}
use lib.Dec.{ltb}
use lib.ListN.{length}
use lib.Bits.{bit_and, and_block, and_mask}
use lib.Pow.{pow_pos, pow_mono, ones_lt, pow-add}
use lib.Arith.{mod-mul}
use borrow.Author.Tests.{ltb-true, ltb-false}
use Rattle.model.specs.Maps.{All}
use Rattle.model.specs.Answer.{each}
use Rattle.encoding.specs.Numbers.{bytes_of}
use Rattle.sheet_line.specs.Characters.{hex}

unfoldable lanes : ℕ → List ℕ → ℕ
lanes k [] = 0
lanes k (v ∷ vs) = lanes k vs * 2 ^ k + v

-- the part of each above q, and the rest
abbrev highs : ℕ → List ℕ → List ℕ
highs q = map (λ v. v / q)

abbrev lows : ℕ → List ℕ → List ℕ
lows q = map (λ v. v % q)

parts : (k q : ℕ) (vs : List ℕ) → lanes k vs ≡ lanes k (highs q vs) * q + lanes k (lows q vs)
unfolding lanes
parts k q [] = omega arith
parts k q (v ∷ vs) = rw (parts k q vs) (omega (arith, div-add-mod' v q))

-- ---- the low j bits of each lane by a mask, and what is above them

module _ (j k : ℕ) (l : j ≤ k) where
  abbrev mask : List ℕ → ℕ
  mask vs = lanes k (map (λ v. 2 ^ j - 1) vs)

  masked : (vs : List ℕ) → All (λ v. v < 2 ^ k) vs → bit_and (lanes k vs) (mask vs) ≡ lanes k (lows (2 ^ j) vs)
  unfolding lanes
  masked [] h = refl
  masked (v ∷ vs) h =
      and_block k (lanes k vs) (mask vs) v (2 ^ j - 1) h.0 (lt_of_lt_of_le (ones_lt j) (pow_mono l))
      ∙ ap₂ (λ (x y : ℕ). x * 2 ^ k + y) (masked vs h.1) (and_mask v j)

  above : (vs : List ℕ) → All (λ v. v < 2 ^ k) vs → (lanes k vs - bit_and (lanes k vs) (mask vs)) / 2 ^ j ≡ lanes k (highs (2 ^ j) vs)
  above vs h = rw (masked vs h, parts k (2 ^ j) vs) (ap (λ (x : ℕ). x / 2 ^ j) (add-sub_cancel _ _) ∙ mul-div_cancel _ (pow_pos j))

-- ---- each lane as two of half its width, its high part in the lower

unfoldable halves : ℕ → List ℕ → List ℕ
halves q [] = []
halves q (v ∷ vs) = v / q ∷ v % q ∷ halves q vs

paired : (k q : ℕ) (vs : List ℕ) → lanes (k + k) (highs q vs) + lanes (k + k) (lows q vs) * 2 ^ k ≡ lanes k (halves q vs)
unfolding lanes halves
paired k q [] = omega arith
paired k q (v ∷ vs) = rw (← paired k q vs, pow-add 2 k k) (omega arith)

abbrev spread : ℕ → ℕ → ℕ → ℕ → ℕ
spread j k m x = (x - bit_and x m) / 2 ^ j + bit_and x m * 2 ^ k

spreads : (j k : ℕ) (l : j ≤ k + k) (vs : List ℕ) → All (λ v. v < 2 ^ (k + k)) vs → spread j k (mask j (k + k) l vs) (lanes (k + k) vs) ≡ lanes k (halves (2 ^ j) vs)
spreads j k l vs h = ap₂ (λ (x y : ℕ). x + y * 2 ^ k) (above j (k + k) l vs h) (masked j (k + k) l vs h) ∙ paired k (2 ^ j) vs

-- ---- hexadecimal digits: those of both halves of a number, one after the other

high_digits : (m p n : ℕ) → hex (m + p) n ≡ hex m (n / 16 ^ p) ++ hex p n
unfolding hex
high_digits m zero n = rw (add-zero m, div-one n) (sym (append-nil (hex m n)))
high_digits m (suc p) n =
    rw (add-suc m p, high_digits m p (n / 16), pow-suc 16 p, mul_comm (16 ^ p) 16, ← div-div-eq-div-mul n 16 (16 ^ p))
    (append_assoc (hex m (n / 16 / 16 ^ p)) (hex p (n / 16)) _)

abbrev character : ℕ → ℕ
character d = cond (ltb d 10) (code "0" + d) (code "A" + (d - 10))

low_digits : (p n : ℕ) → hex p n ≡ hex p (n % 16 ^ p)
unfolding hex
low_digits zero n = refl
low_digits (suc p) n =
    let e : n % 16 ^ suc p ≡ (n / 16 % 16 ^ p) * 16 + n % 16 = ap (λ (x : ℕ). n % x) (pow-suc 16 p) ∙ mod-mul n (one-le-pow p 16 (omega arith)) (omega arith) in
    let d : n % 16 ≡ n % 16 ^ suc p % 16 = omega (arith, e) in
    ap₂ (λ (ds : List ℕ) (d : ℕ). ds ++ (character d ∷ [])) (low_digits p (n / 16) ∙ ap (hex p) (omega (arith, e))) d

pub half_digits : (m n : ℕ) → hex (m + m) n ≡ hex m (n / 16 ^ m) ++ hex m (n % 16 ^ m)
half_digits m n = high_digits m m n ∙ ap (λ (ds : List ℕ). hex m (n / 16 ^ m) ++ ds) (low_digits m n)

halves_hex : (m : ℕ) (vs : List ℕ) → each (hex (m + m)) vs ≡ each (hex m) (halves (16 ^ m) vs)
unfolding each halves
halves_hex m [] = refl
halves_hex m (v ∷ vs) =
    ap₂ ◌++◌ (half_digits m v) (halves_hex m vs)
    ∙ append_assoc (hex m (v / 16 ^ m)) (hex m (v % 16 ^ m)) (each (hex m) (halves (16 ^ m) vs))

-- ---- digits as characters: one from 10 on carries into the top bit of its lane

abbrev raised : List ℕ → List ℕ
raised = map (λ d. d + 118)

carried : (ds : List ℕ) → lanes 8 ds + lanes 8 (map (λ d. 118) ds) ≡ lanes 8 (raised ds)
unfolding lanes
carried [] = refl
carried (d ∷ ds) = omega (arith, carried ds)

carry : (d : ℕ) → d < 16 → 48 + d + (d + 118) / 128 * 7 ≡ character (d % 16)
carry d h = by (ltb (d % 16) 10) refl
  where
    by : (t : Bool) → ltb (d % 16) 10 ≡ t → 48 + d + (d + 118) / 128 * 7 ≡ cond t (48 + d % 16) (65 + (d % 16 - 10))
    by true e = omega (arith, ltb-true (d % 16) 10 e)
    by false e = omega (arith, ltb-false (d % 16) 10 e)

bytes : (ds : List ℕ) → All (λ d. d < 16) ds → bytes_of (length ds) (lanes 8 ds + lanes 8 (map (λ d. 48) ds) + lanes 8 (highs 128 (raised ds)) * 7) ≡ each (hex 1) ds
unfolding lanes each hex bytes_of
bytes [] h = refl
bytes (d ∷ ds) h =
    ap₂ ◌∷◌ (omega (arith, h.0, carry d h.0)) (ap (bytes_of (length ds)) (omega (arith, h.0)) ∙ bytes ds h.1)

-- ---- the words that `hex_word` computes

abbrev pub fours : ℕ → ℕ
fours n = n / 65536 + n % 65536 * 0x100000000

abbrev pub pairs : ℕ → ℕ
pairs n = spread 8 16 0x000000FF000000FF (fours n)

abbrev pub digits : ℕ → ℕ
digits n = spread 4 8 0x000F000F000F000F (pairs n)

abbrev text : ℕ → ℕ → List ℕ
text x c = bytes_of 8 (x + 0x3030303030303030 + (c - bit_and c 0x7F7F7F7F7F7F7F7F) / 128 * 7)

pub word : (n : ℕ) → n < 2 ^ 32 → text (digits n) (digits n + 0x7676767676767676) ≡ hex 8 n
unfolding lanes halves each
word n h =
    let l₄ = halves 65536 (n ∷ []) in
    let l₂ = halves 256 l₄ in
    let l₁ = halves 16 l₂ in
    let small₄ : All (λ v. v < 2 ^ 32) l₄ = omega arith in
    let small₂ : All (λ v. v < 2 ^ 16) l₂ = omega arith in
    let small₁ : All (λ v. v < 16) l₁ = omega arith in
    let wide : All (λ v. v < 256) (raised l₁) = omega arith in
    let first : fours n ≡ lanes 32 l₄ = omega arith in
    let second : pairs n ≡ lanes 16 l₂ = ap (spread 8 16 0x000000FF000000FF) first ∙ spreads 8 16 (omega arith) l₄ small₄ in
    let third : digits n ≡ lanes 8 l₁ = ap (spread 4 8 0x000F000F000F000F) second ∙ spreads 4 8 (omega arith) l₂ small₂ in
    ap (λ (x : ℕ). text x (x + 0x7676767676767676)) third
    ∙ ap (text (lanes 8 l₁)) (carried l₁)
    ∙ ap (λ (x : ℕ). bytes_of 8 (lanes 8 l₁ + 0x3030303030303030 + x * 7)) (above 7 8 (omega arith) (raised l₁) wide)
    ∙ bytes l₁ small₁
    ∙ sym (halves_hex 4 (n ∷ []) ∙ halves_hex 2 l₄ ∙ halves_hex 1 l₂)
    ∙ append-nil (hex 8 n)
