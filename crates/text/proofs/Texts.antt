-- A text as a number: its words are the number that its bytes write.
use Prim.Native.Nat.{ℕ, zero, suc, ◌+◌, ◌*◌, ◌/◌, ◌%◌, ◌^◌, ◌≤◌, ◌<◌}
use native.Mathlib.Omega.{arith}
use native.Mathlib.Nat.{pow-suc, mul-suc, mul-le-mul_left}
use native.Mathlib.Decide.{ℕ_discrete}
use mathlib.Core.Path.{◌≡◌, refl, sym, ap, ap₂, subst, ◌∙◌}
use mathlib.Core.Bool.{Bool, true, false, cond, ◌&&◌, ◌||◌, false≢true}
use mathlib.Core.List.{List, [], ◌∷◌}
use lib.Dec.{eqb}
use borrow.Author.Tests.{eqb-true, eq-eqb, ne_eqb}
use Rattle.text.specs.Text.{used_bytes, words_number, text_of, eq_bytes, is_text, is_false}

-- the number that is written by these bytes, the lowest first
unfoldable pub number_of : List ℕ → ℕ
number_of [] = 0
number_of (b ∷ bs) = b + 256 * number_of bs

-- bytes that a text can hold
abbrev pub Chars : List ℕ → Type 0
Chars [] = Unit {0}
Chars (d ∷ ds) = (0 < d) × ((d < 256) × Chars ds)

-- ---- bytes and numbers

back : (n : ℕ) (ds : List ℕ) → Chars ds → number_of ds < 256 ^ n → used_bytes n (number_of ds) ≡ ds
unfolding used_bytes number_of
back zero [] c h = refl
back zero (d ∷ ds) c h = absurd (omega (arith, c.0))
back (suc n) [] c h = refl
back (suc n) (d ∷ ds) c h =
    let p : 256 ^ suc n ≡ 256 * 256 ^ n = pow-suc 256 n ∙ omega arith in
    let low : (d + 256 * number_of ds) % 256 ≡ d = omega (arith, c.1.0) in
    let rest : (d + 256 * number_of ds) / 256 ≡ number_of ds = omega (arith, c.1.0) in
    let some : eqb (d + 256 * number_of ds) 0 ≡ false = ne_eqb _ _ (λ (e : d + 256 * number_of ds ≡ 0). omega (arith, c.0)) in
    rw (some, low, rest) (ap (λ (l : List ℕ). d ∷ l) (back n ds c.1.1 (omega (arith, p))))

again : (n x : ℕ) → x < 256 ^ n → number_of (used_bytes n x) ≡ x
unfolding used_bytes number_of
again zero x h = omega arith
again (suc n) x h = pick (λ l. again n (x / 256) l) (eqb x 0) refl
  where
    pick : (x / 256 < 256 ^ n → number_of (used_bytes n (x / 256)) ≡ x / 256) → (b : Bool) → eqb x 0 ≡ b → number_of (cond b [] (x % 256 ∷ used_bytes n (x / 256))) ≡ x
    pick f true e = sym (eqb-true x 0 e)
    pick f false e =
        let p : 256 ^ suc n ≡ 256 * 256 ^ n = pow-suc 256 n ∙ omega arith in
        omega (arith, f (omega (arith, p)))

-- ---- byte for byte

pub bytes_refl : (xs : List ℕ) → eq_bytes xs xs ≡ true
unfolding eq_bytes
bytes_refl [] = refl
bytes_refl (x ∷ xs) = rw (eq-eqb x x refl, bytes_refl xs)

pub bytes_same : (xs ys : List ℕ) → eq_bytes xs ys ≡ true → xs ≡ ys
unfolding eq_bytes
bytes_same [] [] e = refl
bytes_same [] (y ∷ ys) e = absurd (false≢true e)
bytes_same (x ∷ xs) [] e = absurd (false≢true e)
bytes_same (x ∷ xs) (y ∷ ys) e = pick (bytes_same xs ys) (eqb x y) refl e
  where
    pick : (eq_bytes xs ys ≡ true → xs ≡ ys) → (b : Bool) → eqb x y ≡ b → (b && eq_bytes xs ys) ≡ true → x ∷ xs ≡ y ∷ ys
    pick r true f g = ap₂ (λ (a : ℕ) (l : List ℕ). a ∷ l) (eqb-true x y f) (r g)
    pick r false f g = absurd (false≢true g)

-- ---- THE LAW: a text is these bytes exactly where its words are their number

-- a word
abbrev pub Word : ℕ → Type 0
Word x = x < 2 ^ 64

two_words : (b low high : ℕ) → low < b → high < b → low + b * high < b * b
two_words b low high l h = let p : b * suc high ≤ b * b = mul-le-mul_left b h in omega (arith, mul-suc b high)

module _ (low high : ℕ) (l : Word low) (h : Word high) where
  pub below : words_number low high < 256 ^ 16
  below = two_words (2 ^ 64) low high l h

  pub is_text_lem : (ds : List ℕ) → Chars ds → is_text low high ds ≡ eqb (words_number low high) (number_of ds)
  is_text_lem ds c = pick (ℕ_discrete (words_number low high) (number_of ds))
    where
      differ : (words_number low high ≡ number_of ds → ⊥) → (b : Bool) → is_text low high ds ≡ b → b ≡ false
      differ n true e = absurd (n (sym (again 16 (words_number low high) below) ∙ ap number_of (bytes_same (text_of low high) ds e)))
      differ n false e = refl

      pick : Dec (words_number low high ≡ number_of ds) → is_text low high ds ≡ eqb (words_number low high) (number_of ds)
      pick (yes e) =
          let t : text_of low high ≡ ds = ap (used_bytes 16) e ∙ back 16 ds c (subst (λ (x : ℕ). x < 256 ^ 16) e below) in
          ap (λ (xs : List ℕ). eq_bytes xs ds) t ∙ bytes_refl ds ∙ sym (eq-eqb _ _ e)
      pick (no n) = differ n (is_text low high ds) refl ∙ sym (ne_eqb _ _ n)

-- two tests of numbers that hold together
pub same_test : (a b c d : ℕ) → (a ≡ b → c ≡ d) → (c ≡ d → a ≡ b) → eqb a b ≡ eqb c d
same_test a b c d f g = pick (ℕ_discrete a b)
  where
    pick : Dec (a ≡ b) → eqb a b ≡ eqb c d
    pick (yes e) = eq-eqb a b e ∙ sym (eq-eqb c d (f e))
    pick (no n) = ne_eqb a b n ∙ sym (ne_eqb c d (λ e. n (g e)))

-- texts are the same where both words are
pub words_test : (l h low high : ℕ) → Word l → Word low → (eqb l low && eqb h high) ≡ eqb (words_number low high) (words_number l h)
words_test l h low high a b = pick (ℕ_discrete l low) (ℕ_discrete h high)
  where
    pick : Dec (l ≡ low) → Dec (h ≡ high) → (eqb l low && eqb h high) ≡ eqb (words_number low high) (words_number l h)
    pick (yes e) (yes f) = rw (eq-eqb l low e, eq-eqb h high f) (sym (eq-eqb (words_number low high) (words_number l h) (omega (arith, e, f))))
    pick (yes e) (no n) = rw (eq-eqb l low e, ne_eqb h high n) (sym (ne_eqb (words_number low high) (words_number l h) (λ g. n (omega (arith, e, g)))))
    pick (no n) f = rw (ne_eqb l low n) (sym (ne_eqb (words_number low high) (words_number l h) (λ g. n (omega (arith, g, a, b)))))

-- .. and then byte for byte
pub same_text : (low high l h : ℕ) → Word low → Word high → Word l → Word h → (eqb low l && eqb high h) ≡ is_text low high (text_of l h)
same_text low high l h a b c d = pick (ℕ_discrete (words_number low high) (words_number l h))
  where
    differ : (words_number low high ≡ words_number l h → ⊥) → (t : Bool) → is_text low high (text_of l h) ≡ t → t ≡ false
    differ n true e = absurd (n (sym (again 16 (words_number low high) (below low high a b)) ∙ ap number_of (bytes_same (text_of low high) (text_of l h) e) ∙ again 16 (words_number l h) (below l h c d)))
    differ n false e = refl

    test : (eqb low l && eqb high h) ≡ eqb (words_number l h) (words_number low high)
    test = words_test low high l h a c

    pick : Dec (words_number low high ≡ words_number l h) → (eqb low l && eqb high h) ≡ is_text low high (text_of l h)
    pick (yes e) = test ∙ eq-eqb _ _ (sym e) ∙ sym (ap (λ (x : ℕ). eq_bytes (used_bytes 16 x) (text_of l h)) e ∙ bytes_refl (text_of l h))
    pick (no n) = test ∙ ne_eqb _ _ (λ e. n (sym e)) ∙ sym (differ n (is_text low high (text_of l h)) refl)

-- a text of at most 8 bytes
pub short_test : (low high : ℕ) → Word low → Word high → (ds : List ℕ) → Chars ds → Word (number_of ds) → (eqb low (number_of ds) && eqb high 0) ≡ is_text low high ds
short_test low high l h ds c w =
    words_test low high (number_of ds) 0 l w
    ∙ same_test (words_number (number_of ds) 0) (words_number low high) (words_number low high) (number_of ds) (λ e. omega (arith, e)) (λ e. omega (arith, e))
    ∙ sym (is_text_lem low high l h ds c)

-- the three texts that are false
three_of : (a b c z : Bool) → (((a || b) || c) && z) ≡ (((a && z) || (b && z)) || (c && z))
three_of true true true true = refl
three_of true true true false = refl
three_of true true false true = refl
three_of true true false false = refl
three_of true false true true = refl
three_of true false true false = refl
three_of true false false true = refl
three_of true false false false = refl
three_of false true true true = refl
three_of false true true false = refl
three_of false true false true = refl
three_of false true false false = refl
three_of false false true true = refl
three_of false false true false = refl
three_of false false false true = refl
three_of false false false false = refl

pub false_test : (low high : ℕ) → Word low → Word high → (((eqb low 0 || eqb low 48) || eqb low 435728179558) && eqb high 0) ≡ is_false low high
unfolding is_false number_of
false_test low high l h =
    three_of (eqb low 0) (eqb low 48) (eqb low 435728179558) (eqb high 0)
    ∙ ap₂ ◌||◌ (ap₂ ◌||◌ (short_test low high l h [] tt (omega arith)) (short_test low high l h (48 ∷ []) (omega arith, (omega arith, tt)) (omega arith)))
    (short_test low high l h (102 ∷ 97 ∷ 108 ∷ 115 ∷ 101 ∷ []) (omega arith, (omega arith, (omega arith, (omega arith, (omega arith, (omega arith, (omega arith, (omega arith, (omega arith, (omega arith, tt)))))))))) (omega arith))
