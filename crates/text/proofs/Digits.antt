-- The digits of a number, one after the other from the last.
use Prim.Native.Nat.{ℕ, zero, suc, ◌+◌, ◌*◌, ◌/◌, ◌%◌, ◌^◌, ◌≤◌, ◌<◌}
use native.Mathlib.Omega.{arith}
use native.Mathlib.Nat.{mul-le-mul_left, le_trans}
use mathlib.Core.Path.{◌≡◌, refl, sym, ap, ◌∙◌}
use mathlib.Core.Bool.{Bool, true, false, cond, ◌&&◌, true≢false}
use mathlib.Core.List.{List, [], ◌∷◌, ◌++◌, append_assoc, append-nil}
use lib.Dec.{eqb}
use lib.IntN.{ℤ, pos, negsuc, nat_abs}
use lib.Signed.{lt_z}
use borrow.Author.Tests.{ltb-true, eq-eqb, ne_eqb}
use Rattle.text.specs.Text.{words_number, is_text}
use Rattle.text.specs.Decimal.{last_digits, digits, decimal, is_digits, is_negated, is_decimal}
use Rattle.text.proofs.Texts.{number_of, Chars, Word, below, is_text_lem, same_test, words_test, short_test}

-- ---- digits are bytes that a text can hold

joined : (xs ys : List ℕ) → Chars xs → Chars ys → Chars (xs ++ ys)
joined [] ys a b = b
joined (x ∷ xs) ys a b = (a.0, (a.1.0, joined xs ys a.1.1 b))

last_chars : (n m : ℕ) → Chars (last_digits n m)
unfolding last_digits
last_chars zero m = tt
last_chars (suc n) m = pick (last_chars n (m / 10)) (eqb m 0)
  where
    pick : Chars (last_digits n (m / 10)) → (b : Bool) → Chars (cond b [] (last_digits n (m / 10) ++ ((48 + m % 10) ∷ [])))
    pick r true = tt
    pick r false = joined (last_digits n (m / 10)) ((48 + m % 10) ∷ []) r (omega arith, (omega arith, tt))

digit_test : (low high m : ℕ) → Word low → Word high → is_digits low high m ≡ eqb (words_number low high) (number_of (digits m))
unfolding is_digits
digit_test low high m l h = is_text_lem low high l h (digits m) (last_chars m m)

-- ---- the loop: `done` are the digits that the words l and h hold, and those of `rest` stand before them

pub record Partial (n rest l h : ℕ) : Type 0 where
  pub fuel : ℕ
  pub done : List ℕ
  pub enough : rest ≤ fuel
  pub same : digits n ≡ last_digits fuel rest ++ done
  pub holds : words_number l h ≡ number_of done
  pub word : Word l

pub begin : (n : ℕ) → Partial n n 0 0
unfolding number_of
begin n = record { fuel = n; done = []; enough = omega arith; same = sym (append-nil (digits n)); holds = refl; word = omega arith }

-- one digit more
one_more : (n rest : ℕ) (fuel : ℕ) (done : List ℕ) → 0 < rest → rest ≤ fuel → digits n ≡ last_digits fuel rest ++ done → (k : ℕ) × (rest / 10 ≤ k) × (digits n ≡ last_digits k (rest / 10) ++ ((48 + rest % 10) ∷ done))
unfolding last_digits
one_more n rest zero done p e s = absurd (omega arith)
one_more n rest (suc k) done p e s =
    let some : eqb rest 0 ≡ false = ne_eqb rest 0 (λ (z : rest ≡ 0). omega arith) in
    (k, omega arith, (rw some at s) ∙ append_assoc (last_digits k (rest / 10)) ((48 + rest % 10) ∷ []) done)

abbrev top : ℕ
top = 2 ^ 56

pub next : (n rest l h : ℕ) → (rest ≡ 0 → ⊥) → h < 2 ^ 56 → Partial n rest l h → Partial n (rest / 10) (l % 2 ^ 56 * 256 + (48 + rest % 10)) (h * 256 + l / 2 ^ 56)
unfolding number_of
next n rest l h z f p =
    let m = one_more n rest p.fuel p.done (omega arith) p.enough p.same in
    record {
      fuel = m.0;
      done = (48 + rest % 10) ∷ p.done;
      enough = m.1;
      same = m.2;
      holds = omega (arith, p.holds);
      word = omega arith;
    }

-- the words hold all digits
nothing : (fuel : ℕ) → last_digits fuel 0 ≡ []
unfolding last_digits
nothing zero = refl
nothing (suc k) = refl

pub all : (n rest l h low high : ℕ) → Word low → Word high → (rest ≡ 0) → Partial n rest l h → (eqb l low && eqb h high) ≡ is_digits low high n
all n rest l h low high b c z p =
    let e : digits n ≡ p.done = p.same ∙ ap (λ (r : ℕ). last_digits p.fuel r ++ p.done) z ∙ ap (λ (xs : List ℕ). xs ++ p.done) (nothing p.fuel) in
    words_test l h low high p.word b
    ∙ ap (eqb (words_number low high)) (p.holds ∙ ap number_of (sym e))
    ∙ sym (digit_test low high n b c)

-- seventeen digits are more than a text holds
least : (xs ys : List ℕ) → number_of ys ≤ number_of (xs ++ ys)
unfolding number_of
least [] ys = omega arith
least (x ∷ xs) ys = omega (arith, least xs ys)

clash : (q x y z : ℕ) → x < q → q ≤ y → y ≤ z → x ≡ z → ⊥
clash q x y z a b c d = omega arith

long : (l h x : ℕ) → 2 ^ 56 ≤ h → words_number l h ≡ x → 2 ^ 120 ≤ x
long l h x f e = omega arith

more : (c x : ℕ) → x ≤ c + x
more c x = omega arith

pub too_long : (n rest l h low high : ℕ) → Word low → Word high → (rest ≡ 0 → ⊥) → 2 ^ 56 ≤ h → Partial n rest l h → false ≡ is_digits low high n
too_long n rest l h low high a b z f p =
    let m = one_more n rest p.fuel p.done (omega arith) p.enough p.same in
    let e : number_of ((48 + rest % 10) ∷ p.done) ≡ 48 + rest % 10 + 256 * number_of p.done = unfold number_of in refl in
    let w : 2 ^ 120 ≤ number_of p.done = long l h (number_of p.done) f p.holds in
    let g : 256 * number_of p.done ≤ number_of ((48 + rest % 10) ∷ p.done) = rw e (more (48 + rest % 10) (256 * number_of p.done)) in
    let k : number_of ((48 + rest % 10) ∷ p.done) ≤ number_of (digits n) = rw m.2 (least (last_digits m.0 (rest / 10)) ((48 + rest % 10) ∷ p.done)) in
    sym (digit_test low high n a b ∙ ne_eqb _ _ (clash (256 ^ 16) _ _ _ (below low high a b) (mul-le-mul_left {m = 2 ^ 120} {n = number_of p.done} 256 w) (le_trans g k)))

-- ---- below 0

high_bytes : (x : ℕ) → Word x → x / 256 < 2 ^ 56
high_bytes x h = omega arith

placed : (q r : ℕ) → q < 2 ^ 56 → r < 256 → q + r * 2 ^ 56 < 2 ^ 64
placed q r a b = omega arith

rest_is : (low high : ℕ) → low % 256 ≡ 45 → 45 + 256 * words_number (low / 256 + high % 256 * 2 ^ 56) (high / 256) ≡ words_number low high
rest_is low high e = omega arith

pub rest_fits : (low high : ℕ) → Word low → low / 256 + high % 256 * 2 ^ 56 < 2 ^ 64
rest_fits low high l = placed (low / 256) (high % 256) (high_bytes low l) (omega arith)

module _ (low high n : ℕ) (l : Word low) (h : Word high) where
  negated : is_negated low high n ≡ eqb (words_number low high) (45 + 256 * number_of (digits n))
  unfolding is_negated number_of
  negated = is_text_lem low high l h (45 ∷ digits n) (omega arith, (omega arith, last_chars n n))

  pub no_minus : (low % 256 ≡ 45 → ⊥) → false ≡ is_negated low high n
  no_minus e = sym (negated ∙ ne_eqb _ _ (λ (t : words_number low high ≡ 45 + 256 * number_of (digits n)). e (first low high (number_of (digits n)) t)))
    where
      first : (low high x : ℕ) → words_number low high ≡ 45 + 256 * x → low % 256 ≡ 45
      first low high x e = omega arith

  pub after_minus : low % 256 ≡ 45 → is_digits (low / 256 + high % 256 * 2 ^ 56) (high / 256) n ≡ is_negated low high n
  after_minus e =
      digit_test (low / 256 + high % 256 * 2 ^ 56) (high / 256) n (rest_fits low high l) (omega (arith, high_bytes high h))
      ∙ shift (words_number (low / 256 + high % 256 * 2 ^ 56) (high / 256)) (number_of (digits n)) (words_number low high) (rest_is low high e)
      ∙ sym negated
    where
      shift : (a b c : ℕ) → 45 + 256 * a ≡ c → eqb a b ≡ eqb c (45 + 256 * b)
      shift a b c e = same_test a b c (45 + 256 * b) (λ t. omega (arith, t)) (λ t. omega (arith, t))

-- ---- by sign

module _ (low high m : ℕ) (l : Word low) (h : Word high) where
  pub below_zero : (z : ℤ) → lt_z z (pos 0) ≡ true → m ≡ nat_abs z → is_negated low high m ≡ is_decimal low high z
  unfolding is_negated is_decimal decimal
  below_zero (pos a) t e = absurd (omega (arith, ltb-true a 0 t))
  below_zero (negsuc a) t e = ap (λ (x : ℕ). is_text low high (45 ∷ digits x)) e

  pub zero_text_lem : (z : ℤ) → lt_z z (pos 0) ≡ false → m ≡ nat_abs z → m ≡ 0 → (eqb low 48 && eqb high 0) ≡ is_decimal low high z
  unfolding is_decimal decimal number_of
  zero_text_lem (pos a) t e f = short_test low high l h (48 ∷ []) (omega arith, (omega arith, tt)) (omega arith) ∙ ap (λ (b : Bool). is_text low high (cond b (48 ∷ []) (digits a))) (sym (eq-eqb a 0 (sym e ∙ f)))
  zero_text_lem (negsuc a) t e f = absurd (true≢false t)

  pub above_zero : (z : ℤ) → lt_z z (pos 0) ≡ false → m ≡ nat_abs z → (m ≡ 0 → ⊥) → is_digits low high m ≡ is_decimal low high z
  unfolding is_digits is_decimal decimal
  above_zero (pos a) t e f = ap (λ (x : ℕ). is_text low high (digits x)) e ∙ ap (λ (b : Bool). is_text low high (cond b (48 ∷ []) (digits a))) (sym (ne_eqb a 0 (λ z. f (e ∙ z))))
  above_zero (negsuc a) t e f = absurd (true≢false t)
