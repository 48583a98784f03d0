-- What the decimal form says: it reads as its number, and no digit 0 stands first but in `0`.
use Prim.Native.Nat.{ℕ, zero, suc, ◌+◌, ◌-◌, ◌*◌, ◌/◌, ◌%◌, ◌≤◌, ◌<◌}
use native.Mathlib.Omega.{arith}
use mathlib.Core.Path.{◌≡◌, refl, sym, ap, ◌∙◌}
use mathlib.Core.Bool.{Bool, true, false, cond}
use mathlib.Core.List.{List, [], ◌∷◌, ◌++◌}
use lib.Dec.{eqb}
use lib.ListN.{length}
use lib.IntN.{ℤ, pos, negsuc}
use borrow.Author.Tests.{eqb-true, eqb-false, ne_eqb}
use Rattle.text.specs.Text.{max_text, used_bytes, words_number, text_of, is_text}
use Rattle.text.proofs.Texts.{bytes_same}
use Rattle.text.specs.Decimal.{last_digits, digits, decimal, is_decimal, read_after, AreDigits, StartsAboveZero, Says, IsPlain}

one_more : (n : ℕ) (ds : List ℕ) (d : ℕ) → read_after n (ds ++ (d ∷ [])) ≡ 10 * read_after n ds + (d - 48)
unfolding read_after
one_more n [] d = refl
one_more n (e ∷ ds) d = one_more (10 * n + (e - 48)) ds d

-- THE LAW
reads : (n m : ℕ) → m ≤ n → read_after 0 (last_digits n m) ≡ m
unfolding read_after last_digits
reads zero m h = omega arith
reads (suc n) m h = pick (reads n (m / 10)) (eqb m 0) refl
  where
    pick : (m / 10 ≤ n → read_after 0 (last_digits n (m / 10)) ≡ m / 10) → (b : Bool) → eqb m 0 ≡ b → read_after 0 (cond b [] (last_digits n (m / 10) ++ ((48 + m % 10) ∷ []))) ≡ m
    pick f true e = sym (eqb-true m 0 e)
    pick f false e =
        let some : m ≡ 0 → ⊥ = eqb-false m 0 e in
        one_more 0 (last_digits n (m / 10)) (48 + m % 10) ∙ omega (arith, f (omega (arith, some)))

starts_of : (xs : List ℕ) (d : ℕ) → StartsAboveZero xs → (xs ≡ [] → 48 < d) → StartsAboveZero (xs ++ (d ∷ []))
starts_of [] d h f = f refl
starts_of (x ∷ xs) d h f = h

none_left : (n m : ℕ) → m ≤ n → last_digits n m ≡ [] → m ≡ 0
unfolding read_after
none_left n m h e = sym (reads n m h) ∙ ap (read_after 0) e

starts : (n m : ℕ) → m ≤ n → StartsAboveZero (last_digits n m)
unfolding last_digits
starts zero m h = tt
starts (suc n) m h = pick (starts n (m / 10)) (eqb m 0) refl
  where
    pick : (m / 10 ≤ n → StartsAboveZero (last_digits n (m / 10))) → (b : Bool) → eqb m 0 ≡ b → StartsAboveZero (cond b [] (last_digits n (m / 10) ++ ((48 + m % 10) ∷ [])))
    pick f true e = tt
    pick f false e =
        let some : m ≡ 0 → ⊥ = eqb-false m 0 e in
        let less : m / 10 ≤ n = omega (arith, some) in
        starts_of (last_digits n (m / 10)) (48 + m % 10) (f less) (λ z. omega (arith, none_left n (m / 10) less z, some))

all_of : (xs : List ℕ) (d : ℕ) → AreDigits xs → d < 10 → AreDigits (xs ++ ((48 + d) ∷ []))
all_of [] d h f = ((omega arith, omega arith), tt)
all_of (x ∷ xs) d h f = (h.0, all_of xs d h.1 f)

all_digits : (n m : ℕ) → AreDigits (last_digits n m)
unfolding last_digits
all_digits zero m = tt
all_digits (suc n) m = pick (all_digits n (m / 10)) (eqb m 0)
  where
    pick : AreDigits (last_digits n (m / 10)) → (b : Bool) → AreDigits (cond b [] (last_digits n (m / 10) ++ ((48 + m % 10) ∷ [])))
    pick r true = tt
    pick r false = all_of (last_digits n (m / 10)) (m % 10) r (omega arith)

says : (m : ℕ) → Says (digits m) m
says m = record { digits_alone = all_digits m m; reads = reads m m (omega arith); no_zeros = λ h. starts m m (omega arith) }

plain : (n : ℤ) → IsPlain n (decimal n)
unfolding decimal IsPlain
plain (pos zero) = refl
plain (pos (suc m)) = rw (ne_eqb (suc m) 0 (λ (e : suc m ≡ 0). omega arith)) (says (suc m))
plain (negsuc m) = (refl, says (suc m))

-- ---- no text is longer than its room

few_bytes : (n x : ℕ) → length (used_bytes n x) ≤ n
unfolding used_bytes
few_bytes zero x = omega arith
few_bytes (suc n) x = pick (few_bytes n (x / 256)) (eqb x 0)
  where
    pick : length (used_bytes n (x / 256)) ≤ n → (b : Bool) → length (cond b [] (x % 256 ∷ used_bytes n (x / 256))) ≤ suc n
    pick h true = omega arith
    pick h false = omega arith

too_long : (low high : ℕ) (n : ℤ) {t : Bool} → t ≡ is_decimal low high n → max_text < length (decimal n) → t ≡ false
unfolding is_decimal
too_long low high n e h = e ∙ pick (is_text low high (decimal n)) refl
  where
    pick : (b : Bool) → is_text low high (decimal n) ≡ b → b ≡ false
    pick true q = absurd (omega (arith, h, few_bytes max_text (words_number low high), ap length (bytes_same (text_of low high) (decimal n) q)))
    pick false q = refl

-- what is told of an Int beside a text
pub told : (low high : ℕ) (n : ℤ) {t : Bool} → t ≡ is_decimal low high n → (t ≡ is_decimal low high n) × (IsPlain n (decimal n) × (max_text < length (decimal n) → t ≡ false))
told low high n e = (e, (plain n, too_long low high n e))
