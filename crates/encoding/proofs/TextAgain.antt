-- A text record that question 4 lets through is the bytes of the text that it says, its length too.
use Prim.Native.Nat.{ℕ, zero, suc, ◌+◌, ◌*◌, ◌/◌, ◌%◌, ◌^◌, ◌≤◌, ◌<◌}
use native.Mathlib.Omega.{arith}
use native.Mathlib.Numerals.{add-one}
use native.Mathlib.Nat.{zero-add, suc-add, pow-succ', mul_assoc}
use mathlib.Core.Path.{◌≡◌, refl, sym, ap, ap₂, ◌∙◌}
use mathlib.Core.Bool.{Bool, true, false}
use mathlib.Core.List.{List, ◌∷◌, ◌++◌}
use lib.Dec.{leb, ltb}
use lib.ListN.{length, take, drop, length-drop}
use lib.Seq.{drop-cons, drop-drop, take-add, length-take-le}
use borrow.Author.Tests.{ltb-true, ltb-false, leb-true, eqb-true, lt-ltb, le-ltb}
use Rattle.std.proofs.lemmas.Bool.{and_parts}
use Rattle.text.specs.Text.{used_bytes, text_of, text_length, words_number}
use Rattle.text.specs.Listed.{is_char, are_chars, text_value_size, is_listed_text}
use Rattle.text.proofs.Lengths.{no_bytes, first_byte}
use Rattle.encoding.specs.Numbers.{byte, number_at, u64_at, bytes_of}
use Rattle.encoding.specs.Values.{TextRead}

-- ---- bytes that were read are written again

module _ (s : List ℕ) (small : (k : ℕ) → byte s k < 256) where
  bytes_again : (n j : ℕ) → j + n ≤ length s → bytes_of n (number_at n s j) ≡ take n (drop j s)
  unfolding bytes_of number_at
  bytes_again zero j h = refl
  bytes_again (suc n) j h =
      let low : (byte s j + 256 * number_at n s (j + 1)) % 256 ≡ byte s j = omega (arith, small j) in
      let rest : (byte s j + 256 * number_at n s (j + 1)) / 256 ≡ number_at n s (j + 1) = omega (arith, small j) in
      rw (low, rest, drop-cons s j 0 (omega arith))
      (ap (λ (l : List ℕ). byte s j ∷ l) (bytes_again n (j + 1) (omega arith) ∙ ap (λ (i : ℕ). take n (drop i s)) (add-one j)))

-- ---- the length

-- what question 4 says of each byte
record Used (l n : ℕ) (s : List ℕ) (at : ℕ) : Type 0 where
  some : (k : ℕ) → k < n → k < l → 0 < byte s (at + k)
  none : (k : ℕ) → k < n → l ≤ k → byte s (at + k) ≡ 0

char : (l n : ℕ) (s : List ℕ) (at : ℕ) → are_chars l n s at ≡ true → (k : ℕ) → k < n → is_char l k (byte s (at + k)) ≡ true
unfolding are_chars
char l zero s at e k h = absurd (omega arith)
char l (suc n) s at e k h = pick (λ i. char l n s at (and_parts (are_chars l n s at) _ e).0 k i) (ltb k n) refl
  where
    pick : (k < n → is_char l k (byte s (at + k)) ≡ true) → (b : Bool) → ltb k n ≡ b → is_char l k (byte s (at + k)) ≡ true
    pick f true i = f (ltb-true k n i)
    pick f false i = let z : n ≡ k = omega (arith, ltb-false k n i) in rw z at (and_parts (are_chars l n s at) (is_char l n (byte s (at + n))) e).1

used : (l n : ℕ) (s : List ℕ) (at : ℕ) → are_chars l n s at ≡ true → Used l n s at
used l n s at e =
    record {
      some = λ k h i. omega (arith, leb-true 32 (byte s (at + k)) (and_parts (leb 32 (byte s (at + k))) (leb (byte s (at + k)) 126) (rw (lt-ltb k l i) at (char l n s at e k h))).0);
      none = λ k h i. eqb-true (byte s (at + k)) 0 (rw (le-ltb k l i) at (char l n s at e k h));
    }

after : (l n : ℕ) (s : List ℕ) (at : ℕ) → Used (suc l) (suc n) s at → Used l n s (at + 1)
after l n s at u =
    record {
      some = λ k h i. rw (shift k) (u.some (suc k) (omega arith) (omega arith));
      none = λ k h i. ap (byte s) (shift k) ∙ u.none (suc k) (omega arith) (omega arith);
    }
  where
    shift : (k : ℕ) → at + 1 + k ≡ at + suc k
    shift k = omega arith

nothing : (n : ℕ) (s : List ℕ) (at : ℕ) → ((k : ℕ) → k < n → byte s (at + k) ≡ 0) → number_at n s at ≡ 0
unfolding number_at
nothing zero s at f = refl
nothing (suc n) s at f =
    let low : byte s at ≡ 0 = ap (byte s) (omega arith) ∙ f 0 (omega arith) in
    let rest : number_at n s (at + 1) ≡ 0 = nothing n s (at + 1) (λ k h. ap (byte s) (omega arith) ∙ f (suc k) (omega arith)) in
    omega (arith, low, rest)

used_bytes_lem : (n l : ℕ) (s : List ℕ) (at : ℕ) → ((k : ℕ) → byte s k < 256) → l ≤ n → at + n ≤ length s → Used l n s at → used_bytes n (number_at n s at) ≡ take l (drop at s)
used_bytes_lem n zero s at small h room u = ap (used_bytes n) (nothing n s at (λ k i. u.none k i (omega arith))) ∙ no_bytes n
used_bytes_lem zero (suc l) s at small h room u = absurd (omega arith)
used_bytes_lem (suc n) (suc l) s at small h room u =
    let x : number_at (suc n) s at ≡ byte s at + 256 * number_at n s (at + 1) = unfold number_at in refl in
    let b : 0 < byte s at = rw (zero_place at) at (u.some 0 (omega arith) (omega arith)) in
    let low : number_at (suc n) s at % 256 ≡ byte s at = omega (arith, x, small at) in
    let rest : number_at (suc n) s at / 256 ≡ number_at n s (at + 1) = omega (arith, x, small at) in
    first_byte n (number_at (suc n) s at) (omega (arith, x))
    ∙ ap₂ (λ (y z : ℕ). y ∷ used_bytes n z) low rest
    ∙ ap (λ (r : List ℕ). byte s at ∷ r) (used_bytes_lem n l s (at + 1) small (omega arith) (omega arith) (after l n s at u) ∙ ap (λ (k : ℕ). take l (drop k s)) (add-one at))
    ∙ ap (take (suc l)) (sym (drop-cons s at 0 (omega arith)))
  where
    zero_place : (i : ℕ) → i + 0 ≡ i
    zero_place i = omega arith

-- two words are one number of 16 bytes
split : (m n : ℕ) (s : List ℕ) (i : ℕ) → number_at (m + n) s i ≡ number_at m s i + 256 ^ m * number_at n s (i + m)
unfolding number_at
split zero n s i =
    let e : number_at n s (i + 0) ≡ number_at n s i = ap (number_at n s) (omega arith) in
    ap (λ (k : ℕ). number_at k s i) (zero-add n) ∙ omega (arith, e)
split (suc m) n s i =
    let p : 256 ^ suc m * number_at n s (i + suc m) ≡ 256 * (256 ^ m * number_at n s (i + suc m)) = ap (λ (x : ℕ). x * number_at n s (i + suc m)) (pow-succ' 256 m) ∙ mul_assoc 256 (256 ^ m) (number_at n s (i + suc m)) in
    let at : i + 1 + m ≡ i + suc m = omega arith in
    ap (λ (k : ℕ). number_at k s i) (suc-add m n)
    ∙ ap (λ (x : ℕ). byte s i + 256 * x) (split m n s (i + 1) ∙ ap (λ (j : ℕ). number_at m s (i + 1) + 256 ^ m * number_at n s j) at)
    ∙ omega (arith, p)

-- THE LAW
pub text_read : (s : List ℕ) (i : ℕ) → ((k : ℕ) → byte s k < 256) → i + text_value_size ≤ length s → is_listed_text s i ≡ true → TextRead s i
unfolding is_listed_text
text_read s i small room e =
    let few : byte s i ≤ 16 = leb-true (byte s i) 16 (and_parts (leb (byte s i) 16) _ e).0 in
    let chars : Used (byte s i) 16 s (i + 1) = used (byte s i) 16 s (i + 1) (and_parts (leb (byte s i) 16) _ e).1 in
    let nine : i + 1 + 8 ≡ i + 9 = omega arith in
    let words : number_at 16 s (i + 1) ≡ words_number (u64_at s (i + 1)) (u64_at s (i + 9)) = split 8 8 s (i + 1) ∙ ap (λ (j : ℕ). u64_at s (i + 1) + 2 ^ 64 * u64_at s j) nine in
    let text : text_of (u64_at s (i + 1)) (u64_at s (i + 9)) ≡ take (byte s i) (drop (i + 1) s) = ap (used_bytes 16) (sym words) ∙ used_bytes_lem 16 (byte s i) s (i + 1) small few (omega arith) chars in
    let long : text_length (u64_at s (i + 1)) (u64_at s (i + 9)) ≡ byte s i = ap length text ∙ length-take-le (byte s i) (drop (i + 1) s) (omega (arith, length-drop (i + 1) s)) in
    let high : bytes_of 8 (u64_at s (i + 9)) ≡ take 8 (drop 8 (drop (i + 1) s)) = bytes_again s small 8 (i + 9) (omega arith) ∙ ap (take 8) (ap (λ (j : ℕ). drop j s) (sym nine) ∙ sym (drop-drop 8 (i + 1) s)) in
    let low : bytes_of 8 (u64_at s (i + 1)) ≡ take 8 (drop (i + 1) s) = bytes_again s small 8 (i + 1) (omega arith) in
    record {
      used = text;
      again =
          ap₂ (λ (b : ℕ) (l : List ℕ). b ∷ l) long (ap₂ (λ (a b : List ℕ). a ++ b) low high ∙ sym (take-add 8 8 (drop (i + 1) s)))
          ∙ sym (ap (take text_value_size) (drop-cons s i 0 (omega arith) ∙ ap (λ (j : ℕ). byte s i ∷ drop j s) (sym (add-one i))));
    }
