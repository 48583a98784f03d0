-- Document 01, "Equal: .. text .. with Int by its plain decimal form", which has no plus, no leading zeros and no `-0`.
use Rattle.std.specs.Prelude.{ℕ, zero, suc, ◌+◌, ◌-◌, ◌*◌, ◌/◌, ◌%◌, ◌≤◌, ◌<◌, ◌≡◌, Bool, cond, List, [], ◌∷◌, ◌++◌, eqb, ℤ, pos, negsuc}
use Rattle.text.specs.Text.{is_text}

-- the byte of the digit 0, and that of a minus sign
abbrev pub zero_digit : ℕ
zero_digit = 48

abbrev pub minus_sign : ℕ
minus_sign = 45

-- the last n digits of a number, or all where it has fewer; 0 has none
unfoldable pub last_digits : ℕ → ℕ → List ℕ
last_digits zero m = []
last_digits (suc n) m = cond (eqb m 0) [] (last_digits n (m / 10) ++ ((zero_digit + m % 10) ∷ []))

-- a number has no more digits than it counts
abbrev pub digits : ℕ → List ℕ
digits m = last_digits m m

unfoldable pub decimal : ℤ → List ℕ
decimal (pos m) = cond (eqb m 0) (zero_digit ∷ []) (digits m)
decimal (negsuc m) = minus_sign ∷ digits (suc m)

unfoldable pub is_decimal : ℕ → ℕ → ℤ → Bool
is_decimal low high n = is_text low high (decimal n)

-- ---- that this is the plain form

-- digits read from the first on, after the number that those before them say
unfoldable pub read_after : ℕ → List ℕ → ℕ
read_after n [] = n
read_after n (d ∷ ds) = read_after (10 * n + (d - zero_digit)) ds

abbrev pub AreDigits : List ℕ → Type 0
AreDigits [] = Unit {0}
AreDigits (d ∷ ds) = ((zero_digit ≤ d) × (d ≤ zero_digit + 9)) × AreDigits ds

-- the first digit isn't 0
abbrev pub StartsAboveZero : List ℕ → Type 0
StartsAboveZero [] = Unit {0}
StartsAboveZero (d ∷ ds) = zero_digit < d

-- digits alone, which say the number, and none too many in front
pub record Says (ds : List ℕ) (m : ℕ) : Type 0 where
  pub digits_alone : AreDigits ds
  pub reads : read_after 0 ds ≡ m
  pub no_zeros : 0 < m → StartsAboveZero ds

-- the form of 0 is one digit; below 0 a minus sign stands before the digits
unfoldable pub IsPlain : ℤ → List ℕ → Type 0
IsPlain (pos zero) bs = bs ≡ zero_digit ∷ []
IsPlain (pos (suc m)) bs = Says bs (suc m)
IsPlain (negsuc m) [] = ⊥
IsPlain (negsuc m) (b ∷ bs) = (b ≡ minus_sign) × Says bs (suc m)

-- ---- digits and a minus sign by themselves

unfoldable pub is_digits : ℕ → ℕ → ℕ → Bool
is_digits low high m = is_text low high (digits m)

unfoldable pub is_negated : ℕ → ℕ → ℕ → Bool
is_negated low high m = is_text low high (minus_sign ∷ digits m)
