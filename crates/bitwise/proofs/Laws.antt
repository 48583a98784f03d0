-- What a gate gives, from what its rule gives of the operands that were read.
use Rattle.std.specs.Prelude.{ℤ, Option, None, Some, MatchOption}
use mathlib.Core.Path.{◌≡◌}
use Rattle.bitwise.specs.Bitwise.{on_int}
use Rattle.value.specs.declared.Value.{Value}

pub on_int_lem : (o : Option ℤ) {P : ℤ → Type 0} {r : Option Value} (f : ℤ → Option Value) → ((n : ℤ) → P n → r ≡ f n) → MatchOption o (r ≡ None) P → r ≡ on_int o f
unfolding on_int
on_int_lem None f rule h = h
on_int_lem (Some n) f rule h = rule n h

pub on_ints_lem : (o q : Option ℤ) {P : ℤ → ℤ → Type 0} {r : Option Value} (f : ℤ → ℤ → Option Value) → ((m n : ℤ) → P m n → r ≡ f m n)
    → MatchOption o (r ≡ None) (λ m. MatchOption q (r ≡ None) (P m)) → r ≡ on_int o (λ m. on_int q (f m))
on_ints_lem o q f rule = on_int_lem o (λ m. on_int q (f m)) (λ m. on_int_lem q (f m) (rule m))
