-- What a gate gives, from what its rule gives of the operands that were read.
use Rattle.std.specs.Prelude.{Option, None, Some, MatchOption}
use Prim.Native.Nat.{ℕ}
use mathlib.Core.Path.{◌≡◌, refl, sym, ◌∙◌}
use mathlib.Core.Bool.{Bool, true, false}
use lib.Dec.{eqb}
use lib.IntN.{ℤ}
use lib.Ieee.{Float, nan, inf, fin, ne, is_nan}
use borrow.Author.Tests.{eq-eqb}
use Rattle.extended.specs.Extended.{on_int_else, on_float}
use Rattle.value.specs.declared.Value.{Value}

pub on_float_lem : (o : Option Float) {P : Float → Type 0} {r : Option Value} (f : Float → Option Value) → ((x : Float) → P x → r ≡ f x) → MatchOption o (r ≡ None) P → r ≡ on_float o f
unfolding on_float
on_float_lem None f rule h = h
on_float_lem (Some x) f rule h = rule x h

pub on_floats_lem : (o q : Option Float) {P : Float → Float → Type 0} {r : Option Value} (f : Float → Float → Option Value) → ((x y : Float) → P x y → r ≡ f x y)
    → MatchOption o (r ≡ None) (λ x. MatchOption q (r ≡ None) (P x)) → r ≡ on_float o (λ x. on_float q (f x))
on_floats_lem o q f rule = on_float_lem o (λ x. on_float q (f x)) (λ x. on_float_lem q (f x) (rule x))

-- the same where the first operand is read as the second
pub on_floats_swapped : (o q : Option Float) {P : Float → Float → Type 0} {r : Option Value} (f : Float → Float → Option Value) → ((x y : Float) → P x y → r ≡ f y x)
    → MatchOption o (r ≡ None) (λ x. MatchOption q (r ≡ None) (P x)) → r ≡ on_float q (λ y. on_float o (f y))
unfolding on_float
on_floats_swapped None None f rule h = h
on_floats_swapped None (Some y) f rule h = h
on_floats_swapped (Some x) None f rule h = h
on_floats_swapped (Some x) (Some y) f rule h = rule x y h

pub no_int_lem : {o a : Option ℤ} {other r : Option Value} (f : ℤ → Option Value) → o ≡ a → o ≡ None → r ≡ other → r ≡ on_int_else a other f
unfolding on_int_else
no_int_lem f p q h = rw (← p, q) h

-- two that are read as whole numbers, else otherwise
pub on_ints_lem : (o q : Option ℤ) {P : ℤ → ℤ → Type 0} {L : Type 0} {other r : Option Value} (f : ℤ → ℤ → Option Value) → ((m n : ℤ) → P m n → r ≡ f m n) → (L → r ≡ other)
    → MatchOption o L (λ m. MatchOption q L (P m)) → r ≡ on_int_else o other (λ m. on_int_else q other (f m))
unfolding on_int_else
on_ints_lem None q f rule otherwise h = otherwise h
on_ints_lem (Some m) None f rule otherwise h = otherwise h
on_ints_lem (Some m) (Some n) f rule otherwise h = rule m n h

pub on_ints_swapped : (o q : Option ℤ) {P : ℤ → ℤ → Type 0} {L : Type 0} {other r : Option Value} (f : ℤ → ℤ → Option Value) → ((m n : ℤ) → P m n → r ≡ f n m) → (L → r ≡ other)
    → MatchOption o L (λ m. MatchOption q L (P m)) → r ≡ on_int_else q other (λ n. on_int_else o other (f n))
unfolding on_int_else
on_ints_swapped None None f rule otherwise h = otherwise h
on_ints_swapped None (Some n) f rule otherwise h = otherwise h
on_ints_swapped (Some m) None f rule otherwise h = otherwise h
on_ints_swapped (Some m) (Some n) f rule otherwise h = rule m n h

-- ---- Only a NaN differs from itself

equals_itself : (n : ℕ) → eqb n n ≡ true
equals_itself n = eq-eqb n n refl

differs : (x : Float) → ne x x ≡ is_nan x
unfolding ne is_nan
differs nan = refl
differs (inf true) = refl
differs (inf false) = refl
differs (fin true m e) = rw equals_itself
differs (fin false m e) = rw equals_itself

pub nan_test : {b : Bool} (x : Float) → ne x x ≡ b → is_nan x ≡ b
nan_test x e = sym (differs x) ∙ e
