-- Of two floats that differ in a bit, NaNs aside, one precedes the other. So minimum_number gives the operand that none precedes, and maximum_number the one that
-- precedes none, whichever stands first.
use Prim.Native.Nat.{ℕ, zero, suc, ◌+◌, ◌*◌}
use mathlib.Core.Path.{◌≡◌, refl, sym, ap, ◌∙◌}
use mathlib.Core.Bool.{Bool, true, false, ◌&&◌, ◌||◌, cond, true≢false, false≢true}
use mathlib.Core.Logic.{inl, inr}
use native.Mathlib.Omega.{arith}
use denote.Floats.{passes}
use borrow.Author.Tests.{lt-ltb}
use lib.Dec.{T, eqb, ltb}
use lib.IntN.{ℤ, pos, negsuc}
use lib.Signed.{mag, non_neg, lt_z}
use lib.Ieee.{Float, nan, inf, fin, binary64, up, down, level, lt, eq, is_nan, fits}
use lib.Ieee.Fits.{down_pos}
use Rattle.ieee.proofs.Bits.{same_value}
use Rattle.whole.proofs.Order.{lt_z_asymmetric, lt_z_total}
use Rattle.extended.specs.Extremes.{precedes, follows, extreme_number, Extreme}

-- ---- Finite floats stand as the Ints of their sign and size do, with -0.0 as -1

abbrev key : Bool → ℕ → ℤ
key false a = pos a
key true a = negsuc a

same_key : (s : Bool) (a : ℕ) (t : Bool) (b : ℕ) → key s a ≡ key t b → (s ≡ t) × (a ≡ b)
same_key false a false b h = (refl, ap mag h)
same_key false a true b h = absurd (true≢false (ap non_neg h))
same_key true a false b h = absurd (false≢true (ap non_neg h))
same_key true a true b h = (refl, ap mag h)

by_value : (p q : Bool) → p || (q && false) ≡ p
by_value true q = refl
by_value false true = refl
by_value false false = refl

minus_first : (a b : ℕ) → ltb 0 (a + b) || ((eqb a b && eqb a 0) && true) ≡ true
minus_first zero zero = refl
minus_first zero (suc b) = rw (lt-ltb 0 (zero + suc b) (omega arith))
minus_first (suc a) b = rw (lt-ltb 0 (suc a + b) (omega arith))

finite_order : (s : Bool) (m : ℕ) (e : ℤ) (t : Bool) (n : ℕ) (d : ℤ) → precedes (fin s m e) (fin t n d) ≡ lt_z (key s (m * up e * down d)) (key t (n * up d * down e))
unfolding precedes lt eq
finite_order false m e false n d = by_value (ltb (m * up e * down d) (n * up d * down e)) (level false (m * up e * down d) false (n * up d * down e))
finite_order false m e true n d = by_value false (level false (m * up e * down d) true (n * up d * down e))
finite_order true m e false n d = minus_first (m * up e * down d) (n * up d * down e)
finite_order true m e true n d = by_value (ltb (n * up d * down e) (m * up e * down d)) (level true (m * up e * down d) true (n * up d * down e))

-- ---- All floats

precedes_asymmetric : (x y : Float) → precedes x y ≡ true → precedes y x ≡ false
unfolding precedes lt eq
precedes_asymmetric nan y h = cc
precedes_asymmetric (inf s) nan h = refl
precedes_asymmetric (inf true) (inf true) h = refl
precedes_asymmetric (inf true) (inf false) h = refl
precedes_asymmetric (inf false) (inf true) h = cc
precedes_asymmetric (inf false) (inf false) h = refl
precedes_asymmetric (inf true) (fin t n d) h = refl
precedes_asymmetric (inf false) (fin t n d) h = cc
precedes_asymmetric (fin s m e) nan h = refl
precedes_asymmetric (fin s m e) (inf true) h = cc
precedes_asymmetric (fin s m e) (inf false) h = refl
precedes_asymmetric (fin s m e) (fin t n d) h = finite_order t n d s m e ∙ lt_z_asymmetric (key s _) (key t _) (sym (finite_order s m e t n d) ∙ h)

precedes_total : (x y : Float) → T (fits binary64 x) → T (fits binary64 y) → is_nan x ≡ false → is_nan y ≡ false → precedes x y ≡ false → precedes y x ≡ false → x ≡ y
unfolding precedes lt eq is_nan
precedes_total nan y p q i j f g = cc
precedes_total (inf s) nan p q i j f g = cc
precedes_total (inf true) (inf true) p q i j f g = refl
precedes_total (inf true) (inf false) p q i j f g = cc
precedes_total (inf false) (inf true) p q i j f g = cc
precedes_total (inf false) (inf false) p q i j f g = refl
precedes_total (inf true) (fin t n d) p q i j f g = cc
precedes_total (inf false) (fin t n d) p q i j f g = cc
precedes_total (fin s m e) nan p q i j f g = cc
precedes_total (fin s m e) (inf true) p q i j f g = cc
precedes_total (fin s m e) (inf false) p q i j f g = cc
precedes_total (fin s m e) (fin t n d) p q i j f g =
    let r = same_key s _ t _ (lt_z_total (key s _) (key t _) (sym (finite_order s m e t n d) ∙ f) (sym (finite_order t n d s m e) ∙ g)) in
    same_value (fin s m e) (fin t n d) s (m * up e) (down e) (down_pos e) p q (refl, refl) (sym r.0, sym r.1)

precedes_no_nan : (x y : Float) → precedes x y ≡ true → (is_nan x ≡ false) × (is_nan y ≡ false)
unfolding precedes lt eq is_nan
precedes_no_nan nan y h = absurd (false≢true h)
precedes_no_nan (inf s) nan h = absurd (false≢true h)
precedes_no_nan (inf s) (inf t) h = (refl, refl)
precedes_no_nan (inf s) (fin t n d) h = (refl, refl)
precedes_no_nan (fin s m e) nan h = absurd (false≢true h)
precedes_no_nan (fin s m e) (inf t) h = (refl, refl)
precedes_no_nan (fin s m e) (fin t n d) h = (refl, refl)

-- of two floats that differ, NaNs aside, one stands before the other and not the other before it; no NaN stands before any
pub record Trichotomous (before : Float → Float → Bool) : Type 0 where
  pub asymmetric : (x y : Float) → before x y ≡ true → before y x ≡ false
  pub total : (x y : Float) → T (fits binary64 x) → T (fits binary64 y) → is_nan x ≡ false → is_nan y ≡ false → before x y ≡ false → before y x ≡ false → x ≡ y
  pub no_nan : (x y : Float) → before x y ≡ true → is_nan x ≡ false

pub precedes_trichotomous : Trichotomous precedes
precedes_trichotomous = record { asymmetric = precedes_asymmetric; total = precedes_total; no_nan = λ x y h. (precedes_no_nan x y h).0 }

pub follows_trichotomous : Trichotomous follows
follows_trichotomous =
    record {
      asymmetric = λ x y. precedes_asymmetric y x;
      total = λ x y p q i j f g. precedes_total x y p q i j g f;
      no_nan = λ x y h. (precedes_no_nan y x h).1;
    }

-- ---- The operand that comes first

not_itself : {before : Float → Float → Bool} → Trichotomous before → (x : Float) → before x x ≡ false
not_itself {before} o x = go (before x x) refl
  where
    go : (b : Bool) → before x x ≡ b → b ≡ false
    go false h = refl
    go true h = sym h ∙ o.asymmetric x x h

is_nan_lem : (x : Float) → is_nan x ≡ true → x ≡ nan
unfolding is_nan
is_nan_lem nan h = refl
is_nan_lem (inf s) h = cc
is_nan_lem (fin s m e) h = cc

neither : (i j : Bool) → j ≡ false → j ≡ i && j
neither true j h = refl
neither false j h = h

extreme : (before : Float → Float → Bool) → Trichotomous before → (x y : Float) → Extreme before x y (extreme_number before x y)
extreme before o x y = go (before x y) (before y x) (is_nan x) refl refl refl
  where
    go : (b c i : Bool) → before x y ≡ b → before y x ≡ c → is_nan x ≡ i → Extreme before x y (cond b x (cond c y (cond i y x)))
    go true c i f g k =
        record { operand = inl refl; same = λ h. refl; number = rw (o.no_nan x y f); x_not_before = not_itself o x; y_not_before = o.asymmetric x y f }
    go false true i f g k =
        record { operand = inr refl; same = λ h. sym h; number = neither (is_nan x) (is_nan y) (o.no_nan y x g); x_not_before = f; y_not_before = not_itself o y }
    go false false true f g k =
        record { operand = inr refl; same = λ h. sym h; number = rw k; x_not_before = f; y_not_before = not_itself o y }
    go false false false f g k =
        record { operand = inl refl; same = λ h. refl; number = rw k; x_not_before = not_itself o x; y_not_before = g }

either_way : (before : Float → Float → Bool) → Trichotomous before → (x y : Float) → T (fits binary64 x) → T (fits binary64 y) → extreme_number before x y ≡ extreme_number before y x
either_way before o x y p q = go (before x y) (before y x) (is_nan x) (is_nan y) refl refl refl refl
  where
    go : (b c i j : Bool) → before x y ≡ b → before y x ≡ c → is_nan x ≡ i → is_nan y ≡ j → cond b x (cond c y (cond i y x)) ≡ cond c y (cond b x (cond j x y))
    go true true i j f g k l = absurd (true≢false (sym g ∙ o.asymmetric x y f))
    go true false i j f g k l = refl
    go false true i j f g k l = refl
    go false false true true f g k l = is_nan_lem y l ∙ sym (is_nan_lem x k)
    go false false true false f g k l = refl
    go false false false true f g k l = refl
    go false false false false f g k l = o.total x y p q k l f g

-- ---- What the functions ensure

-- as the code has it
by_two_tests : (before : Float → Float → Bool) → Trichotomous before → (x y : Float) → cond (is_nan x) y (cond (before y x) y x) ≡ extreme_number before x y
by_two_tests before o x y = go (before x y) (before y x) (is_nan x) refl refl refl
  where
    go : (b c i : Bool) → before x y ≡ b → before y x ≡ c → is_nan x ≡ i → cond i y (cond c y x) ≡ cond b x (cond c y (cond i y x))
    go true c i f g k = rw (sym k ∙ o.no_nan x y f, sym g ∙ o.asymmetric x y f)
    go false true true f g k = refl
    go false true false f g k = refl
    go false false i f g k = refl

pub ordered :
    {before : Float → Float → Bool} {r : Float} →
    Trichotomous before →
    (x y : Float) →
    fits binary64 x ≡ true →
    fits binary64 y ≡ true →
    r ≡ cond (is_nan x) y (cond (before y x) y x) →
    (r ≡ extreme_number before x y) × (Extreme before x y r × (r ≡ extreme_number before y x))
ordered {before} o x y p q h =
    let e = h ∙ by_two_tests before o x y in
    (e, (rw e (extreme before o x y), e ∙ either_way before o x y (passes _ p) (passes _ q)))
