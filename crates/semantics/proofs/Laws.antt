-- What later layers need of the gates: an annihilator's Bool decides AND and OR, and what a gate gives is finite or a non-finite Float.
use Rattle.std.specs.Prelude.{Option, None, Some}
use Prim.Native.Nat.{ℕ, zero, suc}
use mathlib.Core.Path.{◌≡◌, refl, sym, subst, ap}
use mathlib.Core.Bool.{Bool, true, false, not, cond, ◌&&◌, ◌||◌}
use mathlib.Core.Logic.{◌⊎◌, ⊎_elim}
use mathlib.Core.List.{List, [], ◌∷◌}
use lib.IntN.{ℤ}
use lib.Signed.{lt_z, le_z}
use lib.ListN.{get_or}
use lib.Ieee.{Float, lt, le, neg}
use Rattle.ieee.specs.Finite.{finite_of}
use Rattle.ieee.specs.Integral.{floor_of, ceil_of, round_of}
use Rattle.root.specs.Sqrt.{sqrt_of}
use Rattle.whole.specs.Checked.{checked_abs_of, checked_neg_of}
use Rattle.whole.specs.Bits.{shift_left_of, shift_right_of}
use Rattle.value.specs.declared.Value.{Value}
use Rattle.conversions.specs.Conversions.{truthy_of, math_in_of, as_float_of, as_int_of, only_int_of, given_int}
use Rattle.conversions.specs.declared.MathIn.{MathIn}
use Rattle.comparison.specs.Comparison as C
use Rattle.arithmetic.specs.Arithmetic as A
use Rattle.arithmetic.specs.declared.MathOp.{MathOp}
use Rattle.arithmetic.specs.declared.Vector.{Vector}
use Rattle.extended.specs.Extended as E
use Rattle.extended.specs.Extremes as X
use Rattle.bitwise.specs.Bitwise as B
use Rattle.semantics.specs.Eval.{Rule, rules, eval_of}
use Rattle.semantics.specs.Finite.{non_finite_float, finite_value}

-- nothing, a finite value or a non-finite Float
abbrev sound : Option Value → Bool
sound None = true
sound (Some v) = non_finite_float v || finite_value v

abbrev Sound : Option Value → Type 0
Sound r = sound r ≡ true

either : (b : Bool) → not b || b ≡ true
either true = refl
either false = refl

float : (x : Float) → Sound (Some (Value.Float x))
float x = either (finite_of x)

-- a value that is given where a test holds, and is sound where it does
where_so : (b : Bool) (v : Value) → (b ≡ true → Sound (Some v)) → Sound (cond b (Some v) None)
where_so true v s = s refl
where_so false v s = refl

finite : (x : Float) → Sound (E.given_finite x)
unfolding E.given_finite
finite x = where_so (finite_of x) (Value.Float x) (λ _. float x)

int : (r : Option ℤ) → Sound (given_int r)
int None = refl
int (Some n) = refl

bool : (r : Option Bool) → Sound (C.given r)
bool None = refl
bool (Some b) = refl

-- a rule on an operand that was read
on_float : (r : Option Float) (f : Float → Option Value) → ((x : Float) → Sound (f x)) → Sound (E.on_float r f)
unfolding E.on_float
on_float None f s = refl
on_float (Some x) f s = s x

on_int_else :
    (r : Option ℤ) (other : Option Value) (f : ℤ → Option Value) → Sound other → ((n : ℤ) → Sound (f n)) → Sound (E.on_int_else r other f)
unfolding E.on_int_else
on_int_else None other f o s = o
on_int_else (Some n) other f o s = s n

on_int : (r : Option ℤ) (f : ℤ → Option Value) → ((n : ℤ) → Sound (f n)) → Sound (B.on_int r f)
unfolding B.on_int
on_int None f s = refl
on_int (Some n) f s = s n

-- arithmetic
unless : (b : Bool) (x : Float) → Sound (cond b None (Some (Value.Float x)))
unless true x = refl
unless false x = float x

floats_math : (op : MathOp) (r q : Option Float) → Sound (A.floats_math op r q)
unfolding A.float_math
floats_math op (Some x) (Some y) = unless (A.refused_op op x y (A.float_op op x y)) (A.float_op op x y)
floats_math op (Some x) None = refl
floats_math op None q = refl

numbers_math : (op : MathOp) (r q : Option MathIn) → Sound (A.numbers_math op r q)
numbers_math op (Some (MathIn.I a)) (Some (MathIn.I b)) = int (A.whole_op op a b)
numbers_math op (Some (MathIn.I a)) (Some (MathIn.F y)) = floats_math op (A.as_real (MathIn.I a)) (Some y)
numbers_math op (Some (MathIn.F x)) (Some q) = floats_math op (Some x) (A.as_real q)
numbers_math op (Some (MathIn.I a)) None = refl
numbers_math op (Some (MathIn.F x)) None = refl
numbers_math op None q = refl

vector : (x y z : Float) → Sound (A.finite_vector x y z)
unfolding A.finite_vector
vector x y z = where_so (finite_of x && finite_of y && finite_of z) (Value.Vector x y z) (λ h. h)

vector_math : (op : MathOp) (r q : Option Vector) → Sound (A.vector_math op r q)
vector_math op (Some v) (Some w) = vector (A.float_op op v.x w.x) (A.float_op op v.y w.y) (A.float_op op v.z w.z)
vector_math op (Some v) None = refl
vector_math op None q = refl

choice : (b : Bool) (r q : Option Value) → Sound r → Sound q → Sound (cond b r q)
choice true r q s t = s
choice false r q s t = t

math : (op : MathOp) (a b : Option Value) → Sound (A.math_of op a b)
unfolding A.math_of
math op a b =
    choice (A.is_vector a || A.is_vector b) (A.vector_math op (A.spread a) (A.spread b)) (A.numbers_math op (math_in_of a) (math_in_of b))
    (vector_math op (A.spread a) (A.spread b))
    (numbers_math op (math_in_of a) (math_in_of b))

-- every rule of a list
abbrev All : List Rule → Type 0
All [] = Unit {0}
All (r ∷ rs) = ((a b c : Option Value) → Sound (r a b c)) × All rs

-- two operands read as whole numbers
ints :
    (a b : Option Value) (other : Option Value) (f : ℤ → ℤ → Option Value) → Sound other → ((m n : ℤ) → Sound (f m n)) →
    Sound (E.on_int_else (as_int_of a) other (λ m. E.on_int_else (as_int_of b) other (λ n. f m n)))
ints a b other f o s = on_int_else (as_int_of a) other _ o (λ m. on_int_else (as_int_of b) other (f m) o (s m))

clamp_floats : (a b c : Option Value) → Sound (E.clamp_floats a b c)
clamp_floats a b c =
    on_float (as_float_of a) _ (λ x. on_float (as_float_of b) _ (λ lo. on_float (as_float_of c) _ (λ hi. finite (E.clamp_float x lo hi))))

all_sound : All rules
unfolding C.equal_of C.not_equal_of C.less_of C.less_or_equal_of C.logical_and_of C.logical_or_of C.logical_xor_of C.logical_not_of C.logical_nand_of C.logical_nor_of
all_sound = (
  (λ a b c. refl),
  (
    (λ a b c. refl),
    (
      (λ a b c. refl),
      (
        (λ a b c. refl),
        (
          (λ a b c. refl),
          (
            (λ a b c. refl),
            (
              (λ a b c. bool (C.eq_of a b)),
              (
                (λ a b c. bool (C.contrary (C.eq_of a b))),
                (
                  (λ a b c. bool (C.order_by lt_z lt a b)),
                  (
                    (λ a b c. bool (C.order_by le_z le a b)),
                    (
                      (λ a b c. bool (C.order_by lt_z lt b a)),
                      (
                        (λ a b c. bool (C.order_by le_z le b a)),
                        (
                          (λ a b c. refl),
                          (
                            (λ a b c. refl),
                            (
                              (λ a b c. refl),
                              (
                                (λ a b c. refl),
                                (
                                  (λ a b c. refl),
                                  (
                                    (λ a b c. refl),
                                    (
                                      (λ a b c. math MathOp.Add a b),
                                      (
                                        (λ a b c. math MathOp.Subtract a b),
                                        (
                                          (λ a b c. math MathOp.Multiply a b),
                                          (
                                            (λ a b c. math MathOp.Divide a b),
                                            (
                                              (λ a b c. math MathOp.Modulo a b),
                                              (
                                                (λ a b c. on_int_else (as_int_of a) _ _ (on_float (as_float_of a) _ (λ x. finite (E.abs_float x))) (λ n. int (checked_abs_of n))),
                                                (
                                                  (λ a b c. on_float (as_float_of a) _ (λ x. float (E.sign_float x))),
                                                  (
                                                    (λ a b c. on_int_else (only_int_of a) _ _ (on_float (as_float_of a) _ (λ x. finite (neg x))) (λ n. int (checked_neg_of n))),
                                                    (
                                                      (λ a b c. ints a b _ _ (on_float (as_float_of a) _ (λ x. on_float (as_float_of b) _ (λ y. finite (X.minimum_number x y)))) (λ m n. refl)),
                                                      (
                                                        (λ a b c. ints a b _ _ (on_float (as_float_of a) _ (λ x. on_float (as_float_of b) _ (λ y. finite (X.maximum_number x y)))) (λ m n. refl)),
                                                        (
                                                          (λ a b c. on_int_else (E.clamp_ints (as_int_of a) (as_int_of b) (as_int_of c)) _ _ (clamp_floats a b c) (λ n. refl)),
                                                          (
                                                            (λ a b c. on_float (as_float_of a) _ (λ x. on_float (as_float_of b) _ (λ y. finite (E.modulo_floored x y)))),
                                                            (
                                                              (λ a b c. on_float (as_float_of a) _ (λ x. float (round_of x))),
                                                              (
                                                                (λ a b c. on_float (as_float_of a) _ (λ x. float (floor_of x))),
                                                                (
                                                                  (λ a b c. on_float (as_float_of a) _ (λ x. float (ceil_of x))),
                                                                  (
                                                                    (λ a b c. on_int (as_int_of a) _ (λ m. on_int (as_int_of b) _ (λ n. refl))),
                                                                    (
                                                                      (λ a b c. on_int (as_int_of a) _ (λ m. on_int (as_int_of b) _ (λ n. refl))),
                                                                      (
                                                                        (λ a b c. on_int (as_int_of a) _ (λ m. on_int (as_int_of b) _ (λ n. refl))),
                                                                        (
                                                                          (λ a b c. on_int (as_int_of a) _ (λ n. refl)),
                                                                          (
                                                                            (λ a b c. on_int (as_int_of a) _ (λ m. on_int (as_int_of b) _ (λ n. refl))),
                                                                            (
                                                                              (λ a b c. on_int (as_int_of a) _ (λ m. on_int (as_int_of b) _ (λ n. refl))),
                                                                              (
                                                                                (λ a b c. on_int (as_int_of a) _ (λ m. on_int (as_int_of b) _ (λ n. int (shift_left_of m n)))),
                                                                                (
                                                                                  (λ a b c. on_int (as_int_of a) _ (λ m. on_int (as_int_of b) _ (λ n. int (shift_right_of m n)))),
                                                                                  (
                                                                                    (λ a b c. on_int (as_int_of a) _ (λ n. refl)),
                                                                                    (
                                                                                      (λ a b c. on_float (as_float_of a) _ (λ x. on_float (sqrt_of x) _ (λ y. float y))),
                                                                                      tt,
                                                                                    ),
                                                                                  ),
                                                                                ),
                                                                              ),
                                                                            ),
                                                                          ),
                                                                        ),
                                                                      ),
                                                                    ),
                                                                  ),
                                                                ),
                                                              ),
                                                            ),
                                                          ),
                                                        ),
                                                      ),
                                                    ),
                                                  ),
                                                ),
                                              ),
                                            ),
                                          ),
                                        ),
                                      ),
                                    ),
                                  ),
                                ),
                              ),
                            ),
                          ),
                        ),
                      ),
                    ),
                  ),
                ),
              ),
            ),
          ),
        ),
      ),
    ),
  ),
)

at : (rs : List Rule) → All rs → (d : Rule) → ((a b c : Option Value) → Sound (d a b c)) → (n : ℕ) (a b c : Option Value) → Sound (get_or rs n d a b c)
at [] s d t n a b c = t a b c
at (r ∷ rs) s d t zero a b c = s.0 a b c
at (r ∷ rs) s d t (suc n) a b c = at rs s.1 d t n a b c

rest : (n f : Bool) → n ≡ false → n || f ≡ true → f ≡ true
rest true f h s = cc
rest false f h s = s

-- the value that a gate gives, where it is no non-finite Float, is finite in every part, and no Rotator, Quat, Color or text
pub given_finite_lem :
    (class : ℕ) (a b c : Option Value) (v : Value) → eval_of class a b c ≡ Some v → non_finite_float v ≡ false → finite_value v ≡ true
given_finite_lem class a b c v e h = rest (non_finite_float v) (finite_value v) h (subst Sound e (at rules all_sound (λ x y z. None) (λ x y z. refl) class a b c))

and_false : (t : Bool) → t && false ≡ false
and_false true = refl
and_false false = refl

or_true : (t : Bool) → t || true ≡ true
or_true true = refl
or_true false = refl

left : (k : Bool) (b c : Option Value) → eval_of (cond k 13 12) (Some (Value.Bool k)) b c ≡ Some (Value.Bool k)
unfolding C.logical_and_of C.logical_or_of
left false b c = refl
left true b c = refl

right : (k : Bool) (a c : Option Value) → eval_of (cond k 13 12) a (Some (Value.Bool k)) c ≡ Some (Value.Bool k)
unfolding C.logical_and_of C.logical_or_of
right false a c = ap (λ t. Some (Value.Bool t)) (and_false (truthy_of a))
right true a c = ap (λ t. Some (Value.Bool t)) (or_true (truthy_of a))

-- a false at an input decides AND, class 12, and a true decides OR, class 13, whatever the other input is
pub decided :
    (k : Bool) (a b c : Option Value) →
    (a ≡ Some (Value.Bool k)) ⊎ (b ≡ Some (Value.Bool k)) →
    eval_of (cond k 13 12) a b c ≡ Some (Value.Bool k)
decided k a b c =
    ⊎_elim (λ e. subst (λ x. eval_of (cond k 13 12) x b c ≡ Some (Value.Bool k)) (sym e) (left k b c))
    (λ e. subst (λ x. eval_of (cond k 13 12) a x c ≡ Some (Value.Bool k)) (sym e) (right k a c))
