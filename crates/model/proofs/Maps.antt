-- Laws of partial maps: what is set stays, and the order "has at least the entries of".
use Rattle.std.specs.Prelude.{Option, None, Some}
use mathlib.Core.Path.{◌≡◌, refl, sym, fun_ext}
use mathlib.Core.Bool.{Bool, true, false, cond, true≢false, false≢true}
use mathlib.Core.Logic.{◌⊎◌, inl, inr}
use Prim.Native.Nat.{ℕ}
use native.Mathlib.Omega.{arith}
use lib.Dec.{eqb}
use borrow.Author.Tests.{eqb-true, eq-eqb}
use Rattle.model.specs.Maps.{is_some, or_else, Map, put}

pub eqb_same : (n : ℕ) → eqb n n ≡ true
eqb_same n = eq-eqb n n refl

-- a test of two numbers, with what it says
abbrev pub Same : ℕ → ℕ → Type 0
Same m n = ((eqb m n ≡ true) × (m ≡ n)) ⊎ (eqb m n ≡ false)

pub same? : (m n : ℕ) → Same m n
same? m n = go (eqb m n) refl
  where
    go : (b : Bool) → eqb m n ≡ b → Same m n
    go true e = inl (e, eqb-true m n e)
    go false e = inr e

pub by_bool : {X : Type 0} (b : Bool) → (b ≡ true → X) → (b ≡ false → X) → X
by_bool true f g = f refl
by_bool false f g = g refl

-- o gives what p gives or nothing
infix 40 ◌≼◌
abbrev pub ◌≼◌ : {A : Type 0} → Option A → Option A → Type 0
◌≼◌ {A} o p = (a : A) → o ≡ Some a → p ≡ Some a

infix 40 ◌⊑◌
abbrev pub ◌⊑◌ : {A : Type 0} → Map A → Map A → Type 0
f ⊑ g = (m : ℕ) → f m ≼ g m

module _ {A : Type 0} where
  pub none_some : {X : Type 0} (a : A) → ◌≡◌ {A = Option A} None (Some a) → X
  none_some a e = let z : ◌≡◌ {A = ℕ} 0 1 = cc in let b : ⊥ = omega arith in absurd b

  pub ≼-antisym : (o p : Option A) → o ≼ p → p ≼ o → o ≡ p
  ≼-antisym None None h k = refl
  ≼-antisym None (Some a) h k = k a refl
  ≼-antisym (Some a) None h k = none_some a (h a refl)
  ≼-antisym (Some a) (Some b) h k = k b refl

  pub ⊑-antisym : (f g : Map A) → f ⊑ g → g ⊑ f → f ≡ g
  ⊑-antisym f g h k = fun_ext (λ m. ≼-antisym (f m) (g m) (h m) (k m))

  pub some_false : (o : Option A) → is_some o ≡ false → o ≡ None
  unfolding is_some
  some_false None e = refl
  some_false (Some a) e = absurd (true≢false e)

  pub some_true : (o : Option A) → is_some o ≡ true → (a : A) × (o ≡ Some a)
  unfolding is_some
  some_true None e = absurd (false≢true e)
  some_true (Some a) e = (a, refl)

  pub or_else_left : (o p : Option A) → o ≼ or_else o p
  unfolding or_else
  or_else_left None p a e = none_some a e
  or_else_left (Some b) p a e = e

  -- where o agrees with p, p comes through
  pub or_else_right : (o p : Option A) → o ≼ p → p ≼ or_else o p
  unfolding or_else
  or_else_right None p h a e = e
  or_else_right (Some b) p h a e = let hb : p ≡ Some b = h b refl in cc

  pub or_else_least : (o p q : Option A) → o ≼ q → p ≼ q → or_else o p ≼ q
  unfolding or_else
  or_else_least None p q h k = k
  or_else_least (Some b) p q h k = h

  pub or_else_none : (o p : Option A) → or_else o p ≡ None → p ≡ None
  unfolding or_else
  or_else_none None p e = e
  or_else_none (Some a) p e = none_some a (sym e)

  pub put_here : (f : Map A) (n : ℕ) (o : Option A) → put f n o n ≡ or_else (f n) o
  unfolding put
  put_here f n o = rw (eqb_same n)

  pub put_there : (f : Map A) (n : ℕ) (o : Option A) (m : ℕ) → eqb m n ≡ false → put f n o m ≡ f m
  unfolding put
  put_there f n o m e = rw e

  pub put_none : (f : Map A) (n : ℕ) → put f n None ≡ f
  unfolding put or_else
  put_none f n = fun_ext (λ m. go (eqb m n) (f m))
    where
      go : (b : Bool) (o : Option A) → cond b (or_else o None) o ≡ o
      go true None = refl
      go true (Some a) = refl
      go false o = refl

  pub put_grows : (f : Map A) (n : ℕ) (o : Option A) → f ⊑ put f n o
  unfolding put
  put_grows f n o m = go (eqb m n)
    where
      go : (b : Bool) → f m ≼ cond b (or_else (f m) o) (f m)
      go true = or_else_left (f m) o
      go false = λ a e. e

  pub put_least : (f g : Map A) (n : ℕ) (o : Option A) → f ⊑ g → o ≼ g n → put f n o ⊑ g
  put_least f g n o h k m = go (same? m n)
    where
      go : Same m n → put f n o m ≼ g m
      go (inl e) = rw (e.1, put_here f n o) (or_else_least (f n) o (g n) (h n) k)
      go (inr e) = rw (put_there f n o m e) (h m)
