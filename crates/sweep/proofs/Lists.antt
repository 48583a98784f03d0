-- Laws of `keep` and `any`.
use mathlib.Core.Path.{◌≡◌, refl, sym, ap, ◌∙◌}
use mathlib.Core.Bool.{Bool, true, false, cond, not, ◌&&◌, ◌||◌, true≢false, false≢true}
use mathlib.Core.List.{List, [], ◌∷◌}
use mathlib.Core.Logic.{◌⊎◌, inl, inr}
use Prim.Native.Nat.{ℕ, zero, suc, ◌+◌, ◌<◌, ◌≤◌}
use native.Mathlib.Omega.{arith}
use lib.Dec.{eqb}
use lib.ListN.{length, get_or, replicate}
use Rattle.graph.specs.Graph.{member}
use Rattle.model.specs.Maps.{keep, any}
use Rattle.model.proofs.Maps.{Same, same?, by_bool, eqb_same}
use Rattle.model.proofs.Lists.{or_right, count, bit, length_keep, count_length}

pub and_left : (a b : Bool) → (a && b) ≡ true → a ≡ true
and_left true b e = refl
and_left false b e = e

pub and_right : (a b : Bool) → (a && b) ≡ true → b ≡ true
and_right true b e = e
and_right false b e = absurd (false≢true e)

pub both : (a b : Bool) → a ≡ true → b ≡ true → (a && b) ≡ true
both true b p q = q
both false b p q = p

-- a test that says yes where another does, and the other where it does, are one
pub same_test : (a b : Bool) → (a ≡ true → b ≡ true) → (b ≡ true → a ≡ true) → a ≡ b
same_test true b p q = sym (p refl)
same_test false true p q = q refl
same_test false false p q = refl

pub eqb_comm : (m n : ℕ) → eqb m n ≡ eqb n m
eqb_comm m n = go (same? m n) (same? n m)
  where
    go : Same m n → Same n m → eqb m n ≡ eqb n m
    go (inl p) (inl q) = p.0 ∙ sym q.0
    go (inl p) (inr q) = ap (λ (k : ℕ). eqb m k) (sym p.1) ∙ ap (λ (k : ℕ). eqb k m) p.1
    go (inr p) (inl q) = ap (λ (k : ℕ). eqb k n) (sym q.1) ∙ ap (λ (k : ℕ). eqb n k) q.1
    go (inr p) (inr q) = p ∙ sym q

module _ {A : Type 0} where
  pub keep_same : (f h : A → Bool) → ((x : A) → f x ≡ h x) → (xs : List A) → keep f xs ≡ keep h xs
  unfolding keep
  keep_same f h e [] = refl
  keep_same f h e (x ∷ xs) = rw (e x, keep_same f h e xs)

  pub keep_all : (f : A → Bool) → ((x : A) → f x ≡ true) → (xs : List A) → keep f xs ≡ xs
  unfolding keep
  keep_all f e [] = refl
  keep_all f e (x ∷ xs) = rw (e x, keep_all f e xs)

  pub keep_keep : (f h : A → Bool) (xs : List A) → keep h (keep f xs) ≡ keep (λ x. f x && h x) xs
  unfolding keep
  keep_keep f h [] = refl
  keep_keep f h (x ∷ xs) = go (f x) (keep_keep f h xs)
    where
      go : (b : Bool) → keep h (keep f xs) ≡ keep (λ x. f x && h x) xs → keep h (cond b (x ∷ keep f xs) (keep f xs)) ≡ cond (b && h x) (x ∷ keep (λ x. f x && h x) xs) (keep (λ x. f x && h x) xs)
      go true e = rw e
      go false e = e

  pub any_keep : (f h : A → Bool) (xs : List A) → any h (keep f xs) ≡ any (λ x. f x && h x) xs
  unfolding keep any
  any_keep f h [] = refl
  any_keep f h (x ∷ xs) = go (f x) (any_keep f h xs)
    where
      go : (b : Bool) → any h (keep f xs) ≡ any (λ x. f x && h x) xs → any h (cond b (x ∷ keep f xs) (keep f xs)) ≡ ((b && h x) || any (λ x. f x && h x) xs)
      go true e = rw e
      go false e = e

  -- where a weaker test fails on all, so does the stronger
  pub any_weaker : (f h : A → Bool) → ((x : A) → f x ≡ true → h x ≡ true) → (xs : List A) → any f xs ≡ true → any h xs ≡ true
  unfolding any
  any_weaker f h w [] e = e
  any_weaker f h w (x ∷ xs) e = go (f x) refl e (any_weaker f h w xs)
    where
      go : (b : Bool) → f x ≡ b → (b || any f xs) ≡ true → (any f xs ≡ true → any h xs ≡ true) → (h x || any h xs) ≡ true
      go true q e ih = rw (w x q)
      go false q e ih = or_right (h x) (any h xs) (ih e)

  pub none_stronger : (f h : A → Bool) → ((x : A) → f x ≡ true → h x ≡ true) → (xs : List A) → any h xs ≡ false → any f xs ≡ false
  none_stronger f h w xs e = by_bool (any f xs) (λ t. absurd (true≢false (sym (any_weaker f h w xs t) ∙ e))) (λ n. n)

  -- the counts of two parts of a list
  pub count_parts : (f h : A → Bool) (xs : List A) → count h (keep f xs) + count h (keep (λ x. not (f x)) xs) ≡ count h xs
  unfolding keep count
  count_parts f h [] = refl
  count_parts f h (x ∷ xs) = go (f x) (count_parts f h xs)
    where
      go : (b : Bool) → count h (keep f xs) + count h (keep (λ x. not (f x)) xs) ≡ count h xs → count h (cond b (x ∷ keep f xs) (keep f xs)) + count h (cond (not b) (x ∷ keep (λ x. not (f x)) xs) (keep (λ x. not (f x)) xs)) ≡ bit (h x) + count h xs
      go true e = omega arith
      go false e = omega arith

  pub count_none : (f : A → Bool) (xs : List A) → count f xs ≡ 0 → any f xs ≡ false
  unfolding count any bit
  count_none f [] e = refl
  count_none f (x ∷ xs) e = go (f x) e (count_none f xs)
    where
      go : (b : Bool) → bit b + count f xs ≡ 0 → (count f xs ≡ 0 → any f xs ≡ false) → (b || any f xs) ≡ false
      go true e ih = absurd (omega arith)
      go false e ih = ih (omega arith)

  pub none_count : (f : A → Bool) (xs : List A) → any f xs ≡ false → count f xs ≡ 0
  unfolding count any bit
  none_count f [] e = refl
  none_count f (x ∷ xs) e = go (f x) e (none_count f xs)
    where
      go : (b : Bool) → (b || any f xs) ≡ false → (any f xs ≡ false → count f xs ≡ 0) → bit b + count f xs ≡ 0
      go true e ih = absurd (true≢false e)
      go false e ih = omega (arith, ih e)

-- an array that was cleared
pub clear : (k n : ℕ) → get_or (replicate k false) n false ≡ false
clear zero n = refl
clear (suc k) zero = refl
clear (suc k) (suc n) = clear k n

-- ---- numbers

pub member_keep : (f : ℕ → Bool) (m : ℕ) (xs : List ℕ) → member m (keep f xs) ≡ (f m && member m xs)
unfolding member keep
member_keep f m [] = go (f m)
  where
    go : (b : Bool) → false ≡ (b && false)
    go true = refl
    go false = refl
member_keep f m (x ∷ xs) = go (same? x m) (f x) refl (f m) refl (member_keep f m xs)
  where
    go : Same x m → (b : Bool) → f x ≡ b → (a : Bool) → f m ≡ a → member m (keep f xs) ≡ (f m && member m xs) → member m (cond b (x ∷ keep f xs) (keep f xs)) ≡ (f m && (eqb x m || member m xs))
    go (inl d) true q a p e = rw (d.0, ap f (sym d.1) ∙ q)
    go (inl d) false q a p e = e ∙ rw (ap f (sym d.1) ∙ q)
    go (inr d) true q a p e = rw (d, e)
    go (inr d) false q a p e = rw (d, e)

-- a removed member makes a list shorter
pub keep_fewer : (n : ℕ) (xs : List ℕ) → member n xs ≡ true → length (keep (λ m. not (eqb n m)) xs) < length xs
unfolding member keep
keep_fewer n [] e = absurd (false≢true e)
keep_fewer n (x ∷ xs) e = go (same? n x) (same? x n) e (keep_fewer n xs)
  where
    few : length (keep (λ m. not (eqb n m)) xs) ≤ length xs
    few = omega (arith, length_keep (λ m. not (eqb n m)) xs, count_length (λ m. not (eqb n m)) xs)

    go : Same n x → Same x n → (eqb x n || member n xs) ≡ true → (member n xs ≡ true → length (keep (λ m. not (eqb n m)) xs) < length xs) → length (cond (not (eqb n x)) (x ∷ keep (λ m. not (eqb n m)) xs) (keep (λ m. not (eqb n m)) xs)) < length (x ∷ xs)
    go (inl d) s e ih = rw d.0 (omega (arith, few))
    go (inr d) (inl s) e ih = absurd (true≢false (sym s.0 ∙ (eqb_comm x n ∙ d)))
    go (inr d) (inr s) e ih = rw d (omega (arith, ih (rw s at e)))

-- a member that passes a test, or none does
pub record Found (f : ℕ → Bool) (xs : List ℕ) : Type 0 where
  pub at : ℕ
  pub within : member at xs ≡ true
  pub passes : f at ≡ true

pub find : (f : ℕ → Bool) (xs : List ℕ) → Found f xs ⊎ ((n : ℕ) → member n xs ≡ true → f n ≡ false)
unfolding member
find f [] = inr (λ n e. absurd (false≢true e))
find f (x ∷ xs) = go (f x) refl (find f xs)
  where
    go : (b : Bool) → f x ≡ b → Found f xs ⊎ ((n : ℕ) → member n xs ≡ true → f n ≡ false) → Found f (x ∷ xs) ⊎ ((n : ℕ) → member n (x ∷ xs) ≡ true → f n ≡ false)
    go true q r = inl (record { at = x; within = rw (eqb_same x); passes = q })
    go false q (inl r) = inl (record { at = r.at; within = or_right (eqb x r.at) (member r.at xs) r.within; passes = r.passes })
    go false q (inr r) = inr (λ n e. rest n (same? x n) e)
      where
        rest : (n : ℕ) → Same x n → (eqb x n || member n xs) ≡ true → f n ≡ false
        rest n (inl d) e = ap f (sym d.1) ∙ q
        rest n (inr d) e = r n (rw d at e)
