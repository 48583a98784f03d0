-- Counting, finding and distinct numbers in lists.
use mathlib.Core.Path.{◌≡◌, refl, sym, ap, ◌∙◌}
use mathlib.Core.Bool.{Bool, true, false, cond, ◌&&◌, ◌||◌, true≢false, false≢true, or_assoc}
use mathlib.Core.List.{List, [], ◌∷◌, ◌++◌, map}
use mathlib.Core.Logic.{inl, inr, ◌≢◌}
use Prim.Native.Nat.{ℕ, zero, suc, ◌+◌, ◌<◌, ◌≤◌}
use native.Mathlib.Omega.{arith}
use native.Mathlib.Nat.{not-suc-le-zero}
use lib.Dec.{eqb}
use lib.ListN.{length, length-append}
use borrow.Author.Tests.{eqb-false}
use Rattle.std.proofs.lemmas.Bool.{or_parts}
pub use Rattle.std.proofs.lemmas.Bool.{or_right}
use Rattle.graph.specs.Graph.{member}
use Rattle.model.specs.Maps.{keep, any, All, Distinct, up_to, iterate}
use Rattle.model.proofs.Maps.{Same, same?}

-- ---- tests

pub or_false_left : (a b : Bool) → (a || b) ≡ false → a ≡ false
or_false_left a b e = (or_parts a b e).0

pub or_false_right : (a b : Bool) → (a || b) ≡ false → b ≡ false
or_false_right a b e = (or_parts a b e).1

-- ---- counting

unfoldable pub bit : Bool → ℕ
bit true = 1
bit false = 0

unfoldable pub count : {A : Type 0} → (A → Bool) → List A → ℕ
count f [] = 0
count f (x ∷ xs) = bit (f x) + count f xs

pub length_keep : {A : Type 0} (f : A → Bool) (xs : List A) → length (keep f xs) ≡ count f xs
unfolding keep count bit
length_keep f [] = refl
length_keep f (x ∷ xs) = go (f x) (length_keep f xs)
  where
    go : (b : Bool) → length (keep f xs) ≡ count f xs → length (cond b (x ∷ keep f xs) (keep f xs)) ≡ bit b + count f xs
    go true e = omega arith
    go false e = omega arith

-- one test counts for two others
pub count_two : {A : Type 0} (f h t : A → Bool) → ((x : A) → bit (f x) + bit (h x) ≤ bit (t x)) → (xs : List A) → count f xs + count h xs ≤ count t xs
unfolding count
count_two f h t le [] = omega arith
count_two f h t le (x ∷ xs) = omega (arith, le x, count_two f h t le xs)

-- two tests count for one
pub count_or : {A : Type 0} (f h t : A → Bool) → ((x : A) → bit (f x) ≤ bit (h x) + bit (t x)) → (xs : List A) → count f xs ≤ count h xs + count t xs
unfolding count
count_or f h t le [] = omega arith
count_or f h t le (x ∷ xs) = omega (arith, le x, count_or f h t le xs)

pub count_append : {A : Type 0} (f : A → Bool) (xs ys : List A) → count f (xs ++ ys) ≡ count f xs + count f ys
unfolding count
count_append f [] ys = omega arith
count_append f (x ∷ xs) ys = omega (arith, count_append f xs ys)

pub length_up_to : (n : ℕ) → length (up_to n) ≡ n
unfolding up_to
length_up_to zero = refl
length_up_to (suc n) = omega (arith, length-append (up_to n) (n ∷ []), length_up_to n)

pub count_le : {A : Type 0} (f h : A → Bool) → ((x : A) → bit (f x) ≤ bit (h x)) → (xs : List A) → count f xs ≤ count h xs
unfolding count
count_le f h le [] = omega arith
count_le f h le (x ∷ xs) = omega (arith, le x, count_le f h le xs)

pub count_length : {A : Type 0} (f : A → Bool) (xs : List A) → count f xs ≤ length xs
unfolding count bit
count_length f [] = omega arith
count_length f (x ∷ xs) = omega (arith, one (f x), count_length f xs)
  where
    one : (b : Bool) → bit b ≤ 1
    one true = omega arith
    one false = omega arith

pub count_false : {A : Type 0} (xs : List A) → count (λ x. false) xs ≡ 0
unfolding count bit
count_false [] = refl
count_false (x ∷ xs) = omega (arith, count_false xs)

pub and_bit : (a b c : Bool) → bit (a && b && c) ≤ bit a
unfolding bit
and_bit true true true = omega arith
and_bit true true false = omega arith
and_bit true false c = omega arith
and_bit false b c = omega arith

pub or_bit : (a b : Bool) → bit (a || b) ≤ bit a + bit b
unfolding bit
or_bit true b = omega arith
or_bit false b = omega arith

count_none : (t n : ℕ) → n ≤ t → count (λ c. eqb t c) (up_to n) ≡ 0
unfolding up_to count bit
count_none t zero l = refl
count_none t (suc n) l = omega (arith, count_append (λ c. eqb t c) (up_to n) (n ∷ []), count_none t n (omega arith), go (same? t n))
  where
    go : Same t n → bit (eqb t n) + 0 ≡ 0
    go (inl d) = let x : t ≡ n = d.1 in let b : ⊥ = omega arith in absurd b
    go (inr d) = rw d

pub count_one : (t n : ℕ) → count (λ c. eqb t c) (up_to n) ≤ 1
unfolding up_to count bit
count_one t zero = omega arith
count_one t (suc n) = go (same? t n) (count_one t n)
  where
    go : Same t n → count (λ c. eqb t c) (up_to n) ≤ 1 → count (λ c. eqb t c) (up_to n ++ (n ∷ [])) ≤ 1
    go (inl d) ih = let x : t ≡ n = d.1 in omega (arith, count_append (λ c. eqb t c) (up_to n) (n ∷ []), count_none t n (omega arith), ap bit d.0)
    go (inr d) ih = omega (arith, count_append (λ c. eqb t c) (up_to n) (n ∷ []), ap bit d)

-- ---- membership

pub member_append : (m : ℕ) (xs ys : List ℕ) → member m (xs ++ ys) ≡ (member m xs || member m ys)
unfolding member
member_append m [] ys = refl
member_append m (x ∷ xs) ys = rw (member_append m xs ys) (sym (or_assoc (eqb x m) (member m xs) (member m ys)))

pub member_left : (m : ℕ) (xs ys : List ℕ) → member m (xs ++ ys) ≡ false → member m xs ≡ false
member_left m xs ys e = or_false_left (member m xs) (member m ys) (sym (member_append m xs ys) ∙ e)

pub member_right : (m : ℕ) (xs ys : List ℕ) → member m (xs ++ ys) ≡ false → member m ys ≡ false
member_right m xs ys e = or_false_right (member m xs) (member m ys) (sym (member_append m xs ys) ∙ e)

-- an element that is not kept fails the test
pub keep_miss : (f : ℕ → Bool) (m : ℕ) (xs : List ℕ) → member m xs ≡ true → member m (keep f xs) ≡ false → f m ≡ false
unfolding member keep
keep_miss f m [] e q = absurd (false≢true e)
keep_miss f m (x ∷ xs) e q = go (same? x m) (f x) refl e q (keep_miss f m xs)
  where
    go : Same x m → (b : Bool) → f x ≡ b → (eqb x m || member m xs) ≡ true
        → member m (cond b (x ∷ keep f xs) (keep f xs)) ≡ false → (member m xs ≡ true → member m (keep f xs) ≡ false → f m ≡ false) → f m ≡ false
    go (inl d) true r e q ih = absurd (true≢false (sym (rw d.0) ∙ q))
    go (inl d) false r e q ih = ap f (sym d.1) ∙ r
    go (inr d) true r e q ih = ih (rw d at e) (or_false_right (eqb x m) _ q)
    go (inr d) false r e q ih = ih (rw d at e) q

pub member_up_to : (m n : ℕ) → m < n → member m (up_to n) ≡ true
unfolding member up_to
member_up_to m zero l = absurd (not-suc-le-zero l)
member_up_to m (suc n) l = member_append m (up_to n) (n ∷ []) ∙ go (same? n m) (member_up_to m n)
  where
    go : Same n m → (m < n → member m (up_to n) ≡ true) → (member m (up_to n) || (eqb n m || false)) ≡ true
    go (inl d) ih = or_right (member m (up_to n)) _ (rw d.0)
    go (inr d) ih = let ne : n ≢ m = eqb-false n m d in rw (ih (omega arith))

-- ---- every element

pub all_append : {A : Type 0} (P : A → Type 0) (xs ys : List A) → All P xs → All P ys → All P (xs ++ ys)
all_append P [] ys h k = k
all_append P (x ∷ xs) ys h k = (h.0, all_append P xs ys h.1 k)

pub all_map : {A B : Type 0} (P : A → Type 0) (Q : B → Type 0) (f : A → B) → ((a : A) → P a → Q (f a)) → (xs : List A) → All P xs → All Q (map f xs)
all_map P Q f h [] k = tt
all_map P Q f h (x ∷ xs) k = (h x k.0, all_map P Q f h xs k.1)

pub all_weaken : {A : Type 0} (P Q : A → Type 0) → ((x : A) → P x → Q x) → (xs : List A) → All P xs → All Q xs
all_weaken P Q f [] h = tt
all_weaken P Q f (x ∷ xs) h = (f x h.0, all_weaken P Q f xs h.1)

-- what the kept elements have, where t fails on all
pub keep_all : {A : Type 0} (P : A → Type 0) (f t : A → Bool) → ((x : A) → f x ≡ true → t x ≡ false → P x) → (xs : List A) → any t xs ≡ false → All P (keep f xs)
unfolding any keep
keep_all P f t h [] e = tt
keep_all {A} P f t h (x ∷ xs) e = go (f x) refl (keep_all P f t h xs (or_false_right (t x) _ e))
  where
    go : (b : Bool) → f x ≡ b → All P (keep f xs) → All P (cond b (x ∷ keep f xs) (keep f xs))
    go true q r = (h x q (or_false_left (t x) _ e), r)
    go false q r = r

pub all_keep : {A : Type 0} (P : A → Type 0) (f : A → Bool) (xs : List A) → All P xs → All (λ x. P x × (f x ≡ true)) (keep f xs)
unfolding keep
all_keep P f [] h = tt
all_keep {A} P f (x ∷ xs) h = go (f x) refl (all_keep P f xs h.1)
  where
    go : (b : Bool) → f x ≡ b → All (λ x. P x × (f x ≡ true)) (keep f xs) → All (λ x. P x × (f x ≡ true)) (cond b (x ∷ keep f xs) (keep f xs))
    go true q r = ((h.0, q), r)
    go false q r = r

-- ---- distinct numbers below n: there are no more than n

count_some : (x n : ℕ) → x < n → 1 ≤ count (λ c. eqb x c) (up_to n)
unfolding up_to count bit
count_some x zero l = absurd (not-suc-le-zero l)
count_some x (suc n) l = go (same? x n) (count_some x n)
  where
    go : Same x n → (x < n → 1 ≤ count (λ c. eqb x c) (up_to n)) → 1 ≤ count (λ c. eqb x c) (up_to n ++ (n ∷ []))
    go (inl d) ih = omega (arith, count_append (λ c. eqb x c) (up_to n) (n ∷ []), ap bit d.0)
    go (inr d) ih =
        let ne : x ≢ n = eqb-false x n d in
        omega (arith, count_append (λ c. eqb x c) (up_to n) (n ∷ []), ih (omega arith))

distinct_few : (n : ℕ) (xs : List ℕ) → Distinct xs → All (λ x. x < n) xs → length xs ≤ count (λ c. member c xs) (up_to n)
unfolding member bit
distinct_few n [] d b = omega arith
distinct_few n (x ∷ xs) d b =
    omega (arith, count_some x n b.0, distinct_few n xs d.1 b.1, count_two (λ c. eqb x c) (λ c. member c xs) (λ c. eqb x c || member c xs) (λ c. apart c (same? x c)) (up_to n))
  where
    apart : (c : ℕ) → Same x c → bit (eqb x c) + bit (member c xs) ≤ bit (eqb x c || member c xs)
    apart c (inl e) = rw (e.0, ← e.1, d.0) (omega arith)
    apart c (inr e) = rw e (omega arith)

pub distinct_below : (n : ℕ) (xs : List ℕ) → Distinct xs → All (λ x. x < n) xs → length xs ≤ n
distinct_below n xs d b = omega (arith, distinct_few n xs d b, count_length (λ c. member c xs) (up_to n), length_up_to n)

-- ---- iteration

pub iterate_keeps : {A : Type 0} (P : A → Type 0) (f : A → A) → ((a : A) → P a → P (f a)) → (n : ℕ) (a : A) → P a → P (iterate n f a)
unfolding iterate
iterate_keeps P f h zero a p = p
iterate_keeps P f h (suc n) a p = iterate_keeps P f h n (f a) (h a p)
