-- Whether one of a list's numbers is above a bound, as the list is read.
use Rattle.std.proofs.Common.{ℕ, ◌≤◌, ◌<◌, ◌≡◌, Bool, true, false, ◌||◌, List, [], ◌∷◌, ◌++◌, length, get_or, take, refl, arith, ltb}
use Rattle.std.proofs.lemmas.Bool.{false≢true}
use Rattle.std.proofs.lemmas.List.{length_push, length-take-le, get_or_append_left, get_or-take}
use Rattle.std.proofs.Math.Seq.{get_or-append_seam}
use native.Mathlib.Decide.{dec_lt}
use borrow.Author.Tests.{ltb-false, ltb-true}
use Rattle.model.proofs.Lists.{or_false_left, or_false_right}
use Rattle.state.specs.Held.{Above}

-- what `found` says of the numbers read
pub record Scan (bound : ℕ) (xs : List ℕ) (found : Bool) : Type 0 where
  pub low : found ≡ false → (m : ℕ) → m < length xs → get_or xs m 0 ≤ bound
  pub above : found ≡ true → Above xs (length xs) bound

module _ (bound : ℕ) where
  pub scan_none : Scan bound [] false
  scan_none = record { low = λ e m l. absurd (omega arith); above = λ e. absurd (false≢true e) }

  module _ (xs : List ℕ) (x : ℕ) where
    last : get_or (xs ++ (x ∷ [])) (length xs) 0 ≡ x
    last = get_or-append_seam xs x [] 0

    kept : (m : ℕ) → m < length xs → get_or (xs ++ (x ∷ [])) m 0 ≡ get_or xs m 0
    kept m l = get_or_append_left xs (x ∷ []) 0 m l

    pub scan_more : {found : Bool} → Scan bound xs found → Scan bound (xs ++ (x ∷ [])) (found || ltb bound x)
    scan_more {found} s = record { low = λ e m l. low e m l (dec_lt m (length xs)); above = above found s.above }
      where
        low : (found || ltb bound x) ≡ false → (m : ℕ) → m < length (xs ++ (x ∷ [])) → Dec (m < length xs) → get_or (xs ++ (x ∷ [])) m 0 ≤ bound
        low e m l (yes h) = rw (kept m h) (s.low (or_false_left found _ e) m h)
        low e m l (no h) =
            let q : m ≡ length xs = omega (arith, length_push xs x) in
            rw (q, last) (ltb-false bound x (or_false_right found _ e))

        above : (b : Bool) → (b ≡ true → Above xs (length xs) bound) → (b || ltb bound x) ≡ true → Above (xs ++ (x ∷ [])) (length (xs ++ (x ∷ []))) bound
        above true f e =
            let a = f refl in
            record { node = a.node; within = omega (arith, a.within, length_push xs x); above = rw (kept a.node a.within) a.above }
        above false f e = record { node = length xs; within = omega (arith, length_push xs x); above = rw last (ltb-true bound x e) }

  -- the numbers read are the first n of a list
  module _ (n : ℕ) (l : List ℕ) (h : n ≤ length l) {found : Bool} (s : Scan bound (take n l) found) where
    pub scan_low : found ≡ false → (m : ℕ) → m < n → get_or l m 0 ≤ bound
    scan_low e m k = rw (get_or-take n l m 0 k) at (s.low e m (omega (arith, length-take-le n l h)))

    pub scan_above : found ≡ true → Above l n bound
    scan_above e =
        let a = s.above e in
        let k : a.node < n = omega (arith, a.within, length-take-le n l h) in
        record { node = a.node; within = k; above = rw (get_or-take n l a.node 0 k) at a.above }
