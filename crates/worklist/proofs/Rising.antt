-- The consumers of a node in rising order: joining them one by one is the model's joining.
use mathlib.Core.Path.{◌≡◌, refl, sym, ap, ◌∙◌}
use mathlib.Core.Bool.{Bool, true, false, cond, not, ◌&&◌, ◌||◌, false≢true}
use mathlib.Core.List.{List, [], ◌∷◌, ◌++◌, append-nil, append_assoc}
use mathlib.Core.Logic.{inl, inr, ◌≢◌}
use Prim.Native.Nat.{ℕ, zero, suc, ◌+◌, ◌-◌, ◌<◌, ◌≤◌}
use native.Mathlib.Omega.{arith}
use lib.Dec.{eqb}
use borrow.Author.Tests.{eqb-false}
use Rattle.value.specs.declared.Value.{Value}
use Rattle.graph.specs.Graph.{Graph, member}
use Rattle.model.specs.Maps.{Map, is_some, keep, up_to}
use Rattle.model.specs.Inputs.{size}
use Rattle.model.specs.Worklist.{consumes, joiners}
use Rattle.model.proofs.Maps.{eqb_same, Same, same?}
use Rattle.model.proofs.Lists.{or_right, member_append}
use Rattle.wire_index.specs.Chains.{Rising}
use Rattle.worklist.specs.Joins.{join_one}

-- they join one by one
unfoldable pub join_all : Map Value → List ℕ → List ℕ → List ℕ
join_all known queue [] = queue
join_all known queue (c ∷ cs) = join_all known (join_one known queue c) cs

-- the consumers of a node, in rising order
pub record Row (g : Graph) (n : ℕ) (cs : List ℕ) : Type 0 where
  pub rising : Rising 0 cs
  pub exactly : (c : ℕ) → member c cs ≡ consumes g n c
  pub nodes : (c : ℕ) → member c cs ≡ true → c < size g

-- ---- the numbers below b that pass a test

keep_append : (f : ℕ → Bool) (xs ys : List ℕ) → keep f (xs ++ ys) ≡ keep f xs ++ keep f ys
unfolding keep
keep_append f [] ys = refl
keep_append f (x ∷ xs) ys = go (f x) (keep_append f xs ys)
  where
    go : (b : Bool) → keep f (xs ++ ys) ≡ keep f xs ++ keep f ys → cond b (x ∷ keep f (xs ++ ys)) (keep f (xs ++ ys)) ≡ cond b (x ∷ keep f xs) (keep f xs) ++ keep f ys
    go true e = rw e
    go false e = e

-- the next number is kept or not
next_kept : (f : ℕ → Bool) (n : ℕ) → keep f (up_to (suc n)) ≡ keep f (up_to n) ++ cond (f n) (n ∷ []) []
unfolding up_to keep
next_kept f n = keep_append f (up_to n) (n ∷ [])

-- none of the d numbers from b on is kept
skip : (f : ℕ → Bool) (b d : ℕ) → ((c : ℕ) → b ≤ c → c < b + d → f c ≡ false) → keep f (up_to (b + d)) ≡ keep f (up_to b)
skip f b zero h = let e : b + 0 ≡ b = omega arith in rw e refl
skip f b (suc d) h =
    let e : b + suc d ≡ suc (b + d) = omega arith in
    let out : f (b + d) ≡ false = h (b + d) (omega arith) (omega arith) in
    rw e (next_kept f (b + d) ∙ rw (out, append-nil) (skip f b d (λ c p q. h c p (omega arith))))

skip_to : (f : ℕ → Bool) (b n : ℕ) → b ≤ n → ((c : ℕ) → b ≤ c → c < n → f c ≡ false) → keep f (up_to n) ≡ keep f (up_to b)
skip_to f b n l h =
    let e : n ≡ b + (n - b) = omega arith in
    ap (λ (m : ℕ). keep f (up_to m)) e ∙ skip f b (n - b) (λ c p q. h c p (omega arith))

-- what is kept of the numbers below b is below b
not_yet : (f : ℕ → Bool) (b c : ℕ) → b ≤ c → member c (keep f (up_to b)) ≡ false
unfolding up_to keep member
not_yet f zero c l = refl
not_yet f (suc b) c l =
    ap (member c) (next_kept f b) ∙ member_append c (keep f (up_to b)) (cond (f b) (b ∷ []) []) ∙ rw (not_yet f b c (omega arith)) (go (f b) (same? b c))
  where
    go : (x : Bool) → Same b c → member c (cond x (b ∷ []) []) ≡ false
    go true (inl q) = let bad : ⊥ = omega (arith, q.1) in absurd bad
    go true (inr q) = rw q
    go false q = refl

-- and has those that pass
had : (f : ℕ → Bool) (b c : ℕ) → c < b → f c ≡ true → member c (keep f (up_to b)) ≡ true
unfolding member
had f zero c l e = let bad : ⊥ = omega arith in absurd bad
had f (suc b) c l e =
    ap (member c) (next_kept f b) ∙ member_append c (keep f (up_to b)) (cond (f b) (b ∷ []) []) ∙ go (λ h. had f b c h e) (same? b c)
  where
    go : (c < b → member c (keep f (up_to b)) ≡ true) → Same b c → (member c (keep f (up_to b)) || member c (cond (f b) (b ∷ []) [])) ≡ true
    go ih (inl q) = let fb : f b ≡ true = rw q.1 e in rw (fb, q.0) (or_right (member c (keep f (up_to b))) true refl)
    go ih (inr q) =
        let ne : b ≢ c = eqb-false b c q in
        let got : member c (keep f (up_to b)) ≡ true = ih (omega arith) in
        rw got

-- an element of a rising list is not below its bound
from : (b : ℕ) (cs : List ℕ) (d : ℕ) → Rising b cs → member d cs ≡ true → b ≤ d
unfolding member
from b [] d r e = absurd (false≢true e)
from b (c ∷ cs) d r e = go (from c cs d r.1) (same? c d)
  where
    go : (member d cs ≡ true → c ≤ d) → Same c d → b ≤ d
    go ih (inl q) = omega (arith, r.0, q.1)
    go ih (inr q) = omega (arith, r.0, ih (rw q at e))

-- ---- joining

module _ (g : Graph) (n : ℕ) (known : Map Value) (queue : List ℕ) where
  -- the test of the model's joiners
  abbrev joins : ℕ → Bool
  joins c = consumes g n c && not (is_some (known c)) && not (member c queue)

  -- c joins after those below b
  step : (b c : ℕ) → b ≤ suc c → consumes g n c ≡ true → ((d : ℕ) → b ≤ d → d < c → joins d ≡ false) → join_one known (queue ++ keep joins (up_to b)) c ≡ queue ++ keep joins (up_to (suc c))
  unfolding join_one
  step b c l e none = go (is_some (known c)) (member c queue) refl refl
    where
      now : List ℕ
      now = queue ++ keep joins (up_to b)

      -- c does not join
      stays : (x y : Bool) → is_some (known c) ≡ x → member c queue ≡ y → (not x && not y) ≡ false → queue ++ keep joins (up_to (suc c)) ≡ now
      stays x y p q r = pick (same? b (suc c))
        where
          pick : Same b (suc c) → queue ++ keep joins (up_to (suc c)) ≡ now
          pick (inl z) = rw z.1
          pick (inr z) =
              let ne : b ≢ suc c = eqb-false b (suc c) z in
              let out : joins c ≡ false = rw (e, p, q) r in
              ap (λ (l : List ℕ). queue ++ l) (next_kept joins c ∙ rw (out, append-nil) (skip_to joins b c (omega arith) none))

      go : (x y : Bool) → is_some (known c) ≡ x → member c queue ≡ y → cond (is_some (known c) || member c now) now (now ++ (c ∷ [])) ≡ queue ++ keep joins (up_to (suc c))
      go true y p q = rw p (sym (stays true y p q refl))
      go false true p q = rw (p, member_append c queue (keep joins (up_to b)), q) (sym (stays false true p q refl))
      go false false p q =
          let holds : joins c ≡ true = rw (e, p, q) in
          rw (p, member_append c queue (keep joins (up_to b)), q) (pick holds (same? b (suc c)))
        where
          pick : joins c ≡ true → Same b (suc c) → cond (member c (keep joins (up_to b))) now (now ++ (c ∷ [])) ≡ queue ++ keep joins (up_to (suc c))
          pick h (inl z) = rw (had joins b c (omega (arith, z.1)) h) (rw z.1)
          pick h (inr z) =
              let ne : b ≢ suc c = eqb-false b (suc c) z in
              let le : b ≤ c = omega arith in
              rw (not_yet joins b c le) (append_assoc queue (keep joins (up_to b)) (c ∷ []) ∙ ap (λ (l : List ℕ). queue ++ l) (sym (next_kept joins c ∙ rw h (ap (λ (l : List ℕ). l ++ (c ∷ [])) (skip_to joins b c le none)))))

  outside : (d : ℕ) → consumes g n d ≡ false → joins d ≡ false
  outside d e = rw e

  -- those from b on join, of which the rest of the consumers are cs
  rest : (b low : ℕ) (cs : List ℕ) → b ≤ size g → b ≤ suc low → Rising low cs → ((c : ℕ) → member c cs ≡ true → (consumes g n c ≡ true) × (c < size g)) → ((c : ℕ) → b ≤ c → member c cs ≡ false → consumes g n c ≡ false) → join_all known (queue ++ keep joins (up_to b)) cs ≡ queue ++ keep joins (up_to (size g))
  unfolding join_all member
  rest b low [] l m r s t = ap (λ (x : List ℕ). queue ++ x) (sym (skip_to joins b (size g) l (λ c p q. outside c (t c p refl))))
  rest b low (c ∷ cs) l m r s t =
      let here : (consumes g n c ≡ true) × (c < size g) = s c (rw (eqb_same c)) in
      ap (λ (x : List ℕ). join_all known x cs) (step b c (omega (arith, r.0)) here.0 (λ d p q. outside d (t d p (before d q))))
      ∙ rest (suc c) c cs (omega (arith, here.1)) (omega arith) r.1 (λ d e. s d (or_right (eqb c d) (member d cs) e)) later
    where
      before : (d : ℕ) → d < c → (eqb c d || member d cs) ≡ false
      before d q = go (same? c d) (member d cs) refl
        where
          go : Same c d → (x : Bool) → member d cs ≡ x → (eqb c d || x) ≡ false
          go (inl z) x e = let bad : ⊥ = omega (arith, z.1) in absurd bad
          go (inr z) true e = let bad : ⊥ = omega (arith, from c cs d r.1 e) in absurd bad
          go (inr z) false e = rw z

      later : (d : ℕ) → suc c ≤ d → member d cs ≡ false → consumes g n d ≡ false
      later d p e = go (same? c d)
        where
          go : Same c d → consumes g n d ≡ false
          go (inl z) = let bad : ⊥ = omega (arith, z.1) in absurd bad
          go (inr z) = t d (omega (arith, r.0)) (rw (z, e))

  -- joining them one by one is joining the model's joiners
  pub row_joins : (cs : List ℕ) → Row g n cs → join_all known queue cs ≡ queue ++ joiners g known queue n
  unfolding joiners up_to keep
  row_joins cs r =
      ap (λ (x : List ℕ). join_all known x cs) (sym (append-nil queue))
      ∙ rest 0 0 cs (omega arith) (omega arith) r.rising (λ c e. (sym (r.exactly c) ∙ e, r.nodes c e)) (λ c p e. sym (r.exactly c) ∙ e)
