-- A push and a pop of the queue in its places, and a store of an entry of a map, as the arrays hold them.
use Rattle.std.specs.Prelude.{Option, None}
use mathlib.Core.Path.{◌≡◌, refl, sym, ap, ap₂, ◌∙◌, fun_ext}
use mathlib.Core.List.{List, [], ◌∷◌, ◌++◌}
use mathlib.Core.Logic.{inl, inr, ◌≢◌}
use Prim.Native.Nat.{ℕ, zero, suc, ◌+◌, ◌*◌, ◌%◌, ◌<◌, ◌≤◌}
use native.Mathlib.Omega.{arith}
use lib.ListN.{length, get_or, set}
use lib.Seq.{get_or-set_same, get_or-set_other, lt-length-set}
use borrow.Author.Tests.{eqb-false}
use Rattle.model.specs.Maps.{Map, or_else, put}
use Rattle.model.specs.Worklist.{queue_places}
use Rattle.model.specs.Arrays.{queue_of, store_words}
use Rattle.model.proofs.Maps.{Same, same?, put_here, put_there}

-- ---- the queue

-- what is stored behind the last leaves the others
queue_kept : (ps : List ℕ) (head k m x : ℕ) → head < queue_places → k ≤ m → m < queue_places → queue_of (set ps ((head + m) % queue_places) x) head k ≡ queue_of ps head k
unfolding queue_of
queue_kept ps head zero m x h l r = refl
queue_kept ps head (suc k) m x h l r =
    let apart : (head + k) % queue_places ≢ (head + m) % queue_places = λ e. omega arith in
    ap₂ (λ (a : List ℕ) (b : ℕ). a ++ (b ∷ [])) (queue_kept ps head k m x h (omega arith) r) (get_or-set_other ps ((head + m) % queue_places) ((head + k) % queue_places) x 0 apart)

pub queue_push : (ps : List ℕ) (head k x : ℕ) → length ps ≡ queue_places → head < queue_places → k < queue_places → queue_of (set ps ((head + k) % queue_places) x) head (suc k) ≡ queue_of ps head k ++ (x ∷ [])
unfolding queue_of
queue_push ps head k x e h l =
    let inside : (head + k) % queue_places < length ps = omega arith in
    ap₂ (λ (a : List ℕ) (b : ℕ). a ++ (b ∷ [])) (queue_kept ps head k k x h (omega arith) l) (get_or-set_same ps ((head + k) % queue_places) x 0 inside)

-- the front, and the queue behind it
pub queue_front : (ps : List ℕ) (head k : ℕ) → head < queue_places → queue_of ps head (suc k) ≡ get_or ps head 0 ∷ queue_of ps ((head + 1) % queue_places) k
unfolding queue_of
queue_front ps head zero h = ap (λ (i : ℕ). get_or ps i 0 ∷ []) (omega arith)
queue_front ps head (suc k) h =
    ap₂ (λ (a : List ℕ) (i : ℕ). a ++ (get_or ps i 0 ∷ [])) (queue_front ps head k h) (omega arith)

-- ---- a map

-- the map of which each entry is held as a tag and four words
unfoldable pub map_of : {A : Type 0} → (ℕ → ℕ → ℕ → ℕ → ℕ → Option A) → List ℕ → List ℕ → Map A
map_of held tags words =
    λ m. held (get_or tags m 0) (get_or words (4 * m) 0) (get_or words (4 * m + 1) 0) (get_or words (4 * m + 2) 0) (get_or words (4 * m + 3) 0)

words_other : (ns : List ℕ) (m a b c d j : ℕ) → j ≢ 4 * m → j ≢ 4 * m + 1 → j ≢ 4 * m + 2 → j ≢ 4 * m + 3 → get_or (store_words ns m a b c d) j 0 ≡ get_or ns j 0
unfolding store_words
words_other ns m a b c d j p q r s =
    rw (get_or-set_other _ _ j d 0 s, get_or-set_other _ _ j c 0 r, get_or-set_other _ _ j b 0 q, get_or-set_other _ _ j a 0 p)

module _ {A : Type 0} (held : ℕ → ℕ → ℕ → ℕ → ℕ → Option A) (ts ns : List ℕ) (n t a b c d : ℕ) (inT : n < length ts) (inN : 4 * n + 3 < length ns) where
  abbrev l₁ : List ℕ
  l₁ = set ns (4 * n) a

  abbrev l₂ : List ℕ
  l₂ = set l₁ (4 * n + 1) b

  abbrev l₃ : List ℕ
  l₃ = set l₂ (4 * n + 2) c

  in₁ : 4 * n + 3 < length l₁
  in₁ = lt-length-set ns (4 * n) a inN

  in₂ : 4 * n + 3 < length l₂
  in₂ = lt-length-set l₁ (4 * n + 1) b in₁

  in₃ : 4 * n + 3 < length l₃
  in₃ = lt-length-set l₂ (4 * n + 2) c in₂

  at0 : get_or (store_words ns n a b c d) (4 * n) 0 ≡ a
  unfolding store_words
  at0 =
      get_or-set_other l₃ (4 * n + 3) (4 * n) d 0 (omega arith)
      ∙ get_or-set_other l₂ (4 * n + 2) (4 * n) c 0 (omega arith)
      ∙ get_or-set_other l₁ (4 * n + 1) (4 * n) b 0 (omega arith)
      ∙ get_or-set_same ns (4 * n) a 0 (omega arith)

  at1 : get_or (store_words ns n a b c d) (4 * n + 1) 0 ≡ b
  unfolding store_words
  at1 =
      get_or-set_other l₃ (4 * n + 3) (4 * n + 1) d 0 (omega arith)
      ∙ get_or-set_other l₂ (4 * n + 2) (4 * n + 1) c 0 (omega arith)
      ∙ get_or-set_same l₁ (4 * n + 1) b 0 (omega (arith, in₁))

  at2 : get_or (store_words ns n a b c d) (4 * n + 2) 0 ≡ c
  unfolding store_words
  at2 = get_or-set_other l₃ (4 * n + 3) (4 * n + 2) d 0 (omega arith) ∙ get_or-set_same l₂ (4 * n + 2) c 0 (omega (arith, in₂))

  at3 : get_or (store_words ns n a b c d) (4 * n + 3) 0 ≡ d
  unfolding store_words
  at3 = get_or-set_same l₃ (4 * n + 3) d 0 in₃

  here : map_of held (set ts n t) (store_words ns n a b c d) n ≡ held t a b c d
  unfolding map_of
  here = rw (get_or-set_same ts n t 0 inT, at0, at1, at2, at3)

  there : (m : ℕ) → m ≢ n → map_of held (set ts n t) (store_words ns n a b c d) m ≡ map_of held ts ns m
  unfolding map_of
  there m h =
      rw (
        get_or-set_other ts n m t 0 h,
        words_other ns n a b c d (4 * m) (omega arith) (omega arith) (omega arith) (omega arith),
        words_other ns n a b c d (4 * m + 1) (omega arith) (omega arith) (omega arith) (omega arith),
        words_other ns n a b c d (4 * m + 2) (omega arith) (omega arith) (omega arith) (omega arith),
        words_other ns n a b c d (4 * m + 3) (omega arith) (omega arith) (omega arith) (omega arith),
      )

  -- where nothing was known of n, the store adds one entry
  pub store : map_of held ts ns n ≡ None → map_of held (set ts n t) (store_words ns n a b c d) ≡ put (map_of held ts ns) n (held t a b c d)
  unfolding or_else
  store e = fun_ext (λ m. go m (same? m n))
    where
      go : (m : ℕ) → Same m n → map_of held (set ts n t) (store_words ns n a b c d) m ≡ put (map_of held ts ns) n (held t a b c d) m
      go m (inl q) = rw q.1 (here ∙ sym (put_here (map_of held ts ns) n _ ∙ rw e refl))
      go m (inr q) = there m (eqb-false m n q) ∙ sym (put_there (map_of held ts ns) n _ m q)
