-- Runs of records of one length.
use Prim.Native.Nat.{ℕ, zero, suc, ◌+◌, ◌*◌, ◌/◌, ◌≤◌, ◌<◌}
use native.Mathlib.Omega.{arith}
use native.Mathlib.Decide.{dec_lt}
use native.Mathlib.Nat.{add_assoc}
use mathlib.Core.Path.{◌≡◌, refl, sym, ap, ◌∙◌}
use mathlib.Core.List.{List, [], ◌∷◌}
use lib.ListN.{length, get_or, take, drop, length-append, length-drop, get_or-append}
use lib.Seq.{get_or-append_seam, ext_get_or, get_or-take, get_or-drop, length-take-le}
use Rattle.ir.specs.declared.Wire.{Wire}
use Rattle.encoding.specs.Numbers.{byte, number_at}
use Rattle.encoding.specs.Wires.{wire_at}
use Rattle.graph.specs.Graph.{row_at, snoc}
use Rattle.records.specs.Access.{tabulate, wires_of, rows_of, no_wire, no_row}
use Rattle.graph.specs.declared.Row.{Row}

-- one more at the end: an index is below the old length or is that length
pub snoc_at : {A : Type 0} (xs : List A) (x d : A) (P : ℕ → A → Type 0) → ((i : ℕ) → i < length xs → P i (get_or xs i d)) → P (length xs) x → (i : ℕ) → i < length (snoc xs x) → P i (get_or (snoc xs x) i d)
snoc_at xs x d P old new i h = pick (dec_lt i (length xs))
  where
    pick : Dec (i < length xs) → P i (get_or (snoc xs x) i d)
    pick (yes l) = rw (get_or-append xs (x ∷ []) d i l) (old i l)
    pick (no l) =
        let e : i ≡ length xs = omega (arith, length-append xs (x ∷ [])) in
        rw e (rw (get_or-append_seam xs x [] d) new)

tabulate_length : {A : Type 0} (n : ℕ) (f : ℕ → A) → length (tabulate n f) ≡ n
unfolding tabulate
tabulate_length zero f = refl
tabulate_length (suc n) f = omega (arith, length-append (tabulate n f) (f n ∷ []), tabulate_length n f)

tabulate_at : {A : Type 0} (n : ℕ) (f : ℕ → A) (d : A) (i : ℕ) → i < n → get_or (tabulate n f) i d ≡ f i
unfolding tabulate
tabulate_at zero f d i h = absurd (omega arith)
tabulate_at (suc n) f d i h =
    snoc_at (tabulate n f) (f n) d (λ i x. x ≡ f i) (λ i h. tabulate_at n f d i (omega (arith, tabulate_length n f))) (ap f (sym (tabulate_length n f))) i
    (omega (arith, length-append (tabulate n f) (f n ∷ []), tabulate_length n f))

-- The part of an input where a list's records stand, of `size` bytes each, says the list. `read` reads a record, and reads no byte past it.
module _ {A : Type 0} (size : ℕ) (read : List ℕ → ℕ → A) (d : A) (local : (s t : List ℕ) (a b : ℕ) → ((i : ℕ) → i < size → byte s (a + i) ≡ byte t (b + i)) → read s a ≡ read t b) (s : List ℕ) (from : ℕ) (xs : List A) (inside : from + size * length xs ≤ length s) (stands : (j : ℕ) → j < length xs → get_or xs j d ≡ read s (from + size * j)) where
  run : List ℕ
  run = take (size * length xs) (drop from s)

  part : (j : ℕ) → size * j + size ≤ size * length xs → (i : ℕ) → i < size → byte run (size * j + i) ≡ byte s (from + size * j + i)
  unfolding run
  part j h i k =
      get_or-take (size * length xs) (drop from s) (size * j + i) 0 (omega arith)
      ∙ get_or-drop from s (size * j + i) 0
      ∙ ap (byte s) (sym (add_assoc from (size * j) i))

  pub run_says : ((j : ℕ) → j < length xs → size * j + size ≤ size * length xs) → tabulate (length xs) (λ j. read (take (size * length xs) (drop from s)) (size * j)) ≡ xs
  unfolding run
  run_says fits =
      ext_get_or d _ _ (tabulate_length (length xs) _)
      (λ j h.
      let k : j < length xs = omega (arith, tabulate_length (length xs) (λ j. read run (size * j))) in
      tabulate_at (length xs) (λ j. read run (size * j)) d j k ∙ local run s (size * j) (from + size * j) (part j (fits j k)) ∙ sym (stands j k))

-- ---- wires

wire_local : (s t : List ℕ) (a b : ℕ) → ((i : ℕ) → i < 7 → byte s (a + i) ≡ byte t (b + i)) → wire_at s a ≡ wire_at t b
unfolding number_at
wire_local s t a b h =
    simp (add_assoc, h 1 (omega arith), h 2 (omega arith), h 3 (omega arith), h 4 (omega arith), h 5 (omega arith), h 6 (omega arith))

pub wires_length : (r : List ℕ) → length (wires_of r) ≡ length r / 7
unfolding wires_of
wires_length r = tabulate_length (length r / 7) (λ j. wire_at r (7 * j))

pub wires_at_lem : (r : List ℕ) (j : ℕ) → j < length (wires_of r) → get_or (wires_of r) j no_wire ≡ wire_at r (7 * j)
unfolding wires_of
wires_at_lem r j h = tabulate_at (length r / 7) (λ j. wire_at r (7 * j)) no_wire j (omega (arith, wires_length r))

pub wires_run : (s : List ℕ) (from : ℕ) (xs : List Wire) → from + 7 * length xs ≤ length s → ((j : ℕ) → j < length xs → get_or xs j no_wire ≡ wire_at s (from + 7 * j)) → wires_of (take (7 * length xs) (drop from s)) ≡ xs
unfolding wires_of
wires_run s from xs inside stands =
    let e : length (take (7 * length xs) (drop from s)) / 7 ≡ length xs = omega (arith, length-take-le (7 * length xs) (drop from s) (omega (arith, length-drop from s))) in
    rw e (run_says 7 wire_at no_wire wire_local s from xs inside stands (λ j h. omega arith))

-- ---- rows

row_local : (s t : List ℕ) (a b : ℕ) → ((i : ℕ) → i < 5 → byte s (a + i) ≡ byte t (b + i)) → row_at s a ≡ row_at t b
row_local s t a b h = rw (h 1 (omega arith), h 2 (omega arith), h 3 (omega arith), h 4 (omega arith))

pub rows_length : (r : List ℕ) → length (rows_of r) ≡ length r / 5
unfolding rows_of
rows_length r = tabulate_length (length r / 5) (λ k. row_at r (5 * k))

pub rows_at : (r : List ℕ) (k : ℕ) → k < length (rows_of r) → get_or (rows_of r) k no_row ≡ row_at r (5 * k)
unfolding rows_of
rows_at r k h = tabulate_at (length r / 5) (λ k. row_at r (5 * k)) no_row k (omega (arith, rows_length r))

pub rows_run : (s : List ℕ) (from : ℕ) (xs : List Row) → from + 5 * length xs ≤ length s → ((k : ℕ) → k < length xs → get_or xs k no_row ≡ row_at s (from + 5 * k)) → rows_of (take (5 * length xs) (drop from s)) ≡ xs
unfolding rows_of
rows_run s from xs inside stands =
    let e : length (take (5 * length xs) (drop from s)) / 5 ≡ length xs = omega (arith, length-take-le (5 * length xs) (drop from s) (omega (arith, length-drop from s))) in
    rw e (run_says 5 row_at no_row row_local s from xs inside stands (λ j h. omega arith))
