-- The node, the class and the fate are read back from a line, with every bit.
use Rattle.std.specs.Prelude.{None, Some}
use Prim.Native.Nat.{ℕ, zero, suc, ◌+◌, ◌-◌, ◌*◌, ◌/◌, ◌%◌, ◌^◌, ◌≤◌, ◌<◌}
use Prim.Native.Char.{code}
use native.Mathlib.Omega.{arith}
use native.Mathlib.Nat.{add-zero, pow-suc}
use mathlib.Core.Path.{◌≡◌, refl, sym, ap, ap₂, ◌∙◌}
use mathlib.Core.Bool.{Bool, true, false, cond}
use mathlib.Core.List.{List, [], ◌∷◌, ◌++◌}
use lib.Dec.{eqb, ltb}
use lib.ListN.{length, get_or, length-replicate, get_or-replicate, get_or-append}
use borrow.Author.Tests.{lt-ltb, le-ltb, ltb-true, ltb-false}
use Rattle.sheet_line.specs.Limits.{line_width}
use Rattle.text.specs.Text.{eq_bytes}
use Rattle.text.proofs.Texts.{bytes_refl, bytes_same}
use Rattle.encoding.specs.Numbers.{byte}
use Rattle.encoding.proofs.ReadBack.{Stands, left, right}
use Rattle.model.specs.Maps.{All}
use Rattle.model.specs.Answer.{each}
use Rattle.model.proofs.Maps.{by_bool}
use Rattle.sheet_line.specs.declared.Fate.{Fate}
use Rattle.sheet_line.specs.declared.Fate.TheVariants.{Kept, Removed, Int, Float, Bool as BoolFate, Vector}
use Rattle.sheet_line.specs.declared.Line.{Line}
use Rattle.sheet_line.specs.Characters.{space, spaces, digit, aligned, hex_digit, hex, head_text, letter_of, numbers_of, number_text, fate_text, text, filled, characters}
use Rattle.sheet_line.specs.Reader.{decimal_at, hex_value, hex_at, fate_at, columns, read_line, Fits, ReadsBack}
use Rattle.sheet_line.proofs.Widths.{aligned_length, hex_length, number_length, head_length}

-- the last of some characters
last : (xs : List ℕ) (c n : ℕ) (s : List ℕ) (i : ℕ) → length xs ≡ n → Stands (xs ++ (c ∷ [])) s i → byte s (i + n) ≡ c
last xs c n s i e h = ap (byte s) (sym (add-zero (i + n))) ∙ right xs (c ∷ []) s i h (i + n) (omega arith) 0 (omega arith)

-- ---- decimal numbers

blank_back : (n : ℕ) (s : List ℕ) (i : ℕ) → ((k : ℕ) → k < n → byte s (i + k) ≡ space) → decimal_at n s i ≡ 0
unfolding decimal_at
blank_back zero s i h = refl
blank_back (suc n) s i h = omega (arith, blank_back n s i (λ k l. h k (omega arith)), h n (omega arith))

spaces_back : (n : ℕ) (s : List ℕ) (i : ℕ) → Stands (spaces n) s i → decimal_at n s i ≡ 0
spaces_back n s i h = blank_back n s i (λ k l. h k (omega (arith, length-replicate n space)) ∙ get_or-replicate n k space 0 l)

decimal_back : (n x : ℕ) (s : List ℕ) (i : ℕ) → x < 10 ^ n → Stands (aligned n x) s i → decimal_at n s i ≡ x
unfolding decimal_at aligned
decimal_back zero x s i h b = omega arith
decimal_back (suc n) x s i h b =
    let first : List ℕ = cond (ltb x 10) (spaces n) (aligned n (x / 10)) in
    let low : byte s (i + n) ≡ digit x = last first (digit x) n s i (many (ltb x 10)) b in
    let high : decimal_at n s i ≡ x / 10 = pick (decimal_back n (x / 10) s i (omega (arith, pow-suc 10 n))) (ltb x 10) refl (left first (digit x ∷ []) s i b) in
    omega (arith, low, high)
  where
    many : (b : Bool) → length (cond b (spaces n) (aligned n (x / 10))) ≡ n
    many true = length-replicate n space
    many false = aligned_length n (x / 10)

    pick : (Stands (aligned n (x / 10)) s i → decimal_at n s i ≡ x / 10) → (b : Bool) → ltb x 10 ≡ b → Stands (cond b (spaces n) (aligned n (x / 10))) s i → decimal_at n s i ≡ x / 10
    pick f true e k = spaces_back n s i k ∙ omega (arith, ltb-true x 10 e)
    pick f false e k = f k

-- ---- hexadecimal numbers

hex_value_lem : (x : ℕ) → hex_value (hex_digit x) ≡ x % 16
hex_value_lem x = by_bool (ltb (x % 16) 10) (λ e. rw e (low (ltb-true (x % 16) 10 e))) (λ e. rw e (high (ltb-false (x % 16) 10 e)))
  where
    low : x % 16 < 10 → hex_value (code "0" + x % 16) ≡ x % 16
    low h = rw (lt-ltb (code "0" + x % 16) (code "A") (omega arith)) (omega arith)

    high : 10 ≤ x % 16 → hex_value (code "A" + (x % 16 - 10)) ≡ x % 16
    high h = rw (le-ltb (code "A" + (x % 16 - 10)) (code "A") (omega arith)) (omega arith)

hex_back : (n x : ℕ) (s : List ℕ) (i : ℕ) → x < 16 ^ n → Stands (hex n x) s i → hex_at n s i ≡ x
unfolding hex hex_at
hex_back zero x s i h b = omega arith
hex_back (suc n) x s i h b =
    let high : hex_at n s i ≡ x / 16 = hex_back n (x / 16) s i (omega (arith, pow-suc 16 n)) (left (hex n (x / 16)) (hex_digit x ∷ []) s i b) in
    let low : byte s (i + n) ≡ hex_digit x = last (hex n (x / 16)) (hex_digit x) n s i (hex_length n (x / 16)) b in
    ap (λ (c : ℕ). 16 * hex_at n s i + hex_value c) low ∙ omega (arith, high, hex_value_lem x)

module _ (a : ℕ) (ws s : List ℕ) (i : ℕ) (b : Stands (each number_text (a ∷ ws)) s i) where
  number_back : (j : ℕ) → i + 2 ≡ j → a < 16 ^ 16 → hex_at 16 s j ≡ a
  unfolding each
  number_back j e h = hex_back 16 a s j h (right (spaces 2) (hex 16 a) s i (left (number_text a) (each number_text ws) s i b) j e)

  numbers_next : (j : ℕ) → i + 18 ≡ j → Stands (each number_text ws) s j
  unfolding each
  numbers_next j e = right (number_text a) (each number_text ws) s i b j (omega (arith, number_length a))

-- ---- fates

vector_back : (x y z : ℕ) (s : List ℕ) → All (λ n. n < 16 ^ 16) (x ∷ y ∷ z ∷ []) → Stands (each number_text (x ∷ y ∷ z ∷ [])) s 11 → Vector (hex_at 16 s 13) (hex_at 16 s 31) (hex_at 16 s 49) ≡ Vector x y z
vector_back x y z s w h =
    let two = numbers_next x (y ∷ z ∷ []) s 11 h 29 refl in
    let three = numbers_next y (z ∷ []) s 29 two 47 refl in
    let p = number_back x (y ∷ z ∷ []) s 11 h 13 refl w.0 in
    let q = number_back y (z ∷ []) s 29 two 31 refl w.1.0 in
    let r = number_back z [] s 47 three 49 refl w.1.1.0 in
    ap₂ (λ (u v : ℕ). Vector u v (hex_at 16 s 49)) p q ∙ ap (Vector x y) r

truth_back : (b : Bool) → eqb (cond b 1 0) 1 ≡ b
truth_back true = refl
truth_back false = refl

fate_back : (f : Fate) (s : List ℕ) → All (λ n. n < 16 ^ 16) (numbers_of f) → Stands (each number_text (numbers_of f)) s 11 → fate_at (letter_of f) (hex_at 16 s 13) (hex_at 16 s 31) (hex_at 16 s 49) ≡ f
fate_back Kept s w h = refl
fate_back Removed s w h = refl
fate_back (Int a) s w h = ap Int (number_back a [] s 11 h 13 refl w.0)
fate_back (Float a) s w h = ap Float (number_back a [] s 11 h 13 refl w.0)
fate_back (BoolFate b) s w h = ap (λ (n : ℕ). BoolFate (eqb n 1)) (number_back (cond b 1 0) [] s 11 h 13 refl w.0) ∙ ap BoolFate (truth_back b)
fate_back (Vector x y z) s w h = vector_back x y z s w h

-- ---- the line

module _ (l : Line) (f : Fits l) where
  abbrev s : List ℕ
  s = characters l

  all_stand : Stands (text l) s 0
  unfolding filled
  all_stand k h = ap (byte s) (omega arith) ∙ get_or-append (text l) (spaces (line_width - length (text l))) 0 k h

  head_stands : Stands (head_text l.node l.class) s 0
  unfolding text
  head_stands = left (head_text l.node l.class) (fate_text l.fate) s 0 all_stand

  fate_stands : Stands (fate_text l.fate) s 10
  unfolding text
  fate_stands = right (head_text l.node l.class) (fate_text l.fate) s 0 all_stand 10 (omega (arith, head_length l.node l.class))

  node_is : decimal_at 4 s 0 ≡ l.node
  node_is = decimal_back 4 l.node s 0 f.node (left (aligned 4 l.node) (spaces 2 ++ (aligned 2 l.class ++ spaces 2)) s 0 head_stands)

  class_is : decimal_at 2 s 6 ≡ l.class
  class_is =
      let past = right (aligned 4 l.node) (spaces 2 ++ (aligned 2 l.class ++ spaces 2)) s 0 head_stands 4 (omega (arith, aligned_length 4 l.node)) in
      decimal_back 2 l.class s 6 f.class (left (aligned 2 l.class) (spaces 2) s 6 (right (spaces 2) (aligned 2 l.class ++ spaces 2) s 4 past 6 refl))

  letter_is : get_or s 10 0 ≡ letter_of l.fate
  unfolding fate_text
  letter_is = fate_stands 0 (omega arith)

  numbers_stand : Stands (each number_text (numbers_of l.fate)) s 11
  unfolding fate_text
  numbers_stand = right (letter_of l.fate ∷ []) (each number_text (numbers_of l.fate)) s 10 fate_stands 11 refl

  fate_is : (columns s).fate ≡ l.fate
  fate_is = ap (λ (c : ℕ). fate_at c (hex_at 16 s 13) (hex_at 16 s 31) (hex_at 16 s 49)) letter_is ∙ fate_back l.fate s f.numbers numbers_stand

  columns_are : columns s ≡ l
  columns_are = ap₂ (λ (n c : ℕ). record { node = n; class = c; fate = (columns s).fate }) node_is class_is ∙ ap (λ (g : Fate). record { node = l.node; class = l.class; fate = g }) fate_is

  line_back : read_line s ≡ Some l
  unfolding read_line
  line_back = rw (columns_are, bytes_refl s) refl

only_line : (l : Line) (s : List ℕ) → read_line s ≡ Some l → s ≡ characters l
unfolding read_line
only_line l s e = pick (eq_bytes s (characters (columns s))) refl e
  where
    pick : (b : Bool) → eq_bytes s (characters (columns s)) ≡ b → cond b (Some (columns s)) None ≡ Some l → s ≡ characters l
    pick true p q = let c : columns s ≡ l = cc in bytes_same s (characters (columns s)) p ∙ ap characters c
    pick false p q = cc

-- THE LAW
pub reads_back : (l : Line) → ReadsBack l
reads_back l = record { back = line_back l; only = only_line l }
