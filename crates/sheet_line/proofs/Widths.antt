-- Each line has 72 characters that can be printed, and a newline.
use Prim.Native.Nat.{ℕ, zero, suc, ◌-◌, ◌*◌, ◌/◌, ◌%◌, ◌≤◌}
use Prim.Native.Char.{code}
use native.Mathlib.Omega.{arith}
use mathlib.Core.Path.{◌≡◌, refl, ◌∙◌}
use mathlib.Core.Bool.{Bool, true, false, cond, ◌&&◌}
use mathlib.Core.List.{List, [], ◌∷◌, ◌++◌}
use lib.Dec.{ltb, leb}
use lib.ListN.{length, length-append, length-replicate}
use borrow.Author.Tests.{ltb-true, leb-true}
use Rattle.sheet_line.specs.Limits.{line_width, line_bytes}
use Rattle.text.specs.Listed.{first_char, last_char}
use Rattle.graph.proofs.Roles.{and_left, and_right}
use Rattle.model.specs.Maps.{All}
use Rattle.model.specs.Answer.{each}
use Rattle.model.proofs.Lists.{all_append}
use Rattle.model.proofs.Maps.{by_bool}
use Rattle.sheet_line.specs.declared.Fate.{Fate}
use Rattle.sheet_line.specs.declared.Fate.TheVariants.{Kept, Removed, Int, Float, Bool as BoolFate, Vector}
use Rattle.sheet_line.specs.declared.Line.{Line}
use Rattle.sheet_line.specs.Characters.{space, spaces, digit, aligned, hex_digit, hex, head_text, letter_of, numbers_of, number_text, fate_text, text, filled, ended, header_text, Printable, Wide}

-- ---- lengths

pub aligned_length : (n x : ℕ) → length (aligned n x) ≡ n
unfolding aligned
aligned_length zero x = refl
aligned_length (suc n) x =
    length-append (cond (ltb x 10) (spaces n) (aligned n (x / 10))) (digit x ∷ []) ∙ omega (arith, pick (aligned_length n (x / 10)) (ltb x 10))
  where
    pick : length (aligned n (x / 10)) ≡ n → (b : Bool) → length (cond b (spaces n) (aligned n (x / 10))) ≡ n
    pick h true = length-replicate n space
    pick h false = h

pub hex_length : (n x : ℕ) → length (hex n x) ≡ n
unfolding hex
hex_length zero x = refl
hex_length (suc n) x = length-append (hex n (x / 16)) (hex_digit x ∷ []) ∙ omega (arith, hex_length n (x / 16))

pub number_length : (x : ℕ) → length (number_text x) ≡ 18
number_length x = omega (arith, hex_length 16 x)

numbers_length : (ws : List ℕ) → length (each number_text ws) ≡ 18 * length ws
unfolding each
numbers_length [] = refl
numbers_length (w ∷ ws) = length-append (number_text w) (each number_text ws) ∙ omega (arith, numbers_length ws, number_length w)

few_numbers : (f : Fate) → length (numbers_of f) ≤ 3
few_numbers Kept = omega arith
few_numbers Removed = omega arith
few_numbers (Int a) = omega arith
few_numbers (Float a) = omega arith
few_numbers (BoolFate b) = omega arith
few_numbers (Vector x y z) = omega arith

pub fate_fits : (f : Fate) → length (fate_text f) ≤ 55
unfolding fate_text
fate_fits f = omega (arith, numbers_length (numbers_of f), few_numbers f)

pub head_length : (node class : ℕ) → length (head_text node class) ≡ 10
head_length node class =
    length-append (aligned 4 node) (spaces 2 ++ (aligned 2 class ++ spaces 2))
    ∙ omega (arith, aligned_length 4 node, aligned_length 2 class, length-append (aligned 2 class) (spaces 2))

pub text_fits : (l : Line) → length (text l) ≤ line_width
unfolding text
text_fits l = omega (arith, length-append (head_text l.node l.class) (fate_text l.fate), head_length l.node l.class, fate_fits l.fate)

pub filled_length : (t : List ℕ) → length t ≤ line_width → length (filled t) ≡ line_width
unfolding filled
filled_length t h = length-append t (spaces (line_width - length t)) ∙ omega (arith, length-replicate (line_width - length t) space)

pub ended_length : (t : List ℕ) → length t ≤ line_width → length (ended t) ≡ line_bytes
ended_length t h = length-append (filled t) (code "\n" ∷ []) ∙ omega (arith, filled_length t h)

-- ---- what can be printed

printable : (xs ys : List ℕ) → All Printable xs → All Printable ys → All Printable (xs ++ ys)
printable = all_append Printable

spaces_printable : (n : ℕ) → All Printable (spaces n)
spaces_printable zero = tt
spaces_printable (suc n) = ((omega arith, omega arith), spaces_printable n)

aligned_printable : (n x : ℕ) → All Printable (aligned n x)
unfolding aligned
aligned_printable zero x = tt
aligned_printable (suc n) x =
    printable (cond (ltb x 10) (spaces n) (aligned n (x / 10))) (digit x ∷ []) (pick (aligned_printable n (x / 10)) (ltb x 10)) ((omega arith, omega arith), tt)
  where
    pick : All Printable (aligned n (x / 10)) → (b : Bool) → All Printable (cond b (spaces n) (aligned n (x / 10)))
    pick h true = spaces_printable n
    pick h false = h

digit_printable : (x : ℕ) → Printable (hex_digit x)
digit_printable x = by_bool (ltb (x % 16) 10) (λ e. rw e (omega (arith, ltb-true (x % 16) 10 e), omega (arith, ltb-true (x % 16) 10 e))) (λ e. rw e (omega arith, omega arith))

hex_printable : (n x : ℕ) → All Printable (hex n x)
unfolding hex
hex_printable zero x = tt
hex_printable (suc n) x = printable (hex n (x / 16)) (hex_digit x ∷ []) (hex_printable n (x / 16)) (digit_printable x, tt)

numbers_printable : (ws : List ℕ) → All Printable (each number_text ws)
unfolding each
numbers_printable [] = tt
numbers_printable (w ∷ ws) = printable (number_text w) (each number_text ws) (printable (spaces 2) (hex 16 w) (spaces_printable 2) (hex_printable 16 w)) (numbers_printable ws)

letter_printable : (f : Fate) → Printable (letter_of f)
letter_printable Kept = (omega arith, omega arith)
letter_printable Removed = (omega arith, omega arith)
letter_printable (Int a) = (omega arith, omega arith)
letter_printable (Float a) = (omega arith, omega arith)
letter_printable (BoolFate b) = (omega arith, omega arith)
letter_printable (Vector x y z) = (omega arith, omega arith)

text_printable : (l : Line) → All Printable (text l)
unfolding text fate_text
text_printable l =
    printable (head_text l.node l.class) (fate_text l.fate)
    (printable (aligned 4 l.node) (spaces 2 ++ (aligned 2 l.class ++ spaces 2)) (aligned_printable 4 l.node)
    (printable (spaces 2) (aligned 2 l.class ++ spaces 2) (spaces_printable 2)
    (printable (aligned 2 l.class) (spaces 2) (aligned_printable 2 l.class) (spaces_printable 2))))
    (letter_printable l.fate, numbers_printable (numbers_of l.fate))

-- a fixed text, by a test that computes
abbrev are_printable : List ℕ → Bool
are_printable [] = true
are_printable (c ∷ cs) = leb first_char c && (leb c last_char && are_printable cs)

tested : (cs : List ℕ) → are_printable cs ≡ true → All Printable cs
tested [] e = tt
tested (c ∷ cs) e =
    let f = and_right (leb first_char c) (leb c last_char && are_printable cs) e in
    ((leb-true first_char c (and_left (leb first_char c) (leb c last_char && are_printable cs) e), leb-true c last_char (and_left (leb c last_char) (are_printable cs) f)), tested cs (and_right (leb c last_char) (are_printable cs) f))

-- ---- lines

wide : (t : List ℕ) → length t ≤ line_width → All Printable t → Wide (ended t)
unfolding filled
wide t h p =
    record {
      characters = filled t;
      width = filled_length t h;
      printable = printable t (spaces (line_width - length t)) p (spaces_printable (line_width - length t));
      is_ended = refl;
    }

pub line_wide : (l : Line) → Wide (ended (text l))
line_wide l = wide (text l) (text_fits l) (text_printable l)

pub header_wide : Wide (ended header_text)
header_wide = wide header_text (omega arith) (tested header_text refl)
