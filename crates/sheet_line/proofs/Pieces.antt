-- The parts of a line, written one after the other, and over a line without text.
use Prim.Native.Nat.{ℕ, zero, suc, ◌+◌, ◌-◌, ◌*◌, ◌/◌, ◌%◌, ◌^◌, ◌≤◌}
use Prim.Native.Char.{code}
use native.Mathlib.Omega.{arith}
use native.Mathlib.Nat.{sub-zero, div-div-eq-div-mul}
use mathlib.Core.Path.{◌≡◌, refl, sym, ap, ap₂, subst, ◌∙◌}
use mathlib.Core.Bool.{Bool, true, false, cond}
use mathlib.Core.List.{List, [], ◌∷◌, ◌++◌, append_assoc, append-nil}
use lib.Dec.{ltb}
use lib.ListN.{length, get_or, take, drop, length-append, length-drop, length-replicate, replicate-append-replicate}
use lib.Seq.{take-suc, take-length, take_at, drop-append-le, drop-append-add, length-take-le}
use borrow.Rule.Slice.PartMut.{mid_of, put_mid, mid_len, Post-is}
use mir.Val.{bool_byte}
use borrow.Author.Tests.{lt-ltb, le-ltb, ltb-true, ltb-false}
use Rattle.sheet_line.specs.Limits.{line_width, line_bytes}
use Rattle.encoding.specs.Numbers.{bytes_of, splice, Written}
use Rattle.encoding.proofs.Splices.{written_length, written_more, same_written}
use Rattle.model.specs.Maps.{up_to}
use Rattle.model.specs.Answer.{each}
use Rattle.model.proofs.Each.{each_up}
use Rattle.model.proofs.Maps.{by_bool}
use Rattle.answer.proofs.Fill.{Filling, fill_end}
use Rattle.sheet_line.specs.declared.Fate.{Fate}
use Rattle.sheet_line.specs.declared.Line.{Line}
use Rattle.sheet_line.specs.Characters.{space, spaces, digit, aligned, hex, head_text, letter_of, numbers_of, number_text, fate_text, text, filled, ended}
use Rattle.sheet_line.proofs.Lanes.{half_digits}
use Rattle.sheet_line.proofs.Widths.{hex_length, number_length, text_fits, ended_length}

-- what a write leaves of the room
pub after : {xs l m : List ℕ} {i j : ℕ} → Written xs l m i j → (n : ℕ) → i + length xs + n ≤ length l → j + n ≤ length m
after a n h = omega (arith, a.past, written_length a (omega arith))

-- ---- a part of the buffer, written at once

pub written_part : (l bs : List ℕ) (at : ℕ) {ys : List ℕ} → ys ≡ bs → at + length bs ≤ length l → Written bs l (put_mid at (at + length bs - at) l ys) at (at + length bs)
unfolding splice
written_part l bs at y h = record { wrote = ap₂ (λ (b m : List ℕ). take at l ++ (b ++ m)) y (Post-is at (at + length bs) l (omega arith)); past = refl }

pub written_spaces : (l : List ℕ) (at n : ℕ) {ys : List ℕ} → ys ≡ spaces (length (mid_of at (at + n - at) l)) → at + n ≤ length l → Written (spaces n) l (put_mid at (at + n - at) l ys) at (at + n)
written_spaces l at n {ys} y h =
    let e : length (spaces n) ≡ n = length-replicate n space in
    let many : length (mid_of at (at + n - at) l) ≡ n = mid_len at (at + n) l h ∙ omega arith in
    subst (λ (k : ℕ). Written (spaces n) l (put_mid at (at + k - at) l ys) at (at + k)) e (written_part l (spaces n) at (y ∙ ap spaces many) (omega (arith, e)))

-- ---- the number of a node and its class

abbrev pub placed : ℕ → ℕ → ℕ
placed n unit = cond (ltb n unit) space (digit (n / unit))

-- a place of a number is the one below it of the number without its last digit
up : (n u : ℕ) → placed (n / 10) u ≡ placed n (10 * u)
up n u =
    by_bool (ltb (n / 10) u)
    (λ e. rw (e, lt-ltb n (10 * u) (omega (arith, ltb-true (n / 10) u e))) refl)
    (λ e. rw (e, le-ltb n (10 * u) (omega (arith, ltb-false (n / 10) u e))) (ap digit (div-div-eq-div-mul n 10 u)))

two_places : (n : ℕ) → aligned 2 n ≡ placed n 10 ∷ digit n ∷ []
unfolding aligned
two_places n = by_bool (ltb n 10) (λ e. rw e refl) (λ e. rw e (pick (ltb (n / 10) 10)))
  where
    pick : (b : Bool) → (cond b [] [] ++ (digit (n / 10) ∷ [])) ++ (digit n ∷ []) ≡ digit (n / 10) ∷ digit n ∷ []
    pick true = refl
    pick false = refl

three_places : (n : ℕ) → aligned 3 n ≡ placed n 100 ∷ placed n 10 ∷ digit n ∷ []
unfolding aligned
three_places n =
    by_bool (ltb n 10)
    (λ e. rw (e, lt-ltb n 100 (omega (arith, ltb-true n 10 e))) refl)
    (λ e. rw (e, two_places (n / 10), up n 10) refl)

four_places : (n : ℕ) → aligned 4 n ≡ placed n 1000 ∷ placed n 100 ∷ placed n 10 ∷ digit n ∷ []
unfolding aligned
four_places n =
    by_bool (ltb n 10)
    (λ e. rw (e, lt-ltb n 100 (omega (arith, ltb-true n 10 e)), lt-ltb n 1000 (omega (arith, ltb-true n 10 e))) refl)
    (λ e. rw (e, three_places (n / 10), up n 100, up n 10) refl)

pub head_all : {l m : List ℕ} {at next : ℕ} (node class : ℕ) {a b c d e f : ℕ} → a ≡ placed node 1000 → b ≡ placed node 100 → c ≡ placed node 10 → d ≡ digit node → e ≡ placed class 10 → f ≡ digit class → Written (a ∷ b ∷ c ∷ d ∷ space ∷ space ∷ e ∷ f ∷ space ∷ space ∷ []) l m at next → Written (head_text node class) l m at next
head_all node class p q r s t u w =
    same_written (sym (ap₂ (λ (x y : List ℕ). x ++ (spaces 2 ++ (y ++ spaces 2))) (four_places node) (two_places class))) (rw (p, q, r, s, t, u) at w)

-- ---- hexadecimal digits

pub half_room : {l m : List ℕ} {i j : ℕ} (word n : ℕ) → i + 16 ≤ length l → bytes_of 8 word ≡ hex 8 n → Written (bytes_of 8 word) l m i j → j + 8 ≤ length m
half_room word n h e a = after a 8 (omega (arith, ap length e, hex_length 8 n))

pub hex_all : {l m o : List ℕ} {i j k : ℕ} (n high low : ℕ) → i + 16 ≤ length l → bytes_of 8 high ≡ hex 8 (n / 2 ^ 32) → bytes_of 8 low ≡ hex 8 (n % 2 ^ 32) → Written (bytes_of 8 high) l m i j → Written (bytes_of 8 low) m o j k → Written (hex 16 n) l o i k
hex_all n high low h p q a b =
    same_written (ap₂ (λ (x y : List ℕ). x ++ y) p q ∙ sym (half_digits 8 n))
    (written_more a (omega (arith, ap length p, ap length q, hex_length 8 (n / 2 ^ 32), hex_length 8 (n % 2 ^ 32), length-append (bytes_of 8 high) (bytes_of 8 low))) b)

-- ---- numbers

pub number_all : {l m o : List ℕ} {i j k : ℕ} (n : ℕ) → i + 18 ≤ length l → Written (spaces 2) l m i j → Written (hex 16 n) m o j k → Written (number_text n) l o i k
number_all n h a b = written_more a (omega (arith, number_length n)) b

pub one_all : {l m o : List ℕ} {i j k : ℕ} (letter n : ℕ) → i + 19 ≤ length l → Written (letter ∷ []) l m i j → Written (number_text n) m o j k → Written (letter ∷ number_text n) l o i k
one_all letter n h a b = written_more a (omega (arith, number_length n)) b

pub vector_all : {l m o q : List ℕ} {i j k r : ℕ} (x y z : ℕ) → i + 55 ≤ length l → Written (code "V" ∷ number_text x) l m i j → Written (number_text y) m o j k → Written (number_text z) o q k r → Written (fate_text (Fate.Vector x y z)) l q i r
unfolding fate_text each
vector_all x y z h a b c =
    let s : List ℕ = number_text y in
    let more = written_more b (omega (arith, after a 36 (omega (arith, number_length x)), length-append s (number_text z), number_length y, number_length z)) c in
    same_written (ap (λ (t : List ℕ). (code "V" ∷ number_text x) ++ (s ++ t)) (sym (append-nil (number_text z))))
    (written_more a (omega (arith, length-append (number_text x) (s ++ number_text z), length-append s (number_text z), number_length x, number_length y, number_length z)) more)

-- the letter of a fate, and its one number, if any
module _ {l m : List ℕ} {i j : ℕ} {f : Fate} (g : Fate) (e : f ≡ g) where
  pub letter_alone : numbers_of g ≡ [] → Written (letter_of g ∷ []) l m i j → Written (fate_text f) l m i j
  unfolding fate_text each
  letter_alone n w = rw (e, n) w

  pub letter_number : (x : ℕ) → numbers_of g ≡ x ∷ [] → Written (letter_of g ∷ number_text x) l m i j → Written (fate_text f) l m i j
  unfolding fate_text each
  letter_number x n w = rw (e, n) (same_written (ap (λ (t : List ℕ). letter_of g ∷ t) (sym (append-nil (number_text x)))) w)

-- a Bool as a number
pub bool_number : (b : Bool) → cond b 1 0 ≡ bool_byte b
bool_number true = refl
bool_number false = refl

pub as_fate : {l m : List ℕ} {i j : ℕ} {f g : Fate} → f ≡ g → Written (fate_text g) l m i j → Written (fate_text f) l m i j
as_fate e w = same_written (ap fate_text (sym e)) w

-- ---- a line over one without text

over : {xs ys l m o : List ℕ} {i j k : ℕ} → length ys ≤ length xs → i + length xs ≤ length l → Written xs l m i j → Written ys m o i k → Written (ys ++ drop (length ys) xs) l o i j
unfolding splice
over {xs} {ys} {l} {m} {o} {i} {j} h r a b =
    let n : ℕ = length ys in
    let p : List ℕ = take i l in
    let d : List ℕ = drop (i + length xs) l in
    let long : length p ≡ i = length-take-le i l (omega arith) in
    let same : length (ys ++ drop n xs) ≡ length xs = length-append ys (drop n xs) ∙ omega (arith, length-drop n xs) in
    let front : take i m ≡ p = ap (take i) a.wrote ∙ take_at p (xs ++ d) i long in
    let rest : drop (i + n) m ≡ drop n xs ++ d =
    ap (drop (i + n)) a.wrote ∙ (ap (λ (k : ℕ). drop (k + n) (p ++ (xs ++ d))) (sym long) ∙ (drop-append-add p (xs ++ d) n ∙ drop-append-le n xs d h)) in
    record {
      wrote =
          b.wrote
          ∙ (ap₂ (λ (x y : List ℕ). x ++ (ys ++ y)) front rest
          ∙ (ap (λ (y : List ℕ). p ++ y) (sym (append_assoc ys (drop n xs) d))
          ∙ ap (λ (k : ℕ). p ++ ((ys ++ drop n xs) ++ drop (i + k) l)) (sym same)));
      past = a.past ∙ ap (λ (k : ℕ). i + k) (sym same);
    }

pub blank_all : {l m o : List ℕ} {i j k : ℕ} → i + line_bytes ≤ length l → Written (spaces line_width) l m i j → Written (code "\n" ∷ []) m o j k → Written (ended []) l o i k
unfolding filled
blank_all h a b = written_more a h b

drop_spaces : (k n : ℕ) → k ≤ n → drop k (spaces n) ≡ spaces (n - k)
drop_spaces zero n h = ap spaces (sym (sub-zero n))
drop_spaces (suc k) zero h = absurd (omega arith)
drop_spaces (suc k) (suc n) h = let e : n - k ≡ suc n - suc k = omega arith in drop_spaces k n (omega arith) ∙ ap spaces e

rest_blank : (t : List ℕ) (n : ℕ) → n ≡ line_width → length t ≤ n → t ++ drop (length t) (spaces n ++ (code "\n" ∷ [])) ≡ ended t
unfolding filled
rest_blank t n e h =
    ap (λ (l : List ℕ). t ++ l) (drop-append-le (length t) (spaces n) (code "\n" ∷ []) (omega (arith, length-replicate n space)) ∙ ap (λ (l : List ℕ). l ++ (code "\n" ∷ [])) (drop_spaces (length t) n h))
    ∙ (sym (append_assoc t (spaces (n - length t)) (code "\n" ∷ [])) ∙ ap (λ (k : ℕ). (t ++ spaces (k - length t)) ++ (code "\n" ∷ [])) e)

pub over_blank : {l m o : List ℕ} {i j k : ℕ} (t : List ℕ) → length t ≤ line_width → i + line_bytes ≤ length l → Written (ended []) l m i j → Written t m o i k → Written (ended t) l o i j
unfolding filled
over_blank t h r a b = same_written (rest_blank t line_width refl h) (over (omega arith) r a b)

pub line_all : {l m o q : List ℕ} {i j k r : ℕ} (line : Line) → i + line_bytes ≤ length l → Written (ended []) l m i j → Written (head_text line.node line.class) m o i k → Written (fate_text line.fate) o q k r → Written (ended (text line)) l q i j
unfolding text
line_all line h a b c =
    let fits : length (head_text line.node line.class ++ fate_text line.fate) ≤ line_width = text_fits line in
    over_blank (text line) fits h a (written_more b (omega (arith, fits, written_length a (omega (arith, ended_length [] (omega arith))))) c)
