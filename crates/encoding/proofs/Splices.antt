-- Bytes written at an offset: one after the other, and read back.
use Prim.Native.Nat.{ℕ, ◌+◌, ◌-◌, ◌≤◌, ◌<◌}
use borrow.Rule.Slice.PartMut.{put_mid}
use native.Mathlib.Omega.{arith}
use native.Mathlib.Nat.{div-div-eq-div-mul}
use mathlib.Core.Path.{◌≡◌, refl, sym, ap, ap₂, subst, ◌∙◌}
use mathlib.Core.List.{List, [], ◌∷◌, ◌++◌, append_assoc}
use lib.ListN.{length, get_or, set, take, drop, length-append, length-drop, get_or-append}
use lib.Seq.{take_at, drop-append-add, drop-drop, length-take-le, sets, sets-eq, get_or-append-add}
use Rattle.std.specs.Int.{to_le_bytes, w64}
use Rattle.encoding.specs.Numbers.{bytes_of, splice, Written}

pub splice_length : (l : List ℕ) (at : ℕ) (bs : List ℕ) → at + length bs ≤ length l → length (splice l at bs) ≡ length l
unfolding splice
splice_length l at bs h = simp (length-append, length-drop) (omega (arith, length-take-le at l (omega arith)))

splice_more : (l : List ℕ) (at : ℕ) (xs ys : List ℕ) → at + length xs + length ys ≤ length l → splice (splice l at xs) (at + length xs) ys ≡ splice l at (xs ++ ys)
unfolding splice
splice_more l at xs ys h =
    let la : length (take at l ++ xs) ≡ at + length xs = length-append (take at l) xs ∙ omega (arith, length-take-le at l (omega arith)) in
    let e : take at l ++ (xs ++ drop (at + length xs) l) ≡ (take at l ++ xs) ++ drop (at + length xs) l = sym (append_assoc (take at l) xs (drop (at + length xs) l)) in
    let f : take (at + length xs) ((take at l ++ xs) ++ drop (at + length xs) l) ≡ take at l ++ xs = take_at (take at l ++ xs) (drop (at + length xs) l) (at + length xs) la in
    let g : drop (at + length xs + length ys) ((take at l ++ xs) ++ drop (at + length xs) l) ≡ drop (at + length xs + length ys) l
    = ap (λ (n : ℕ). drop (n + length ys) ((take at l ++ xs) ++ drop (at + length xs) l)) (sym la)
    ∙ (drop-append-add (take at l ++ xs) (drop (at + length xs) l) (length ys) ∙ drop-drop (length ys) (at + length xs) l) in
    let k : at + length xs + length ys ≡ at + length (xs ++ ys) = omega (arith, length-append xs ys) in
    ap (λ (w : List ℕ). take (at + length xs) w ++ (ys ++ drop (at + length xs + length ys) w)) e
    ∙ (ap₂ (λ (a b : List ℕ). a ++ (ys ++ b)) f g
    ∙ (append_assoc (take at l) xs (ys ++ drop (at + length xs + length ys) l)
    ∙ (ap (λ (w : List ℕ). take at l ++ w) (sym (append_assoc xs ys (drop (at + length xs + length ys) l)))
    ∙ ap (λ (n : ℕ). take at l ++ ((xs ++ ys) ++ drop n l)) k)))

-- what a run of stores leaves
pub stored : (l : List ℕ) (at : ℕ) (bs : List ℕ) → at + length bs ≤ length l → Written bs l (sets l at bs) at (at + length bs)
unfolding splice
stored l at bs h = record { wrote = sets-eq bs l at h ∙ append_assoc (take at l) bs (drop (at + length bs) l); past = refl }

module _ {xs l m : List ℕ} {i j : ℕ} (a : Written xs l m i j) where
  pub written_length : i + length xs ≤ length l → length m ≡ length l
  written_length h = ap length a.wrote ∙ splice_length l i xs h

  pub written_more : {ys o : List ℕ} {k : ℕ} → i + length (xs ++ ys) ≤ length l → Written ys m o j k → Written (xs ++ ys) l o i k
  written_more {ys} h b =
      record {
        wrote = b.wrote ∙ (ap₂ (λ (w : List ℕ) (n : ℕ). splice w n ys) a.wrote a.past ∙ splice_more l i xs ys (omega (arith, length-append xs ys)));
        past = omega (arith, a.past, b.past, length-append xs ys);
      }

-- the bytes that were written stand there
pub splice_at : (l : List ℕ) (at : ℕ) (bs : List ℕ) → at + length bs ≤ length l → (i : ℕ) → i < length bs → get_or (splice l at bs) (at + i) 0 ≡ get_or bs i 0
unfolding splice
splice_at l at bs h i k =
    let e : length (take at l) ≡ at = length-take-le at l (omega arith) in
    ap (λ (n : ℕ). get_or (take at l ++ (bs ++ drop (at + length bs) l)) (n + i) 0) (sym e)
    ∙ get_or-append-add (take at l) (bs ++ drop (at + length bs) l) i 0
    ∙ get_or-append bs (drop (at + length bs) l) 0 i k

-- as the code's stores leave it
pub stored_1 : (l : List ℕ) (at b : ℕ) → at + 1 ≤ length l → Written (b ∷ []) l (set l at b) at (at + 1)
stored_1 l at b h = stored l at (b ∷ []) h

pub same_written : {xs ys l m : List ℕ} {i j : ℕ} → xs ≡ ys → Written xs l m i j → Written ys l m i j
same_written {l = l} {m = m} {i = i} {j = j} e w = subst (λ (bs : List ℕ). Written bs l m i j) e w

-- what a write to a part leaves
pub part_written : {bs ys : List ℕ} (l : List ℕ) (at next : ℕ) → ys ≡ bs → next ≡ at + length bs → Written bs l (put_mid at (next - at) l ys) at next
unfolding splice
part_written {bs} {ys} l at next e n =
    let k : next - at ≡ length bs = omega arith in
    record { wrote = rw (e, k) (ap (λ (t : List ℕ). take at l ++ (bs ++ t)) (drop-drop (length bs) at l)); past = n }

-- the library's bytes of a number
pub low_bytes : (x : ℕ) → to_le_bytes w64 x ≡ bytes_of 8 x
unfolding bytes_of
low_bytes x = simp div-div-eq-div-mul refl
