-- Sets of numbers as the bits of words.
use Prim.Native.Nat.{ℕ, ◌*◌, ◌/◌, ◌%◌, ◌^◌, ◌<◌}
use native.Mathlib.Omega.{arith}
use native.Mathlib.Decide.{ℕ_discrete}
use native.Mathlib.Nat.{div-eq_of_lt}
use mathlib.Core.Path.{◌≡◌, sym, ap, ◌∙◌}
use mathlib.Core.Bool.{Bool, true, false, ◌||◌, or-true, or-false}
use mathlib.Core.List.{List}
use mir.Syntax.{w64}
use lib.Bits.{bit_or}
use lib.Dec.{eqb}
use lib.ListN.{length, get_or, set, replicate, length-set, get_or-replicate}
use lib.Pow.{pow_pos}
use lib.Seq.{get_or-set_same, get_or-set_other}
use borrow.Author.Tests.{eq-eqb, ne_eqb}
use Rattle.std.proofs.lemmas.Nat.Bits.{bit_at_set_same, bit_at_set_other}
use Rattle.whole.specs.Bits.{bit}
use Rattle.table.specs.Table.{word_bits, has_number, Marks}

-- n's bit is set in its word
module _ (cells : List ℕ) (n : ℕ) (within : n / word_bits < length cells) where
  abbrev word : ℕ
  word = bit_or (get_or cells (n / word_bits) 0) (1 * 2 ^ (n % word_bits) % 2 ^ word_bits)

  abbrev after : List ℕ
  after = set cells (n / word_bits) word

  here : has_number after n ≡ true
  here =
      ap (λ (w : ℕ). eqb (bit w (n % word_bits)) 1) (get_or-set_same cells (n / word_bits) word 0 within)
      ∙ ap (λ (b : ℕ). eqb b 1) (bit_at_set_same w64 (get_or cells (n / word_bits) 0) (n % word_bits) (omega arith))

  there : (m : ℕ) → (n ≡ m → ⊥) → Dec (m / word_bits ≡ n / word_bits) → has_number after m ≡ has_number cells m
  there m ne (yes e) =
      ap (λ (j : ℕ). eqb (bit (get_or after j 0) (m % word_bits)) 1) e
      ∙ ap (λ (w : ℕ). eqb (bit w (m % word_bits)) 1) (get_or-set_same cells (n / word_bits) word 0 within)
      ∙ ap (λ (b : ℕ). eqb b 1) (bit_at_set_other w64 (get_or cells (n / word_bits) 0) (n % word_bits) (omega arith) (m % word_bits) (λ q. ne (omega (arith, q, e))))
      ∙ ap (λ (j : ℕ). eqb (bit (get_or cells j 0) (m % word_bits)) 1) (sym e)
  there m ne (no d) = ap (λ (w : ℕ). eqb (bit w (m % word_bits)) 1) (get_or-set_other cells (n / word_bits) (m / word_bits) word 0 d)

  pub marks : Marks cells n after
  marks = record { long = length-set cells (n / word_bits) word; numbers = λ m. at m (ℕ_discrete n m) }
    where
      at : (m : ℕ) → Dec (n ≡ m) → has_number after m ≡ (has_number cells m || eqb n m)
      at m (yes e) =
          ap (has_number after) (sym e) ∙ here ∙ sym (ap (λ (t : Bool). has_number cells m || t) (eq-eqb n m e) ∙ or-true (has_number cells m))
      at m (no ne) =
          there m ne (ℕ_discrete (m / word_bits) (n / word_bits)) ∙ sym (ap (λ (t : Bool). has_number cells m || t) (ne_eqb n m ne) ∙ or-false (has_number cells m))

pub none_set : (k n : ℕ) → n / word_bits < k → has_number (replicate k 0) n ≡ false
none_set k n h = ap (λ (w : ℕ). eqb (bit w (n % word_bits)) 1) (get_or-replicate k (n / word_bits) 0 0 h) ∙ ap (λ (z : ℕ). eqb (z % 2) 1) (div-eq_of_lt (pow_pos (n % word_bits)))
