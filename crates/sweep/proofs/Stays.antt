-- The wires that stay: counted, and written one after the other.
use mathlib.Core.Path.{◌≡◌, refl, sym, ap, ◌∙◌}
use mathlib.Core.Bool.{Bool, true, false, cond}
use mathlib.Core.List.{List, [], ◌∷◌, ◌++◌, append-nil}
use Prim.Native.Nat.{ℕ, zero, suc, ◌+◌, ◌*◌, ◌<◌, ◌≤◌}
use native.Mathlib.Omega.{arith}
use native.Mathlib.Numerals.{add-one}
use mir.Val.{bool_byte}
use lib.ListN.{length, get_or, take, length-append, length-take}
use lib.Seq.{take-suc, take-length}
use Rattle.ir.specs.declared.Wire.{Wire}
use Rattle.encoding.specs.Numbers.{Written}
use Rattle.encoding.specs.Wires.{wire_bytes}
use Rattle.records.specs.Access.{no_wire}
use Rattle.model.specs.Maps.{keep, up_to}
use Rattle.model.specs.Answer.{each}
use Rattle.model.proofs.Lists.{length_keep, count_length}
use Rattle.model.proofs.Each.{each_append, each_up, wires_size}
use Rattle.answer.proofs.Fill.{written_none}
use Rattle.sweep.specs.Queue.{stays_in, staying_at}

keep_append : (f : Wire → Bool) (xs ys : List Wire) → keep f (xs ++ ys) ≡ keep f xs ++ keep f ys
unfolding keep
keep_append f [] ys = refl
keep_append f (x ∷ xs) ys = go (f x) (keep_append f xs ys)
  where
    go : (b : Bool) → keep f (xs ++ ys) ≡ keep f xs ++ keep f ys → cond b (x ∷ keep f (xs ++ ys)) (keep f (xs ++ ys)) ≡ cond b (x ∷ keep f xs) (keep f xs) ++ keep f ys
    go true e = ap (λ (l : List Wire). x ∷ l) e
    go false e = e

module _ (marks : List Bool) (ws : List Wire) where
  pub staying_more : (i : ℕ) → i < length ws → keep (stays_in marks) (take (suc i) ws) ≡ keep (stays_in marks) (take i ws) ++ staying_at marks ws i
  unfolding keep staying_at
  staying_more i l = ap (keep (stays_in marks)) (take-suc ws i no_wire l) ∙ keep_append (stays_in marks) (take i ws) (get_or ws i no_wire ∷ [])

  -- counted so far
  pub counted_more : (i : ℕ) (b : Bool) → i < length ws → b ≡ stays_in marks (get_or ws i no_wire) → length (keep (stays_in marks) (take i ws)) + bool_byte b ≡ length (keep (stays_in marks) (take (i + 1) ws))
  unfolding staying_at
  counted_more i b l e = rw (add-one i) (omega (arith, ap length (staying_more i l), length-append (keep (stays_in marks) (take i ws)) (staying_at marks ws i), go b e))
    where
      go : (b : Bool) → b ≡ stays_in marks (get_or ws i no_wire) → bool_byte b ≡ length (staying_at marks ws i)
      go true e = rw (← e) refl
      go false e = rw (← e) refl

  pub counted_all : (i left : ℕ) → i ≡ length ws → left ≡ length (keep (stays_in marks) (take i ws)) → left ≡ length (keep (stays_in marks) ws)
  counted_all i left e f = f ∙ ap (λ (xs : List Wire). length (keep (stays_in marks) xs)) (ap (λ (k : ℕ). take k ws) e ∙ take-length ws)

  pub counted_few : (i : ℕ) → length (keep (stays_in marks) (take i ws)) ≤ i
  counted_few i = omega (arith, length_keep (stays_in marks) (take i ws), count_length (stays_in marks) (take i ws), length-take i ws)

  -- their bytes, by the numbers of all
  staying_bytes : (k : ℕ) → k ≤ length ws → each (λ i. each wire_bytes (staying_at marks ws i)) (up_to k) ≡ each wire_bytes (keep (stays_in marks) (take k ws))
  unfolding up_to each keep
  staying_bytes zero l = refl
  staying_bytes (suc k) l =
      each_up (λ i. each wire_bytes (staying_at marks ws i)) k
      ∙ (ap (λ (x : List ℕ). x ++ each wire_bytes (staying_at marks ws k)) (staying_bytes k (omega arith))
      ∙ (sym (each_append wire_bytes (keep (stays_in marks) (take k ws)) (staying_at marks ws k))
      ∙ ap (each wire_bytes) (sym (staying_more k (omega arith)))))

  pub staying_each : each (λ i. each wire_bytes (staying_at marks ws i)) (up_to (length ws)) ≡ each wire_bytes (keep (stays_in marks) ws)
  staying_each = staying_bytes (length ws) (omega arith) ∙ ap (λ (xs : List Wire). each wire_bytes (keep (stays_in marks) xs)) (take-length ws)

  pub staying_room : (at size : ℕ) → at + 7 * length (keep (stays_in marks) ws) ≤ size → at + length (each (λ i. each wire_bytes (staying_at marks ws i)) (up_to (length ws))) ≤ size
  staying_room at size h = rw staying_each (omega (arith, wires_size (keep (stays_in marks) ws)))

-- one wire
module _ (marks : List Bool) (ws : List Wire) (i : ℕ) where
  pub staying_yes : {b : Bool} → b ≡ stays_in marks (get_or ws i no_wire) → b ≡ true → staying_at marks ws i ≡ get_or ws i no_wire ∷ []
  unfolding staying_at
  staying_yes e t = rw (sym e ∙ t)

  pub staying_no : {b : Bool} → b ≡ stays_in marks (get_or ws i no_wire) → b ≡ false → staying_at marks ws i ≡ []
  unfolding staying_at
  staying_no e t = rw (sym e ∙ t)

pub written_one : {xs : List Wire} {w v : Wire} {l m : List ℕ} {at r : ℕ} → xs ≡ w ∷ [] → v ≡ w → Written (wire_bytes v) l m at r → Written (each wire_bytes xs) l m at r
unfolding each
written_one {w = w} e f h = rw (e, append-nil (wire_bytes w), ← f) h

pub written_nothing : {xs : List Wire} {l : List ℕ} {at : ℕ} → xs ≡ [] → at ≤ length l → Written (each wire_bytes xs) l l at at
unfolding each
written_nothing {l = l} {at = at} e h = rw e (written_none l at h)
