-- Records written one after the other, one for each number below n.
use Prim.Native.Nat.{ℕ, suc, ◌+◌, ◌*◌, ◌≤◌, ◌<◌}
use native.Mathlib.Omega.{arith}
use native.Mathlib.Decide.{le_ind}
use native.Mathlib.Numerals.{add-one}
use mathlib.Core.Path.{◌≡◌, refl, ap}
use mathlib.Core.List.{List, []}
use lib.ListN.{length}
use Rattle.encoding.specs.Numbers.{Written}
use Rattle.encoding.proofs.Splices.{written_length, written_more, stored}
use Rattle.model.specs.Maps.{up_to}
use Rattle.model.specs.Answer.{each}
use Rattle.model.proofs.Each.{each_up, each_size}

up_less : (f : ℕ → List ℕ) (i n : ℕ) → i ≤ n → length (each f (up_to i)) ≤ length (each f (up_to n))
up_less f i n h = le_ind (λ m. length (each f (up_to i)) ≤ length (each f (up_to m))) (omega arith) (λ m l ih. omega (arith, ih, each_size f m)) n h

-- the records of the first i are written, of n that fit
pub record Filling (f : ℕ → List ℕ) (n : ℕ) (l m : List ℕ) (from at i : ℕ) : Type 0 where
  pub within : i ≤ n
  pub room : from + length (each f (up_to n)) ≤ length l
  pub wrote : Written (each f (up_to i)) l m from at

pub written_none : (l : List ℕ) (at : ℕ) → at ≤ length l → Written [] l l at at
written_none l at h = let w = stored l at [] (omega arith) in record { wrote = w.wrote; past = omega arith }

pub fill_start : (f : ℕ → List ℕ) (n : ℕ) (l : List ℕ) (at : ℕ) → at + length (each f (up_to n)) ≤ length l → Filling f n l l at at 0
unfolding up_to each
fill_start f n l at h = record { within = omega arith; room = h; wrote = written_none l at (omega arith) }

module _ {f : ℕ → List ℕ} {n : ℕ} {l m : List ℕ} {from at i : ℕ} (s : Filling f n l m from at i) where
  pub fill_long : length m ≡ length l
  fill_long = written_length s.wrote (omega (arith, s.room, up_less f i n s.within))

  pub fill_room : i < n → at + length (f i) ≤ length m
  fill_room h = omega (arith, fill_long, s.room, s.wrote.past, up_less f (suc i) n h, each_size f i)

  pub fill_next : i < n → {o : List ℕ} {a : ℕ} → Written (f i) m o at a → Filling f n l o from a (i + 1)
  fill_next h p =
      record { within = omega arith; room = s.room; wrote = rw (add-one, each_up f i) (written_more s.wrote (omega (arith, s.room, up_less f (suc i) n h, ap length (each_up f i))) p) }

  pub fill_end : n ≤ i → Written (each f (up_to n)) l m from at
  fill_end h = let e : n ≡ i = omega (arith, s.within) in rw e s.wrote

-- ---- the sizes of two runs of records, one for each number below i

pub sizes_start : (f h : ℕ → List ℕ) → 0 ≡ length (each f (up_to 0)) + length (each h (up_to 0))
unfolding up_to each
sizes_start f h = refl

pub sizes_next : (f h : ℕ → List ℕ) (i sum a b : ℕ) → sum ≡ length (each f (up_to i)) + length (each h (up_to i)) → a ≡ length (f i) → b ≡ length (h i) → sum + (a + b) ≡ length (each f (up_to (i + 1))) + length (each h (up_to (i + 1)))
sizes_next f h i sum a b e p q = rw (add-one i) (omega (arith, each_size f i, each_size h i))

pub sizes_none : (f h : ℕ → List ℕ) → length (each f (up_to 0)) + length (each h (up_to 0)) ≤ 0
unfolding up_to each
sizes_none f h = omega arith

-- the two records of number i are at most b longer than 23, and those below it in all at most `more` longer than 23 each
pub sizes_more : (f h : ℕ → List ℕ) (i more b : ℕ) → length (each f (up_to i)) + length (each h (up_to i)) ≤ 23 * i + more → length (f i) + length (h i) ≤ 23 + b → length (each f (up_to (i + 1))) + length (each h (up_to (i + 1))) ≤ 23 * (i + 1) + (more + b)
sizes_more f h i more b p q = rw (add-one i) (omega (arith, each_size f i, each_size h i))
