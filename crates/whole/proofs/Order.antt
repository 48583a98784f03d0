-- Of two Ints that differ one is below the other, so Min and Max give the same whichever stands first.
use Prim.Native.Nat.{ℕ, ◌<◌}
use mathlib.Core.Path.{◌≡◌, refl, ap}
use mathlib.Core.Bool.{Bool, true, false, cond}
use native.Mathlib.Nat.{le_antisymm}
use native.Mathlib.Omega.{arith}
use borrow.Author.Tests.{le-ltb}
use lib.Dec.{ltb, ltb→lt, nltb→le}
use lib.IntN.{ℤ, pos, negsuc}
use lib.Signed.{lt_z}
use Rattle.whole.specs.Compare.{min_of, max_of}

asymmetric : (a b : ℕ) → ltb a b ≡ true → ltb b a ≡ false
asymmetric a b h = let l : a < b = ltb→lt a b (rw h tt) in le-ltb b a (omega arith)

total : (a b : ℕ) → ltb a b ≡ false → ltb b a ≡ false → a ≡ b
total a b f g = le_antisymm (nltb→le b a (rw g tt)) (nltb→le a b (rw f tt))

pub lt_z_asymmetric : (a b : ℤ) → lt_z a b ≡ true → lt_z b a ≡ false
lt_z_asymmetric (pos a) (pos b) h = asymmetric a b h
lt_z_asymmetric (pos a) (negsuc b) h = cc
lt_z_asymmetric (negsuc a) (pos b) h = refl
lt_z_asymmetric (negsuc a) (negsuc b) h = asymmetric b a h

pub lt_z_total : (a b : ℤ) → lt_z a b ≡ false → lt_z b a ≡ false → a ≡ b
lt_z_total (pos a) (pos b) f g = ap pos (total a b f g)
lt_z_total (pos a) (negsuc b) f g = cc
lt_z_total (negsuc a) (pos b) f g = cc
lt_z_total (negsuc a) (negsuc b) f g = ap negsuc (total a b g f)

chosen : {a b : ℤ} (p q : Bool) → (p ≡ true → q ≡ false) → (p ≡ false → q ≡ false → a ≡ b) → cond p b a ≡ cond q a b
chosen true q h k = rw (h refl)
chosen false true h k = refl
chosen false false h k = k refl refl

pub min_of_swapped : (a b : ℤ) → min_of a b ≡ min_of b a
unfolding min_of
min_of_swapped a b = chosen (lt_z b a) (lt_z a b) (lt_z_asymmetric b a) (λ f g. lt_z_total a b g f)

pub max_of_swapped : (a b : ℤ) → max_of a b ≡ max_of b a
unfolding max_of
max_of_swapped a b = chosen (lt_z a b) (lt_z b a) (lt_z_asymmetric a b) (lt_z_total a b)
