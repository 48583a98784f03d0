-- The kinds of properties.
use Prim.Native.Nat.{ℕ, zero, suc, ◌≤◌, ◌<◌}
use native.Mathlib.Omega.{arith}
use native.Mathlib.Decide.{ℕ_discrete}
use mathlib.Core.Path.{◌≡◌, refl, ap}
use mathlib.Core.Bool.{Bool, true, false, false≢true}
use Rattle.ir.specs.Kinds.{role_of}
use Rattle.ir.specs.declared.Role.{Role}
use Rattle.ir.specs.declared.Role.TheVariants.{Unlisted, Node, Wire, Property, Row, Annihilator}

abbrev is_property : Role → Bool
is_property Unlisted = false
is_property Node = false
is_property Wire = false
is_property Property = true
is_property Row = false
is_property Annihilator = false

-- what holds of 03 to 09 and of 0C holds of each kind of property
module _ (P : ℕ → Type 0) (p3 : P 3) (p4 : P 4) (p5 : P 5) (p6 : P 6) (p7 : P 7) (p8 : P 8) (p9 : P 9) (p12 : P 12) where
  pub by_kind : (k : ℕ) → role_of k ≡ Property → P k
  by_kind zero e = absurd (false≢true (ap is_property e))
  by_kind (suc zero) e = absurd (false≢true (ap is_property e))
  by_kind (suc (suc zero)) e = absurd (false≢true (ap is_property e))
  by_kind (suc (suc (suc zero))) e = p3
  by_kind (suc (suc (suc (suc zero)))) e = p4
  by_kind (suc (suc (suc (suc (suc zero))))) e = p5
  by_kind (suc (suc (suc (suc (suc (suc zero)))))) e = p6
  by_kind (suc (suc (suc (suc (suc (suc (suc zero))))))) e = p7
  by_kind (suc (suc (suc (suc (suc (suc (suc (suc zero)))))))) e = p8
  by_kind (suc (suc (suc (suc (suc (suc (suc (suc (suc zero))))))))) e = p9
  by_kind (suc (suc (suc (suc (suc (suc (suc (suc (suc (suc zero)))))))))) e = absurd (false≢true (ap is_property e))
  by_kind (suc (suc (suc (suc (suc (suc (suc (suc (suc (suc (suc zero))))))))))) e = absurd (false≢true (ap is_property e))
  by_kind (suc (suc (suc (suc (suc (suc (suc (suc (suc (suc (suc (suc zero)))))))))))) e = p12
  by_kind (suc (suc (suc (suc (suc (suc (suc (suc (suc (suc (suc (suc (suc k))))))))))))) e = absurd (false≢true (ap is_property e))

pub record PropertyKind (k : ℕ) : Type 0 where
  pub least : 3 ≤ k
  pub most : (k ≡ 12 → ⊥) → k ≤ 9

pub property_kind : (k : ℕ) → role_of k ≡ Property → PropertyKind k
property_kind = by_kind PropertyKind (listed _ (omega arith, omega arith)) (listed _ (omega arith, omega arith)) (listed _ (omega arith, omega arith)) (listed _ (omega arith, omega arith)) (listed _ (omega arith, omega arith)) (listed _ (omega arith, omega arith)) (listed _ (omega arith, omega arith)) (record { least = omega arith; most = λ n. absurd (n refl) })
  where
    listed : (k : ℕ) → (3 ≤ k) × (k ≤ 9) → PropertyKind k
    listed k h = record { least = h.0; most = λ n. h.1 }

pub is_text_lem : (k : ℕ) → role_of k ≡ Property → 9 < k → k ≡ 12
is_text_lem k e n = pick (ℕ_discrete k 12)
  where
    pick : Dec (k ≡ 12) → k ≡ 12
    pick (yes h) = h
    pick (no h) = absurd (omega (arith, (property_kind k e).most h))
