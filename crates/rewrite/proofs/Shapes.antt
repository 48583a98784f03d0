-- What is planned of a node, by its action.
use Rattle.std.specs.Prelude.{None, Some}
use Prim.Native.Nat.{ℕ, zero, suc, ◌+◌, ◌≤◌, ◌<◌}
use native.Mathlib.Omega.{arith}
use native.Mathlib.Decide.{dec_lt, ℕ_discrete}
use mathlib.Core.Path.{◌≡◌, refl, sym, ◌∙◌}
use mathlib.Core.Bool.{Bool, true, false, ◌||◌, false≢true}
use mathlib.Core.Logic.{◌⊎◌, inl, inr, ⊎_elim}
use mathlib.Core.List.{List, [], ◌∷◌}
use lib.Dec.{eqb}
use lib.ListN.{length, get_or, take, length-take}
use borrow.Author.Tests.{eqb-true, eqb-false}
use Rattle.std.specs.List.{fold}
use Rattle.std.proofs.lemmas.List.{get_or-take}
use Rattle.ir.specs.declared.Wire.{Wire}
use Rattle.value.specs.declared.Value.{Value}
use Rattle.records.specs.Access.{no_wire}
use Rattle.model.specs.Offer.{PlanAction, BecomeLiteral, ShortCircuit, Truncate}
use Rattle.model.proofs.Lists.{or_false_left, or_false_right}
use Rattle.model.proofs.Maps.{none_some}
use Rattle.rewrite.specs.Rewritable.{HasAction}
use Rattle.state.specs.Planned.{shape_at, shape_of, targets_in, Shaped}

-- the four actions
pub data Action (a : ℕ) : Type 0 where
  kept : a ≡ 0 → Action a
  literal : a ≡ 1 → Action a
  select : a ≡ 2 → Action a
  branch : a ≡ 3 → Action a

pub action : (a : ℕ) → a ≤ 3 → Action a
action a h = go (dec_lt a 1) (dec_lt a 2) (dec_lt a 3)
  where
    go : Dec (a < 1) → Dec (a < 2) → Dec (a < 3) → Action a
    go (yes x) y z = kept (omega arith)
    go (no x) (yes y) z = literal (omega arith)
    go (no x) (no y) (yes z) = select (omega arith)
    go (no x) (no y) (no z) = branch (omega arith)

module _ (ws : List Wire) (actions details : List ℕ) where
  pub shape_kept : (m : ℕ) → get_or actions m 0 ≡ 0 → shape_of ws actions details m ≡ None
  unfolding shape_of shape_at
  shape_kept m e = rw e

  pub shape_literal : (m : ℕ) → get_or actions m 0 ≡ 1 → shape_of ws actions details m ≡ Some (BecomeLiteral (Value.Bool true))
  unfolding shape_of shape_at
  shape_literal m e = rw e

  pub shape_select : (m : ℕ) → get_or actions m 0 ≡ 2 → shape_of ws actions details m ≡ Some (ShortCircuit (get_or ws (get_or details m 0) no_wire).source)
  unfolding shape_of shape_at
  shape_select m e = rw e

  pub shape_branch : (m : ℕ) → get_or actions m 0 ≡ 3 → shape_of ws actions details m ≡ Some (Truncate (targets_in ws m (get_or details m 0)))
  unfolding shape_of shape_at
  shape_branch m e = rw e

  module _ (n : ℕ) (s : Shaped ws n actions details) where
    pub planned_low : (m : ℕ) → (get_or actions m 0 ≡ 0 → ⊥) → m < n
    planned_low m h = go (dec_lt m n)
      where
        go : Dec (m < n) → m < n
        go (yes l) = l
        go (no l) = absurd (h (s.below m (omega arith)))

    pub small : (m : ℕ) (q : PlanAction) → shape_of ws actions details m ≡ Some q → m < n
    small m q e = planned_low m (λ z. none_some q (sym (shape_kept m z) ∙ e))

-- ---- whether one of the first nodes has an action

-- no action of the first nodes is a, and the next is none
pub none_more : (a : ℕ) (actions : List ℕ) (found : Bool) (node : ℕ) → (found ≡ false → (m : ℕ) → m < node → get_or actions m 0 ≡ a → ⊥) → (found || eqb (get_or actions node 0) a) ≡ false → (m : ℕ) → m < node + 1 → get_or actions m 0 ≡ a → ⊥
none_more a actions found node inv e m l h = pick (ℕ_discrete m node)
  where
    pick : Dec (m ≡ node) → ⊥
    pick (yes q) = eqb-false (get_or actions node 0) a (or_false_right found _ e) (rw q at h)
    pick (no q) = inv (or_false_left found _ e) m (omega arith) h

abbrev pub either : ℕ → Bool → ℕ → Bool
either a found x = found || eqb x a

-- none of a list's numbers is a, or one is
none_in : (a : ℕ) (b : Bool) (xs : List ℕ) → fold (either a) b xs ≡ false → (b ≡ false) × ((m : ℕ) → m < length xs → get_or xs m 0 ≡ a → ⊥)
none_in a b [] e = (e, λ m l. absurd (omega arith))
none_in a b (x ∷ xs) e =
    let h = none_in a (b || eqb x a) xs e in
    (or_false_left b _ h.0, go h)
  where
    go : ((b || eqb x a) ≡ false) × ((m : ℕ) → m < length xs → get_or xs m 0 ≡ a → ⊥) → (m : ℕ) → m < length (x ∷ xs) → get_or (x ∷ xs) m 0 ≡ a → ⊥
    go h zero l q = eqb-false x a (or_false_right b _ h.0) q
    go h (suc m) l q = h.1 m (omega arith) q

one_in : (a : ℕ) (b : Bool) (xs : List ℕ) → fold (either a) b xs ≡ true → (b ≡ true) ⊎ HasAction xs (length xs) a
one_in a b [] e = inl e
one_in a b (x ∷ xs) e = go b (eqb x a) refl (one_in a (b || eqb x a) xs e)
  where
    go : (b y : Bool) → eqb x a ≡ y → ((b || y) ≡ true) ⊎ HasAction xs (length xs) a → (b ≡ true) ⊎ HasAction (x ∷ xs) (length (x ∷ xs)) a
    go true y q h = inl refl
    go false true q h = inr record { node = 0; within = omega arith; has = eqb-true x a q }
    go false false q (inl h) = absurd (false≢true h)
    go false false q (inr h) = inr record { node = suc h.node; within = omega (arith, h.within); has = h.has }

module _ (actions : List ℕ) (n a : ℕ) (few : n ≤ length actions) (found : Bool) (e : found ≡ fold (either a) false (take n actions)) where
  pub none_has : found ≡ false → (m : ℕ) → m < n → get_or actions m 0 ≡ a → ⊥
  none_has f m l q = (none_in a false (take n actions) (sym e ∙ f)).1 m (omega (arith, length-take n actions)) (get_or-take n actions m 0 l ∙ q)

  pub some_has : found ≡ true → HasAction actions n a
  some_has f = ⊎_elim (λ z. absurd (false≢true z)) (λ h. record { node = h.node; within = omega (arith, h.within, length-take n actions); has = sym (get_or-take n actions h.node 0 (omega (arith, h.within, length-take n actions))) ∙ h.has }) (one_in a false (take n actions) (sym e ∙ f))
